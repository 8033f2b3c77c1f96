use Rattle.std.proofs.Common.{List, ℕ, sym, subst}
use Rattle.std.proofs.lemmas.List.{take_rest}
use Rattle.asl_texts.proofs.WriteSteps.{LeavesRest, after_write}
use Rattle.asl_texts.proofs.sinks.write_all.Goals as goal

pub writes-preserved : goal.writes-preserved
writes-preserved g c =
    let old = g.W.Sink.contents c.args.sink.now in
    let now = g.W.Sink.contents c.writes.sink in
    let new = g.W.Sink.contents c.write.new.self in
    let bytes = c.args.bytes.now in
    let rest = c.writes.rest.now in
    let n = c.in_ok-count.count in
    let P : List ℕ → Type 0 = λ v. LeavesRest old new bytes v in
    record {
      gone = subst P (sym (take_rest rest n)) (after_write old now new bytes rest n c.writes.invariant.gone c.in_ok-count.ensures.appended);
      lasting = λ h. c.in_ok-count.ensures.lasting (c.writes.invariant.lasting h);
    }
