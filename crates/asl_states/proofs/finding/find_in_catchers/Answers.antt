use Rattle.std.proofs.Common.{◌<◌, length, arith, map, string_bytes, ap, ◌∙◌, slice_index_or}
use Rattle.asl_states.specs.Machine.{catcher_view}
use Rattle.asl_states.specs.Numbered.{IsNumbered}
use Rattle.asl_states.proofs.Rewritten.{same_seen, one_more_holds}
use Rattle.asl_states.proofs.finding.find_in_catchers.Goals as goal

pub loop-catcher-preserved : goal.loop-catcher-preserved
loop-catcher-preserved c =
    let l = c.loop-catcher in
    let within : l.catcher-index < length l.catcher-items = omega arith in
    let new = (record (slice_index_or l.catcher-items l.catcher-index c.catcher-item.result) { next = c.find.new.self }) in
    record {
      same = same_seen catcher_view l.catcher-items l.catcher-index new c.catcher-item.result within (ap (λ n. catcher_view (record (slice_index_or l.catcher-items l.catcher-index c.catcher-item.result) { next = record { name = n; number = 0 } })) c.find.ensures.name) ∙ l.invariant.same;
      numbered = one_more_holds (λ x. IsNumbered (map string_bytes c.args.names.now.keys) x.next) l.catcher-items l.catcher-index new within c.find.ensures.number l.invariant.numbered;
    }
