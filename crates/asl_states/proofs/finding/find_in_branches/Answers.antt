use Rattle.std.proofs.Common.{◌≡◌, ◌<◌, length, arith, map, string_bytes, ap, ◌∙◌}
use Rattle.asl_states.specs.Machine.{target_name}
use Rattle.asl_states.specs.Numbered.{IsNumbered}
use Rattle.asl_states.proofs.Branches.{same_named}
use Rattle.asl_states.proofs.Rewritten.{same_seen, one_more_holds, all_rewritten}
use Rattle.asl_states.proofs.finding.find_in_branches.Goals as goal

pub loop-start-preserved : goal.loop-start-preserved
loop-start-preserved c =
    let l = c.loop-start in
    let within : l.start-index < length l.start-items = omega arith in
    let new = c.find.new.self in
    record {
      same = same_seen target_name l.start-items l.start-index new c.start-item.result within (ap string_bytes c.find.ensures.name) ∙ l.invariant.same;
      numbered = one_more_holds (IsNumbered (map string_bytes c.args.names.now.keys)) l.start-items l.start-index new within c.find.ensures.number l.invariant.numbered;
    }

pub returns-clause-same : goal.returns-clause-same
returns-clause-same c =
    let l = c.loop-start in
    let many : c.args.branches.now.len ≡ length l.start-items = omega arith in
    let old : length c.args.branches.now.items ≡ length l.start-items = omega arith in
    same_named _ c.args.branches.now.items (ap (map target_name) (all_rewritten l.start-items c.args.branches.now.items _ many old) ∙ l.invariant.same)
