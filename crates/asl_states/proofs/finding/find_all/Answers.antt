use Rattle.std.proofs.Common.{◌<◌, length, arith, map, string_bytes, ◌∙◌}
use Rattle.asl_states.specs.Machine.{state_view}
use Rattle.asl_states.specs.Numbered.{AreNumbered}
use Rattle.asl_states.proofs.Rewritten.{same_seen, one_more_holds}
use Rattle.asl_states.proofs.finding.find_all.Goals as goal

pub loop-state-preserved : goal.loop-state-preserved
loop-state-preserved c =
    let l = c.loop-state in
    let within : l.state-index < length l.state-items = omega arith in
    let new = c.find_targets.new.state in
    record {
      same = same_seen state_view l.state-items l.state-index new c.state-item.result within (c.find_targets.ensures.same) ∙ l.invariant.same;
      numbered = one_more_holds (AreNumbered (map string_bytes c.args.names.now.keys)) l.state-items l.state-index new within c.find_targets.ensures.numbered l.invariant.numbered;
    }
