use Rattle.std.proofs.Common.{◌≡◌, drop}
use Rattle.asl_check.specs.Standing.{standing_view}
use Rattle.asl_check.proofs.Passes.{AreLeft}
use Rattle.asl_check.proofs.StepsListed.{found_along}
use Rattle.asl_check.proofs.standing.Standing.list_steps.Given as goal

-- those of the steps left are still to be listed, and no shape has been added
abbrev pub invariant-loop-step : goal.invariant-loop-step
invariant-loop-step l =
    let table = l.fn.shapes in
    let found = found_along table (standing_view table l.self) l.name in
    record {
      unchanged : l.shapes ≡ l.fn.shapes;
      left : AreLeft table l.fn.rules.items l.rules.items (found l.steps) (found (drop l.step-index l.steps));
    }
