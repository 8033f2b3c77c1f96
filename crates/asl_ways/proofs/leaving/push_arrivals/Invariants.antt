use Rattle.std.proofs.Common.{List, length}
use Rattle.asl_state_edges.specs.View.{AreStepsBelow}
use Rattle.asl_model.specs.Shape.{Shape}
use Rattle.asl_machine_table.specs.Table.{table_view}
use Rattle.asl_ways.proofs.Along.{GoesAlong}
use Rattle.asl_ways.proofs.Passing.{IsPassedWithin}
use Rattle.asl_ways.proofs.leaving.push_arrivals.Given as goal

abbrev pub invariant-loop-step : goal.invariant-loop-step
invariant-loop-step l = record {
  within : IsPassedWithin l.step-index l.passed;
  along : (table : List Shape) → AreStepsBelow (length table) l.steps → GoesAlong table (table_view l.machine) l.number l.steps l.initial.arrivals.items l.passed l.step-index l.arrivals.items;
}
