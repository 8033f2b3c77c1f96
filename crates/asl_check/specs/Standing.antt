-- What stands at the destinations of a state's edges, by number, and what fails there.
use Rattle.std.specs.Prelude.{◌≢◌, ◌<◌, List, length, option_map, IfSome, ⊤}
use Rattle.std.specs.List.{AllByRecursion}
use Rattle.asl_model.specs.Edges as model
use Rattle.asl_model.specs.Finding.{PathMayBeMissing}
use Rattle.asl_model.specs.Shape.{Shape}
use Rattle.asl_numbered.specs.Expansion.{shape_at}
use Rattle.asl_machine_table.specs.Table.{table_view}
use Rattle.asl_state_edges.specs.View.{finding_fault_view}
use Rattle.asl_state_edges.specs.declared.found.Edge.{Edge}
use Rattle.asl_state_edges.specs.declared.found.Step.{Step}
use Rattle.asl_state_edges.specs.declared.found.Step.TheVariants.{Flows, Breaks}
use Rattle.asl_check.specs.Numbers.{IsWithin, certificate_of}
use Rattle.asl_check.specs.Rules.{inputs_in}
use Rattle.asl_check.specs.declared.standing.Standing.{Standing}

-- with the shapes of a table
abbrev pub standing_view : List Shape → Standing → model.DestinationShapes
standing_view table s = record {
  inputs = inputs_in (table_view s.checker.now.machine.now) (certificate_of table s.checker.now);
  output = shape_at table s.output;
  end = option_map (shape_at table) s.end;
  takes = shape_at table s.takes;
}

-- the numbers are those of the table
pub record AreStanding (table : List Shape) (s : Standing) : Type 0 where
  pub checker : IsWithin table s.checker.now
  pub output : s.output < length table
  pub end : IfSome s.end (λ n. n < length table)
  pub takes : s.takes < length table

-- what is wrong where what flows at an edge doesn't fit isn't that a path may name nothing
abbrev pub IsEdgeApart : Edge → Type 0
IsEdgeApart e = finding_fault_view e.fault ≢ PathMayBeMissing

-- so at a step, if it is an edge
abbrev pub IsStepApart : Step → Type 0
IsStepApart (Flows e) = IsEdgeApart e
IsStepApart (Breaks b) = ⊤

-- so at each step
abbrev pub AreStepsApart : List Step → Type 0
AreStepsApart steps = AllByRecursion IsStepApart steps
