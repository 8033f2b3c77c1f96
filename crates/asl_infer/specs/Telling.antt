-- What is told of the rules that are broken along a walk. No public clause cites this module.
use Rattle.std.specs.Prelude.{◌≡◌, List, Option, option_map, slice_get}
use Rattle.asl_model.specs.Finding as finding
use Rattle.asl_model.specs.Shape.{Shape}
use Rattle.asl_draft_laws.specs.Drafts.{own_breaches}
use Rattle.asl_tree.specs.View.{view as tree_view}
use Rattle.asl_state_edges.specs.View.{finding_fault_view, steps_of}
use Rattle.asl_state_edges.specs.declared.found.Step.{Step}
use Rattle.asl_infer.specs.declared.telling.Breach.{Breach}

-- a broken rule
abbrev pub breach_view : Breach → finding.Breach
breach_view b = record {
  field = b.field.now;
  fault = finding_fault_view b.fault;
  example = option_map tree_view b.example;
}

-- the first rule that is broken along the steps whatever is certified elsewhere, where the task takes the shape
pub record IsFirstBroken (table : List Shape) (takes : Shape) (steps : List Step) (breach : Option Breach) : Type 0 where
  pub first : slice_get (own_breaches takes (steps_of table steps)) 0 ≡ option_map breach_view breach
