-- Shapes that are cut to so many levels.
use Rattle.std.specs.Prelude.{◌≤◌, ℕ, suc, List}
use Rattle.std.specs.List.{AllByRecursion}
use Rattle.asl_model.specs.Certificate.{StateShapes}
use Rattle.asl_model.specs.RecordShapes.{HoldsForState}
use Rattle.asl_model.specs.Shape.{Shape}
use Rattle.asl_model.specs.ShapeOrder.{depth}
pub use Rattle.asl_draft_laws.specs.Cutting.{cut, cut_to, cut_arrays_to, cut_objects_to, cut_elements_to, cut_fields_to, deepest}

-- the shape has at most so many levels, and one more of Any for what is cut
abbrev pub IsShallow : Shape → Type 0
IsShallow s = depth s ≤ suc deepest

-- so has every shape in those entries of a certificate
pub record AreShallow (entries : List (List ℕ × StateShapes)) : Type 0 where
  pub shallow : AllByRecursion (λ (entry : List ℕ × StateShapes). HoldsForState IsShallow entry.1) entries
