-- What is written of declared shapes and certificates, part by part. No public clause cites this module.
use Rattle.std.specs.Prelude.{ℕ, List, Option, Some, None, codes}
use Rattle.std.specs.List.{AllByRecursion}
use Rattle.asl_model.specs.Tree.{Tree, Array, Trees, NoTrees, AndTree, Fields}
use Rattle.asl_model.specs.Shape.{Shape}
use Rattle.asl_model.specs.ShapeSpelling.{SpellsShape}
use Rattle.asl_model.specs.Certificate.{TaskShapes, StateShapes}
use Rattle.asl_model.specs.RecordShapes.{HoldsForTask, HoldsForState}
use Rattle.asl_model.specs.Written.{written_shape}
use Rattle.asl_shape.specs.Adding.{with_field}

-- the tree that is written for the shape spells it
abbrev pub IsSpelled : Shape → Type 0
IsSpelled s = SpellsShape (written_shape s) s

-- so for each of several shapes, for those of each task, and for those of each state
pub record AreSpelled (shapes : List Shape) : Type 0 where
  pub spelled : AllByRecursion IsSpelled shapes

pub record TasksAreSpelled (tasks : List (List ℕ × TaskShapes)) : Type 0 where
  pub spelled : AllByRecursion (λ (entry : List ℕ × TaskShapes). HoldsForTask IsSpelled entry.1) tasks

pub record StatesAreSpelled (states : List (List ℕ × StateShapes)) : Type 0 where
  pub spelled : AllByRecursion (λ (entry : List ℕ × StateShapes). HoldsForState IsSpelled entry.1) states

-- the fields with that list where it has elements
abbrev pub with_list : List ℕ → Trees → Fields → Fields
with_list n NoTrees fs = fs
with_list n (AndTree t ts) fs = with_field n (Array (AndTree t ts)) fs

-- with `item` where there is one
abbrev pub with_item : (Shape → Tree) → Option Shape → Fields → Fields
with_item written None fs = fs
with_item written (Some s) fs = with_field (codes "item") (written s) fs
