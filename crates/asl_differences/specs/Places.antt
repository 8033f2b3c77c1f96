-- Places in trees, and where two trees differ.
use Rattle.std.specs.Borrow.{Bor}
use Rattle.std.specs.Prelude.{◌≡◌, ◌≢◌, IsTrue, List, [], ◌∷◌, map, reverse, Option, Some, None, option_map}
use Rattle.asl_model.specs.Names.{FieldName}
use Rattle.asl_model.specs.Tree.{comes_before}
use Rattle.asl_model.specs.Path as model
use Rattle.asl_model.specs.Path.{Segment, child, named_by}
use Rattle.asl_model.specs.Tree as trees
use Rattle.asl_tree.specs.View.{view}
use Rattle.asl_tree.specs.declared.Tree.{Tree}
use Rattle.asl_differences.specs.declared.misfits.Misfit.{Misfit}
use Rattle.asl_differences.specs.declared.misfits.Part.{Part}
use Rattle.asl_differences.specs.declared.paths.Step.{Step}
use Rattle.asl_differences.specs.declared.paths.Step.TheVariants.{Name, Index}
use Rattle.asl_differences.specs.declared.trees.Difference.{Difference}

-- the segment that a step is
abbrev pub segment_of : Step → Segment
segment_of (Name name) = model.Name name.now
segment_of (Index index) = model.Index index

-- the path of steps that stand from the innermost on
abbrev pub path_of : List Step → List Segment
path_of way = map segment_of (reverse way)

-- the tree that is told; nothing where none is
abbrev pub told : Option (Bor Tree) → Option trees.Tree
told tree = option_map (λ t. view t.now) tree

-- The path leads in the one tree to what is told as expected (to nothing where nothing is), in the other to what is told
-- as found, and these differ.
pub record IsDifference (a b : trees.Tree) (difference : Difference) : Type 0 where
  pub expected : named_by (path_of difference.way.items) a ≡ told difference.expected
  pub found : named_by (path_of difference.way.items) b ≡ told difference.found
  pub differ : told difference.expected ≢ told difference.found

-- The path leads in the tree to what is told as found; to nothing where nothing is.
pub record IsPlace (t : trees.Tree) (misfit : Misfit) : Type 0 where
  pub found : named_by (path_of misfit.way.items) t ≡ told misfit.found

-- ---- for private clauses

-- that path is told, with that on both sides
pub record TellsOf (segments : List Segment) (one other : Option trees.Tree) (difference : Difference) : Type 0 where
  pub path : path_of difference.way.items ≡ segments
  pub expected : told difference.expected ≡ one
  pub found : told difference.found ≡ other

-- Of two fields the one whose name comes first is told, as one that stands on that side alone.
pub data IsAlone (n m : FieldName) (expected found : trees.Tree) (difference : Difference) : Type 0 where
  expected_alone : IsTrue (comes_before n m) → TellsOf (model.Name n ∷ []) (Some expected) None difference → IsAlone n m expected found difference
  found_alone : IsTrue (comes_before m n) → TellsOf (model.Name m ∷ []) None (Some found) difference → IsAlone n m expected found difference

-- The step leads in the tree to what is told as found.
pub record IsPart (t : trees.Tree) (part : Part) : Type 0 where
  pub found : child (segment_of part.step) t ≡ told part.found
