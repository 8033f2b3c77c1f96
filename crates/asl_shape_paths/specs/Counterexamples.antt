-- What is said of trees in which a path names nothing, and of the examples that they are made of.
use Rattle.std.specs.Prelude.{◌≡◌, IsTrue, List, [], ◌∷◌, Option, Some, Result, Err, option_and_then}
use Rattle.asl_model.specs.Examples.{example}
use Rattle.asl_model.specs.Missing.{counterexample, missing_at, IsMissing}
use Rattle.asl_model.specs.Path.{Segment, child}
use Rattle.asl_model.specs.Placing.{placed}
use Rattle.asl_model.specs.Shape.{Shape, inhabited}
use Rattle.asl_model.specs.ShapeFlow.{DoubtfulPath}
use Rattle.asl_model.specs.Tree.{Tree}

-- the tree is the one that shows the path to be doubtful: it has the shape, and the path names nothing in it
pub record IsShownBy (doubtful : DoubtfulPath) (t : Tree) : Type 0 where
  pub told : counterexample doubtful ≡ Some t
  pub missing : IsMissing doubtful.path doubtful.shape t

-- the answer is a doubtful path, and the tree shows it to be one
pub record ShowsDoubt (answer : Result Shape DoubtfulPath) (t : Tree) : Type 0 where
  pub doubtful : DoubtfulPath
  pub told : answer ≡ Err doubtful
  pub shown : IsShownBy doubtful t

-- the tree is the example of the shape, which some tree has
pub record IsExample (s : Shape) (t : Tree) : Type 0 where
  pub some : IsTrue (inhabited s)
  pub same : t ≡ example s

-- such an example stands in the tree at the segment
pub record HasExample (segment : Segment) (s : Shape) (t : Tree) : Type 0 where
  pub some : IsTrue (inhabited s)
  pub there : child segment t ≡ Some (example s)

-- the tree, with one of the shape in which the path names nothing placed at the segment
abbrev pub missing_under : Segment → List Segment → Shape → Tree → Option Tree
missing_under segment path s t = option_and_then (λ u. placed (segment ∷ []) u t) (missing_at path s)
