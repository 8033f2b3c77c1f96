-- What is said of a refusal to narrow a shape.
use Rattle.std.specs.Prelude.{Result}
use Rattle.asl_model.specs.Shape.{Shape}
use Rattle.asl_model.specs.ShapeFlow.{DoubtfulPath}
use Rattle.asl_tree.specs.View.{view}
use Rattle.asl_shape_paths.specs.Counterexamples.{ShowsDoubt}
use Rattle.asl_shape_rules.specs.declared.rules.RuleShapeRefusal.{RuleShapeRefusal}
use Rattle.asl_shape_rules.specs.declared.rules.RuleShapeRefusal.TheVariants.{MayBeMissing, OutOfMemory}

-- the tree that is told shows the path to be doubtful that stops the narrowing
abbrev pub IsRefused : Result Shape DoubtfulPath → RuleShapeRefusal → Type 0
IsRefused narrowed (MayBeMissing tree) = ShowsDoubt narrowed (view tree)
IsRefused narrowed OutOfMemory = Unit {0}
