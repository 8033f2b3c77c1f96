-- What a refusal, or a shape, tells of the tree that was to be read as a shape.
use Rattle.std.specs.Prelude.{◌≡◌, List, [], Bool, Option, Some, None, IfSome}
use Rattle.std.specs.List.{Contains}
use Rattle.asl_model.specs.Shape.{Shape}
use Rattle.asl_model.specs.Tree.{Tree}
use Rattle.asl_model.specs.ShapeSpelling as model
use Rattle.asl_shape.specs.declared.ShapeRefusal.{ShapeRefusal}
use Rattle.asl_shape.specs.declared.ShapeRefusal.TheVariants.{NotAShape, Keyword, BadType, MinItems, OutOfMemory}

-- the fault that the refusal names; want of memory names none
abbrev pub fault_named : ShapeRefusal → Option model.ShapeFault
fault_named NotAShape = Some model.NotAShape
fault_named Keyword = Some model.Keyword
fault_named BadType = Some model.BadType
fault_named MinItems = Some model.MinItems
fault_named OutOfMemory = None

-- the refusal names one of the faults, or want of memory
pub record Tells (refusal : ShapeRefusal) (faults : List model.ShapeFault) : Type 0 where
  pub listed : IfSome (fault_named refusal) (Contains faults)

-- The tree spells the shape, where there may be lists of types or may not.
pub record SpellsAs (several : Bool) (t : Tree) (s : Shape) : Type 0 where
  pub none_wrong : model.shape_faults several t ≡ []
  pub same : model.shape_of t ≡ s
