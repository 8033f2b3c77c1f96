-- What refusals of asl_shape become.
use Rattle.asl_shape.specs.declared.ShapeRefusal.{ShapeRefusal}
use Rattle.asl_shape.specs.declared.ShapeRefusal.TheVariants.{NotAShape, Keyword, BadType, MinItems, OutOfMemory}
use Rattle.asl_numbered.specs.declared.NumberedRefusal.{NumberedRefusal}
use Rattle.asl_numbered.specs.declared.NumberedRefusal.TheVariants as refusal

-- the same refusal
abbrev pub numbered : ShapeRefusal → NumberedRefusal
numbered NotAShape = refusal.Shape NotAShape
numbered Keyword = refusal.Shape Keyword
numbered BadType = refusal.Shape BadType
numbered MinItems = refusal.Shape MinItems
numbered OutOfMemory = refusal.OutOfMemory
