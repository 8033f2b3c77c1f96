-- The shape of the item that a Map takes at hand, where there is one.
use Rattle.std.specs.Prelude.{Option, option_map}
use Rattle.std.specs.Borrow.{Bor}
use Rattle.asl_model.specs.Shape as model
use Rattle.asl_shape.specs.View.{view}
use Rattle.asl_shape.specs.declared.shape.Shape.{Shape}

-- the shape of the item
abbrev pub item_view : Option (Bor Shape) → Option model.Shape
item_view = option_map (λ s. view s.now)
