-- The shapes of an array's elements, by number.
use Rattle.std.specs.Prelude.{◌<◌, ℕ, List}
use Rattle.asl_model.specs.Shape.{Shape, Shapes}
use Rattle.asl_numbered.specs.Expansion.{shape_at, shapes_at, AreBelow}
use Rattle.asl_flow.specs.declared.elements.Elements.{Elements}

-- the shapes of the first elements, and of the further ones
abbrev pub elements_view : List Shape → Elements → Shapes × Shape
elements_view table e = (shapes_at table e.first.items, shape_at table e.rest)

-- the numbers are below that bound
pub record AreElementsBelow (bound : ℕ) (e : Elements) : Type 0 where
  pub first : AreBelow bound e.first.items
  pub rest : e.rest < bound
