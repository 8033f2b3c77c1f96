-- Arrays or objects that a shape takes alone are all of its kind.
use Rattle.std.proofs.Common.{◌≡◌, ℕ, Bool, true, false, ◌||◌, Some, refl}
use Rattle.std.specs.Prelude.{if◌then◌else◌}
use Rattle.asl_model.specs.Shape.{Shape, Any, OfKinds, FieldShapes, WithoutArrays, WithoutObjects, ObjectsOf, some_simple, some_array, some_object}
use Rattle.asl_model.specs.ShapeFlow.{arrays_alone, objects_alone, place_in}
use Rattle.asl_numbered.specs.TakenApart.{arrays_of, objects_of}

pub alone_objects : (s : Shape) (shapes : FieldShapes) (extra : Bool) → objects_alone s ≡ ObjectsOf shapes extra → objects_of s ≡ ObjectsOf shapes extra
alone_objects Any shapes extra e = absurd (cc)
alone_objects (OfKinds simple arrays objects) shapes extra e = go (some_simple simple || some_array arrays) e
  where
    go : (more : Bool) → (if more then WithoutObjects else objects) ≡ ObjectsOf shapes extra → objects ≡ ObjectsOf shapes extra
    go true e' = absurd (cc)
    go false e' = e'

-- where one of them has a place, they are all
pub alone_placed : (s : Shape) (i : ℕ) (t : Shape) → place_in i (arrays_alone s) ≡ Some t → arrays_alone s ≡ arrays_of s
alone_placed Any i t e = absurd (cc)
alone_placed (OfKinds simple arrays objects) i t e = go (some_simple simple || some_object objects) e
  where
    go : (more : Bool) → place_in i (if more then WithoutArrays else arrays) ≡ Some t → (if more then WithoutArrays else arrays) ≡ arrays
    go true e' = absurd (cc)
    go false e' = refl
