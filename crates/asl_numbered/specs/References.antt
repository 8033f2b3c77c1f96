-- Spellings of shapes in which `{"shape": n}` stands for the n-th of given shapes, counted from 0.
use Rattle.std.specs.Prelude.{◌≡◌, ℕ, List, [], ◌∷◌, ◌++◌, map, Bool, false, Option, Some, None, option_map, option_to_list}
use Rattle.std.specs.Borrow.{Bor}
use Rattle.std.specs.List.{Contains}
use Rattle.asl_model.specs.References.{reference_among, meant_by}
use Rattle.asl_model.specs.Shape.{Simple, Shape, Any, OfKinds, Arrays, WithoutArrays, ArraysOf, Objects, WithoutObjects, ObjectsOf, Shapes, NoShapes, AndShape, FieldShapes, NoFieldShapes, AndFieldShape}
use Rattle.asl_model.specs.ShapeSpelling.{ShapeFault, with_all_needed, shape_faults}
use Rattle.asl_model.specs.Tree.{Tree, Null, Boolean, Integer, Text, Array, Object, Trees, NoTrees, AndTree, Fields, NoFields, AndField}
use Rattle.asl_shape.specs.Level.{Level, Whole, OfTypes, ListLevel, ObjectLevel, SpelledOver, level_faults}
use Rattle.asl_shape.specs.Refusal.{Tells, fault_named}
use Rattle.asl_numbered.specs.Expansion.{shape_at}
use Rattle.asl_numbered.specs.declared.NumberedRefusal.{NumberedRefusal}
use Rattle.asl_numbered.specs.declared.NumberedRefusal.TheVariants as refusal

-- ---- references

-- what stands in a reference
abbrev pub reference_in : Tree → Option Tree
reference_in Null = None
reference_in (Boolean b) = None
reference_in (Integer n) = None
reference_in (Text s) = None
reference_in (Array ts) = None
reference_in (Object fs) = reference_among fs

-- What a tree stands for, where some are given and it is a reference: one of them, or none, where its number is wrong.
abbrev pub referred : {X : Type 0} → Option (List X) → Tree → Option (Option X)
referred None t = None
referred (Some xs) t = option_map (meant_by xs) (reference_in t)

-- the numbers that are given, if there are such, and their shapes
abbrev pub numbers_given : Option (Bor (List ℕ)) → Option (List ℕ)
numbers_given given = option_map (λ ns. ns.now) given

abbrev pub shapes_given : List Shape → Option (Bor (List ℕ)) → Option (List Shape)
shapes_given table given = option_map (map (shape_at table)) (numbers_given given)

-- ---- what is spelled

mutual
  -- The tree spells the shape: it is a reference to it, or says a level that has it, over what the spellings inside
  -- spell; `several` says whether lists of types may stand in it. No reference says a level, since its one keyword
  -- stands beside no type.
  pub data SpellsWith (several : Bool) (given : Option (List Shape)) : Tree → Shape → Type 0 where
    by_reference : {t : Tree} {s : Shape} → referred given t ≡ Some (Some s) → SpellsWith several given t s
    by_level : {t : Tree} {level : Level} {s : Shape} → SpelledOver several t level → SpellsOver several given level s → SpellsWith several given t s

  -- the level has that shape
  pub data SpellsOver (several : Bool) (given : Option (List Shape)) : Level → Shape → Type 0 where
    with_none_inside : {s : Shape} → SpellsOver several given (Whole s) s
    with_kinds : {simple : Simple} {list : Option ListLevel} {object : Option ObjectLevel} {arrays : Arrays} {objects : Objects} → SpellsArrays several given list arrays → SpellsObjects several given object objects → SpellsOver several given (OfTypes simple list object) (OfKinds simple arrays objects)

  -- what the level says of arrays, if anything, says these
  pub data SpellsArrays (several : Bool) (given : Option (List Shape)) : Option ListLevel → Arrays → Type 0 where
    without_arrays : SpellsArrays several given None WithoutArrays
    with_elements : {list : ListLevel} {places : Shapes} {further : Shape} → SpellEach several given list.first places → SpellsRest several given list.rest further → SpellsArrays several given (Some list) (ArraysOf places further)

  -- what it says of objects
  pub data SpellsObjects (several : Bool) (given : Option (List Shape)) : Option ObjectLevel → Objects → Type 0 where
    without_objects : SpellsObjects several given None WithoutObjects
    with_properties : {object : ObjectLevel} {fields : FieldShapes} → SpellFields several given object.properties fields → SpellsObjects several given (Some object) (ObjectsOf (with_all_needed object.extra object.names fields) object.extra)

  -- each tree spells the shape of its place
  pub data SpellEach (several : Bool) (given : Option (List Shape)) : Trees → Shapes → Type 0 where
    no_element : SpellEach several given NoTrees NoShapes
    and_element : {t : Tree} {s : Shape} {ts : Trees} {others : Shapes} → SpellsWith several given t s → SpellEach several given ts others → SpellEach several given (AndTree t ts) (AndShape s others)

  -- the tree spells the shape of the further elements, which is Any where there is none
  pub data SpellsRest (several : Bool) (given : Option (List Shape)) : Option Tree → Shape → Type 0 where
    no_rest : SpellsRest several given None Any
    some_rest : {t : Tree} {s : Shape} → SpellsWith several given t s → SpellsRest several given (Some t) s

  -- each field spells the shape of the mention of its name, which isn't needed
  pub data SpellFields (several : Bool) (given : Option (List Shape)) : Fields → FieldShapes → Type 0 where
    no_field : SpellFields several given NoFields NoFieldShapes
    and_field : {n : List ℕ} {t : Tree} {s : Shape} {fs : Fields} {shapes : FieldShapes} → SpellsWith several given t s → SpellFields several given fs shapes → SpellFields several given (AndField n t fs) (AndFieldShape n false s shapes)

-- ---- what is wrong

-- the elements, and the values of the fields
abbrev pub each_of : Trees → List Tree
each_of NoTrees = []
each_of (AndTree t ts) = t ∷ each_of ts

abbrev pub values_of : Fields → List Tree
values_of NoFields = []
values_of (AndField n t fs) = t ∷ values_of fs

-- the spellings inside what a level says of arrays, and of objects
abbrev pub list_inside : Option ListLevel → List Tree
list_inside None = []
list_inside (Some list) = each_of list.first ++ option_to_list list.rest

abbrev pub object_inside : Option ObjectLevel → List Tree
object_inside None = []
object_inside (Some object) = values_of object.properties

-- the spellings inside a level
abbrev pub inside : Level → List Tree
inside (Whole s) = []
inside (OfTypes simple list object) = list_inside list ++ object_inside object

-- that one stands in the tree in the place of a shape
pub data StandsIn (several : Bool) (place : Tree) : Tree → Type 0 where
  is_itself : StandsIn several place place
  stands_inside : {t part : Tree} {level : Level} → SpelledOver several t level → Contains (inside level) part → StandsIn several place part → StandsIn several place t

-- a spelling that is no reference has that fault, whatever is wrong with those inside
pub record HasFault (several : Bool) (given : Option (List Shape)) (t : Tree) (f : ShapeFault) : Type 0 where
  pub place : Tree
  pub there : StandsIn several place t
  pub spelled : referred given place ≡ None
  pub listed : Contains (level_faults several place) f

-- a reference has a wrong number
pub record HasWrongNumber (several : Bool) (given : Option (List Shape)) (t : Tree) : Type 0 where
  pub place : Tree
  pub there : StandsIn several place t
  pub wrong : referred given place ≡ Some None

-- what a refusal says of a tree
abbrev pub SaysOf : Bool → Option (List Shape) → Tree → NumberedRefusal → Type 0
SaysOf several given t (refusal.Shape e) = (f : ShapeFault) × (fault_named e ≡ Some f) × HasFault several given t f
SaysOf several given t refusal.BadNumber = HasWrongNumber several given t
SaysOf several given t refusal.OutOfMemory = Unit {0}

-- the refusal tells of a tree what is wrong with it
pub record TellsOf (several : Bool) (given : Option (List Shape)) (t : Tree) (e : NumberedRefusal) : Type 0 where
  pub said : SaysOf several given t e

-- where no shapes are given: it tells a fault of the spelling
abbrev pub TellsFault : Bool → Tree → NumberedRefusal → Type 0
TellsFault several t (refusal.Shape e) = Tells e (shape_faults several t)
TellsFault several t refusal.BadNumber = ⊥
TellsFault several t refusal.OutOfMemory = Unit {0}
