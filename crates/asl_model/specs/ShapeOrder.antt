-- When one shape is inside another, and a shape that two are inside. JSON Schema has no word for either: both are the
-- profile's own. The first is true exactly where every tree of the one shape has the other.
use Rattle.std.specs.Prelude.{ℕ, zero, suc, max, Bool, true, false, ◌&&◌, ◌||◌}
use Rattle.std.specs.Prelude.{not, Option, Some, None, bytes_eq, if◌then◌else◌}
use Rattle.asl_model.specs.Names.{FieldName}
use Rattle.asl_model.specs.Shape.{Simple, Shape, Any, OfKinds, Never, Arrays, WithoutArrays, ArraysOf, Objects}
use Rattle.asl_model.specs.Shape.{WithoutObjects, ObjectsOf, Shapes, NoShapes, AndShape, FieldShapes, NoFieldShapes}
use Rattle.asl_model.specs.Shape.{AndFieldShape, some_array, some_object, inhabited, all_inhabited}
use Rattle.asl_model.specs.Shape.{needed_inhabited, mentions, insert_mention}

-- the first mention of a field: whether it is needed, and its shape
abbrev pub mention_of : FieldName → FieldShapes → Option (Bool × Shape)
mention_of n NoFieldShapes = None
mention_of n (AndFieldShape m needed s shapes) = if bytes_eq m n then Some (needed, s) else mention_of n shapes

-- the shape is Any
abbrev pub is_any_shape : Shape → Bool
is_any_shape Any = true
is_any_shape (OfKinds simple arrays objects) = false

-- all of the simple kinds
abbrev pub every_simple : Simple → Bool
every_simple simple = simple.null && (simple.boolean && (simple.integer && simple.text))

-- the simple kinds of either
abbrev pub either : Simple → Simple → Simple
either a b =
    record {
      null = a.null || b.null;
      boolean = a.boolean || b.boolean;
      integer = a.integer || b.integer;
      text = a.text || b.text;
    }

-- both are true, or none is
abbrev pub same_truth : Bool → Bool → Bool
same_truth true b = b
same_truth false b = not b

-- the same simple kinds
abbrev pub same_simple : Simple → Simple → Bool
same_simple a b =
    same_truth a.null b.null
    && (same_truth a.boolean b.boolean && (same_truth a.integer b.integer && same_truth a.text b.text))

-- the simple kinds of the first are among those of the second
abbrev pub simple_sub : Simple → Simple → Bool
simple_sub a b =
    (not a.null || b.null)
    && ((not a.boolean || b.boolean) && ((not a.integer || b.integer) && (not a.text || b.text)))

-- every one of the shapes passes the test
abbrev pub each_shape : (Shape → Bool) → Shapes → Bool
each_shape test NoShapes = true
each_shape test (AndShape s others) = test s && each_shape test others

-- each field that the second fields alone mention can't be there
abbrev pub others_never_there : FieldShapes → FieldShapes → Bool
others_never_there shapes NoFieldShapes = true
others_never_there shapes (AndFieldShape n needed s others) =
    (mentions n shapes || not (inhabited s)) && others_never_there shapes others

abbrev mutual
  -- every tree has the shape: it is Any, or takes all trees of each kind
  pub takes_all : Shape → Bool
  takes_all Any = true
  takes_all (OfKinds simple arrays objects) =
      every_simple simple && (takes_all_arrays arrays && takes_all_objects objects)

  -- each array is among these
  pub takes_all_arrays : Arrays → Bool
  takes_all_arrays WithoutArrays = false
  takes_all_arrays (ArraysOf NoShapes rest) = takes_all rest
  takes_all_arrays (ArraysOf (AndShape s first) rest) = false

  -- each object is among these
  pub takes_all_objects : Objects → Bool
  takes_all_objects WithoutObjects = false
  takes_all_objects (ObjectsOf shapes extra) = extra && asks_nothing shapes

  -- no field is needed, and each may be every tree
  pub asks_nothing : FieldShapes → Bool
  asks_nothing NoFieldShapes = true
  asks_nothing (AndFieldShape n needed s shapes) = not needed && (takes_all s && asks_nothing shapes)

-- A field that is needed or not, with a test of its shape and whether that shape takes every tree, against the mention
-- of it in another object shape, which has `extra` or not: where it is mentioned there, it is needed there if it is
-- needed here, and its shape there passes the test; where it isn't, it isn't needed here, and its shape here takes every
-- tree, unless the other object can't have it.
abbrev pub mention_fits : Bool → (Shape → Bool) → Bool → Bool → Option (Bool × Shape) → Bool
mention_fits needed test any extra None = not needed && (any || not extra)
mention_fits needed test any extra (Some mention) = (not needed || mention.0) && test mention.1

abbrev mutual
  -- Every tree of the first shape has the second: the second is Any, or takes all trees of each kind where the first is
  -- Any; else kind by kind the first is inside the second.
  pub sub : Shape → Shape → Bool
  sub a Any = true
  sub Any (OfKinds simple arrays objects) = takes_all (OfKinds simple arrays objects)
  sub (OfKinds some others more) (OfKinds simple arrays objects) =
      simple_sub some simple && (arrays_sub others arrays && objects_sub more objects)

  -- The first arrays are none, or part by part inside the second.
  pub arrays_sub : Arrays → Arrays → Bool
  arrays_sub WithoutArrays arrays = true
  arrays_sub (ArraysOf others further) WithoutArrays = not (all_inhabited others)
  arrays_sub (ArraysOf others further) (ArraysOf first rest) =
      not (all_inhabited others) || elements_sub others further first (λ s. sub s rest)

  -- The first objects are none, or field by field inside the second.
  pub objects_sub : Objects → Objects → Bool
  objects_sub WithoutObjects objects = true
  objects_sub (ObjectsOf others more) WithoutObjects = not (needed_inhabited others)
  objects_sub (ObjectsOf others more) (ObjectsOf shapes extra) =
      not (needed_inhabited others)
      || (fields_sub others more shapes && (extra || (not more && others_never_there shapes others)))

  -- The first array shape (its first elements, its further ones) is not shorter than the second's first elements;
  -- place by place it is inside these, and all its further ones pass the test of the second's further ones.
  pub elements_sub : Shapes → Shape → Shapes → (Shape → Bool) → Bool
  elements_sub others further NoShapes test = each_shape test others && test further
  elements_sub NoShapes further (AndShape s first) test = false
  elements_sub (AndShape other others) further (AndShape s first) test =
      sub other s && elements_sub others further first test

  -- each field of the second object shape fits its mention in the first (its fields, whether there may be others)
  pub fields_sub : FieldShapes → Bool → FieldShapes → Bool
  fields_sub others more NoFieldShapes = true
  fields_sub others more (AndFieldShape n needed s shapes) =
      mention_fits needed (λ other. sub other s) (takes_all s) more (mention_of n others)
      && fields_sub others more shapes

-- the mentions, without this one if it is to be left out
abbrev pub with_mention_unless : Bool → FieldName → Bool → Shape → FieldShapes → FieldShapes
with_mention_unless true m needed s shapes = shapes
with_mention_unless false m needed s shapes = AndFieldShape m needed s shapes

-- the mentions without those of one name
abbrev pub without_mention : FieldName → FieldShapes → FieldShapes
without_mention n NoFieldShapes = NoFieldShapes
without_mention n (AndFieldShape m needed s shapes) =
    with_mention_unless (bytes_eq m n) m needed s (without_mention n shapes)

-- the mentions with this one in place of all others of its name
abbrev pub set_mention : FieldName → Bool → Shape → FieldShapes → FieldShapes
set_mention n needed s shapes = insert_mention n needed s (without_mention n shapes)

abbrev mutual
  -- how many shapes stand inside each other, the outermost counted; of several kinds it is one shape
  pub depth : Shape → ℕ
  depth Any = 1
  depth (OfKinds simple arrays objects) = suc (max (depth_of_arrays arrays) (depth_of_objects objects))

  -- the depth of the deepest element's shape
  pub depth_of_arrays : Arrays → ℕ
  depth_of_arrays WithoutArrays = 0
  depth_of_arrays (ArraysOf first rest) = max (depth_of_elements first) (depth rest)

  -- the depth of the deepest mentioned field's shape
  pub depth_of_objects : Objects → ℕ
  depth_of_objects WithoutObjects = 0
  depth_of_objects (ObjectsOf shapes extra) = depth_of_fields shapes

  -- the depth of the deepest one
  pub depth_of_elements : Shapes → ℕ
  depth_of_elements NoShapes = 0
  depth_of_elements (AndShape s others) = max (depth s) (depth_of_elements others)

  -- the depth of the deepest field's shape
  pub depth_of_fields : FieldShapes → ℕ
  depth_of_fields NoFieldShapes = 0
  depth_of_fields (AndFieldShape n needed s shapes) = max (depth s) (depth_of_fields shapes)

-- the joins place by place, as far as both go
abbrev pub common_joins : (Shape → Shape → Shape) → Shapes → Shapes → Shapes
common_joins joined NoShapes others = NoShapes
common_joins joined (AndShape s first) NoShapes = NoShapes
common_joins joined (AndShape s first) (AndShape other others) =
    AndShape (joined s other) (common_joins joined first others)

-- the places of one that the other doesn't have
abbrev pub further_places : Shapes → Shapes → Shapes
further_places NoShapes others = others
further_places (AndShape s first) NoShapes = AndShape s first
further_places (AndShape s first) (AndShape other others) = further_places first others

-- the shape joined with each of the shapes, in order
abbrev pub joined_with_each : (Shape → Shape → Shape) → Shape → Shapes → Shape
joined_with_each joined s NoShapes = s
joined_with_each joined s (AndShape other others) = joined_with_each joined (joined s other) others

-- A field in front of the joined ones: needed where both need it, with the join of the shapes; one that the other
-- object doesn't mention is dropped where that may have further fields, else it is optional.
abbrev pub keep_joined : (Shape → Shape → Shape) → FieldName → Bool → Shape → Bool → Option (Bool × Shape) → FieldShapes
    → FieldShapes
keep_joined joined n needed s more None kept = with_mention_unless more n false s kept
keep_joined joined n needed s more (Some mention) kept = AndFieldShape n (needed && mention.0) (joined s mention.1) kept

-- the first object's fields, joined with the second (its fields, whether there may be others)
abbrev pub joined_fields : (Shape → Shape → Shape) → FieldShapes → FieldShapes → Bool → FieldShapes
joined_fields joined NoFieldShapes others more = NoFieldShapes
joined_fields joined (AndFieldShape n needed s shapes) others more =
    keep_joined joined n needed s more (mention_of n others) (joined_fields joined shapes others more)

-- with an optional field, unless it is dropped
abbrev pub with_optional_unless : Bool → FieldName → Shape → FieldShapes → FieldShapes
with_optional_unless true n s kept = kept
with_optional_unless false n s kept = set_mention n false s kept

-- with the second object's fields that the first (its fields, whether there may be others) doesn't mention: dropped
-- where it may have further fields, else optional
abbrev pub with_other_fields : FieldShapes → Bool → FieldShapes → FieldShapes → FieldShapes
with_other_fields shapes extra NoFieldShapes kept = kept
with_other_fields shapes extra (AndFieldShape n needed s others) kept =
    with_optional_unless (extra || mentions n shapes) n s (with_other_fields shapes extra others kept)

-- the arrays of either, part by part where both have some
abbrev pub join_arrays : (Shape → Shape → Shape) → Arrays → Arrays → Arrays
join_arrays joined WithoutArrays arrays = arrays
join_arrays joined (ArraysOf first rest) WithoutArrays = ArraysOf first rest
join_arrays joined (ArraysOf first rest) (ArraysOf others further) =
    ArraysOf (common_joins joined first others)
    (joined (joined (joined_with_each joined Never (further_places first others)) rest) further)

-- the objects of either, field by field where both have some
abbrev pub join_objects : (Shape → Shape → Shape) → Objects → Objects → Objects
join_objects joined WithoutObjects objects = objects
join_objects joined (ObjectsOf shapes extra) WithoutObjects = ObjectsOf shapes extra
join_objects joined (ObjectsOf shapes extra) (ObjectsOf others more) =
    ObjectsOf (with_other_fields shapes extra others (joined_fields joined shapes others more)) (extra || more)

-- the arrays, if there are any such
abbrev pub kept_arrays : Arrays → Arrays
kept_arrays arrays = if some_array arrays then arrays else WithoutArrays

-- the objects, if there are any such
abbrev pub kept_objects : Objects → Objects
kept_objects objects = if some_object objects then objects else WithoutObjects

-- the join of two shapes of which trees are there: Any where one is, else kind by kind
abbrev pub join_kinds : (Shape → Shape → Shape) → Shape → Shape → Shape
join_kinds joined Any b = Any
join_kinds joined (OfKinds some others more) Any = Any
join_kinds joined (OfKinds some others more) (OfKinds simple arrays objects) =
    OfKinds (either some simple) (join_arrays joined (kept_arrays others) (kept_arrays arrays))
    (join_objects joined (kept_objects more) (kept_objects objects))

-- the join of two shapes that are at most so deep: where one isn't inhabited, the other
abbrev pub join_within : ℕ → Shape → Shape → Shape
join_within zero a b = Any
join_within (suc n) a b = if inhabited a then if inhabited b then join_kinds (join_within n) a b else a else b

-- a shape that every tree of either has
abbrev pub join : Shape → Shape → Shape
join a b = join_within (max (depth a) (depth b)) a b
