-- Trees that show what shapes say: one that has a shape, and one that has a shape and lacks another. Where several would
-- do, kinds are taken in byte order of the names of types, elements and fields in their own order.
use Rattle.std.specs.Prelude.{ℕ, zero, suc, ◌+◌, pos, ◌∷◌, [], Bool, true, false, ◌&&◌, ◌||◌, not, Option, Some, None}
use Rattle.std.specs.Prelude.{codes, if◌then◌else◌, option_and_then}
use Rattle.std.specs.Bool.{then_some}
use Rattle.std.specs.Option.{option_map, option_or}
use Rattle.asl_model.specs.Names.{FieldName}
use Rattle.asl_model.specs.Tree.{Tree, Null, Boolean, Integer, Text, Array, Object, Trees, NoTrees, AndTree, Fields}
use Rattle.asl_model.specs.Tree.{NoFields, AndField}
use Rattle.asl_model.specs.Placing.{set_field}
use Rattle.asl_model.specs.Shape.{Simple, Shape, Any, OfKinds, Arrays, WithoutArrays, ArraysOf, Objects, WithoutObjects}
use Rattle.asl_model.specs.Shape.{ObjectsOf, Shapes, NoShapes, AndShape, FieldShapes, NoFieldShapes, AndFieldShape}
use Rattle.asl_model.specs.Shape.{mentions, all_simple, Has, inhabited, some_array, some_object, all_inhabited}
use Rattle.asl_model.specs.Shape.{needed_inhabited}
use Rattle.asl_model.specs.ShapeOrder.{mention_of}

abbrev mutual
  -- a tree of an inhabited shape: of its first kind that has one
  pub example : Shape → Tree
  example Any = Null
  example (OfKinds simple arrays objects) =
      if some_array arrays then Array (array_example arrays)
      else (if simple.boolean then Boolean false
      else (if simple.integer then Integer (pos 0)
      else (if simple.null then Null
      else (if some_object objects then Object (object_example objects)
      else Text []))))

  -- the elements of the shortest array
  pub array_example : Arrays → Trees
  array_example WithoutArrays = NoTrees
  array_example (ArraysOf first rest) = examples first

  -- the fields of the smallest object
  pub object_example : Objects → Fields
  object_example WithoutObjects = NoFields
  object_example (ObjectsOf shapes extra) = needed_examples shapes

  -- an example of each of the shapes
  pub examples : Shapes → Trees
  examples NoShapes = NoTrees
  examples (AndShape s others) = AndTree (example s) (examples others)

  -- each needed field, with an example of its shape
  pub needed_examples : FieldShapes → Fields
  needed_examples NoFieldShapes = NoFields
  needed_examples (AndFieldShape n needed s shapes) =
      if needed then AndField n (example s) (needed_examples shapes) else needed_examples shapes

-- a tree of an inhabited shape of which nothing is allowed: the empty array of Any, else the example
abbrev pub first_tree : Shape → Tree
first_tree Any = Array NoTrees
first_tree (OfKinds simple arrays objects) = example (OfKinds simple arrays objects)

-- how many mentions there are
abbrev pub count_mentions : FieldShapes → ℕ
count_mentions NoFieldShapes = 0
count_mentions (AndFieldShape n needed s shapes) = suc (count_mentions shapes)

-- the first that neither mentions of a name and the names with one more `a` each, after at most so many steps
abbrev pub unmentioned_name : ℕ → FieldName → FieldShapes → FieldShapes → FieldName
unmentioned_name zero n others shapes = n
unmentioned_name (suc steps) n others shapes =
    if mentions n others || mentions n shapes then unmentioned_name steps (97 ∷ n) others shapes else n

-- the first of `a`, `aa`, `aaa` and so on that neither mentions: so many mentions can't have one more name
abbrev pub fresh_name : FieldShapes → FieldShapes → FieldName
fresh_name others shapes =
    unmentioned_name (count_mentions others + count_mentions shapes) (codes "a") others shapes

-- what is found, where the test holds
abbrev pub only_if : {A : Type 0} → Bool → Option A → Option A
only_if true found = found
only_if false found = None

-- the first tree that is found of a kind: some elements, one of a simple kind that the first takes and the second
-- doesn't, some fields
abbrev pub first_found : Simple → Simple → Option Trees → Option Fields → Option Tree
first_found some simple elements fields =
    option_or (option_map Array elements)
    (option_or (then_some (some.boolean && not simple.boolean) (Boolean false))
    (option_or (then_some (some.integer && not simple.integer) (Integer (pos 0)))
    (option_or (then_some (some.null && not simple.null) Null)
    (option_or (option_map Object fields) (then_some (some.text && not simple.text) (Text []))))))

-- there are more of the first shapes than of the second
abbrev pub is_longer : Shapes → Shapes → Bool
is_longer NoShapes others = false
is_longer (AndShape s first) NoShapes = true
is_longer (AndShape s first) (AndShape other others) = is_longer first others

-- the tree that is found in front of the trees, or the tree itself in front of what is found later
abbrev pub with_first : Option Tree → Tree → Trees → Option Trees → Option Trees
with_first None t ts later = option_map (AndTree t) later
with_first (Some other) t ts later = Some (AndTree other ts)

-- The examples with a tree that is found in place of the first where there is one; else with one more behind them that
-- is found of the further shape.
abbrev pub further_outside : Shapes → Shape → (Shape → Option Tree) → Option Trees
further_outside NoShapes further found = option_map (λ t. AndTree t NoTrees) (found further)
further_outside (AndShape other others) further found =
    with_first (found other) (example other) (examples others) (further_outside others further found)

-- the mention is there, and is of a needed field
abbrev pub is_needed : Option (Bool × Shape) → Bool
is_needed None = false
is_needed (Some mention) = mention.0

-- a field is needed by the second mentions and not by the first
abbrev pub needs_more : FieldShapes → FieldShapes → Bool
needs_more others NoFieldShapes = false
needs_more others (AndFieldShape n needed s shapes) =
    (needed && not (is_needed (mention_of n others))) || needs_more others shapes

-- the shape of a field that the fields mention
abbrev pub mentioned_shape : FieldShapes → FieldName → Option Shape
mentioned_shape others n = option_map (λ mention. mention.1) (mention_of n others)

-- Any for a field that they don't mention, where there may be others
abbrev pub unmentioned_shape : FieldShapes → Bool → FieldName → Option Shape
unmentioned_shape others more n = then_some (more && not (mentions n others)) Any

-- the fields with the first one set that the first object shape alone mentions, where it can be there
abbrev pub unshared_outside : FieldShapes → FieldShapes → Fields → Option Fields
unshared_outside NoFieldShapes shapes fs = None
unshared_outside (AndFieldShape n needed s others) shapes fs =
    option_or (then_some (not (mentions n shapes) && inhabited s) (set_field n (first_tree s) fs))
    (unshared_outside others shapes fs)

-- the fields with one set that the second mentions don't allow: one that the first mention, else a new one where they
-- allow it
abbrev pub forbidden_outside : FieldShapes → Bool → FieldShapes → Fields → Option Fields
forbidden_outside others more shapes fs =
    option_or (unshared_outside others shapes fs) (then_some more (set_field (fresh_name others shapes) Null fs))

abbrev mutual
  -- A tree of the first shape that lacks the second: of the first kind where one is found. Any is looked at as the six
  -- kinds, each with all of its trees.
  pub outside : Shape → Shape → Option Tree
  outside a Any = None
  outside Any (OfKinds simple arrays objects) =
      first_found all_simple simple (arrays_outside (ArraysOf NoShapes Any) arrays)
      (objects_outside (ObjectsOf NoFieldShapes true) objects)
  outside (OfKinds some others more) (OfKinds simple arrays objects) =
      first_found some simple (arrays_outside others arrays) (objects_outside more objects)

  -- The elements of an array of the first that isn't among the second: the examples where it is too short or there are
  -- none in the second, else with one that the second doesn't take.
  pub arrays_outside : Arrays → Arrays → Option Trees
  arrays_outside WithoutArrays arrays = None
  arrays_outside (ArraysOf others further) WithoutArrays = then_some (all_inhabited others) (examples others)
  arrays_outside (ArraysOf others further) (ArraysOf first rest) =
      only_if (all_inhabited others)
      (option_or (then_some (is_longer first others) (examples others))
      (elements_outside others further first (λ s. outside s rest)))

  -- the examples with the first place changed at which a tree is found that the second doesn't take, or with one element
  -- more
  pub elements_outside : Shapes → Shape → Shapes → (Shape → Option Tree) → Option Trees
  elements_outside others further NoShapes found = further_outside others further found
  elements_outside NoShapes further (AndShape s first) found = None
  elements_outside (AndShape other others) further (AndShape s first) found =
      with_first (outside other s) (example other) (examples others) (elements_outside others further first found)

  -- The fields of an object of the first that isn't among the second: the needed ones where the second has none or needs
  -- more; else with one set: one that both mention, that the second alone mentions, or that the second doesn't allow.
  pub objects_outside : Objects → Objects → Option Fields
  objects_outside WithoutObjects objects = None
  objects_outside (ObjectsOf others more) WithoutObjects = then_some (needed_inhabited others) (needed_examples others)
  objects_outside (ObjectsOf others more) (ObjectsOf shapes extra) =
      only_if (needed_inhabited others)
      (option_or (then_some (needs_more others shapes) (needed_examples others))
      (option_or (fields_outside (mentioned_shape others) shapes (needed_examples others))
      (option_or (fields_outside (unmentioned_shape others more) shapes (needed_examples others))
      (only_if (not extra) (forbidden_outside others more shapes (needed_examples others))))))

  -- The fields with a mentioned one set: the first that has another shape too, by its name, of which a tree lacks its
  -- own.
  pub fields_outside : (FieldName → Option Shape) → FieldShapes → Fields → Option Fields
  fields_outside other NoFieldShapes fs = None
  fields_outside other (AndFieldShape n needed s shapes) fs =
      option_or (option_map (λ t. set_field n t fs) (option_and_then (λ a. outside a s) (other n)))
      (fields_outside other shapes fs)

-- the tree has the first shape and lacks the second
pub record IsOutside (a b : Shape) (t : Tree) : Type 0 where
  pub has : Has a t
  pub lacks : Has b t → ⊥
