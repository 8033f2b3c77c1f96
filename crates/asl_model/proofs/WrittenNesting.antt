-- How deep what is written nests: by two levels at most for each level of a shape.
use Rattle.std.proofs.Common.{◌≤◌, ◌+◌, ◌*◌, ℕ, suc, max, List, [], ◌∷◌, Bool, true, false, not, Option, Some, None, codes, arith}
use Rattle.std.specs.Prelude.{IfSome}
use Rattle.std.specs.List.{AllByRecursion}
use Rattle.serde_json.specs.Data as json
use Rattle.asl_model.specs.Certificate.{StateShapes, Certificate}
use Rattle.asl_model.specs.Json.{value_of, items_of, members_for}
use Rattle.asl_model.specs.RecordShapes.{HoldsForState, HoldsForCertificate}
use Rattle.asl_model.specs.Shape.{Shape, Any, OfKinds, Arrays, WithoutArrays, ArraysOf, Objects, WithoutObjects, ObjectsOf, type_names, Shapes, NoShapes, AndShape, FieldShapes, NoFieldShapes, AndFieldShape}
use Rattle.asl_model.specs.ShapeFlow.{how_many_shapes}
use Rattle.asl_model.specs.ShapeOrder.{is_any_shape, depth, depth_of_arrays, depth_of_objects, depth_of_elements, depth_of_fields}
use Rattle.asl_model.specs.Tree.{Tree, Boolean, Array, Trees, Object, Fields, NoFields, AndField}
use Rattle.asl_model.specs.Written.{field_if, some_shapes, some_fields, needed_names, some_names, as_texts, type_field, array_fields, object_fields, are_closed, written_kinds, written_shape, with_written_arrays, with_written_objects, written_shapes, written_fields, written_list, written_entries, with_branches, with_item, written_state, written_certificate}

-- how deep a tree nests, and the deepest of several
abbrev pub nesting : Tree → ℕ
nesting t = json.depth (value_of t)

abbrev pub elements_nesting : Trees → ℕ
elements_nesting ts = json.items_depth (items_of ts)

abbrev pub fields_nesting : Fields → ℕ
fields_nesting fs = json.members_depth (members_for fs)

-- ---- shapes

field_if_nests : (k : ℕ) (wanted : Bool) (n : List ℕ) (t : Tree) (fs : Fields) → nesting t ≤ k → fields_nesting fs ≤ k → fields_nesting (field_if wanted n t fs) ≤ k
field_if_nests k true n t fs h further = omega arith
field_if_nests k false n t fs h further = further

texts_nest : (k : ℕ) (ns : List (List ℕ)) → elements_nesting (as_texts ns) ≤ k
texts_nest k [] = omega arith
texts_nest k (n ∷ ns) = omega (arith, texts_nest k ns)

pub array_nests : (k : ℕ) (has_items has_first : Bool) (items : Tree) (number : ℕ) (first : Trees) (others : Fields) → nesting items ≤ suc k → elements_nesting first ≤ k → fields_nesting others ≤ suc k → fields_nesting (array_fields has_items has_first items number (Array first) others) ≤ suc k
array_nests k has_items has_first items number first others h further rest =
    field_if_nests (suc k) has_items (codes "items") items _ h
    (field_if_nests (suc k) has_first (codes "minItems") _ _ (omega arith)
    (field_if_nests (suc k) has_first (codes "prefixItems") (Array first) others (omega arith) rest))

pub object_nests : (k : ℕ) (has_fields has_needed : Bool) (properties : Fields) (names : List (List ℕ)) (others : Fields) → fields_nesting properties ≤ k → fields_nesting others ≤ suc k → fields_nesting (object_fields has_fields has_needed (Object properties) (as_texts names) others) ≤ suc k
object_nests k has_fields has_needed properties names others h rest =
    field_if_nests (suc k) has_fields (codes "properties") (Object properties) _ (omega arith)
    (field_if_nests (suc k) has_needed (codes "required") (Array (as_texts names)) others (omega (arith, texts_nest k names)) rest)

pub type_nests : (k : ℕ) (names : List (List ℕ)) → fields_nesting (type_field names) ≤ suc k
type_nests k [] = omega arith
type_nests k (n ∷ []) = omega arith
type_nests k (n ∷ m ∷ names) = omega (arith, texts_nest k (n ∷ m ∷ names))

pub kinds_nest : (k : ℕ) (closed : Bool) (names : List (List ℕ)) (keywords : Fields) → fields_nesting keywords ≤ suc k → nesting (written_kinds closed names keywords) ≤ 2 + k
kinds_nest k closed [] keywords h = omega arith
kinds_nest k closed (n ∷ names) keywords h =
    omega (arith, field_if_nests (suc k) closed (codes "additionalProperties") (Boolean false) keywords (omega arith) h)

mutual
  -- what is written of a shape
  pub shape_nests : (s : Shape) → nesting (written_shape s) ≤ 2 * depth s
  shape_nests Any = omega arith
  shape_nests (OfKinds simple arrays objects) =
      let names = type_names simple arrays objects in
      let k : ℕ = 2 * max (depth_of_arrays arrays) (depth_of_objects objects) in
      let keywords = with_written_arrays arrays (with_written_objects objects (type_field names)) in
      omega (arith, kinds_nest k (are_closed objects) names keywords (arrays_nest k arrays _ (omega arith) (objects_nest k objects _ (omega arith) (type_nests k names))))

  arrays_nest : (k : ℕ) (arrays : Arrays) (others : Fields) → 2 * depth_of_arrays arrays ≤ k → fields_nesting others ≤ suc k → fields_nesting (with_written_arrays arrays others) ≤ suc k
  arrays_nest k WithoutArrays others h rest = rest
  arrays_nest k (ArraysOf first further) others h rest =
      array_nests k (not (is_any_shape further)) (some_shapes first) (written_shape further) (how_many_shapes first) (written_shapes first) others (omega (arith, shape_nests further)) (omega (arith, shapes_nest first)) rest

  objects_nest : (k : ℕ) (objects : Objects) (others : Fields) → 2 * depth_of_objects objects ≤ k → fields_nesting others ≤ suc k → fields_nesting (with_written_objects objects others) ≤ suc k
  objects_nest k WithoutObjects others h rest = rest
  objects_nest k (ObjectsOf shapes extra) others h rest =
      object_nests k (some_fields shapes) (some_names (needed_names shapes)) (written_fields shapes) (needed_names shapes) others (omega (arith, fields_nest shapes)) rest

  shapes_nest : (first : Shapes) → elements_nesting (written_shapes first) ≤ 2 * depth_of_elements first
  shapes_nest NoShapes = omega arith
  shapes_nest (AndShape s others) = omega (arith, shape_nests s, shapes_nest others)

  fields_nest : (shapes : FieldShapes) → fields_nesting (written_fields shapes) ≤ 2 * depth_of_fields shapes
  fields_nest NoFieldShapes = omega arith
  fields_nest (AndFieldShape n needed s shapes) = omega (arith, shape_nests s, fields_nest shapes)

-- ---- certificates

module _ (n : ℕ) where
  -- the shape has at most so many levels
  abbrev pub IsWithin : Shape → Type 0
  IsWithin s = depth s ≤ n

  within_nests : (s : Shape) → IsWithin s → nesting (written_shape s) ≤ 2 * n
  within_nests s h = omega (arith, shape_nests s, h)

  list_nests : (shapes : List Shape) → AllByRecursion IsWithin shapes → elements_nesting (written_list written_shape shapes) ≤ 2 * n
  list_nests [] h = omega arith
  list_nests (s ∷ further) h = omega (arith, within_nests s h.0, list_nests further h.1)

  item_nests : (item : Option Shape) (fs : Fields) → IfSome item IsWithin → fields_nesting fs ≤ 1 + 2 * n → fields_nesting (with_item written_shape item fs) ≤ 1 + 2 * n
  item_nests None fs h further = further
  item_nests (Some s) fs h further = omega (arith, within_nests s h, further)

  branches_nest : (branches : List Shape) (fs : Fields) → AllByRecursion IsWithin branches → fields_nesting fs ≤ 1 + 2 * n → fields_nesting (with_branches written_shape branches fs) ≤ 1 + 2 * n
  branches_nest [] fs h further = further
  branches_nest (s ∷ more) fs h further = omega (arith, list_nests (s ∷ more) h, further)

  state_nests : (shapes : StateShapes) → HoldsForState IsWithin shapes → nesting (written_state written_shape shapes) ≤ 2 + 2 * n
  state_nests shapes h =
      let output = AndField (codes "output") (written_shape shapes.output) NoFields in
      let item : fields_nesting (with_item written_shape shapes.item output) ≤ 1 + 2 * n = item_nests shapes.item output h.item (omega (arith, within_nests shapes.output h.output)) in
      let input = AndField (codes "input") (written_shape shapes.input) (with_item written_shape shapes.item output) in
      omega (arith, branches_nest shapes.branches input h.branches (omega (arith, within_nests shapes.input h.input, item)))

  states_nest : (states : List (List ℕ × StateShapes)) → AllByRecursion (λ (entry : List ℕ × StateShapes). HoldsForState IsWithin entry.1) states → fields_nesting (written_entries (written_state written_shape) states) ≤ 2 + 2 * n
  states_nest [] h = omega arith
  states_nest (entry ∷ more) h = omega (arith, state_nests entry.1 h.0, states_nest more h.1)

  -- what is written of a certificate whose shapes have at most so many levels
  pub certificate_nests : (certificate : Certificate) → HoldsForCertificate IsWithin certificate → nesting (written_certificate certificate) ≤ 4 + 2 * n
  certificate_nests certificate h = omega (arith, within_nests certificate.output h.output, states_nest certificate.states h.states)
