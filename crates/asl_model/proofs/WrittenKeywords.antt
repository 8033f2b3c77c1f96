-- What is found under each keyword in the tree that is written for a shape: how it is read, and what is wrong with it.
use Rattle.std.proofs.Common.{◌≡◌, ℕ, pos, List, [], ◌∷◌, ◌++◌, Bool, true, false, not, codes, Option, Some, None, if◌then◌else◌, option_map, unwrap_or, bytes_eq, refl, ap, ◌∙◌}
use Rattle.std.specs.Ordering.{int_eq}
use Rattle.asl_model.specs.Tree.{Tree, Null, Boolean, Integer, Array, Object, Trees, NoTrees, Fields, NoFields, AndField, count, field_named}
use Rattle.asl_model.specs.Shape.{Any, Arrays, WithoutArrays, ArraysOf, Objects, WithoutObjects, ObjectsOf, NoShapes, NoFieldShapes, has_arrays, has_objects}
use Rattle.asl_model.specs.ShapeOrder.{is_any_shape}
use Rattle.asl_model.specs.ShapeFlow.{how_many_shapes}
use Rattle.asl_model.specs.ShapeSpelling.{ShapeFault, Keyword, MinItems, is_among, annotations, array_keywords, object_keywords, foreign_faults, texts_among, unless, types_in, type_faults, required_in, required_faults, extra_in, extra_faults, with_all_needed, min_items_faults, element_count, typed_shape, shape_of, element_shapes, shapes_of, properties_of, keyword_faults, faults_first, shape_faults, shapes_faults, element_faults, properties_faults}
use Rattle.asl_model.specs.Written.{field_if, some_shapes, some_fields, needed_names, some_names, as_texts, type_written, type_field, array_fields, object_fields, closed_first, are_closed, written_shape, with_written_arrays, with_written_objects, written_shapes, written_fields}
use Rattle.asl_model.proofs.SpellingLookups.{shape_under-field_named, shapes_under-field_named, properties_under-field_named, shape_faults_under-field_named, shapes_faults_under-field_named, properties_faults_under-field_named}

-- which keywords of arrays there are, and their values
pub record ForArrays : Type 0 where
  pub has_items : Bool
  pub has_first : Bool
  pub items : Tree
  pub number : ℕ
  pub first : Trees

-- and those of objects
pub record ForObjects : Type 0 where
  pub closed : Bool
  pub has_fields : Bool
  pub has_needed : Bool
  pub properties : Tree
  pub names : Trees

-- the keywords, with that value of `type`
abbrev pub keywords : ForArrays → ForObjects → Tree → Fields
keywords a o t =
    closed_first o.closed (array_fields a.has_items a.has_first a.items a.number (Array a.first)
    (object_fields o.has_fields o.has_needed o.properties o.names (AndField (codes "type") t NoFields)))

-- ---- what is found

-- the value, where it is there
abbrev pub if_there : Bool → Tree → Option Tree
if_there wanted t = if wanted then Some t else None

passed : (n m : List ℕ) (wanted : Bool) (t : Tree) (fs : Fields) (there : Option Tree) → bytes_eq m n ≡ false → field_named n fs ≡ there → field_named n (field_if wanted m t fs) ≡ there
passed n m true t fs there other further = rw other further
passed n m false t fs there other further = further

found : (n : List ℕ) (wanted : Bool) (t : Tree) (fs : Fields) → bytes_eq n n ≡ true → field_named n fs ≡ None → field_named n (field_if wanted n t fs) ≡ if_there wanted t
found n true t fs own further = rw own refl
found n false t fs own further = further

module _ (a : ForArrays) (o : ForObjects) (t : Tree) where
  -- the keywords behind `items`, behind `minItems`, behind `prefixItems`, behind `properties`, behind `required`
  abbrev last : Fields
  last = AndField (codes "type") t NoFields

  abbrev needed : Fields
  needed = field_if o.has_needed (codes "required") (Array o.names) last

  abbrev mentioned : Fields
  mentioned = field_if o.has_fields (codes "properties") o.properties needed

  abbrev placed : Fields
  placed = field_if a.has_first (codes "prefixItems") (Array a.first) mentioned

  abbrev counted : Fields
  counted = field_if a.has_first (codes "minItems") (Integer (pos a.number)) placed

  abbrev itemed : Fields
  itemed = field_if a.has_items (codes "items") a.items counted

  past_last : (n : List ℕ) → bytes_eq (codes "type") n ≡ false → field_named n last ≡ None
  past_last n e = rw e refl

  past_needed : (n : List ℕ) → bytes_eq (codes "required") n ≡ false → bytes_eq (codes "type") n ≡ false → field_named n needed ≡ None
  past_needed n r e = passed n (codes "required") o.has_needed (Array o.names) last None r (past_last n e)

  past_mentioned : (n : List ℕ) → bytes_eq (codes "properties") n ≡ false → bytes_eq (codes "required") n ≡ false → bytes_eq (codes "type") n ≡ false → field_named n mentioned ≡ None
  past_mentioned n p r e = passed n (codes "properties") o.has_fields o.properties needed None p (past_needed n r e)

  -- what is found in front, where a name is none of the keywords for arrays
  past_arrays : (n : List ℕ) (there : Option Tree) → bytes_eq (codes "items") n ≡ false → bytes_eq (codes "minItems") n ≡ false → bytes_eq (codes "prefixItems") n ≡ false → field_named n mentioned ≡ there → field_named n itemed ≡ there
  past_arrays n there i m p further =
      passed n (codes "items") a.has_items a.items counted there i
      (passed n (codes "minItems") a.has_first (Integer (pos a.number)) placed there m
      (passed n (codes "prefixItems") a.has_first (Array a.first) mentioned there p further))

  past_closed : (n : List ℕ) (there : Option Tree) → bytes_eq (codes "additionalProperties") n ≡ false → field_named n itemed ≡ there → field_named n (keywords a o t) ≡ there
  past_closed n there e further = passed n (codes "additionalProperties") o.closed (Boolean false) itemed there e further

  extra_found : field_named (codes "additionalProperties") (keywords a o t) ≡ if_there o.closed (Boolean false)
  extra_found =
      found (codes "additionalProperties") o.closed (Boolean false) itemed refl
      (past_arrays (codes "additionalProperties") None refl refl refl (past_mentioned (codes "additionalProperties") refl refl refl))

  items_found : field_named (codes "items") (keywords a o t) ≡ if_there a.has_items a.items
  items_found =
      past_closed (codes "items") (if_there a.has_items a.items) refl
      (found (codes "items") a.has_items a.items counted refl
      (passed (codes "items") (codes "minItems") a.has_first (Integer (pos a.number)) placed None refl
      (passed (codes "items") (codes "prefixItems") a.has_first (Array a.first) mentioned None refl
      (past_mentioned (codes "items") refl refl refl))))

  number_found : field_named (codes "minItems") (keywords a o t) ≡ if_there a.has_first (Integer (pos a.number))
  number_found =
      let there = if_there a.has_first (Integer (pos a.number)) in
      past_closed (codes "minItems") there refl
      (passed (codes "minItems") (codes "items") a.has_items a.items counted there refl
      (found (codes "minItems") a.has_first (Integer (pos a.number)) placed refl
      (passed (codes "minItems") (codes "prefixItems") a.has_first (Array a.first) mentioned None refl
      (past_mentioned (codes "minItems") refl refl refl))))

  first_found : field_named (codes "prefixItems") (keywords a o t) ≡ if_there a.has_first (Array a.first)
  first_found =
      let there = if_there a.has_first (Array a.first) in
      past_closed (codes "prefixItems") there refl
      (passed (codes "prefixItems") (codes "items") a.has_items a.items counted there refl
      (passed (codes "prefixItems") (codes "minItems") a.has_first (Integer (pos a.number)) placed there refl
      (found (codes "prefixItems") a.has_first (Array a.first) mentioned refl (past_mentioned (codes "prefixItems") refl refl refl))))

  properties_found : field_named (codes "properties") (keywords a o t) ≡ if_there o.has_fields o.properties
  properties_found =
      let there = if_there o.has_fields o.properties in
      past_closed (codes "properties") there refl
      (past_arrays (codes "properties") there refl refl refl
      (found (codes "properties") o.has_fields o.properties needed refl (past_needed (codes "properties") refl refl)))

  needed_found : field_named (codes "required") (keywords a o t) ≡ if_there o.has_needed (Array o.names)
  needed_found =
      let there = if_there o.has_needed (Array o.names) in
      past_closed (codes "required") there refl
      (past_arrays (codes "required") there refl refl refl
      (passed (codes "required") (codes "properties") o.has_fields o.properties needed there refl
      (found (codes "required") o.has_needed (Array o.names) last refl (past_last (codes "required") refl))))

  type_found : field_named (codes "type") (keywords a o t) ≡ Some t
  type_found =
      past_closed (codes "type") (Some t) refl
      (past_arrays (codes "type") (Some t) refl refl refl
      (passed (codes "type") (codes "properties") o.has_fields o.properties needed (Some t) refl
      (passed (codes "type") (codes "required") o.has_needed (Array o.names) last (Some t) refl refl)))

-- ---- how it is read

value_there : {A : Type 0} (f : Tree → A) (d : A) (wanted : Bool) (t : Tree) → unwrap_or (option_map f (if_there wanted t)) d ≡ (if wanted then f t else d)
value_there f d true t = refl
value_there f d false t = refl

-- the arrays that the keywords say, and the objects
abbrev pub arrays_read : ForArrays → Arrays
arrays_read a =
    ArraysOf (if a.has_first then element_shapes a.first else NoShapes) (if a.has_items then shape_of a.items else Any)

abbrev pub objects_read : ForObjects → Objects
objects_read o =
    ObjectsOf (with_all_needed (not o.closed) (if o.has_needed then texts_among o.names else [])
    (if o.has_fields then properties_of o.properties else NoFieldShapes)) (not o.closed)

extra_read : (closed : Bool) → extra_in (if_there closed (Boolean false)) ≡ not closed
extra_read true = refl
extra_read false = refl

names_read : (wanted : Bool) (names : Trees) → required_in (if_there wanted (Array names)) ≡ (if wanted then texts_among names else [])
names_read true names = refl
names_read false names = refl

pub reads : (a : ForArrays) (o : ForObjects) (t : Tree) → shape_of (Object (keywords a o t)) ≡ typed_shape (types_in (Some t)) (arrays_read a) (objects_read o)
reads a o t =
    rw (
      type_found a o t,
      shapes_under-field_named (codes "prefixItems") (keywords a o t) ∙ (ap (λ v. unwrap_or (option_map shapes_of v) NoShapes) (first_found a o t) ∙ value_there shapes_of NoShapes a.has_first (Array a.first)),
      shape_under-field_named (codes "items") (keywords a o t) ∙ (ap (λ v. unwrap_or (option_map shape_of v) Any) (items_found a o t) ∙ value_there shape_of Any a.has_items a.items),
      properties_under-field_named (codes "properties") (keywords a o t) ∙ (ap (λ v. unwrap_or (option_map properties_of v) NoFieldShapes) (properties_found a o t) ∙ value_there properties_of NoFieldShapes o.has_fields o.properties),
      ap extra_in (extra_found a o t) ∙ extra_read o.closed,
      ap required_in (needed_found a o t) ∙ names_read o.has_needed o.names,
    ) refl

-- ---- what is wrong

-- what is wrong with the keywords for arrays, and with those for objects
abbrev pub arrays_wrong : Bool → ForArrays → List ShapeFault
arrays_wrong several a =
    (if a.has_first then element_faults several a.first else [])
    ++ ((if a.has_items then shape_faults several a.items else [])
    ++ (if a.has_first then unless (int_eq (pos a.number) (pos (count a.first))) MinItems else []))

abbrev pub objects_wrong : Bool → ForObjects → List ShapeFault
objects_wrong several o =
    (if o.has_fields then properties_faults several o.properties else [])
    ++ ((if o.has_needed then required_faults (Some (Array o.names)) else []) ++ [])

number_wrong : (wanted : Bool) (number : ℕ) (first : Trees) → min_items_faults (if_there wanted (Integer (pos number))) (element_count (if_there wanted (Array first))) ≡ (if wanted then unless (int_eq (pos number) (pos (count first))) MinItems else [])
number_wrong true number first = refl
number_wrong false number first = refl

names_wrong : (wanted : Bool) (names : Trees) → required_faults (if_there wanted (Array names)) ≡ (if wanted then required_faults (Some (Array names)) else [])
names_wrong true names = refl
names_wrong false names = refl

extra_right : (closed : Bool) → extra_faults (if_there closed (Boolean false)) ≡ []
extra_right true = refl
extra_right false = refl

pub wrong : (several : Bool) (a : ForArrays) (o : ForObjects) (t : Tree) → shape_faults several (Object (keywords a o t)) ≡ faults_first (type_faults several t) (keyword_faults (types_in (Some t)) (keywords a o t) (arrays_wrong several a) (objects_wrong several o))
wrong several a o t =
    rw (
      type_found a o t,
      shapes_faults_under-field_named several (codes "prefixItems") (keywords a o t) ∙ (ap (λ v. unwrap_or (option_map (shapes_faults several) v) []) (first_found a o t) ∙ value_there (shapes_faults several) [] a.has_first (Array a.first)),
      shape_faults_under-field_named several (codes "items") (keywords a o t) ∙ (ap (λ v. unwrap_or (option_map (shape_faults several) v) []) (items_found a o t) ∙ value_there (shape_faults several) [] a.has_items a.items),
      properties_faults_under-field_named several (codes "properties") (keywords a o t) ∙ (ap (λ v. unwrap_or (option_map (properties_faults several) v) []) (properties_found a o t) ∙ value_there (properties_faults several) [] o.has_fields o.properties),
      number_found a o t,
      first_found a o t,
      number_wrong a.has_first a.number a.first,
      ap required_faults (needed_found a o t) ∙ names_wrong o.has_needed o.names,
      ap extra_faults (extra_found a o t) ∙ extra_right o.closed,
    ) refl

-- ---- what is written

-- what is written of arrays, and of objects
abbrev pub for_arrays : Arrays → ForArrays
for_arrays WithoutArrays = record { has_items = false; has_first = false; items = Null; number = 0; first = NoTrees }
for_arrays (ArraysOf first rest) = record { has_items = not (is_any_shape rest); has_first = some_shapes first; items = written_shape rest; number = how_many_shapes first; first = written_shapes first }

abbrev pub for_objects : Objects → ForObjects
for_objects WithoutObjects = record { closed = false; has_fields = false; has_needed = false; properties = Null; names = NoTrees }
for_objects (ObjectsOf shapes extra) = record { closed = not extra; has_fields = some_fields shapes; has_needed = some_names (needed_names shapes); properties = Object (written_fields shapes); names = as_texts (needed_names shapes) }

pub as_keywords : (arrays : Arrays) (objects : Objects) (names : List (List ℕ)) → closed_first (are_closed objects) (with_written_arrays arrays (with_written_objects objects (type_field names))) ≡ keywords (for_arrays arrays) (for_objects objects) (type_written names)
as_keywords WithoutArrays WithoutObjects names = refl
as_keywords WithoutArrays (ObjectsOf shapes extra) names = refl
as_keywords (ArraysOf first rest) WithoutObjects names = refl
as_keywords (ArraysOf first rest) (ObjectsOf shapes extra) names = refl

-- the keywords that there may be, with arrays and with objects or without
abbrev pub keywords_with : Bool → Bool → List (List ℕ)
keywords_with arrays objects =
    codes "type" ∷ ((if arrays then array_keywords else []) ++ ((if objects then object_keywords else []) ++ annotations))

known : (names : List (List ℕ)) (wanted : Bool) (n : List ℕ) (t : Tree) (fs : Fields) → is_among n names ≡ true → foreign_faults Keyword names fs ≡ [] → foreign_faults Keyword names (field_if wanted n t fs) ≡ []
known names true n t fs own further = rw own further
known names false n t fs own further = further

-- the keywords for arrays and those for objects are known where there are arrays and where there are objects
objects_known : (names : List (List ℕ)) (o : ForObjects) (t : Tree) → is_among (codes "type") names ≡ true → is_among (codes "properties") names ≡ true → is_among (codes "required") names ≡ true → foreign_faults Keyword names (object_fields o.has_fields o.has_needed o.properties o.names (AndField (codes "type") t NoFields)) ≡ []
objects_known names o t e p r =
    let last = AndField (codes "type") t NoFields in
    known names o.has_fields (codes "properties") o.properties (field_if o.has_needed (codes "required") (Array o.names) last) p
    (known names o.has_needed (codes "required") (Array o.names) last r (rw e refl))

arrays_known : (names : List (List ℕ)) (a : ForArrays) (fs : Fields) → is_among (codes "items") names ≡ true → is_among (codes "minItems") names ≡ true → is_among (codes "prefixItems") names ≡ true → foreign_faults Keyword names fs ≡ [] → foreign_faults Keyword names (array_fields a.has_items a.has_first a.items a.number (Array a.first) fs) ≡ []
arrays_known names a fs i m p further =
    let places = field_if a.has_first (codes "prefixItems") (Array a.first) fs in
    let number = Integer (pos a.number) in
    known names a.has_items (codes "items") a.items (field_if a.has_first (codes "minItems") number places) i
    (known names a.has_first (codes "minItems") number places m
    (known names a.has_first (codes "prefixItems") (Array a.first) fs p further))

pub none_foreign : (arrays : Arrays) (objects : Objects) (t : Tree) → foreign_faults Keyword (keywords_with (has_arrays arrays) (has_objects objects)) (keywords (for_arrays arrays) (for_objects objects) t) ≡ []
none_foreign WithoutArrays WithoutObjects t = refl
none_foreign (ArraysOf first rest) WithoutObjects t =
    arrays_known (keywords_with true false) (for_arrays (ArraysOf first rest)) (AndField (codes "type") t NoFields) refl refl refl refl
none_foreign WithoutArrays (ObjectsOf shapes extra) t =
    let o = for_objects (ObjectsOf shapes extra) in
    let fs = object_fields o.has_fields o.has_needed o.properties o.names (AndField (codes "type") t NoFields) in
    known (keywords_with false true) (not extra) (codes "additionalProperties") (Boolean false) fs refl
    (objects_known (keywords_with false true) o t refl refl refl)
none_foreign (ArraysOf first rest) (ObjectsOf shapes extra) t =
    let a = for_arrays (ArraysOf first rest) in
    let o = for_objects (ObjectsOf shapes extra) in
    let fs = object_fields o.has_fields o.has_needed o.properties o.names (AndField (codes "type") t NoFields) in
    known (keywords_with true true) (not extra) (codes "additionalProperties") (Boolean false) (array_fields a.has_items a.has_first a.items a.number (Array a.first) fs) refl
    (arrays_known (keywords_with true true) a fs refl refl refl (objects_known (keywords_with true true) o t refl refl refl))
