-- A spelling with references, and the same with the listed trees in their places: it spells the same shape, and has the same
-- faults.
use Rattle.std.proofs.Common.{◌≡◌, ℕ, zero, suc, pos, negsuc, map, slice_get, List, [], ◌∷◌, ◌++◌, Bool, true, false, ◌||◌, Option, Some, None, is_some, not, unwrap_or, option_map, if◌then◌else◌, bytes_eq, codes, refl, sym, ap, ap₂, ◌∙◌, subst, true≢false, arith, ◌⊎◌, inl, inr}
use Rattle.std.proofs.lemmas.List.Elements.{Contains-append_cases}
use Rattle.std.specs.Prelude.{option_to_list}
use Rattle.std.specs.List.{Contains}
use Rattle.std.proofs.lemmas.List.{map-append}
use Rattle.std.proofs.lemmas.Slice.Eq.{bytes_eq-Decides}
use Rattle.asl_model.specs.References.{reference_among, meant_by, Held, OneShape, SeveralShapes, NamedShapes, NoShape, held_under, replaced, means_none, has_wrong_number, number_wrong_under, an_element_has_wrong_number, one_has_wrong_number, a_value_has_wrong_number, a_field_has_wrong_number, spelled_out, keywords_spelled_out, list_spelled_out, each_spelled_out, object_spelled_out, values_spelled_out}
use Rattle.asl_model.specs.ShapeSpelling.{ShapeFault, Keyword, BadType, annotations, keywords_of, types_in, type_faults, simple_named, keyword_faults, faults_if, faults_first, typed_faults, foreign_faults, is_among, element_count, shape_of, shape_faults, element_shapes, element_faults, field_shapes, field_faults, with_all_needed}
use Rattle.asl_model.specs.Shape.{Shape, OfKinds, Arrays, ArraysOf, Objects, ObjectsOf, Shapes, AndShape, FieldShapes, AndFieldShape}
use Rattle.asl_model.specs.Tree.{Tree, Null, Boolean, Integer, Text, Array, Object, Trees, NoTrees, AndTree, Fields, NoFields, AndField, field_named, count}
use Rattle.asl_shape.specs.Level.{Level, Whole, OfTypes, ListLevel, ObjectLevel, level_of, level_faults, typed_level, only_if, array_level, object_level, array_level_faults, object_level_faults, elements_in, fields_in, list_faults, object_faults, SpelledOver, arrays_over, objects_over, shape_over, list_inner_faults, object_inner_faults, inner_faults, rest_shape, rest_faults}
use Rattle.asl_shape.specs.Refusal.{SpellsAs}
use Rattle.asl_shape.specs.Types.{keywords_for}
use Rattle.asl_numbered.specs.References.{HasFault, HasWrongNumber, StandsIn, is_itself, stands_inside, list_inside, object_inside, inside, each_of, values_of, referred, SpellsWith, by_reference, by_level, SpellsOver, with_none_inside, with_kinds, SpellsArrays, without_arrays, with_elements, SpellsObjects, without_objects, with_properties, SpellEach, no_element, and_element, SpellsRest, no_rest, some_rest as rest_spelled, SpellFields, no_field, and_field}
use Rattle.asl_shape.proofs.Wholes.{over, both_none, level_within, typed_names}
use Rattle.asl_numbered.proofs.Plain.{inner_fault}

-- what a level says of arrays, and of objects, with the listed trees
abbrev pub list_level_out : List Tree → ListLevel → ListLevel
list_level_out listed list =
    record { first = each_spelled_out listed list.first; rest = option_map (spelled_out listed) list.rest }

abbrev pub object_level_out : List Tree → ObjectLevel → ObjectLevel
object_level_out listed object =
    record { properties = values_spelled_out listed object.properties; names = object.names; extra = object.extra }

-- the spellings inside a level, with the listed trees
abbrev pub level_spelled_out : List Tree → Level → Level
level_spelled_out listed (Whole s) = Whole s
level_spelled_out listed (OfTypes simple list object) =
    OfTypes simple (option_map (list_level_out listed) list) (option_map (object_level_out listed) object)

-- what a keyword has, with the listed trees
abbrev pub keyword_spelled_out : List Tree → Held → Tree → Tree
keyword_spelled_out listed OneShape t = spelled_out listed t
keyword_spelled_out listed SeveralShapes t = list_spelled_out listed t
keyword_spelled_out listed NamedShapes t = object_spelled_out listed t
keyword_spelled_out listed NoShape t = t

keyword_elim : (listed : List Tree) (k : Held) (t : Tree) → (elim k [ OneShape ↦ spelled_out listed t | SeveralShapes ↦ list_spelled_out listed t | NamedShapes ↦ object_spelled_out listed t | NoShape ↦ t ]) ≡ keyword_spelled_out listed k t
keyword_elim listed OneShape t = refl
keyword_elim listed SeveralShapes t = refl
keyword_elim listed NamedShapes t = refl
keyword_elim listed NoShape t = refl

-- ---- what stands under a keyword

module _ (listed : List Tree) where
  -- what a keyword of that name has is spelled out as that keyword says
  under : (n : List ℕ) (fs : Fields) → field_named n (keywords_spelled_out listed fs) ≡ option_map (keyword_spelled_out listed (held_under n)) (field_named n fs)
  under n NoFields = refl
  under n (AndField m t fs) = rw (keyword_elim listed (held_under m) t) (go (bytes_eq m n) refl (under n fs))
    where
      go : (b : Bool) → bytes_eq m n ≡ b → field_named n (keywords_spelled_out listed fs) ≡ option_map (keyword_spelled_out listed (held_under n)) (field_named n fs) → (if b then Some (keyword_spelled_out listed (held_under m) t) else field_named n (keywords_spelled_out listed fs)) ≡ option_map (keyword_spelled_out listed (held_under n)) (if b then Some t else field_named n fs)
      go true is further = ap (λ k. Some (keyword_spelled_out listed (held_under k) t)) ((bytes_eq-Decides m n).0 is)
      go false is further = further

  same : (o : Option Tree) → option_map (keyword_spelled_out listed NoShape) o ≡ o
  same None = refl
  same (Some t) = refl

  elements_after : (o : Option Tree) → elements_in (option_map (list_spelled_out listed) o) ≡ each_spelled_out listed (elements_in o)
  elements_after None = refl
  elements_after (Some Null) = refl
  elements_after (Some (Boolean b)) = refl
  elements_after (Some (Integer n)) = refl
  elements_after (Some (Text s)) = refl
  elements_after (Some (Array ts)) = refl
  elements_after (Some (Object fs)) = refl

  list_faults_after : (o : Option Tree) → list_faults (option_map (list_spelled_out listed) o) ≡ list_faults o
  list_faults_after None = refl
  list_faults_after (Some Null) = refl
  list_faults_after (Some (Boolean b)) = refl
  list_faults_after (Some (Integer n)) = refl
  list_faults_after (Some (Text s)) = refl
  list_faults_after (Some (Array ts)) = refl
  list_faults_after (Some (Object fs)) = refl

  each_counted : (ts : Trees) → count (each_spelled_out listed ts) ≡ count ts
  each_counted NoTrees = refl
  each_counted (AndTree t ts) = rw (each_counted ts) refl

  count_after : (o : Option Tree) → element_count (option_map (list_spelled_out listed) o) ≡ element_count o
  count_after None = refl
  count_after (Some Null) = refl
  count_after (Some (Boolean b)) = refl
  count_after (Some (Integer n)) = refl
  count_after (Some (Text s)) = refl
  count_after (Some (Array ts)) = each_counted ts
  count_after (Some (Object fs)) = refl

  fields_after : (o : Option Tree) → fields_in (option_map (object_spelled_out listed) o) ≡ values_spelled_out listed (fields_in o)
  fields_after None = refl
  fields_after (Some Null) = refl
  fields_after (Some (Boolean b)) = refl
  fields_after (Some (Integer n)) = refl
  fields_after (Some (Text s)) = refl
  fields_after (Some (Array ts)) = refl
  fields_after (Some (Object fs)) = refl

  object_faults_after : (o : Option Tree) → object_faults (option_map (object_spelled_out listed) o) ≡ object_faults o
  object_faults_after None = refl
  object_faults_after (Some Null) = refl
  object_faults_after (Some (Boolean b)) = refl
  object_faults_after (Some (Integer n)) = refl
  object_faults_after (Some (Text s)) = refl
  object_faults_after (Some (Array ts)) = refl
  object_faults_after (Some (Object fs)) = refl

  -- names stay
  foreign_after : (fault : ShapeFault) (keywords : List (List ℕ)) (fs : Fields) → foreign_faults fault keywords (keywords_spelled_out listed fs) ≡ foreign_faults fault keywords fs
  foreign_after fault keywords NoFields = refl
  foreign_after fault keywords (AndField n t fs) = go (is_among n keywords) (foreign_after fault keywords fs)
    where
      go : (b : Bool) → foreign_faults fault keywords (keywords_spelled_out listed fs) ≡ foreign_faults fault keywords fs → (if b then foreign_faults fault keywords (keywords_spelled_out listed fs) else fault ∷ foreign_faults fault keywords (keywords_spelled_out listed fs)) ≡ (if b then foreign_faults fault keywords fs else fault ∷ foreign_faults fault keywords fs)
      go true further = further
      go false further = ap (λ xs. fault ∷ xs) further

  -- a keyword that has no spellings
  other : (n : List ℕ) (fs : Fields) → held_under n ≡ NoShape → field_named n (keywords_spelled_out listed fs) ≡ field_named n fs
  other n fs is = under n fs ∙ (ap (λ k. option_map (keyword_spelled_out listed k) (field_named n fs)) is ∙ same (field_named n fs))

  -- ---- the level

  type_after : (fs : Fields) → field_named (codes "type") (keywords_spelled_out listed fs) ≡ field_named (codes "type") fs
  type_after fs = other (codes "type") fs refl

  array_after : (fs : Fields) → array_level (keywords_spelled_out listed fs) ≡ list_level_out listed (array_level fs)
  array_after fs = rw (under (codes "prefixItems") fs, under (codes "items") fs, elements_after (field_named (codes "prefixItems") fs)) refl

  object_after : (fs : Fields) → object_level (keywords_spelled_out listed fs) ≡ object_level_out listed (object_level fs)
  object_after fs = rw (under (codes "properties") fs, other (codes "required") fs refl, other (codes "additionalProperties") fs refl, fields_after (field_named (codes "properties") fs)) refl

  list_when : (wanted : Bool) (fs : Fields) → only_if wanted (array_level (keywords_spelled_out listed fs)) ≡ option_map (list_level_out listed) (only_if wanted (array_level fs))
  list_when true fs = ap Some (array_after fs)
  list_when false fs = refl

  object_when : (wanted : Bool) (fs : Fields) → only_if wanted (object_level (keywords_spelled_out listed fs)) ≡ option_map (object_level_out listed) (only_if wanted (object_level fs))
  object_when true fs = ap Some (object_after fs)
  object_when false fs = refl

  typed_after : (names : List (List ℕ)) (fs : Fields) → typed_level names (keywords_spelled_out listed fs) ≡ level_spelled_out listed (typed_level names fs)
  typed_after [] fs = refl
  typed_after (n ∷ names) fs =
      ap₂ (OfTypes (simple_named (n ∷ names))) (list_when (is_among (codes "array") (n ∷ names)) fs) (object_when (is_among (codes "object") (n ∷ names)) fs)

  array_faults_after : (fs : Fields) → array_level_faults (keywords_spelled_out listed fs) ≡ array_level_faults fs
  array_faults_after fs = let o = field_named (codes "prefixItems") fs in rw (under (codes "prefixItems") fs, other (codes "minItems") fs refl, list_faults_after o, count_after o) refl

  object_faults_level : (fs : Fields) → object_level_faults (keywords_spelled_out listed fs) ≡ object_level_faults fs
  object_faults_level fs = rw (under (codes "properties") fs, other (codes "required") fs refl, other (codes "additionalProperties") fs refl, object_faults_after (field_named (codes "properties") fs)) refl

  keyword_faults_after : (names : List (List ℕ)) (fs : Fields) → keyword_faults names (keywords_spelled_out listed fs) (array_level_faults (keywords_spelled_out listed fs)) (object_level_faults (keywords_spelled_out listed fs)) ≡ keyword_faults names fs (array_level_faults fs) (object_level_faults fs)
  keyword_faults_after names fs =
      ap (λ xs. keyword_faults names (keywords_spelled_out listed fs) xs (object_level_faults (keywords_spelled_out listed fs))) (array_faults_after fs)
      ∙ ap (keyword_faults names (keywords_spelled_out listed fs) (array_level_faults fs)) (object_faults_level fs)
      ∙ ap (λ xs. xs ++ (faults_if (codes "array") names (array_level_faults fs) ++ faults_if (codes "object") names (object_level_faults fs))) (foreign_after Keyword (keywords_of names) fs)

  typed_faults_after : (several : Bool) (o : Option Tree) (fs : Fields) → typed_faults several o (keywords_spelled_out listed fs) (array_level_faults (keywords_spelled_out listed fs)) (object_level_faults (keywords_spelled_out listed fs)) ≡ typed_faults several o fs (array_level_faults fs) (object_level_faults fs)
  typed_faults_after several None fs = foreign_after BadType annotations fs
  typed_faults_after several (Some t) fs = ap (faults_first (type_faults several t)) (keyword_faults_after (types_in (Some t)) fs)

  -- an object that is no reference
  keywords_level : (fs : Fields) → level_of (Object (keywords_spelled_out listed fs)) ≡ level_spelled_out listed (level_of (Object fs))
  keywords_level fs = ap (λ o. typed_level (types_in o) (keywords_spelled_out listed fs)) (type_after fs) ∙ typed_after (types_in (field_named (codes "type") fs)) fs

  keywords_faults : (several : Bool) (fs : Fields) → level_faults several (Object (keywords_spelled_out listed fs)) ≡ level_faults several (Object fs)
  keywords_faults several fs = ap (λ o. typed_faults several o (keywords_spelled_out listed fs) (array_level_faults (keywords_spelled_out listed fs)) (object_level_faults (keywords_spelled_out listed fs))) (type_after fs) ∙ typed_faults_after several (field_named (codes "type") fs) fs

-- ---- no reference

-- a spelling that says a level is no reference: the keyword `shape` stands beside no type
shape_alone : (several : Bool) (n : List ℕ) (t : Tree) (level : Level) → bytes_eq n (codes "shape") ≡ true → SpelledOver several (Object (AndField n t NoFields)) level → ⊥
shape_alone several n t level is said = wrong (subst (λ m. level_faults several (Object (AndField m t NoFields)) ≡ []) ((bytes_eq-Decides n (codes "shape")).0 is) said.none_wrong)
  where
    wrong : level_faults several (Object (AndField (codes "shape") t NoFields)) ≡ [] → ⊥
    wrong h = cc

pub no_reference : (several : Bool) (fs : Fields) (level : Level) → SpelledOver several (Object fs) level → reference_among fs ≡ None
no_reference several NoFields level said = refl
no_reference several (AndField n t NoFields) level said = go (bytes_eq n (codes "shape")) refl
  where
    go : (b : Bool) → bytes_eq n (codes "shape") ≡ b → (if b then Some t else None) ≡ None
    go true is = absurd (shape_alone several n t level is said)
    go false is = refl
no_reference several (AndField n t (AndField m u fs)) level said = refl

-- the level of a spelling that says one, with the listed trees
pub said_after : (several : Bool) (listed : List Tree) (t : Tree) (level : Level) → SpelledOver several t level → SpelledOver several (spelled_out listed t) (level_spelled_out listed level)
said_after several listed Null level said = over several Null (level_spelled_out listed level) (ap (level_spelled_out listed) said.same) said.none_wrong
said_after several listed (Boolean b) level said = over several (Boolean b) (level_spelled_out listed level) (ap (level_spelled_out listed) said.same) said.none_wrong
said_after several listed (Integer n) level said = over several (Integer n) (level_spelled_out listed level) (ap (level_spelled_out listed) said.same) said.none_wrong
said_after several listed (Text s) level said = over several (Text s) (level_spelled_out listed level) (ap (level_spelled_out listed) said.same) said.none_wrong
said_after several listed (Array ts) level said = over several (Array ts) (level_spelled_out listed level) (ap (level_spelled_out listed) said.same) said.none_wrong
said_after several listed (Object fs) level said =
    let out = Object (keywords_spelled_out listed fs) in
    subst (λ o. SpelledOver several (replaced listed o out) (level_spelled_out listed level)) (sym (no_reference several fs level said))
    (over several out (level_spelled_out listed level) (keywords_level listed fs ∙ ap (level_spelled_out listed) said.same) (keywords_faults listed several fs ∙ said.none_wrong))

-- ---- what is spelled

-- each listed tree spells the shape that is given in its place
pub record AreSpelledIn (several : Bool) (listed : List Tree) (given : List Shape) : Type 0 where
  pub shapes : map shape_of listed ≡ given
  pub right : (i : ℕ) (t : Tree) → slice_get listed i ≡ Some t → shape_faults several t ≡ []

got : (listed : List Tree) (i : ℕ) (s : Shape) → slice_get (map shape_of listed) i ≡ Some s → (u : Tree) × (slice_get listed i ≡ Some u) × (shape_of u ≡ s)
got [] i s h = absurd (cc)
got (t ∷ listed) zero s h = (t, refl, cc)
got (t ∷ listed) (suc i) s h = got listed i s h

meant : (several : Bool) (listed : List Tree) (given : List Shape) (n : Tree) (s : Shape) → AreSpelledIn several listed given → meant_by given n ≡ Some s → (u : Tree) × (meant_by listed n ≡ Some u) × SpellsAs several u s
meant several listed given Null s are h = absurd (cc)
meant several listed given (Boolean b) s are h = absurd (cc)
meant several listed given (Integer (pos i)) s are h =
    let found = got listed i s (ap (λ gs. slice_get gs i) are.shapes ∙ h) in
    (found.0, found.1, record { none_wrong = are.right i found.0 found.1; same = found.2 })
meant several listed given (Integer (negsuc i)) s are h = absurd (cc)
meant several listed given (Text t) s are h = absurd (cc)
meant several listed given (Array ts) s are h = absurd (cc)
meant several listed given (Object fs) s are h = absurd (cc)

-- ---- wrong numbers, by level

-- what the keyword holds has a wrong number
abbrev held_wrong : List Tree → Held → Tree → Bool
held_wrong listed OneShape t = has_wrong_number listed t
held_wrong listed SeveralShapes t = an_element_has_wrong_number listed t
held_wrong listed NamedShapes t = a_value_has_wrong_number listed t
held_wrong listed NoShape t = false

-- where something stands there
abbrev wrong_there : List Tree → Held → Option Tree → Bool
wrong_there listed held None = false
wrong_there listed held (Some t) = held_wrong listed held t

-- a spelling inside what a level says of arrays has one
abbrev list_wrong : List Tree → Option ListLevel → Bool
list_wrong listed None = false
list_wrong listed (Some list) = wrong_there listed OneShape list.rest || one_has_wrong_number listed list.first

-- inside what it says of objects
abbrev object_wrong : List Tree → Option ObjectLevel → Bool
object_wrong listed None = false
object_wrong listed (Some object) = a_field_has_wrong_number listed object.properties

-- a spelling inside the level has one
abbrev pub wrong_inside : List Tree → Level → Bool
wrong_inside listed (Whole s) = false
wrong_inside listed (OfTypes simple list object) = list_wrong listed list || object_wrong listed object

module _ (listed : List Tree) where
  held_elim : (held : Held) (t : Tree) → (elim held [ OneShape ↦ has_wrong_number listed t | SeveralShapes ↦ an_element_has_wrong_number listed t | NamedShapes ↦ a_value_has_wrong_number listed t | NoShape ↦ false ]) ≡ held_wrong listed held t
  held_elim OneShape t = refl
  held_elim SeveralShapes t = refl
  held_elim NamedShapes t = refl
  held_elim NoShape t = refl

  wrong_under : (n : List ℕ) (fs : Fields) → number_wrong_under listed n fs ≡ wrong_there listed (held_under n) (field_named n fs)
  wrong_under n NoFields = refl
  wrong_under n (AndField m t fs) = go (bytes_eq m n) (held_under n) (wrong_under n fs)
    where
      go : (b : Bool) (held : Held) → number_wrong_under listed n fs ≡ wrong_there listed held (field_named n fs) → (elim b [ true ↦ elim held [ OneShape ↦ has_wrong_number listed t | SeveralShapes ↦ an_element_has_wrong_number listed t | NamedShapes ↦ a_value_has_wrong_number listed t | NoShape ↦ false ] | false ↦ number_wrong_under listed n fs ]) ≡ wrong_there listed held (if b then Some t else field_named n fs)
      go true held further = held_elim held t
      go false held further = further

  elements_wrong : (o : Option Tree) → wrong_there listed SeveralShapes o ≡ one_has_wrong_number listed (elements_in o)
  elements_wrong None = refl
  elements_wrong (Some Null) = refl
  elements_wrong (Some (Boolean b)) = refl
  elements_wrong (Some (Integer n)) = refl
  elements_wrong (Some (Text s)) = refl
  elements_wrong (Some (Array ts)) = refl
  elements_wrong (Some (Object fs)) = refl

  values_wrong : (o : Option Tree) → wrong_there listed NamedShapes o ≡ a_field_has_wrong_number listed (fields_in o)
  values_wrong None = refl
  values_wrong (Some Null) = refl
  values_wrong (Some (Boolean b)) = refl
  values_wrong (Some (Integer n)) = refl
  values_wrong (Some (Text s)) = refl
  values_wrong (Some (Array ts)) = refl
  values_wrong (Some (Object fs)) = refl

-- a field of another name than those isn't there where no field is foreign to them
absent : (fault : ShapeFault) (keywords : List (List ℕ)) (n : List ℕ) (fs : Fields) → is_among n keywords ≡ false → foreign_faults fault keywords fs ≡ [] → field_named n fs ≡ None
absent fault keywords n NoFields other none = refl
absent fault keywords n (AndField m t fs) other none = go (is_among m keywords) refl none (bytes_eq m n) refl (absent fault keywords n fs other)
  where
    go : (b : Bool) → is_among m keywords ≡ b → (if b then foreign_faults fault keywords fs else fault ∷ foreign_faults fault keywords fs) ≡ [] → (c : Bool) → bytes_eq m n ≡ c → (foreign_faults fault keywords fs ≡ [] → field_named n fs ≡ None) → (if c then Some t else field_named n fs) ≡ None
    go true known none true is further = absurd (true≢false (sym known ∙ (ap (λ k. is_among k keywords) ((bytes_eq-Decides m n).0 is) ∙ other)))
    go true known none false is further = further none
    go false known none c is further = absurd (cc)

no_more : (xs ys : List ShapeFault) → xs ++ ys ≡ [] → xs ≡ []
no_more [] ys e = refl
no_more (x ∷ xs) ys e = absurd (cc)

contained_map : (f : Tree → Tree) (xs : List Tree) (x : Tree) → Contains xs x → Contains (map f xs) (f x)
contained_map f [] x (k, h, e) = absurd (omega (arith, h))
contained_map f (y ∷ ys) x (zero, h, e) = (zero, omega (arith), ap f e)
contained_map f (y ∷ ys) x (suc k, h, e) = let further = contained_map f ys x (k, omega (arith, h), e) in (suc further.0, omega (arith, further.1), further.2)

or_right : (b : Bool) → (b || true) ≡ true
or_right true = refl
or_right false = refl

first_none : (xs ys : List ShapeFault) → faults_first xs ys ≡ [] → (xs ≡ []) × (ys ≡ [])
first_none [] ys none = (refl, none)
first_none (x ∷ xs) ys none = absurd (cc)

or_moved : (a b c : Bool) → (a || (b || c)) ≡ ((a || b) || c)
or_moved true b c = refl
or_moved false b c = refl

module _ (listed : List Tree) (fs : Fields) where
  abbrev keywords_wrong : Bool
  keywords_wrong = number_wrong_under listed (codes "items") fs || (number_wrong_under listed (codes "prefixItems") fs || number_wrong_under listed (codes "properties") fs)

  absent_under : (n : List ℕ) → field_named n fs ≡ None → number_wrong_under listed n fs ≡ false
  absent_under n none = wrong_under listed n fs ∙ ap (wrong_there listed (held_under n)) none

  none_there : field_named (codes "items") fs ≡ None → field_named (codes "prefixItems") fs ≡ None → field_named (codes "properties") fs ≡ None → keywords_wrong ≡ false
  none_there items prefix properties = rw (absent_under (codes "items") items, absent_under (codes "prefixItems") prefix, absent_under (codes "properties") properties) refl

  none_foreign : (fault : ShapeFault) (keywords : List (List ℕ)) → is_among (codes "items") keywords ≡ false → is_among (codes "prefixItems") keywords ≡ false → is_among (codes "properties") keywords ≡ false → foreign_faults fault keywords fs ≡ [] → keywords_wrong ≡ false
  none_foreign fault keywords items prefix properties none = none_there (absent fault keywords (codes "items") fs items none) (absent fault keywords (codes "prefixItems") fs prefix none) (absent fault keywords (codes "properties") fs properties none)

  absent_keyword : (array object : Bool) (n : List ℕ) → is_among n (keywords_for array object) ≡ false → foreign_faults Keyword (keywords_for array object) fs ≡ [] → number_wrong_under listed n fs ≡ false
  absent_keyword array object n other none = absent_under n (absent Keyword (keywords_for array object) n fs other none)

  items_wrong : number_wrong_under listed (codes "items") fs ≡ wrong_there listed OneShape (field_named (codes "items") fs)
  items_wrong = wrong_under listed (codes "items") fs

  prefix_wrong : number_wrong_under listed (codes "prefixItems") fs ≡ one_has_wrong_number listed (elements_in (field_named (codes "prefixItems") fs))
  prefix_wrong = wrong_under listed (codes "prefixItems") fs ∙ elements_wrong listed (field_named (codes "prefixItems") fs)

  properties_wrong : number_wrong_under listed (codes "properties") fs ≡ a_field_has_wrong_number listed (fields_in (field_named (codes "properties") fs))
  properties_wrong = wrong_under listed (codes "properties") fs ∙ values_wrong listed (field_named (codes "properties") fs)

  kinds_wrong : (array object : Bool) → foreign_faults Keyword (keywords_for array object) fs ≡ [] → keywords_wrong ≡ (list_wrong listed (only_if array (array_level fs)) || object_wrong listed (only_if object (object_level fs)))
  kinds_wrong true true none =
      let items = wrong_there listed OneShape (field_named (codes "items") fs) in
      let prefix = one_has_wrong_number listed (elements_in (field_named (codes "prefixItems") fs)) in
      rw (items_wrong, prefix_wrong, properties_wrong) (or_moved items prefix (a_field_has_wrong_number listed (fields_in (field_named (codes "properties") fs))))
  kinds_wrong true false none =
      let items = wrong_there listed OneShape (field_named (codes "items") fs) in
      let prefix = one_has_wrong_number listed (elements_in (field_named (codes "prefixItems") fs)) in
      rw (items_wrong, prefix_wrong, absent_keyword true false (codes "properties") refl none) (or_moved items prefix false)
  kinds_wrong false true none = rw (absent_keyword false true (codes "items") refl none, absent_keyword false true (codes "prefixItems") refl none) properties_wrong
  kinds_wrong false false none = rw (absent_keyword false false (codes "items") refl none, absent_keyword false false (codes "prefixItems") refl none, absent_keyword false false (codes "properties") refl none) refl

  typed_wrong : (several : Bool) (o : Option Tree) → typed_faults several o fs (array_level_faults fs) (object_level_faults fs) ≡ [] → keywords_wrong ≡ wrong_inside listed (typed_level (types_in o) fs)
  typed_wrong several None none = none_foreign BadType annotations refl refl refl none
  typed_wrong several (Some t) none =
      let names = types_in (Some t) in
      let both = first_none (type_faults several t) (keyword_faults names fs (array_level_faults fs) (object_level_faults fs)) none in
      let known = no_more (foreign_faults Keyword (keywords_of names) fs) (faults_if (codes "array") names (array_level_faults fs) ++ faults_if (codes "object") names (object_level_faults fs)) both.1 in
      kinds_wrong (is_among (codes "array") names) (is_among (codes "object") names) known ∙ ap (wrong_inside listed) (sym (typed_names several t fs both.0))

-- where a spelling says a level, its numbers are wrong where those inside the level are
pub wrong_by_level : (several : Bool) (listed : List Tree) (t : Tree) (level : Level) → SpelledOver several t level → has_wrong_number listed t ≡ wrong_inside listed level
wrong_by_level several listed Null level said = ap (wrong_inside listed) said.same
wrong_by_level several listed (Boolean b) level said = ap (wrong_inside listed) said.same
wrong_by_level several listed (Integer n) level said = ap (wrong_inside listed) said.same
wrong_by_level several listed (Text s) level said = ap (wrong_inside listed) said.same
wrong_by_level several listed (Array ts) level said = ap (wrong_inside listed) said.same
wrong_by_level several listed (Object fs) level said =
    rw (no_reference several fs level said) (typed_wrong listed fs several (field_named (codes "type") fs) said.none_wrong ∙ ap (wrong_inside listed) said.same)

-- ---- what a spelling with references spells

-- a reference is an object of the one field `shape`
shape_only : (fs : Fields) (n : Tree) → reference_among fs ≡ Some n → fs ≡ AndField (codes "shape") n NoFields
shape_only NoFields n is = absurd (cc)
shape_only (AndField m t NoFields) n is = go (bytes_eq m (codes "shape")) refl is
  where
    go : (b : Bool) → bytes_eq m (codes "shape") ≡ b → (if b then Some t else None) ≡ Some n → AndField m t NoFields ≡ AndField (codes "shape") n NoFields
    go true same there = ap₂ (λ k u. AndField k u NoFields) ((bytes_eq-Decides m (codes "shape")).0 same) (cc)
    go false same there = absurd (cc)
shape_only (AndField m t (AndField k u fs)) n is = absurd (cc)

-- the spelling with the listed trees in place spells the shape, and each number in it is right
pub record SpellsOut (several : Bool) (listed : List Tree) (t : Tree) (s : Shape) : Type 0 where
  pub spells : SpellsAs several (spelled_out listed t) s
  pub right : has_wrong_number listed t ≡ false

module _ (several : Bool) (listed : List Tree) (given : List Shape) (are : AreSpelledIn several listed given) where
  reference_out : (fs : Fields) (s : Shape) (o : Option Tree) → reference_among fs ≡ o → option_map (meant_by given) o ≡ Some (Some s) → SpellsOut several listed (Object fs) s
  reference_out fs s None is h = absurd (cc)
  reference_out fs s (Some n) is h =
      let found = meant several listed given n s are (cc) in
      let whole = shape_only fs n is in
      record {
        spells = subst (λ o. SpellsAs several (replaced listed o (Object (keywords_spelled_out listed fs))) s) (sym is) (subst (λ u. SpellsAs several (unwrap_or u (Boolean true)) s) (sym found.1) found.2);
        right = rw whole (ap (λ u. not (is_some u) || false) found.1);
      }

  mutual
    pub spells_out : {t : Tree} {s : Shape} → SpellsWith several (Some given) t s → SpellsOut several listed t s
    spells_out (by_reference {t = Null} h) = absurd (cc)
    spells_out (by_reference {t = Boolean b} h) = absurd (cc)
    spells_out (by_reference {t = Integer n} h) = absurd (cc)
    spells_out (by_reference {t = Text s} h) = absurd (cc)
    spells_out (by_reference {t = Array ts} h) = absurd (cc)
    spells_out (by_reference {t = Object fs} {s = s} h) = reference_out fs s (reference_among fs) refl h
    spells_out (by_level {t = t} {level = level} said inner) =
        let p = level_out inner in
        let after = said_after several listed t level said in
        record {
          spells = record { none_wrong = after.faults ∙ p.1; same = after.shape ∙ p.0 };
          right = wrong_by_level several listed t level said ∙ p.2;
        }

    level_out : {level : Level} {s : Shape} → SpellsOver several (Some given) level s → (shape_over (level_spelled_out listed level) ≡ s) × (inner_faults several (level_spelled_out listed level) ≡ []) × (wrong_inside listed level ≡ false)
    level_out with_none_inside = (refl, refl, refl)
    level_out (with_kinds {simple = simple} {list = list} {object = object} {arrays = arrays} h r) =
        let p = arrays_out h in
        let q = objects_out r in
        let first = option_map (list_level_out listed) list in
        let second = option_map (object_level_out listed) object in (
          ap (λ a. OfKinds simple a (objects_over second)) p.0 ∙ ap (OfKinds simple arrays) q.0,
          both_none (list_inner_faults several first) (object_inner_faults several second) p.1 q.1,
          ap (λ b. b || object_wrong listed object) p.2 ∙ q.2,
        )

    arrays_out : {list : Option ListLevel} {arrays : Arrays} → SpellsArrays several (Some given) list arrays → (arrays_over (option_map (list_level_out listed) list) ≡ arrays) × (list_inner_faults several (option_map (list_level_out listed) list) ≡ []) × (list_wrong listed list ≡ false)
    arrays_out without_arrays = (refl, refl, refl)
    arrays_out (with_elements {list = list} {places = places} h r) =
        let p = each_out h in
        let q = rest_out r in
        let rest = option_map (spelled_out listed) list.rest in (
          ap (λ ss. ArraysOf ss (rest_shape rest)) p.0 ∙ ap (ArraysOf places) q.0,
          both_none (element_faults several (each_spelled_out listed list.first)) (rest_faults several rest) p.1 q.1,
          ap (λ b. b || one_has_wrong_number listed list.first) q.2 ∙ p.2,
        )

    objects_out : {object : Option ObjectLevel} {objects : Objects} → SpellsObjects several (Some given) object objects → (objects_over (option_map (object_level_out listed) object) ≡ objects) × (object_inner_faults several (option_map (object_level_out listed) object) ≡ []) × (object_wrong listed object ≡ false)
    objects_out without_objects = (refl, refl, refl)
    objects_out (with_properties {object = object} h) =
        let p = fields_out h in
        (ap (λ ms. ObjectsOf (with_all_needed object.extra object.names ms) object.extra) p.0, p.1, p.2)

    each_out : {ts : Trees} {ss : Shapes} → SpellEach several (Some given) ts ss → (element_shapes (each_spelled_out listed ts) ≡ ss) × (element_faults several (each_spelled_out listed ts) ≡ []) × (one_has_wrong_number listed ts ≡ false)
    each_out no_element = (refl, refl, refl)
    each_out (and_element {t = t} {s = s} {ts = ts} {others = others} h further) =
        let own = spells_out h in
        let p = each_out further in (
          ap (λ x. AndShape x (element_shapes (each_spelled_out listed ts))) own.spells.same ∙ ap (AndShape s) p.0,
          both_none (shape_faults several (spelled_out listed t)) (element_faults several (each_spelled_out listed ts)) own.spells.none_wrong p.1,
          ap (λ b. b || one_has_wrong_number listed ts) own.right ∙ p.2,
        )

    rest_out : {rest : Option Tree} {s : Shape} → SpellsRest several (Some given) rest s → (rest_shape (option_map (spelled_out listed) rest) ≡ s) × (rest_faults several (option_map (spelled_out listed) rest) ≡ []) × (wrong_there listed OneShape rest ≡ false)
    rest_out no_rest = (refl, refl, refl)
    rest_out (rest_spelled h) = let own = spells_out h in (own.spells.same, own.spells.none_wrong, own.right)

    fields_out : {fs : Fields} {ss : FieldShapes} → SpellFields several (Some given) fs ss → (field_shapes (values_spelled_out listed fs) ≡ ss) × (field_faults several (values_spelled_out listed fs) ≡ []) × (a_field_has_wrong_number listed fs ≡ false)
    fields_out no_field = (refl, refl, refl)
    fields_out (and_field {n = n} {t = t} {s = s} {fs = fs} {shapes = shapes} h further) =
        let own = spells_out h in
        let p = fields_out further in (
          ap (λ x. AndFieldShape n false x (field_shapes (values_spelled_out listed fs))) own.spells.same ∙ ap (AndFieldShape n false s) p.0,
          both_none (shape_faults several (spelled_out listed t)) (field_faults several (values_spelled_out listed fs)) own.spells.none_wrong p.1,
          ap (λ b. b || a_field_has_wrong_number listed fs) own.right ∙ p.2,
        )

  -- ---- what is wrong with one

  each_mapped : (ts : Trees) → each_of (each_spelled_out listed ts) ≡ map (spelled_out listed) (each_of ts)
  each_mapped NoTrees = refl
  each_mapped (AndTree t ts) = ap (λ us. spelled_out listed t ∷ us) (each_mapped ts)

  values_mapped : (fs : Fields) → values_of (values_spelled_out listed fs) ≡ map (spelled_out listed) (values_of fs)
  values_mapped NoFields = refl
  values_mapped (AndField n t fs) = ap (λ us. spelled_out listed t ∷ us) (values_mapped fs)

  rest_mapped : (rest : Option Tree) → option_to_list (option_map (spelled_out listed) rest) ≡ map (spelled_out listed) (option_to_list rest)
  rest_mapped None = refl
  rest_mapped (Some t) = refl

  list_mapped : (list : Option ListLevel) → list_inside (option_map (list_level_out listed) list) ≡ map (spelled_out listed) (list_inside list)
  list_mapped None = refl
  list_mapped (Some list) = rw (each_mapped list.first, rest_mapped list.rest) (sym (map-append (spelled_out listed) (each_of list.first) (option_to_list list.rest)))

  object_mapped : (object : Option ObjectLevel) → object_inside (option_map (object_level_out listed) object) ≡ map (spelled_out listed) (object_inside object)
  object_mapped None = refl
  object_mapped (Some object) = values_mapped object.properties

  inside_mapped : (level : Level) → inside (level_spelled_out listed level) ≡ map (spelled_out listed) (inside level)
  inside_mapped (Whole s) = refl
  inside_mapped (OfTypes simple list object) = rw (list_mapped list, object_mapped object) (sym (map-append (spelled_out listed) (list_inside list) (object_inside object)))

  part_out : (level : Level) (part : Tree) → Contains (inside level) part → Contains (inside (level_spelled_out listed level)) (spelled_out listed part)
  part_out level part there = subst (λ ts. Contains ts (spelled_out listed part)) (sym (inside_mapped level)) (contained_map (spelled_out listed) (inside level) part there)

  fault_out : {place t : Tree} (f : ShapeFault) → StandsIn several place t → Contains (shape_faults several (spelled_out listed place)) f → Contains (shape_faults several (spelled_out listed t)) f
  fault_out f is_itself fault = fault
  fault_out f (stands_inside {t = t} {part = part} {level = level} said one there) fault =
      subst (λ fs. Contains fs f) (sym (said_after several listed t level said).faults) (inner_fault several (level_spelled_out listed level) (spelled_out listed part) f (part_out level part one) (fault_out f there fault))

  -- the level of a spelling that is no reference has the same faults
  own_faults : (place : Tree) → referred (Some given) place ≡ None → level_faults several (spelled_out listed place) ≡ level_faults several place
  own_faults Null h = refl
  own_faults (Boolean b) h = refl
  own_faults (Integer n) h = refl
  own_faults (Text s) h = refl
  own_faults (Array ts) h = refl
  own_faults (Object fs) h = go (reference_among fs) h
    where
      go : (o : Option Tree) → option_map (meant_by given) o ≡ None → level_faults several (replaced listed o (Object (keywords_spelled_out listed fs))) ≡ level_faults several (Object fs)
      go None none = keywords_faults listed several fs
      go (Some n) none = absurd (cc)

  pub has_fault_out : (t : Tree) (f : ShapeFault) → HasFault several (Some given) t f → Contains (shape_faults several (spelled_out listed t)) f
  has_fault_out t f fault =
      let place = fault.place in
      fault_out f fault.there (level_within several (spelled_out listed place) f (subst (λ fs. Contains fs f) (sym (own_faults place fault.spelled)) fault.listed))

  -- ---- wrong numbers

  missing : (xs : List Tree) (i : ℕ) → slice_get (map shape_of xs) i ≡ None → slice_get xs i ≡ None
  missing [] i h = refl
  missing (t ∷ xs) zero h = absurd (cc)
  missing (t ∷ xs) (suc i) h = missing xs i h

  means_no : (n : Tree) → meant_by given n ≡ None → meant_by listed n ≡ None
  means_no Null h = refl
  means_no (Boolean b) h = refl
  means_no (Integer (pos i)) h = missing listed i (ap (λ gs. slice_get gs i) are.shapes ∙ h)
  means_no (Integer (negsuc i)) h = refl
  means_no (Text t) h = refl
  means_no (Array ts) h = refl
  means_no (Object fs) h = refl

  own_number : (place : Tree) → referred (Some given) place ≡ Some None → has_wrong_number listed place ≡ true
  own_number Null h = absurd (cc)
  own_number (Boolean b) h = absurd (cc)
  own_number (Integer n) h = absurd (cc)
  own_number (Text s) h = absurd (cc)
  own_number (Array ts) h = absurd (cc)
  own_number (Object fs) h = go (reference_among fs) h
    where
      go : (o : Option Tree) → option_map (meant_by given) o ≡ Some None → (means_none listed o || keywords_wrong listed fs) ≡ true
      go None none = absurd (cc)
      go (Some n) none = ap (λ u. not (is_some u) || keywords_wrong listed fs) (means_no n (cc))

  some_tree : (ts : Trees) (part : Tree) → Contains (each_of ts) part → has_wrong_number listed part ≡ true → one_has_wrong_number listed ts ≡ true
  some_tree NoTrees part (k, h, e) wrong = absurd (omega (arith, h))
  some_tree (AndTree t ts) part (zero, h, e) wrong = ap (λ b. b || one_has_wrong_number listed ts) (ap (has_wrong_number listed) e ∙ wrong)
  some_tree (AndTree t ts) part (suc k, h, e) wrong = rw (some_tree ts part (k, omega (arith, h), e) wrong) (or_right (has_wrong_number listed t))

  some_value : (fs : Fields) (part : Tree) → Contains (values_of fs) part → has_wrong_number listed part ≡ true → a_field_has_wrong_number listed fs ≡ true
  some_value NoFields part (k, h, e) wrong = absurd (omega (arith, h))
  some_value (AndField n t fs) part (zero, h, e) wrong = ap (λ b. b || a_field_has_wrong_number listed fs) (ap (has_wrong_number listed) e ∙ wrong)
  some_value (AndField n t fs) part (suc k, h, e) wrong = rw (some_value fs part (k, omega (arith, h), e) wrong) (or_right (has_wrong_number listed t))

  some_rest : (rest : Option Tree) (part : Tree) → Contains (option_to_list rest) part → has_wrong_number listed part ≡ true → wrong_there listed OneShape rest ≡ true
  some_rest None part (k, h, e) wrong = absurd (omega (arith, h))
  some_rest (Some t) part (zero, h, e) wrong = ap (has_wrong_number listed) e ∙ wrong
  some_rest (Some t) part (suc k, h, e) wrong = absurd (omega (arith, h))

  list_some : (list : Option ListLevel) (part : Tree) → Contains (list_inside list) part → has_wrong_number listed part ≡ true → list_wrong listed list ≡ true
  list_some None part (k, h, e) wrong = absurd (omega (arith, h))
  list_some (Some list) part there wrong = go (Contains-append_cases (each_of list.first) (option_to_list list.rest) part there)
    where
      go : Contains (each_of list.first) part ⊎ Contains (option_to_list list.rest) part → (wrong_there listed OneShape list.rest || one_has_wrong_number listed list.first) ≡ true
      go (inl a) = rw (some_tree list.first part a wrong) (or_right (wrong_there listed OneShape list.rest))
      go (inr a) = ap (λ b. b || one_has_wrong_number listed list.first) (some_rest list.rest part a wrong)

  object_some : (object : Option ObjectLevel) (part : Tree) → Contains (object_inside object) part → has_wrong_number listed part ≡ true → object_wrong listed object ≡ true
  object_some None part (k, h, e) wrong = absurd (omega (arith, h))
  object_some (Some object) part there wrong = some_value object.properties part there wrong

  some_inside : (level : Level) (part : Tree) → Contains (inside level) part → has_wrong_number listed part ≡ true → wrong_inside listed level ≡ true
  some_inside (Whole s) part (k, h, e) wrong = absurd (omega (arith, h))
  some_inside (OfTypes simple list object) part there wrong = go (Contains-append_cases (list_inside list) (object_inside object) part there)
    where
      go : Contains (list_inside list) part ⊎ Contains (object_inside object) part → (list_wrong listed list || object_wrong listed object) ≡ true
      go (inl a) = ap (λ b. b || object_wrong listed object) (list_some list part a wrong)
      go (inr a) = rw (object_some object part a wrong) (or_right (list_wrong listed list))

  number_out : {place t : Tree} → StandsIn several place t → has_wrong_number listed place ≡ true → has_wrong_number listed t ≡ true
  number_out is_itself wrong = wrong
  number_out (stands_inside {t = t} {part = part} {level = level} said one there) wrong =
      wrong_by_level several listed t level said ∙ some_inside level part one (number_out there wrong)

  pub wrong_number_out : (t : Tree) → HasWrongNumber several (Some given) t → has_wrong_number listed t ≡ true
  wrong_number_out t wrong = number_out wrong.there (own_number wrong.place wrong.wrong)
