-- A spelling and its level: it spells the shape over the level, and what is wrong with the level is wrong with it.
use Rattle.std.proofs.Common.{◌≡◌, ℕ, length, subst, Result, Ok, Err, String, List, [], ◌∷◌, ◌++◌, Bool, true, false, Option, Some, None, option_map, unwrap_or, refl, sym, ap, ◌∙◌, ◌⊎◌, inl, inr, append-nil, codes}
use Rattle.std.specs.Prelude.{IfSome, IfOk, IfErr, if◌then◌else◌}
use Rattle.std.specs.List.{Contains}
use Rattle.std.proofs.lemmas.List.Elements.{Contains-append_left, Contains-append_right, Contains-append_cases}
use Rattle.asl_model.proofs.SpellingLookups.{shape_under-field_named, shapes_under-field_named, properties_under-field_named, shape_faults_under-field_named, shapes_faults_under-field_named, properties_faults_under-field_named}
use Rattle.asl_model.specs.Shape as model
use Rattle.asl_model.specs.ShapeSpelling.{ShapeFault, BadType, Keyword, is_among, keywords_of, annotations, foreign_faults, types_in, type_faults, keyword_faults, faults_first, shapes_of, shapes_under, shape_under, properties_of, properties_under, shapes_faults, shapes_faults_under, shape_faults_under, properties_faults, properties_faults_under, required_in, required_faults, extra_in, extra_faults, with_all_needed, min_items_faults, element_count, typed_shape, typed_faults, shape_of, shape_faults, element_shapes, element_faults, field_shapes, field_faults}
use Rattle.asl_model.specs.Tree.{Tree, Null, Boolean, Integer, Text, Array, Object, NoTrees, AndTree, Fields, field_named, count}
use Rattle.asl_shape.specs.Level.{Level, level_of, level_faults, typed_level, kinds_level, only_if, array_level, object_level, array_level_faults, object_level_faults, elements_in, fields_in, list_faults, object_faults, rest_faults, arrays_over, objects_over, shape_over, list_inner_faults, object_inner_faults, inner_faults, SpelledOver}
use Rattle.asl_shape.specs.Types.{faults_when}
use Rattle.asl_shape.specs.LevelView.{level_view}
use Rattle.asl_shape.specs.Refusal.{Tells, fault_named}
use Rattle.asl_shape.specs.Spelled as trees
use Rattle.asl_shape.specs.Spelled.{elements_view, entries_view}
use Rattle.asl_tree.specs.declared.Tree as tree
use Rattle.asl_tree.proofs.Wholes.{view_object}
use Rattle.std.specs.declared.alloc.Global.{Global}
use Rattle.std.specs.BTreeMap.{BTreeMap}
use Rattle.asl_tree.specs.declared.Tree.{Tree as CodeTree}
use Rattle.asl_shape.proofs.Spellings.{elements_counted}
use Rattle.asl_shape.proofs.Telling.{told_left, told_right, told_same}
use Rattle.asl_shape.specs.declared.ShapeRefusal.{ShapeRefusal}
use Rattle.asl_shape.specs.declared.levels.Level as code

-- ---- what stands under a keyword

first_shapes : (o : Option Tree) → unwrap_or (option_map shapes_of o) model.NoShapes ≡ element_shapes (elements_in o)
first_shapes None = refl
first_shapes (Some Null) = refl
first_shapes (Some (Boolean b)) = refl
first_shapes (Some (Integer n)) = refl
first_shapes (Some (Text s)) = refl
first_shapes (Some (Array ts)) = refl
first_shapes (Some (Object fs)) = refl

mentioned : (o : Option Tree) → unwrap_or (option_map properties_of o) model.NoFieldShapes ≡ field_shapes (fields_in o)
mentioned None = refl
mentioned (Some Null) = refl
mentioned (Some (Boolean b)) = refl
mentioned (Some (Integer n)) = refl
mentioned (Some (Text s)) = refl
mentioned (Some (Array ts)) = refl
mentioned (Some (Object fs)) = refl

first_faults : (several : Bool) (o : Option Tree) → unwrap_or (option_map (shapes_faults several) o) [] ≡ list_faults o ++ element_faults several (elements_in o)
first_faults several None = refl
first_faults several (Some Null) = refl
first_faults several (Some (Boolean b)) = refl
first_faults several (Some (Integer n)) = refl
first_faults several (Some (Text s)) = refl
first_faults several (Some (Array ts)) = refl
first_faults several (Some (Object fs)) = refl

mentioned_faults : (several : Bool) (o : Option Tree) → unwrap_or (option_map (properties_faults several) o) [] ≡ object_faults o ++ field_faults several (fields_in o)
mentioned_faults several None = refl
mentioned_faults several (Some Null) = refl
mentioned_faults several (Some (Boolean b)) = refl
mentioned_faults several (Some (Integer n)) = refl
mentioned_faults several (Some (Text s)) = refl
mentioned_faults several (Some (Array ts)) = refl
mentioned_faults several (Some (Object fs)) = refl

-- as many elements as are counted
pub counted : (o : Option Tree) → element_count o ≡ count (elements_in o)
counted None = refl
counted (Some Null) = refl
counted (Some (Boolean b)) = refl
counted (Some (Integer n)) = refl
counted (Some (Text s)) = refl
counted (Some (Array ts)) = refl
counted (Some (Object fs)) = refl

-- ---- an object of keywords

abbrev whole_arrays : Fields → model.Arrays
whole_arrays fs = model.ArraysOf (shapes_under (codes "prefixItems") fs) (shape_under (codes "items") fs)

abbrev whole_objects : Fields → model.Objects
whole_objects fs =
    let extra = extra_in (field_named (codes "additionalProperties") fs) in
    model.ObjectsOf (with_all_needed extra (required_in (field_named (codes "required") fs)) (properties_under (codes "properties") fs)) extra

abbrev whole_array_faults : Bool → Fields → List ShapeFault
whole_array_faults several fs =
    shapes_faults_under several (codes "prefixItems") fs ++ (shape_faults_under several (codes "items") fs ++ min_items_faults (field_named (codes "minItems") fs) (element_count (field_named (codes "prefixItems") fs)))

abbrev whole_object_faults : Bool → Fields → List ShapeFault
whole_object_faults several fs =
    properties_faults_under several (codes "properties") fs ++ (required_faults (field_named (codes "required") fs) ++ extra_faults (field_named (codes "additionalProperties") fs))

whole_arrays_over : (fs : Fields) → whole_arrays fs ≡ arrays_over (Some (array_level fs))
whole_arrays_over fs =
    rw (shapes_under-field_named (codes "prefixItems") fs, shape_under-field_named (codes "items") fs, first_shapes (field_named (codes "prefixItems") fs)) refl

whole_objects_over : (fs : Fields) → whole_objects fs ≡ objects_over (Some (object_level fs))
whole_objects_over fs = rw (properties_under-field_named (codes "properties") fs, mentioned (field_named (codes "properties") fs)) refl

arrays_when : (among : Bool) (fs : Fields) → (if among then whole_arrays fs else model.WithoutArrays) ≡ arrays_over (only_if among (array_level fs))
arrays_when true fs = whole_arrays_over fs
arrays_when false fs = refl

objects_when : (among : Bool) (fs : Fields) → (if among then whole_objects fs else model.WithoutObjects) ≡ objects_over (only_if among (object_level fs))
objects_when true fs = whole_objects_over fs
objects_when false fs = refl

typed_over : (names : List (List ℕ)) (fs : Fields) → typed_shape names (whole_arrays fs) (whole_objects fs) ≡ shape_over (typed_level names fs)
typed_over [] fs = refl
typed_over (n ∷ names) fs =
    rw (arrays_when (is_among (codes "array") (n ∷ names)) fs, objects_when (is_among (codes "object") (n ∷ names)) fs) refl

pub both_none : (xs ys : List ShapeFault) → xs ≡ [] → ys ≡ [] → xs ++ ys ≡ []
both_none xs ys e f = rw (e, f) refl

none_left : (xs ys : List ShapeFault) → xs ++ ys ≡ [] → xs ≡ []
none_left [] ys e = refl
none_left (x ∷ xs) ys e = absurd (cc)

none_right : (xs ys : List ShapeFault) → xs ++ ys ≡ [] → ys ≡ []
none_right [] ys e = e
none_right (x ∷ xs) ys e = absurd (cc)

array_faults_over : (several : Bool) (fs : Fields) → array_level_faults fs ≡ [] → whole_array_faults several fs ≡ list_inner_faults several (Some (array_level fs))
array_faults_over several fs none =
    let o = field_named (codes "prefixItems") fs in
    let counts = min_items_faults (field_named (codes "minItems") fs) (element_count o) in
    rw (shapes_faults_under-field_named several (codes "prefixItems") fs, shape_faults_under-field_named several (codes "items") fs, first_faults several o, none_left (list_faults o) counts none, none_right (list_faults o) counts none, append-nil (rest_faults several (field_named (codes "items") fs))) refl

object_faults_over : (several : Bool) (fs : Fields) → object_level_faults fs ≡ [] → whole_object_faults several fs ≡ object_inner_faults several (Some (object_level fs))
object_faults_over several fs none =
    let o = field_named (codes "properties") fs in
    let others = required_faults (field_named (codes "required") fs) ++ extra_faults (field_named (codes "additionalProperties") fs) in
    rw (properties_faults_under-field_named several (codes "properties") fs, mentioned_faults several o, none_left (object_faults o) others none, none_right (object_faults o) others none) (append-nil (field_faults several (fields_in o)))

array_faults_when : (several among : Bool) (fs : Fields) → faults_when among (array_level_faults fs) ≡ [] → faults_when among (whole_array_faults several fs) ≡ list_inner_faults several (only_if among (array_level fs))
array_faults_when several true fs none = array_faults_over several fs none
array_faults_when several false fs none = refl

object_faults_when : (several among : Bool) (fs : Fields) → faults_when among (object_level_faults fs) ≡ [] → faults_when among (whole_object_faults several fs) ≡ object_inner_faults several (only_if among (object_level fs))
object_faults_when several true fs none = object_faults_over several fs none
object_faults_when several false fs none = refl

-- where the keywords of a level are right, what is wrong is inside
keyword_faults_over : (several : Bool) (names : List (List ℕ)) (fs : Fields) → keyword_faults names fs (array_level_faults fs) (object_level_faults fs) ≡ [] → keyword_faults names fs (whole_array_faults several fs) (whole_object_faults several fs) ≡ inner_faults several (kinds_level names fs)
keyword_faults_over several names fs none =
    let known = foreign_faults Keyword (keywords_of names) fs in
    let array = is_among (codes "array") names in
    let object = is_among (codes "object") names in
    let others = faults_when array (array_level_faults fs) ++ faults_when object (object_level_faults fs) in
    let right : others ≡ [] = none_right known others none in
    ap (λ xs. xs ++ (faults_when array (whole_array_faults several fs) ++ faults_when object (whole_object_faults several fs))) (none_left known others none)
    ∙ rw (array_faults_when several array fs (none_left (faults_when array (array_level_faults fs)) (faults_when object (object_level_faults fs)) right), object_faults_when several object fs (none_right (faults_when array (array_level_faults fs)) (faults_when object (object_level_faults fs)) right)) refl

-- a `type` that is right names a type
pub typed_names : (several : Bool) (t : Tree) (fs : Fields) → type_faults several t ≡ [] → typed_level (types_in (Some t)) fs ≡ kinds_level (types_in (Some t)) fs
typed_names several Null fs none = absurd (cc)
typed_names several (Boolean b) fs none = absurd (cc)
typed_names several (Integer n) fs none = absurd (cc)
typed_names several (Text s) fs none = refl
typed_names false (Array ts) fs none = absurd (cc)
typed_names true (Array NoTrees) fs none = absurd (cc)
typed_names true (Array (AndTree Null ts)) fs none = absurd (cc)
typed_names true (Array (AndTree (Boolean b) ts)) fs none = absurd (cc)
typed_names true (Array (AndTree (Integer n) ts)) fs none = absurd (cc)
typed_names true (Array (AndTree (Text s) ts)) fs none = refl
typed_names true (Array (AndTree (Array us) ts)) fs none = absurd (cc)
typed_names true (Array (AndTree (Object gs) ts)) fs none = absurd (cc)
typed_names several (Object gs) fs none = absurd (cc)

first_none : (xs ys : List ShapeFault) → faults_first xs ys ≡ [] → (xs ≡ []) × (ys ≡ [])
first_none [] ys none = (refl, none)
first_none (x ∷ xs) ys none = absurd (cc)

typed_faults_over : (several : Bool) (o : Option Tree) (fs : Fields) → typed_faults several o fs (array_level_faults fs) (object_level_faults fs) ≡ [] → typed_faults several o fs (whole_array_faults several fs) (whole_object_faults several fs) ≡ inner_faults several (typed_level (types_in o) fs)
typed_faults_over several None fs none = none
typed_faults_over several (Some t) fs none =
    let names = types_in (Some t) in
    let both = first_none (type_faults several t) (keyword_faults names fs (array_level_faults fs) (object_level_faults fs)) none in
    ap (λ xs. faults_first xs (keyword_faults names fs (whole_array_faults several fs) (whole_object_faults several fs))) both.0
    ∙ keyword_faults_over several names fs both.1
    ∙ ap (inner_faults several) (sym (typed_names several t fs both.0))

-- ---- the level and the whole

shape_by_level : (t : Tree) → shape_of t ≡ shape_over (level_of t)
shape_by_level Null = refl
shape_by_level (Boolean b) = refl
shape_by_level (Integer n) = refl
shape_by_level (Text s) = refl
shape_by_level (Array ts) = refl
shape_by_level (Object fs) = typed_over (types_in (field_named (codes "type") fs)) fs

faults_by_level : (several : Bool) (t : Tree) → level_faults several t ≡ [] → shape_faults several t ≡ inner_faults several (level_of t)
faults_by_level several Null none = none
faults_by_level several (Boolean b) none = none
faults_by_level several (Integer n) none = none
faults_by_level several (Text s) none = none
faults_by_level several (Array ts) none = none
faults_by_level several (Object fs) none = typed_faults_over several (field_named (codes "type") fs) fs none

pub over : (several : Bool) (t : Tree) (level : Level) → level_of t ≡ level → level_faults several t ≡ [] → SpelledOver several t level
over several t level same none =
    record {
      none_wrong = none;
      same = same;
      shape = shape_by_level t ∙ ap shape_over same;
      faults = faults_by_level several t none ∙ ap (inner_faults several) same;
    }

-- what one of two lists has, both have behind others
abbrev IsWithin : List ShapeFault → List ShapeFault → Type 0
IsWithin xs ys = (f : ShapeFault) → Contains xs f → Contains ys f

both_within : (xs ys us vs : List ShapeFault) → IsWithin xs us → IsWithin ys vs → IsWithin (xs ++ ys) (us ++ vs)
both_within xs ys us vs left right f h = go (Contains-append_cases xs ys f h)
  where
    go : Contains xs f ⊎ Contains ys f → Contains (us ++ vs) f
    go (inl a) = Contains-append_left us vs f (left f a)
    go (inr a) = Contains-append_right us vs f (right f a)

array_within : (several : Bool) (fs : Fields) → IsWithin (array_level_faults fs) (whole_array_faults several fs)
array_within several fs =
    let o = field_named (codes "prefixItems") fs in
    let inside = shapes_faults_under several (codes "prefixItems") fs in
    let rest = shape_faults_under several (codes "items") fs in
    let counts = min_items_faults (field_named (codes "minItems") fs) (element_count o) in
    let own : IsWithin (list_faults o) inside = λ f h. rw (shapes_faults_under-field_named several (codes "prefixItems") fs, first_faults several o) (Contains-append_left (list_faults o) (element_faults several (elements_in o)) f h) in
    both_within (list_faults o) counts inside (rest ++ counts) own (λ f h. Contains-append_right rest counts f h)

object_within : (several : Bool) (fs : Fields) → IsWithin (object_level_faults fs) (whole_object_faults several fs)
object_within several fs =
    let o = field_named (codes "properties") fs in
    let others = required_faults (field_named (codes "required") fs) ++ extra_faults (field_named (codes "additionalProperties") fs) in
    let inside = properties_faults_under several (codes "properties") fs in
    let own : IsWithin (object_faults o) inside = λ f h. rw (properties_faults_under-field_named several (codes "properties") fs, mentioned_faults several o) (Contains-append_left (object_faults o) (field_faults several (fields_in o)) f h) in
    both_within (object_faults o) others inside others own (λ f h. h)

when_within : (among : Bool) (xs ys : List ShapeFault) → IsWithin xs ys → IsWithin (faults_when among xs) (faults_when among ys)
when_within true xs ys h = h
when_within false xs ys h = λ f i. i

first_within : (xs ys zs : List ShapeFault) → IsWithin ys zs → IsWithin (faults_first xs ys) (faults_first xs zs)
first_within [] ys zs h = h
first_within (x ∷ xs) ys zs h = λ f i. i

typed_within : (several : Bool) (o : Option Tree) (fs : Fields) → IsWithin (typed_faults several o fs (array_level_faults fs) (object_level_faults fs)) (typed_faults several o fs (whole_array_faults several fs) (whole_object_faults several fs))
typed_within several None fs = λ f h. h
typed_within several (Some t) fs =
    let names = types_in (Some t) in
    let known = foreign_faults Keyword (keywords_of names) fs in
    let arrays = when_within (is_among (codes "array") names) (array_level_faults fs) (whole_array_faults several fs) (array_within several fs) in
    let objects = when_within (is_among (codes "object") names) (object_level_faults fs) (whole_object_faults several fs) (object_within several fs) in
    first_within (type_faults several t) _ _ (both_within known _ known _ (λ f h. h) (both_within _ _ _ _ arrays objects))

-- what is wrong with the level is wrong with the whole
pub level_within : (several : Bool) (t : Tree) (f : ShapeFault) → Contains (level_faults several t) f → Contains (shape_faults several t) f
level_within several Null f h = h
level_within several (Boolean b) f h = h
level_within several (Integer n) f h = h
level_within several (Text s) f h = h
level_within several (Array ts) f h = h
level_within several (Object fs) f h = typed_within several (field_named (codes "type") fs) fs f h

named_within : (several : Bool) (named : Option ShapeFault) (t : Tree) → IfSome named (Contains (level_faults several t)) → IfSome named (Contains (shape_faults several t))
named_within several None t h = h
named_within several (Some f) t h = level_within several t f h

pub level_told : (several : Bool) (e : ShapeRefusal) (t : Tree) → Tells e (level_faults several t) → Tells e (shape_faults several t)
level_told several e t h = record { listed = named_within several (fault_named e) t h.listed }

-- ---- an object of keywords, by what its `type` is

by_type : (several : Bool) (fs : Fields) (o : Option Tree) → field_named (codes "type") fs ≡ o → level_faults several (Object fs) ≡ typed_faults several o fs (array_level_faults fs) (object_level_faults fs)
by_type several fs o is = ap (λ p. typed_faults several p fs (array_level_faults fs) (object_level_faults fs)) is

pub untyped_told : (several : Bool) (fs : Fields) (r : Result code.Level ShapeRefusal) → field_named (codes "type") fs ≡ None → IfErr r (λ e. Tells e (foreign_faults BadType annotations fs)) → IfErr r (λ e. Tells e (level_faults several (Object fs)))
untyped_told several fs (Ok level) is told = tt
untyped_told several fs (Err e) is told = rw (by_type several fs None is) told

pub kinds_over : (several : Bool) (fs : Fields) (t : Tree) (names : List (List ℕ)) (r : Result code.Level ShapeRefusal) → field_named (codes "type") fs ≡ Some t → names ≡ types_in (Some t) → type_faults several t ≡ [] → IfOk r (λ level. level_view level ≡ kinds_level names fs) → IfOk r (λ _. keyword_faults names fs (array_level_faults fs) (object_level_faults fs) ≡ []) → IfOk r (λ level. SpelledOver several (Object fs) (level_view level))
kinds_over several fs t names (Ok level) is named right same known =
    over several (Object fs) (level_view level) (ap (λ o. typed_level (types_in o) fs) is ∙ typed_names several t fs right ∙ ap (λ ns. kinds_level ns fs) (sym named) ∙ sym same) (by_type several fs (Some t) is ∙ ap (λ xs. faults_first xs (keyword_faults (types_in (Some t)) fs (array_level_faults fs) (object_level_faults fs))) right ∙ ap (λ ns. keyword_faults ns fs (array_level_faults fs) (object_level_faults fs)) (sym named) ∙ known)
kinds_over several fs t names (Err e) is named right same known = tt

first_told : (e : ShapeRefusal) (xs ys : List ShapeFault) → Tells e xs → Tells e (faults_first xs ys)
first_told e [] ys told = told_left e [] ys told
first_told e (x ∷ xs) ys told = told

pub type_told : (several : Bool) (e : ShapeRefusal) (fs : Fields) (t : Tree) → field_named (codes "type") fs ≡ Some t → Tells e (type_faults several t) → Tells e (level_faults several (Object fs))
type_told several e fs t is told =
    told_same e _ _ (first_told e (type_faults several t) (keyword_faults (types_in (Some t)) fs (array_level_faults fs) (object_level_faults fs)) told) (sym (by_type several fs (Some t) is))

-- ---- the level of lists

-- the elements are as many as `minItems` is checked against
pub as_many : (o : Option Tree) (vs : List CodeTree) → elements_view vs ≡ elements_in o → length vs ≡ element_count o
as_many o vs is = elements_counted vs ∙ ap count is ∙ sym (counted o)

pub count_told : (e : ShapeRefusal) (fs : Fields) (n : ℕ) → n ≡ element_count (field_named (codes "prefixItems") fs) → Tells e (min_items_faults (field_named (codes "minItems") fs) n) → Tells e (array_level_faults fs)
count_told e fs n is told =
    let o = field_named (codes "prefixItems") fs in
    told_right e (list_faults o) _ (subst (λ k. Tells e (min_items_faults (field_named (codes "minItems") fs) k)) is told)

pub list_right : (fs : Fields) (n : ℕ) → n ≡ element_count (field_named (codes "prefixItems") fs) → list_faults (field_named (codes "prefixItems") fs) ≡ [] → min_items_faults (field_named (codes "minItems") fs) n ≡ [] → array_level_faults fs ≡ []
list_right fs n is list counts =
    both_none _ _ list (subst (λ k. min_items_faults (field_named (codes "minItems") fs) k ≡ []) is counts)

-- ---- and of objects

pub object_right : (fs : Fields) → object_faults (field_named (codes "properties") fs) ≡ [] → required_faults (field_named (codes "required") fs) ≡ [] → extra_faults (field_named (codes "additionalProperties") fs) ≡ [] → object_level_faults fs ≡ []
object_right fs properties required extra = both_none _ _ properties (both_none _ _ required extra)

pub object_told : (several : Bool) (keywords : BTreeMap (String Global) CodeTree) (r : Result code.Level ShapeRefusal) → IfErr r (λ e. Tells e (level_faults several (Object (entries_view keywords.entries)))) → IfErr r (λ e. Tells e (shape_faults several (trees.view (tree.Object keywords))))
object_told several keywords (Ok level) told = tt
object_told several keywords (Err e) told = rw (view_object keywords) (level_told several e (Object (entries_view keywords.entries)) told)
