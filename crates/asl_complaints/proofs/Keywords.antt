-- What is wrong with an object of keywords, by the parts that are told, and how many elements a list has.
use Rattle.std.proofs.Common.{◌≡◌, ◌≤◌, ℕ, List, [], ◌++◌, length, Bool, true, false, if◌then◌else◌, bytes_eq, codes, Option, Some, Vec, Global, Bor, refl, sym, ap, ◌∙◌, arith}
use Rattle.asl_model.proofs.SpellingLookups.{shape_faults_under-field_named, shapes_faults_under-field_named, properties_faults_under-field_named}
use Rattle.asl_model.specs.ShapeSpelling.{ShapeFault, is_among, types_in, type_faults, keyword_faults, faults_first, shape_faults, shape_faults_under, shapes_faults_under, properties_faults_under, required_faults, extra_faults, min_items_faults, element_count}
use Rattle.asl_model.specs.Tree.{Tree, Object, Fields, NoFields, AndField, field_named}
use Rattle.asl_shape.specs.Spelled.{tree_there, view}
use Rattle.asl_shape.specs.Types.{faults_when, keywords_for}
use Rattle.asl_shape.proofs.Sizes.{fields_size, size_there}
use Rattle.asl_shape.proofs.Spellings.{elements_counted}
use Rattle.asl_tree.proofs.Wholes.{view_list}
use Rattle.asl_tree.specs.declared.Tree.{Tree as CodeTree}
use Rattle.asl_tree.specs.declared.Tree as code
use Rattle.asl_complaints.specs.Parts.{array_faults, first_faults, foreign_of, object_faults, property_faults, rest_faults}

-- ---- an object of keywords

abbrev whole_arrays : Fields → List ShapeFault
whole_arrays fs =
    shapes_faults_under true (codes "prefixItems") fs ++ (shape_faults_under true (codes "items") fs ++ min_items_faults (field_named (codes "minItems") fs) (element_count (field_named (codes "prefixItems") fs)))

abbrev whole_objects : Fields → List ShapeFault
whole_objects fs =
    properties_faults_under true (codes "properties") fs ++ (required_faults (field_named (codes "required") fs) ++ extra_faults (field_named (codes "additionalProperties") fs))

-- where `type` is wrong
pub type_wrong : (fs : Fields) (t : Tree) → field_named (codes "type") fs ≡ Some t → faults_first (type_faults true t) (keyword_faults (types_in (Some t)) fs (whole_arrays fs) (whole_objects fs)) ≡ shape_faults true (Object fs)
type_wrong fs t typed = rw typed refl

-- where it is right
pub type_right : (fs : Fields) (t : Tree) (names : List (List ℕ)) (array object : Bool) → field_named (codes "type") fs ≡ Some t → type_faults true t ≡ [] → names ≡ types_in (Some t) → array ≡ is_among (codes "array") names → object ≡ is_among (codes "object") names
    → foreign_of true (keywords_for array object) fs ++ (faults_when array (array_faults fs) ++ faults_when object (object_faults fs)) ≡ shape_faults true (Object fs)
type_right fs t names array object typed right are lists others =
    let arrays : array_faults fs ≡ whole_arrays fs = rw (shapes_faults_under-field_named true (codes "prefixItems") fs, shape_faults_under-field_named true (codes "items") fs) refl in
    let objects : object_faults fs ≡ whole_objects fs = rw (properties_faults_under-field_named true (codes "properties") fs) refl in
    let parts : (foreign_of true (keywords_for array object) fs ++ (faults_when array (array_faults fs) ++ faults_when object (object_faults fs))) ≡ keyword_faults (types_in (Some t)) fs (whole_arrays fs) (whole_objects fs) = rw (arrays, objects, lists, others, are) refl in
    parts ∙ ap (λ faults. faults_first faults (keyword_faults (types_in (Some t)) fs (whole_arrays fs) (whole_objects fs))) (sym right) ∙ type_wrong fs t typed

-- what stands under keywords
pub arrays_are : (fs : Fields) (first rest : Option Tree) (count : ℕ) → first ≡ field_named (codes "prefixItems") fs → rest ≡ field_named (codes "items") fs → count ≡ element_count first → first_faults first ++ (rest_faults rest ++ min_items_faults (field_named (codes "minItems") fs) count) ≡ array_faults fs
arrays_are fs first rest count is others many = rw (many, is, others) refl

pub objects_are : (fs : Fields) (properties : Option Tree) → properties ≡ field_named (codes "properties") fs → property_faults properties ++ (required_faults (field_named (codes "required") fs) ++ extra_faults (field_named (codes "additionalProperties") fs)) ≡ object_faults fs
objects_are fs properties is = rw is refl

-- which is no larger than the whole
found_within : (n : List ℕ) (fs : Fields) → size_there (field_named n fs) ≤ fields_size fs
found_within n NoFields = omega arith
found_within n (AndField m t fs) = by (bytes_eq m n) (found_within n fs)
  where
    by : (here : Bool) → size_there (field_named n fs) ≤ fields_size fs → size_there (if here then Some t else field_named n fs) ≤ fields_size (AndField m t fs)
    by true behind = omega arith
    by false behind = omega (arith, behind)

pub found_smaller : (n : List ℕ) (fs : Fields) (o : Option Tree) → o ≡ field_named n fs → size_there o ≤ fields_size fs
found_smaller n fs o is = rw is (found_within n fs)

-- ---- lists

pub list_counted : (list : Option (Bor CodeTree)) (t : Bor CodeTree) (elements : Vec CodeTree Global) (n : ℕ) → list ≡ Some t → t.now ≡ code.List elements → n ≡ length elements.items → n ≡ element_count (tree_there list)
list_counted list t elements n is at many =
    many ∙ elements_counted elements.items ∙ sym (ap element_count (ap tree_there is ∙ ap Some (ap view at ∙ view_list elements)))
