-- What spells a shape in the first version spells it in the second.
use Rattle.std.proofs.Common.{◌≡◌, ℕ, List, [], ◌∷◌, ◌++◌, Bool, true, false, codes, Option, Some, None, if◌then◌else◌, bytes_eq, refl}
use Rattle.asl_model.specs.Tree.{Tree, Null, Boolean, Integer, Text, Array, Object, Trees, NoTrees, AndTree, Fields, NoFields, AndField, field_named}
use Rattle.asl_model.specs.Shape.{Shape}
use Rattle.asl_model.specs.ShapeSpelling.{ShapeFault, Keyword, is_among, foreign_faults, types_in, type_faults, keywords_of, keyword_faults, faults_first, faults_if, typed_faults, required_faults, extra_faults, min_items_faults, element_count, shape_faults, shape_faults_under, shapes_faults, shapes_faults_under, element_faults, properties_faults, properties_faults_under, field_faults, SpellsShape, SpellsShapeV1}

-- where there are no faults of the first, there are none of the second
abbrev NoneThen : List ShapeFault → List ShapeFault → Type 0
NoneThen xs ys = xs ≡ [] → ys ≡ []

append_then : (xs us ys ws : List ShapeFault) → NoneThen xs us → NoneThen ys ws → NoneThen (xs ++ ys) (us ++ ws)
append_then [] us ys ws first further h = rw (first refl) (further h)
append_then (x ∷ xs) us ys ws first further h = absurd (cc)

if_then : (b : Bool) (xs us : List ShapeFault) → NoneThen xs us → NoneThen (if b then xs else []) (if b then us else [])
if_then true xs us own = own
if_then false xs us own = λ h. h

choice_then : (b : Bool) (xs us ys ws : List ShapeFault) → NoneThen xs us → NoneThen ys ws → NoneThen (elim b [ true ↦ xs | false ↦ ys ]) (elim b [ true ↦ us | false ↦ ws ])
choice_then true xs us ys ws own further = own
choice_then false xs us ys ws own further = further

first_then : (xs us ys ws : List ShapeFault) → NoneThen xs us → NoneThen ys ws → NoneThen (faults_first xs ys) (faults_first us ws)
first_then [] us ys ws first further h = rw (first refl) (further h)
first_then (x ∷ xs) us ys ws first further h = absurd (cc)

type_then : (t : Tree) → NoneThen (type_faults false t) (type_faults true t)
type_then Null h = h
type_then (Boolean b) h = h
type_then (Integer n) h = h
type_then (Text s) h = h
type_then (Array ts) h = absurd (cc)
type_then (Object fs) h = h

typed_then : (type : Option Tree) (fs : Fields) (xs us ys ws : List ShapeFault) → NoneThen xs us → NoneThen ys ws → NoneThen (typed_faults false type fs xs ys) (typed_faults true type fs us ws)
typed_then None fs xs us ys ws arrays objects = λ h. h
typed_then (Some t) fs xs us ys ws arrays objects =
    let names = types_in (Some t) in
    let foreign = foreign_faults Keyword (keywords_of names) fs in
    let for_arrays = faults_if (codes "array") names in
    let for_objects = faults_if (codes "object") names in
    first_then (type_faults false t) (type_faults true t) (keyword_faults names fs xs ys) (keyword_faults names fs us ws) (type_then t)
    (append_then foreign foreign (for_arrays xs ++ for_objects ys) (for_arrays us ++ for_objects ws) (λ h. h)
    (append_then (for_arrays xs) (for_arrays us) (for_objects ys) (for_objects ws) (if_then (is_among (codes "array") names) xs us arrays) (if_then (is_among (codes "object") names) ys ws objects)))

mutual
  tree_then : (t : Tree) → NoneThen (shape_faults false t) (shape_faults true t)
  tree_then Null h = h
  tree_then (Boolean b) h = h
  tree_then (Integer n) h = h
  tree_then (Text s) h = h
  tree_then (Array ts) h = h
  tree_then (Object fs) h =
      let number = min_items_faults (field_named (codes "minItems") fs) (element_count (field_named (codes "prefixItems") fs)) in
      let others = required_faults (field_named (codes "required") fs) ++ extra_faults (field_named (codes "additionalProperties") fs) in
      let first = codes "prefixItems" in
      let items = codes "items" in
      let properties = codes "properties" in
      typed_then (field_named (codes "type") fs) fs
      (shapes_faults_under false first fs ++ (shape_faults_under false items fs ++ number)) (shapes_faults_under true first fs ++ (shape_faults_under true items fs ++ number))
      (properties_faults_under false properties fs ++ others) (properties_faults_under true properties fs ++ others)
      (append_then (shapes_faults_under false first fs) (shapes_faults_under true first fs) (shape_faults_under false items fs ++ number) (shape_faults_under true items fs ++ number) (list_under_then first fs)
      (append_then (shape_faults_under false items fs) (shape_faults_under true items fs) number number (tree_under_then items fs) (λ e. e)))
      (append_then (properties_faults_under false properties fs) (properties_faults_under true properties fs) others others (object_under_then properties fs) (λ e. e))
      h

  tree_under_then : (n : List ℕ) (fs : Fields) → NoneThen (shape_faults_under false n fs) (shape_faults_under true n fs)
  tree_under_then n NoFields h = h
  tree_under_then n (AndField m t fs) h =
      choice_then (bytes_eq m n) (shape_faults false t) (shape_faults true t) (shape_faults_under false n fs) (shape_faults_under true n fs) (tree_then t) (tree_under_then n fs) h

  list_then : (t : Tree) → NoneThen (shapes_faults false t) (shapes_faults true t)
  list_then Null h = h
  list_then (Boolean b) h = h
  list_then (Integer n) h = h
  list_then (Text s) h = h
  list_then (Array ts) h = elements_then ts h
  list_then (Object fs) h = h

  elements_then : (ts : Trees) → NoneThen (element_faults false ts) (element_faults true ts)
  elements_then NoTrees h = h
  elements_then (AndTree t ts) h =
      append_then (shape_faults false t) (shape_faults true t) (element_faults false ts) (element_faults true ts) (tree_then t) (elements_then ts) h

  list_under_then : (n : List ℕ) (fs : Fields) → NoneThen (shapes_faults_under false n fs) (shapes_faults_under true n fs)
  list_under_then n NoFields h = h
  list_under_then n (AndField m t fs) h =
      choice_then (bytes_eq m n) (shapes_faults false t) (shapes_faults true t) (shapes_faults_under false n fs) (shapes_faults_under true n fs) (list_then t) (list_under_then n fs) h

  object_then : (t : Tree) → NoneThen (properties_faults false t) (properties_faults true t)
  object_then Null h = h
  object_then (Boolean b) h = h
  object_then (Integer n) h = h
  object_then (Text s) h = h
  object_then (Array ts) h = h
  object_then (Object fs) h = fields_then fs h

  fields_then : (fs : Fields) → NoneThen (field_faults false fs) (field_faults true fs)
  fields_then NoFields h = h
  fields_then (AndField n t fs) h =
      append_then (shape_faults false t) (shape_faults true t) (field_faults false fs) (field_faults true fs) (tree_then t) (fields_then fs) h

  object_under_then : (n : List ℕ) (fs : Fields) → NoneThen (properties_faults_under false n fs) (properties_faults_under true n fs)
  object_under_then n NoFields h = h
  object_under_then n (AndField m t fs) h =
      choice_then (bytes_eq m n) (properties_faults false t) (properties_faults true t) (properties_faults_under false n fs) (properties_faults_under true n fs) (object_then t) (object_under_then n fs) h

pub spells_in_both : (t : Tree) (s : Shape) → SpellsShapeV1 t s → SpellsShape t s
spells_in_both t s h = record { none_wrong = tree_then t h.none_wrong; same = h.same }
