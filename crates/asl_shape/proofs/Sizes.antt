-- How large a spelling is: those inside a level are smaller than the whole.
use Rattle.std.proofs.Common.{◌≡◌, ◌<◌, ◌≤◌, ◌+◌, ℕ, suc, max, List, [], ◌∷◌, ◌++◌, ◌∙◌, ap, String, Global, drop, zero, Bool, true, false, if◌then◌else◌, Option, Some, None, bytes_eq, subst, sym, codes, arith}
use Rattle.asl_model.specs.Tree.{Tree, Null, Boolean, Integer, Text, Array, Object, Trees, NoTrees, AndTree, Fields, NoFields, AndField, field_named}
use Rattle.asl_model.specs.ShapeSpelling.{is_among, types_in}
use Rattle.asl_shape.specs.Level.{Level, Whole, OfTypes, ListLevel, ObjectLevel, level_of, typed_level, only_if, array_level, object_level, elements_in, fields_in, SpelledOver}
use Rattle.asl_shape.specs.Spelled as trees
use Rattle.asl_tree.specs.declared.Tree.{Tree as CodeTree}

abbrev mutual
  -- of a tree
  pub size : Tree → ℕ
  size Null = 1
  size (Boolean b) = 1
  size (Integer n) = 1
  size (Text s) = 1
  size (Array ts) = suc (elements_size ts)
  size (Object fs) = suc (fields_size fs)

  pub elements_size : Trees → ℕ
  elements_size NoTrees = 0
  elements_size (AndTree t ts) = suc (size t + elements_size ts)

  pub fields_size : Fields → ℕ
  fields_size NoFields = 0
  fields_size (AndField n t fs) = suc (size t + fields_size fs)

-- of a tree that may be absent
abbrev pub size_there : Option Tree → ℕ
size_there None = 0
size_there (Some t) = size t

-- of the largest spelling inside a level, or of all of them together: what is said of arrays, and of objects
abbrev pub list_size : Option ListLevel → ℕ
list_size None = 0
list_size (Some level) = max (elements_size level.first) (size_there level.rest)

abbrev pub object_size : Option ObjectLevel → ℕ
object_size None = 0
object_size (Some level) = fields_size level.properties

abbrev pub level_size : Level → ℕ
level_size (Whole s) = 0
level_size (OfTypes simple list object) = max (list_size list) (object_size object)

found_within : (n : List ℕ) (fs : Fields) → size_there (field_named n fs) ≤ fields_size fs
found_within n NoFields = omega arith
found_within n (AndField m t fs) = go (bytes_eq m n) (found_within n fs)
  where
    go : (here : Bool) → size_there (field_named n fs) ≤ fields_size fs → size_there (if here then Some t else field_named n fs) ≤ fields_size (AndField m t fs)
    go true behind = omega arith
    go false behind = omega (arith, behind)

elements_within : (o : Option Tree) → elements_size (elements_in o) ≤ size_there o
elements_within None = omega arith
elements_within (Some Null) = omega arith
elements_within (Some (Boolean b)) = omega arith
elements_within (Some (Integer n)) = omega arith
elements_within (Some (Text s)) = omega arith
elements_within (Some (Array ts)) = omega arith
elements_within (Some (Object fs)) = omega arith

fields_within : (o : Option Tree) → fields_size (fields_in o) ≤ size_there o
fields_within None = omega arith
fields_within (Some Null) = omega arith
fields_within (Some (Boolean b)) = omega arith
fields_within (Some (Integer n)) = omega arith
fields_within (Some (Text s)) = omega arith
fields_within (Some (Array ts)) = omega arith
fields_within (Some (Object fs)) = omega arith

list_within : (wanted : Bool) (fs : Fields) → list_size (only_if wanted (array_level fs)) ≤ fields_size fs
list_within true fs =
    let o = field_named (codes "prefixItems") fs in
    omega (arith, found_within (codes "prefixItems") fs, elements_within o, found_within (codes "items") fs)
list_within false fs = omega arith

object_within : (wanted : Bool) (fs : Fields) → object_size (only_if wanted (object_level fs)) ≤ fields_size fs
object_within true fs =
    let o = field_named (codes "properties") fs in
    omega (arith, found_within (codes "properties") fs, fields_within o)
object_within false fs = omega arith

typed_within : (names : List (List ℕ)) (fs : Fields) → level_size (typed_level names fs) ≤ fields_size fs
typed_within [] fs = omega arith
typed_within (n ∷ names) fs = omega (arith, list_within (is_among (codes "array") (n ∷ names)) fs, object_within (is_among (codes "object") (n ∷ names)) fs)

within : (t : Tree) → level_size (level_of t) < size t
within Null = omega arith
within (Boolean b) = omega arith
within (Integer n) = omega arith
within (Text s) = omega arith
within (Array ts) = omega arith
within (Object fs) = omega (arith, typed_within (types_in (field_named (codes "type") fs)) fs)

-- what stands inside a level is smaller than the whole
pub smaller : (several : Bool) (t : Tree) (level : Level) → SpelledOver several t level → level_size level < size t
smaller several t level h = subst (λ l. level_size l < size t) h.same (within t)

drop_within : (i : ℕ) (vs : List CodeTree) → elements_size (trees.elements_view (drop i vs)) ≤ elements_size (trees.elements_view vs)
drop_within zero vs = omega arith
drop_within (suc i) [] = omega arith
drop_within (suc i) (v ∷ vs) = omega (arith, drop_within i vs)

-- an element is smaller than all together
pub element_smaller : (i : ℕ) (vs left : List CodeTree) (v : CodeTree) → drop i vs ≡ v ∷ left → size (trees.view v) < elements_size (trees.elements_view vs)
element_smaller i vs left v split =
    let here : elements_size (trees.elements_view (v ∷ left)) ≤ elements_size (trees.elements_view vs) = subst (λ us. elements_size (trees.elements_view us) ≤ elements_size (trees.elements_view vs)) split (drop_within i vs) in
    omega (arith, here)

-- a member's value is smaller than all together
member_within : (done left : List (String Global × CodeTree)) (e : String Global × CodeTree) → size (trees.view e.1) < fields_size (trees.entries_view (done ++ e ∷ left))
member_within [] left e = omega arith
member_within (m ∷ done) left e = omega (arith, member_within done left e)

pub member_smaller : (all done now left : List (String Global × CodeTree)) (e : String Global × CodeTree) → all ≡ done ++ now → now ≡ e ∷ left → size (trees.view e.1) < fields_size (trees.entries_view all)
member_smaller all done now left e split next =
    subst (λ ms. size (trees.view e.1) < fields_size (trees.entries_view ms)) (sym (split ∙ ap (λ ms. done ++ ms) next)) (member_within done left e)
