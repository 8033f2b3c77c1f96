-- A template that a tree spells stands in order: fields are put in byte order one by one, and no two of one name.
use Rattle.std.proofs.Common.{◌≡◌, ℕ, List, [], ◌∷◌, Bool, true, false, ◌||◌, not, if◌then◌else◌, IsTrue, Option, Some, None, option_map, unwrap_or, Result, Ok, Err, bytes_eq, refl, sym, ap, subst, ◌∙◌, is_eq, Ordering, Less, Equal, Greater}
use Rattle.std.specs.Ordering.{nat_cmp, match_ordering, ordering_reverse}
use Rattle.std.specs.Cmp.Lexicographic.{slice_cmp}
use Rattle.std.proofs.lemmas.Bool.{and_parts, and_from, false≢true, true≢false}
use Rattle.std.proofs.lemmas.Cmp.{nat_list_cmp_total}
use Rattle.std.proofs.lemmas.Map.Text.{is_eq-slice_cmp}
use Rattle.asl_model.specs.Tree.{Tree, Null, Boolean, Integer, Text, Array, Object, Trees, NoTrees, AndTree, Fields, NoFields, AndField, comes_before}
use Rattle.asl_model.specs.Intrinsic.{Reference, Call}
use Rattle.asl_model.specs.Template.{Template, Literal, FromPath, FieldTemplates, NoFieldTemplates, AndFieldTemplate, before_each, IsInOrder, AreInOrder, HasFieldsInOrder}
use Rattle.asl_model.specs.ShapeSpelling.{is_among, are_distinct}
use Rattle.asl_model.specs.CallSpelling.{CallFault, call_from, reference_of}
use Rattle.asl_model.specs.TemplateSpelling.{TemplateFault, NotObject, DuplicateAfterStrip, is_marked, renamed, renamed_names, begins_path, call_or_null, marked_value, with_field, part_of, parts_of, field_templates_of, part_faults, parts_faults, fields_faults, duplicate_faults, template_faults, marked_faults, SpellsTemplate}
use Rattle.asl_model.proofs.FindingScopes.{append-none}
use Rattle.asl_model.proofs.NamesInOrder.{comes_before-trans}

-- ---- the order of names

-- of two different names one comes before the other
pub other_way : (m n : List ℕ) → comes_before m n ≡ false → bytes_eq m n ≡ false → IsTrue (comes_before n m)
other_way m n h other = go (slice_cmp nat_cmp m n) refl
  where
    go : (o : Ordering) → slice_cmp nat_cmp m n ≡ o → IsTrue (comes_before n m)
    go Less e = absurd (true≢false (sym (ap (λ o. match_ordering o true false false) e) ∙ h))
    go Equal e = absurd (true≢false (sym (ap is_eq e) ∙ is_eq-slice_cmp m n ∙ other))
    go Greater e = ap (λ o. match_ordering o true false false) (nat_list_cmp_total.antisymm n m ∙ ap ordering_reverse e)

pub neither : (a b : Bool) → (a || b) ≡ false → (a ≡ false) × (b ≡ false)
neither true b h = absurd (true≢false h)
neither false b h = (refl, h)

pub not_true : (a : Bool) → not a ≡ true → a ≡ false
not_true true h = absurd (false≢true h)
not_true false h = refl

-- ---- a field more

-- no field has the name
abbrev pub Absent : List ℕ → FieldTemplates → Type 0
Absent n NoFieldTemplates = Unit {0}
Absent n (AndFieldTemplate m q others) = (bytes_eq m n ≡ false) × Absent n others

absent_with : (k n : List ℕ) (q : Template) (fields : FieldTemplates) → bytes_eq n k ≡ false → Absent k fields → Absent k (with_field n q fields)
absent_with k n q NoFieldTemplates e h = (e, tt)
absent_with k n q (AndFieldTemplate m u others) e h = go (comes_before m n) (absent_with k n q others e h.1)
  where
    go : (front : Bool) → Absent k (with_field n q others) → Absent k (if front then AndFieldTemplate m u (with_field n q others) else AndFieldTemplate n q (AndFieldTemplate m u others))
    go true further = (h.0, further)
    go false further = (e, h)

before_with : (m n : List ℕ) (q : Template) (fields : FieldTemplates) → IsTrue (comes_before m n) → IsTrue (before_each m fields) → IsTrue (before_each m (with_field n q fields))
before_with m n q NoFieldTemplates e h = and_from (comes_before m n) true e refl
before_with m n q (AndFieldTemplate k u others) e h =
    let parts = and_parts (comes_before m k) (before_each m others) h in
    go (comes_before k n) (and_from (comes_before m k) (before_each m (with_field n q others)) parts.0 (before_with m n q others e parts.1))
  where
    go : (front : Bool) → IsTrue (before_each m (AndFieldTemplate k u (with_field n q others))) → IsTrue (before_each m (if front then AndFieldTemplate k u (with_field n q others) else AndFieldTemplate n q (AndFieldTemplate k u others)))
    go true further = further
    go false further = and_from (comes_before m n) (before_each m (AndFieldTemplate k u others)) e h

before_later : (n m : List ℕ) (fields : FieldTemplates) → IsTrue (comes_before n m) → IsTrue (before_each m fields) → IsTrue (before_each n fields)
before_later n m NoFieldTemplates e h = refl
before_later n m (AndFieldTemplate k u others) e h =
    let parts = and_parts (comes_before m k) (before_each m others) h in
    and_from (comes_before n k) (before_each n others) (comes_before-trans n m k e parts.0) (before_later n m others e parts.1)

ordered_with : (n : List ℕ) (q : Template) (fields : FieldTemplates) → Absent n fields → IsInOrder q → HasFieldsInOrder fields → HasFieldsInOrder (with_field n q fields)
ordered_with n q NoFieldTemplates absent value h = (refl, value, tt)
ordered_with n q (AndFieldTemplate m u others) absent value h = go (comes_before m n) refl (ordered_with n q others absent.1 value h.2)
  where
    go : (front : Bool) → comes_before m n ≡ front → HasFieldsInOrder (with_field n q others) → HasFieldsInOrder (if front then AndFieldTemplate m u (with_field n q others) else AndFieldTemplate n q (AndFieldTemplate m u others))
    go true e further = (before_with m n q others e h.0, h.1, further)
    go false e further =
        let first : IsTrue (comes_before n m) = other_way m n e absent.0 in
        (and_from (comes_before n m) (before_each n others) first (before_later n m others first h.0), value, h)

-- ---- what is read

pub absent_as_read : (item : Bool) (k : List ℕ) (fs : Fields) → is_among k (renamed_names fs) ≡ false → Absent k (field_templates_of item fs)
absent_as_read item k NoFields h = tt
absent_as_read item k (AndField n t fs) h =
    let parts = neither (bytes_eq (renamed n) k) (is_among k (renamed_names fs)) h in
    absent_with k (renamed n) (elim (is_marked n) [ true ↦ marked_value item t | false ↦ part_of item t ]) (field_templates_of item fs) parts.0 (absent_as_read item k fs parts.1)

call_in_order : (c : Result Call CallFault) → IsInOrder (call_or_null c)
call_in_order (Ok c) = tt
call_in_order (Err fault) = tt

path_in_order : (r : Option Reference) → IsInOrder (unwrap_or (option_map FromPath r) (Literal Null))
path_in_order None = tt
path_in_order (Some r) = tt

marked_in_order : (item : Bool) (t : Tree) → IsInOrder (marked_value item t)
marked_in_order item Null = tt
marked_in_order item (Boolean b) = tt
marked_in_order item (Integer n) = tt
marked_in_order item (Text s) = go (begins_path s)
  where
    go : (path : Bool) → IsInOrder (if path then unwrap_or (option_map FromPath (reference_of item s)) (Literal Null) else call_or_null (call_from item s))
    go true = path_in_order (reference_of item s)
    go false = call_in_order (call_from item s)
marked_in_order item (Array ts) = tt
marked_in_order item (Object fs) = tt

pub distinct_names : (fs : Fields) → duplicate_faults fs ≡ [] → are_distinct (renamed_names fs) ≡ true
distinct_names fs h = go (are_distinct (renamed_names fs)) h
  where
    go : (b : Bool) → (if b then [] else DuplicateAfterStrip ∷ []) ≡ [] → b ≡ true
    go true e = refl
    go false e = absurd (cc)

-- the value of a field, marked or not
value_in_order : (item : Bool) (t : Tree) (marked : Bool) → (part_faults item t ≡ [] → IsInOrder (part_of item t)) → ◌≡◌ {A = List TemplateFault} (elim marked [ true ↦ marked_faults item t | false ↦ part_faults item t ]) [] → IsInOrder (elim marked [ true ↦ marked_value item t | false ↦ part_of item t ])
value_in_order item t true inside h = marked_in_order item t
value_in_order item t false inside h = inside h

mutual
  part_in_order : (item : Bool) (t : Tree) → part_faults item t ≡ [] → IsInOrder (part_of item t)
  part_in_order item Null h = tt
  part_in_order item (Boolean b) h = tt
  part_in_order item (Integer n) h = tt
  part_in_order item (Text s) h = tt
  part_in_order item (Array ts) h = parts_in_order item ts h
  part_in_order item (Object fs) h =
      let parts = append-none (duplicate_faults fs) (fields_faults item fs) h in
      fields_in_order item fs (distinct_names fs parts.0) parts.1

  parts_in_order : (item : Bool) (ts : Trees) → parts_faults item ts ≡ [] → AreInOrder (parts_of item ts)
  parts_in_order item NoTrees h = tt
  parts_in_order item (AndTree t ts) h =
      let parts = append-none (part_faults item t) (parts_faults item ts) h in
      (part_in_order item t parts.0, parts_in_order item ts parts.1)

  pub fields_in_order : (item : Bool) (fs : Fields) → are_distinct (renamed_names fs) ≡ true → fields_faults item fs ≡ [] → HasFieldsInOrder (field_templates_of item fs)
  fields_in_order item NoFields distinct h = tt
  fields_in_order item (AndField n t fs) distinct h =
      let names = and_parts (not (is_among (renamed n) (renamed_names fs))) (are_distinct (renamed_names fs)) distinct in
      let faults = append-none (elim (is_marked n) [ true ↦ marked_faults item t | false ↦ part_faults item t ]) (fields_faults item fs) h in
      ordered_with (renamed n) (elim (is_marked n) [ true ↦ marked_value item t | false ↦ part_of item t ]) (field_templates_of item fs)
      (absent_as_read item (renamed n) fs (not_true (is_among (renamed n) (renamed_names fs)) names.0))
      (value_in_order item t (is_marked n) (λ e. part_in_order item t e) faults.0)
      (fields_in_order item fs names.1 faults.1)

fault_stands : (f : TemplateFault) (further : List TemplateFault) → f ∷ further ≡ [] → ⊥
fault_stands f further e = absurd (cc)

pub read_in_order : (item : Bool) (t : Tree) (p : Template) → SpellsTemplate item t p → IsInOrder p
read_in_order item t p s = subst IsInOrder s.same (go t s.none_wrong)
  where
    go : (u : Tree) → template_faults item u ≡ [] → IsInOrder (part_of item u)
    go Null e = absurd (fault_stands NotObject [] e)
    go (Boolean b) e = absurd (fault_stands NotObject [] e)
    go (Integer n) e = absurd (fault_stands NotObject [] e)
    go (Text w) e = absurd (fault_stands NotObject [] e)
    go (Array ts) e = absurd (fault_stands NotObject [] e)
    go (Object fs) e = part_in_order item (Object fs) e
