-- A tree spells exactly the template that it stands for.
use Rattle.std.proofs.Common.{◌≡◌, ◌↔◌, ◌-◌, ℕ, List, [], ◌∷◌, ◌++◌, length, take, drop, slice_index, ◌==◌, Bool, true, false, not, is_some, if◌then◌else◌, IsTrue, Option, Some, None, option_map, unwrap_or, Result, Ok, Err, bytes_eq, codes, refl, sym, ap, ap₂, subst, ◌∙◌, arith, length-append, take-append-drop}
use Rattle.std.proofs.Math.Seq.{drop-append_seam, take-append_seam}
use Rattle.std.proofs.lemmas.Bool.{and_parts, and_from, or_from, not_from_false, true≢false, false_from_ne_true}
use Rattle.std.proofs.lemmas.Slice.Eq.{bytes_eq-Decides}
use Rattle.asl_model.specs.Tree.{Tree, Null, Boolean, Integer, Text, Array, Object, Trees, NoTrees, AndTree, Fields, NoFields, AndField, comes_before}
use Rattle.asl_model.specs.Intrinsic.{Reference, Call}
use Rattle.asl_model.specs.Template.{Template, Literal, FromPath, ArrayTemplate, ObjectTemplate, Templates, AndTemplate, FieldTemplates, NoFieldTemplates, AndFieldTemplate, before_each, HasFieldsInOrder}
use Rattle.asl_model.specs.ShapeSpelling.{is_among, are_distinct}
use Rattle.asl_model.specs.CallSpelling.{in_function_name, is_context, reference_of, WrittenCall, CallFault, call_from}
use Rattle.asl_model.specs.CallGrammar.{SpellsReference, spells_in_input, spells_item_index, spells_in_item, WritesCall, writes_call}
use Rattle.asl_model.specs.TemplateSpelling.{TemplateFault, BadPath, LeftOutContext, DuplicateAfterStrip, is_marked, renamed, begins_path, call_or_null, marked_text, marked_value, unless_call, marked_text_faults, marked_faults, with_field, part_of, parts_of, field_templates_of, renamed_names, duplicate_faults, part_faults, parts_faults, fields_faults, template_faults, SpellsTemplate}
use Rattle.asl_model.specs.TemplateGrammar.{StandsForMarked, stands_for_path, stands_for_call, PutsField, puts_last, puts_in_front, puts_behind, StandsForPart, stands_for_null, stands_for_boolean, stands_for_integer, stands_for_text, stands_for_array, stands_for_object, StandForParts, no_part_is_left, and_part, StandForFields, no_field_is_left, and_marked_field, and_plain_field, StandsForTemplate, object_stands}
use Rattle.asl_model.proofs.FindingScopes.{append-none}
use Rattle.asl_model.proofs.NamesInOrder.{comes_before-trans, comes_before-other, bytes_eq-comm}
use Rattle.asl_model.proofs.CallWriting.{apart, first_in_name}
use Rattle.asl_model.proofs.CallMeaning.{reference_exactly, call_exactly}
use Rattle.asl_model.proofs.ReadingTemplates.{Absent, other_way, not_true, absent_as_read, fields_in_order, distinct_names}

-- ---- marked names

-- how long a name is without the suffix
before_suffix : (n : List ℕ) → length (n ++ codes ".$") - 2 ≡ length n
before_suffix n = omega (arith, length-append n (codes ".$"))

-- a name with the suffix is marked, and loses it
pub marked_name : (n : List ℕ) → is_marked (n ++ codes ".$") ≡ true
marked_name n =
    ap (λ k. bytes_eq (drop k (n ++ codes ".$")) (codes ".$")) (before_suffix n)
    ∙ ap (λ t. bytes_eq t (codes ".$")) (drop-append_seam n (codes ".$"))

-- the name that is left
marked_renamed : (n : List ℕ) → renamed (n ++ codes ".$") ≡ n
marked_renamed n =
    ap (λ t. if t then take (length (n ++ codes ".$") - 2) (n ++ codes ".$") else n ++ codes ".$") (marked_name n)
    ∙ (ap (λ k. take k (n ++ codes ".$")) (before_suffix n)
    ∙ take-append_seam n (codes ".$"))

-- a marked name is one with the suffix
name_marked : (n : List ℕ) → is_marked n ≡ true → n ≡ take (length n - 2) n ++ codes ".$"
name_marked n h = sym (take-append-drop (length n - 2) n) ∙ ap (λ t. take (length n - 2) n ++ t) ((bytes_eq-Decides (drop (length n - 2) n) (codes ".$")).0 h)

-- a name without the suffix isn't marked
pub unmarked : (n : List ℕ) → ((m : List ℕ) → n ≡ m ++ codes ".$" → ⊥) → is_marked n ≡ false
unmarked n none = false_from_ne_true (is_marked n) (λ h. none (take (length n - 2) n) (name_marked n h))

-- ---- the texts of marked fields

-- a path begins with `$`
dollar_first : {item : Bool} {s : List ℕ} {r : Reference} → SpellsReference item s r → begins_path s ≡ true
dollar_first (spells_in_input h) = ap (λ t. slice_index t 0 == 36) h.dollar
dollar_first (spells_item_index h) = refl
dollar_first (spells_in_item h b) = refl

-- a call doesn't
no_dollar_first : {depth : ℕ} {s : List ℕ} {w : WrittenCall} → WritesCall depth s w → begins_path s ≡ false
no_dollar_first (writes_call {b = b} bytes inside) = apart in_function_name b 36 (first_in_name bytes) refl

-- what a marked text stands for is read from it, and nothing is wrong
marked_read : (item : Bool) {s : List ℕ} {p : Template} → StandsForMarked item s p → (marked_text_faults item s ≡ []) × (marked_text item s ≡ p)
marked_read item (stands_for_path {s = s} {r = r} h) = (
  ap (λ t. if t then (if is_some (reference_of item s) then [] else (if is_context s then LeftOutContext ∷ [] else BadPath ∷ [])) else unless_call (call_from item s)) (dollar_first h)
      ∙ ap (λ o. if is_some o then [] else (if is_context s then LeftOutContext ∷ [] else BadPath ∷ [])) ((reference_exactly item s r).1 h),
  ap (λ t. if t then unwrap_or (option_map FromPath (reference_of item s)) (Literal Null) else call_or_null (call_from item s)) (dollar_first h)
      ∙ ap (λ o. unwrap_or (option_map FromPath o) (Literal Null)) ((reference_exactly item s r).1 h),
)
marked_read item (stands_for_call {s = s} {c = c} h) = (
  ap (λ t. if t then (if is_some (reference_of item s) then [] else (if is_context s then LeftOutContext ∷ [] else BadPath ∷ [])) else unless_call (call_from item s)) (no_dollar_first h.as_written)
      ∙ ap unless_call ((call_exactly item s c).1 h),
  ap (λ t. if t then unwrap_or (option_map FromPath (reference_of item s)) (Literal Null) else call_or_null (call_from item s)) (no_dollar_first h.as_written)
      ∙ ap call_or_null ((call_exactly item s c).1 h),
)

-- and the other way round
read_marked : (item : Bool) (s : List ℕ) → marked_text_faults item s ≡ [] → StandsForMarked item s (marked_text item s)
read_marked item s h = go (begins_path s) h
  where
    context : (t : Bool) → (if t then LeftOutContext ∷ [] else BadPath ∷ []) ≡ [] → StandsForMarked item s (Literal Null)
    context true k = absurd (cc)
    context false k = absurd (cc)

    path : (o : Option Reference) → reference_of item s ≡ o → (if is_some o then [] else (if is_context s then LeftOutContext ∷ [] else BadPath ∷ [])) ≡ [] → StandsForMarked item s (unwrap_or (option_map FromPath o) (Literal Null))
    path (Some r) e k = stands_for_path ((reference_exactly item s r).0 e)
    path None e k = context (is_context s) k

    call : (r : Result Call CallFault) → call_from item s ≡ r → unless_call r ≡ [] → StandsForMarked item s (call_or_null r)
    call (Ok c) e k = stands_for_call ((call_exactly item s c).0 e)
    call (Err f) e k = absurd (cc)

    go : (t : Bool) → (if t then (if is_some (reference_of item s) then [] else (if is_context s then LeftOutContext ∷ [] else BadPath ∷ [])) else unless_call (call_from item s)) ≡ [] → StandsForMarked item s (if t then unwrap_or (option_map FromPath (reference_of item s)) (Literal Null) else call_or_null (call_from item s))
    go true k = path (reference_of item s) refl k
    go false k = call (call_from item s) refl k

-- ---- one more field

-- a field that isn't there is put in its place
absent_put : (n : List ℕ) (p : Template) (fields : FieldTemplates) → Absent n fields → PutsField n p fields (with_field n p fields)
absent_put n p NoFieldTemplates h = puts_last
absent_put n p (AndFieldTemplate m q fields) h = go (comes_before m n) refl (absent_put n p fields h.1)
  where
    go : (t : Bool) → comes_before m n ≡ t → PutsField n p fields (with_field n p fields) → PutsField n p (AndFieldTemplate m q fields) (if t then AndFieldTemplate m q (with_field n p fields) else AndFieldTemplate n p (AndFieldTemplate m q fields))
    go true e further = puts_behind e further
    go false e further = puts_in_front (other_way m n e h.0)

-- of two names only one comes before the other
pub one_way : (m n : List ℕ) → IsTrue (comes_before n m) → comes_before m n ≡ false
one_way m n h = false_from_ne_true (comes_before m n) (λ k. true≢false (sym ((bytes_eq-Decides n n).1 refl) ∙ comes_before-other n n (comes_before-trans n m n h k)))

-- what is put in is what the reader puts in
put_with : {n : List ℕ} {p : Template} {fields all : FieldTemplates} → PutsField n p fields all → with_field n p fields ≡ all
put_with puts_last = refl
put_with {n} {p} (puts_in_front {m = m} {q = q} {fields = fields} h) = ap (λ t. if t then AndFieldTemplate m q (with_field n p fields) else AndFieldTemplate n p (AndFieldTemplate m q fields)) (one_way m n h)
put_with {n} {p} (puts_behind {m = m} {q = q} {fields = fields} h further) =
    ap (λ t. if t then AndFieldTemplate m q (with_field n p fields) else AndFieldTemplate n p (AndFieldTemplate m q fields)) h
    ∙ ap (AndFieldTemplate m q) (put_with further)

-- the name of a field that comes before others is none of theirs
before_absent : (n m : List ℕ) (fields : FieldTemplates) → IsTrue (comes_before n m) → IsTrue (before_each m fields) → Absent n fields
before_absent n m NoFieldTemplates h k = tt
before_absent n m (AndFieldTemplate u q fields) h k =
    let both = and_parts (comes_before m u) (before_each m fields) k in
    (bytes_eq-comm n u (comes_before-other n u (comes_before-trans n m u h both.0)), before_absent n m fields h both.1)

-- a name that is put in wasn't there
put_absent : {n : List ℕ} {p : Template} {fields all : FieldTemplates} → PutsField n p fields all → HasFieldsInOrder fields → Absent n fields
put_absent puts_last order = tt
put_absent {n} (puts_in_front {m = m} {fields = fields} h) order = (bytes_eq-comm n m (comes_before-other n m h), before_absent n m fields h order.0)
put_absent {n} (puts_behind {m = m} h further) order = (comes_before-other m n h, put_absent further order.2)

-- a name that is none of the fields' was none of the names that they were read from
absent_with : (k n : List ℕ) (q : Template) (fields : FieldTemplates) → Absent k (with_field n q fields) → (bytes_eq n k ≡ false) × Absent k fields
absent_with k n q NoFieldTemplates h = (h.0, tt)
absent_with k n q (AndFieldTemplate m u fields) h = go (comes_before m n) h (absent_with k n q fields)
  where
    go : (t : Bool) → Absent k (if t then AndFieldTemplate m u (with_field n q fields) else AndFieldTemplate n q (AndFieldTemplate m u fields)) → (Absent k (with_field n q fields) → (bytes_eq n k ≡ false) × Absent k fields) → (bytes_eq n k ≡ false) × Absent k (AndFieldTemplate m u fields)
    go true a below = let w = below a.1 in (w.0, (a.0, w.1))
    go false a below = (a.0, a.1)

-- so for all names
pub none_among_read : (item : Bool) (k : List ℕ) (fs : Fields) → Absent k (field_templates_of item fs) → is_among k (renamed_names fs) ≡ false
none_among_read item k NoFields h = refl
none_among_read item k (AndField n t fs) h =
    let w = absent_with k (renamed n) (elim (is_marked n) [ true ↦ marked_value item t | false ↦ part_of item t ]) (field_templates_of item fs) h in
    or_from (bytes_eq (renamed n) k) (is_among k (renamed_names fs)) w.0 (none_among_read item k fs w.1)

-- ---- what is read stands

-- the value of a marked field is a text
text_marked : (item : Bool) (t : Tree) → marked_faults item t ≡ [] → (s : List ℕ) × (t ≡ Text s) × StandsForMarked item s (marked_value item t)
text_marked item Null h = absurd (cc)
text_marked item (Boolean b) h = absurd (cc)
text_marked item (Integer n) h = absurd (cc)
text_marked item (Text s) h = (s, refl, read_marked item s h)
text_marked item (Array ts) h = absurd (cc)
text_marked item (Object fs) h = absurd (cc)

-- one field in front of the others
field_stands : (item : Bool) (n : List ℕ) (t : Tree) (fs : Fields) (marked : Bool) → is_marked n ≡ marked → is_among (renamed n) (renamed_names fs) ≡ false → ◌≡◌ {A = List TemplateFault} (elim marked [ true ↦ marked_faults item t | false ↦ part_faults item t ]) [] → (part_faults item t ≡ [] → StandsForPart item t (part_of item t)) → StandForFields item fs (field_templates_of item fs) → StandForFields item (AndField n t fs) (with_field (renamed n) (elim marked [ true ↦ marked_value item t | false ↦ part_of item t ]) (field_templates_of item fs))
field_stands item n t fs true e other h part further =
    let w = text_marked item t h in
    let without = take (length n - 2) n in
    let name : renamed n ≡ without = ap (λ b. if b then take (length n - 2) n else n) e in
    subst (λ u. StandForFields item (AndField n u fs) (with_field (renamed n) (marked_value item t) (field_templates_of item fs))) (sym w.1)
    (subst (λ m. StandForFields item (AndField m (Text w.0) fs) (with_field (renamed n) (marked_value item t) (field_templates_of item fs))) (sym (name_marked n e))
    (and_marked_field w.2 further (subst (λ m. PutsField m (marked_value item t) (field_templates_of item fs) (with_field (renamed n) (marked_value item t) (field_templates_of item fs))) name (absent_put (renamed n) (marked_value item t) (field_templates_of item fs) (absent_as_read item (renamed n) fs other)))))
field_stands item n t fs false e other h part further =
    let name : renamed n ≡ n = ap (λ b. if b then take (length n - 2) n else n) e in
    and_plain_field (λ m is. true≢false (sym (marked_name m) ∙ (ap is_marked (sym is) ∙ e))) (part h) further
    (subst (λ m. PutsField m (part_of item t) (field_templates_of item fs) (with_field (renamed n) (part_of item t) (field_templates_of item fs))) name (absent_put (renamed n) (part_of item t) (field_templates_of item fs) (absent_as_read item (renamed n) fs other)))

mutual
  -- what is read of a value stands
  part_stands : (item : Bool) (t : Tree) → part_faults item t ≡ [] → StandsForPart item t (part_of item t)
  part_stands item Null h = stands_for_null
  part_stands item (Boolean b) h = stands_for_boolean
  part_stands item (Integer n) h = stands_for_integer
  part_stands item (Text s) h = stands_for_text
  part_stands item (Array ts) h = stands_for_array (parts_stand item ts h)
  part_stands item (Object fs) h =
      let parts = append-none (duplicate_faults fs) (fields_faults item fs) h in
      stands_for_object (fields_stand item fs (distinct_names fs parts.0) parts.1)

  -- so for the elements
  parts_stand : (item : Bool) (ts : Trees) → parts_faults item ts ≡ [] → StandForParts item ts (parts_of item ts)
  parts_stand item NoTrees h = no_part_is_left
  parts_stand item (AndTree t ts) h =
      let parts = append-none (part_faults item t) (parts_faults item ts) h in
      and_part (part_stands item t parts.0) (parts_stand item ts parts.1)

  -- so for the fields
  fields_stand : (item : Bool) (fs : Fields) → are_distinct (renamed_names fs) ≡ true → fields_faults item fs ≡ [] → StandForFields item fs (field_templates_of item fs)
  fields_stand item NoFields distinct h = no_field_is_left
  fields_stand item (AndField n t fs) distinct h =
      let names = and_parts (not (is_among (renamed n) (renamed_names fs))) (are_distinct (renamed_names fs)) distinct in
      let faults = append-none (elim (is_marked n) [ true ↦ marked_faults item t | false ↦ part_faults item t ]) (fields_faults item fs) h in
      field_stands item n t fs (is_marked n) refl (not_true (is_among (renamed n) (renamed_names fs)) names.0) faults.0 (part_stands item t) (fields_stand item fs names.1 faults.1)

-- a tree stands for what it spells
spelled_stands : (item : Bool) (t : Tree) (p : Template) → SpellsTemplate item t p → StandsForTemplate item t p
spelled_stands item t p s = subst (StandsForTemplate item t) s.same (go t s.none_wrong)
  where
    go : (u : Tree) → template_faults item u ≡ [] → StandsForTemplate item u (part_of item u)
    go Null e = absurd (cc)
    go (Boolean b) e = absurd (cc)
    go (Integer n) e = absurd (cc)
    go (Text w) e = absurd (cc)
    go (Array ts) e = absurd (cc)
    go (Object fs) e =
        let parts = append-none (duplicate_faults fs) (fields_faults item fs) e in
        object_stands (fields_stand item fs (distinct_names fs parts.0) parts.1)

-- ---- what stands is read

-- nothing is wrong with the fields, and they are read so
record FieldsRead (item : Bool) (fs : Fields) (fields : FieldTemplates) : Type 0 where
  none_wrong : fields_faults item fs ≡ []
  same : field_templates_of item fs ≡ fields
  distinct : are_distinct (renamed_names fs) ≡ true

-- one field more
field_read : (item : Bool) (n m : List ℕ) (t : Tree) (p : Template) (fs : Fields) (fields all : FieldTemplates) (marked : Bool) → is_marked n ≡ marked → renamed n ≡ m → ◌≡◌ {A = List TemplateFault} (elim marked [ true ↦ marked_faults item t | false ↦ part_faults item t ]) [] → ◌≡◌ {A = Template} (elim marked [ true ↦ marked_value item t | false ↦ part_of item t ]) p → FieldsRead item fs fields → PutsField m p fields all → FieldsRead item (AndField n t fs) all
field_read item n m t p fs fields all marked e name none same further puts = record {
  none_wrong = ap₂ ◌++◌ (ap (λ (b : Bool). elim b as (λ _. List TemplateFault) [ true ↦ marked_faults item t | false ↦ part_faults item t ]) e ∙ none) further.none_wrong;
  same = ap₂ (λ k u. with_field k u (field_templates_of item fs)) name (ap (λ (b : Bool). elim b as (λ _. Template) [ true ↦ marked_value item t | false ↦ part_of item t ]) e ∙ same) ∙ (ap (with_field m p) further.same ∙ put_with puts);
  distinct = and_from (not (is_among (renamed n) (renamed_names fs))) (are_distinct (renamed_names fs))
      (not_from_false (is_among (renamed n) (renamed_names fs)) (ap (λ k. is_among k (renamed_names fs)) name ∙ none_among_read item m fs (subst (Absent m) (sym further.same) (put_absent puts (subst HasFieldsInOrder further.same (fields_in_order item fs further.distinct further.none_wrong))))))
      further.distinct;
}

-- an object with such fields
whole_read : (item : Bool) (fs : Fields) (fields : FieldTemplates) → FieldsRead item fs fields → (part_faults item (Object fs) ≡ []) × (part_of item (Object fs) ≡ ObjectTemplate fields)
whole_read item fs fields read = (ap₂ ◌++◌ (ap (λ t. if t then [] else DuplicateAfterStrip ∷ []) read.distinct) read.none_wrong, ap ObjectTemplate read.same)

mutual
  -- what a value stands for is read of it
  part_read : {item : Bool} {t : Tree} {p : Template} → StandsForPart item t p → (part_faults item t ≡ []) × (part_of item t ≡ p)
  part_read stands_for_null = (refl, refl)
  part_read stands_for_boolean = (refl, refl)
  part_read stands_for_integer = (refl, refl)
  part_read stands_for_text = (refl, refl)
  part_read (stands_for_array parts) = let w = parts_read parts in (w.0, ap ArrayTemplate w.1)
  part_read {item} (stands_for_object {fs = fs} {fields = fields} h) = whole_read item fs fields (fields_read h)

  -- so for the elements
  parts_read : {item : Bool} {ts : Trees} {parts : Templates} → StandForParts item ts parts → (parts_faults item ts ≡ []) × (parts_of item ts ≡ parts)
  parts_read no_part_is_left = (refl, refl)
  parts_read (and_part h further) = let w = part_read h in let u = parts_read further in (ap₂ ◌++◌ w.0 u.0, ap₂ AndTemplate w.1 u.1)

  -- so for the fields
  fields_read : {item : Bool} {fs : Fields} {fields : FieldTemplates} → StandForFields item fs fields → FieldsRead item fs fields
  fields_read no_field_is_left = record { none_wrong = refl; same = refl; distinct = refl }
  fields_read {item} (and_marked_field {n = n} {s = s} {p = p} {fs = fs} {fields = fields} {all = all} h further puts) =
      let w = marked_read item h in
      field_read item (n ++ codes ".$") n (Text s) p fs fields all true (marked_name n) (marked_renamed n) w.0 w.1 (fields_read further) puts
  fields_read {item} (and_plain_field {n = n} {t = t} {p = p} {fs = fs} {fields = fields} {all = all} none h further puts) =
      let w = part_read h in
      let plain = unmarked n none in
      field_read item n n t p fs fields all false plain (ap (λ b. if b then take (length n - 2) n else n) plain) w.0 w.1 (fields_read further) puts

-- a tree spells what it stands for
stands_spelled : (item : Bool) (t : Tree) (p : Template) → StandsForTemplate item t p → SpellsTemplate item t p
stands_spelled item t p (object_stands {fs = fs} {fields = fields} h) = let w = whole_read item fs fields (fields_read h) in record { none_wrong = w.0; same = w.1 }

-- both ways
pub template_exactly : (item : Bool) (t : Tree) (p : Template) → SpellsTemplate item t p ↔ StandsForTemplate item t p
template_exactly item t p = (spelled_stands item t p, stands_spelled item t p)
