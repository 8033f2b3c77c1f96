-- Reading the fields of an object as templates, one after another, each under its name without the suffix.
use Rattle.std.proofs.Common.{◌≡◌, ℕ, List, [], ◌∷◌, ◌++◌, Bool, true, false, ◌||◌, ◌&&◌, not, if◌then◌else◌, IsTrue, Option, Some, None, is_some, String, Global, string_bytes, string_cmp, bytes_eq, Ordering, Less, Equal, Greater, refl, sym, ap, subst, ◌∙◌, rules}
use Rattle.std.proofs.lemmas.Bool.{and_parts, and_from, or_from, false≢true, true≢false}
use Rattle.std.proofs.lemmas.Cmp.{nat_list_cmp_total}
use Rattle.std.proofs.lemmas.Slice.Eq.{bytes_eq-Decides}
use Rattle.std.specs.BTreeMap.{is_at, insert_entry}
use Rattle.std.specs.Map.{lookup}
use Rattle.std.specs.Ordering.{is_eq, match_ordering, ordering_reverse}
use Rattle.asl_model.specs.ShapeSpelling.{is_among, are_distinct}
use Rattle.asl_model.specs.Template as template
use Rattle.asl_model.specs.Template.{FieldTemplates, NoFieldTemplates, AndFieldTemplate}
use Rattle.asl_model.specs.TemplateSpelling as model
use Rattle.asl_model.specs.TemplateSpelling.{renamed, renamed_names, with_field, field_templates_of, fields_faults, part_faults, duplicate_faults}
use Rattle.asl_model.specs.Tree as json
use Rattle.asl_model.specs.Tree.{comes_before}
use Rattle.asl_model.proofs.ReadingTemplates.{Absent, other_way, neither, not_true, absent_as_read}
use Rattle.asl_model.proofs.ShapeWitness.{comes_before-trans, bytes_eq-comm}
use Rattle.asl_model.proofs.TemplateGrammar.{one_way, none_among_read}
use Rattle.serde_json.specs.declared.value.Value.{Value}
use Rattle.asl_tree.proofs.Values.{same_name}
use Rattle.asl_tree.specs.Values.{tree_in, fields_in}
use Rattle.asl_template.specs.Field.{field_template, field_faults}
use Rattle.asl_template.specs.Refusal.{Tells}
use Rattle.asl_template.specs.View.{view, entries_view}
use Rattle.asl_template.specs.declared.refusal.SpellingRefusal.{SpellingRefusal}
use Rattle.asl_template.specs.declared.refusal.SpellingRefusal.TheVariants.{DuplicateAfterStrip}
use Rattle.asl_template.specs.declared.template.Template.{Template}
use Rattle.asl_template.proofs.Telling.{told_left, told_right, told_same}

abbrev pub Member : Type 0
Member = String Global × Value

abbrev Entry : Type 0
Entry = String Global × Template

-- ---- putting a field in

-- one of two names comes before the other
exactly_one : (a b : List ℕ) → bytes_eq a b ≡ false → comes_before b a ≡ not (comes_before a b)
exactly_one a b apart = go (comes_before a b) refl
  where
    go : (first : Bool) → comes_before a b ≡ first → comes_before b a ≡ not first
    go true is = one_way b a is
    go false is = other_way a b is apart

-- two fields in front of others, in their order
either_first : (a b : List ℕ) (first : Bool) (p q : template.Template) (fields : FieldTemplates) → comes_before b a ≡ not first
    → (if comes_before b a then AndFieldTemplate b q (AndFieldTemplate a p fields) else AndFieldTemplate a p (AndFieldTemplate b q fields)) ≡ (if first then AndFieldTemplate a p (AndFieldTemplate b q fields) else AndFieldTemplate b q (AndFieldTemplate a p fields))
either_first a b true p q fields is = rw is refl
either_first a b false p q fields is = rw is refl

-- what is behind the first of two names, and not before the second, tells which comes first
before_both : (m a b : List ℕ) → IsTrue (comes_before m a) → comes_before m b ≡ false → IsTrue (comes_before b a)
before_both m a b h not_before = go (bytes_eq m b) refl
  where
    go : (same : Bool) → bytes_eq m b ≡ same → IsTrue (comes_before b a)
    go true is = subst (λ n. IsTrue (comes_before n a)) ((bytes_eq-Decides m b).0 is) h
    go false is = comes_before-trans b m a (other_way m b not_before is) h

-- two fields can be put in in either order
either_order : (a b : List ℕ) (p q : template.Template) (fields : FieldTemplates) → bytes_eq a b ≡ false → with_field a p (with_field b q fields) ≡ with_field b q (with_field a p fields)
either_order a b p q NoFieldTemplates apart = either_first a b (comes_before a b) p q NoFieldTemplates (exactly_one a b apart)
either_order a b p q (AndFieldTemplate m r fields) apart = go (comes_before m a) refl (comes_before m b) refl (either_order a b p q fields apart)
  where
    all : FieldTemplates
    all = AndFieldTemplate m r fields

    go : (x : Bool) → comes_before m a ≡ x → (y : Bool) → comes_before m b ≡ y → with_field a p (with_field b q fields) ≡ with_field b q (with_field a p fields) → with_field a p (with_field b q all) ≡ with_field b q (with_field a p all)
    go true x true y below = rw (y, x, y) (ap (AndFieldTemplate m r) below)
    go true x false y below = rw (y, x, before_both m a b x y, y) refl
    go false x true y below = rw (y, x, before_both m b a y x, y) refl
    go false x false y below = rw (y, x, y) (either_first a b (comes_before a b) p q all (exactly_one a b apart))

-- ---- a map's entry for a name

-- there is none where no field has the name
absent_lookup : (k : String Global) (es : List Entry) → lookup (is_at (string_cmp k)) es ≡ None → Absent (string_bytes k) (entries_view es)
absent_lookup k [] none = tt
absent_lookup k (e ∷ es) none = go (is_eq (string_cmp k e.0)) refl (absent_lookup k es)
  where
    go : (here : Bool) → is_eq (string_cmp k e.0) ≡ here → (lookup (is_at (string_cmp k)) es ≡ None → Absent (string_bytes k) (entries_view es)) → Absent (string_bytes k) (entries_view (e ∷ es))
    go true is below = let found : Some e.1 ≡ None = rw is at none in absurd (cc)
    go false is below = (same_name (string_bytes k) (string_bytes e.0) ∙ is, below (rw is at none))

-- and the other way
lookup_absent : (k : String Global) (es : List Entry) → Absent (string_bytes k) (entries_view es) → lookup (is_at (string_cmp k)) es ≡ None
lookup_absent k [] h = refl
lookup_absent k (e ∷ es) h = rw (sym (same_name (string_bytes k) (string_bytes e.0)) ∙ h.0) (lookup_absent k es h.1)

-- a name that is put into the map for the first time is put among the fields
inserted : (k : String Global) (p : Template) (es : List Entry) → Absent (string_bytes k) (entries_view es) → entries_view (insert_entry string_cmp es k p) ≡ with_field (string_bytes k) (view p) (entries_view es)
inserted k p [] h = refl
inserted k p (e ∷ es) h = go (string_cmp k e.0) refl (inserted k p es h.1)
  where
    go : (order : Ordering) → string_cmp k e.0 ≡ order → entries_view (insert_entry string_cmp es k p) ≡ with_field (string_bytes k) (view p) (entries_view es) → entries_view (insert_entry string_cmp (e ∷ es) k p) ≡ with_field (string_bytes k) (view p) (entries_view (e ∷ es))
    go Less is below =
        let behind : comes_before (string_bytes e.0) (string_bytes k) ≡ false = one_way (string_bytes e.0) (string_bytes k) (ap (λ o. match_ordering o true false false) is) in
        rw (is, behind) refl
    go Equal is below = absurd (true≢false (sym (same_name (string_bytes k) (string_bytes e.0) ∙ ap is_eq is) ∙ h.0))
    go Greater is below =
        let front : comes_before (string_bytes e.0) (string_bytes k) ≡ true = ap (λ o. match_ordering o true false false) (nat_list_cmp_total.antisymm (string_bytes e.0) (string_bytes k) ∙ ap ordering_reverse is) in
        rw (is, front) (ap (AndFieldTemplate (string_bytes e.0) (view e.1)) below)

-- ---- fields that are gone through

-- one more field at the end, of a name that was none of the earlier ones'
one_more : (item : Bool) (done : List Member) (e : Member) → is_among (renamed (string_bytes e.0)) (renamed_names (fields_in done)) ≡ false
    → field_templates_of item (fields_in (done ++ (e ∷ []))) ≡ with_field (renamed (string_bytes e.0)) (field_template item (string_bytes e.0) (tree_in e.1)) (field_templates_of item (fields_in done))
one_more item [] e new = refl
one_more item (d ∷ done) e new =
    let n = string_bytes d.0 in
    let parts = neither (bytes_eq (renamed n) (renamed (string_bytes e.0))) (is_among (renamed (string_bytes e.0)) (renamed_names (fields_in done))) new in
    ap (with_field (renamed n) (field_template item n (tree_in d.1))) (one_more item done e parts.1)
    ∙ either_order (renamed n) (renamed (string_bytes e.0)) (field_template item n (tree_in d.1)) (field_template item (string_bytes e.0) (tree_in e.1)) (field_templates_of item (fields_in done)) parts.0

-- a name that isn't among those gone through, nor the next one's
among_last : (k : List ℕ) (done : List Member) (e : Member) → is_among k (renamed_names (fields_in done)) ≡ false → bytes_eq (renamed (string_bytes e.0)) k ≡ false → is_among k (renamed_names (fields_in (done ++ (e ∷ [])))) ≡ false
among_last k [] e new apart = or_from (bytes_eq (renamed (string_bytes e.0)) k) false apart refl
among_last k (d ∷ done) e new apart =
    let parts = neither (bytes_eq (renamed (string_bytes d.0)) k) (is_among k (renamed_names (fields_in done))) new in
    or_from (bytes_eq (renamed (string_bytes d.0)) k) (is_among k (renamed_names (fields_in (done ++ (e ∷ []))))) parts.0 (among_last k done e parts.1 apart)

-- the names are still distinct then
distinct_more : (done : List Member) (e : Member) → is_among (renamed (string_bytes e.0)) (renamed_names (fields_in done)) ≡ false → are_distinct (renamed_names (fields_in done)) ≡ true → are_distinct (renamed_names (fields_in (done ++ (e ∷ [])))) ≡ true
distinct_more [] e new distinct = refl
distinct_more (d ∷ done) e new distinct =
    let n = renamed (string_bytes d.0) in
    let names = renamed_names (fields_in done) in
    let more = renamed_names (fields_in (done ++ (e ∷ []))) in
    let parts = neither (bytes_eq n (renamed (string_bytes e.0))) (is_among (renamed (string_bytes e.0)) names) new in
    let both = and_parts (not (is_among n names)) (are_distinct names) distinct in
    let none : is_among n more ≡ false = among_last n done e (not_true (is_among n names) both.0) (bytes_eq-comm n (renamed (string_bytes e.0)) parts.0) in
    and_from (not (is_among n more)) (are_distinct more) (ap not none) (distinct_more done e parts.1 both.1)

either_true : (b : Bool) → (b || true) ≡ true
either_true true = refl
either_true false = refl

-- a name that comes later
among_all : (k : List ℕ) (done : List Member) (e : Member) (more : List Member) → bytes_eq (renamed (string_bytes e.0)) k ≡ true → is_among k (renamed_names (fields_in (done ++ (e ∷ more)))) ≡ true
among_all k [] e more same = rw same refl
among_all k (d ∷ done) e more same = rw (among_all k done e more same) (either_true (bytes_eq (renamed (string_bytes d.0)) k))

second_false : (b : Bool) → (b && false) ≡ false
second_false true = refl
second_false false = refl

-- a name that was there before stands twice
name_twice : (done : List Member) (e : Member) (more : List Member) → is_among (renamed (string_bytes e.0)) (renamed_names (fields_in done)) ≡ true → are_distinct (renamed_names (fields_in (done ++ (e ∷ more)))) ≡ false
name_twice [] e more there = absurd (false≢true there)
name_twice (d ∷ done) e more there = go (bytes_eq n (renamed (string_bytes e.0))) refl (name_twice done e more)
  where
    n : List ℕ
    n = renamed (string_bytes d.0)

    later : List (List ℕ)
    later = renamed_names (fields_in (done ++ (e ∷ more)))

    go : (same : Bool) → bytes_eq n (renamed (string_bytes e.0)) ≡ same → (is_among (renamed (string_bytes e.0)) (renamed_names (fields_in done)) ≡ true → are_distinct later ≡ false) → are_distinct (renamed_names (fields_in ((d ∷ done) ++ (e ∷ more)))) ≡ false
    go true is below =
        let turned : bytes_eq (renamed (string_bytes e.0)) n ≡ true = (bytes_eq-Decides (renamed (string_bytes e.0)) n).1 (sym ((bytes_eq-Decides n (renamed (string_bytes e.0))).0 is)) in
        rw (among_all n done e more turned) refl
    go false is below = rw (below (rw is at there)) (second_false (not (is_among n later)))

-- ---- what reading a field gives

-- a name is among those of the fields exactly where the map has it
known_name : (item : Bool) (fs : json.Fields) (k : String Global) (n : List ℕ) (es : List Entry) → string_bytes k ≡ n → entries_view es ≡ field_templates_of item fs → is_some (lookup (is_at (string_cmp k)) es) ≡ is_among n (renamed_names fs)
known_name item fs k n es named so_far = go (lookup (is_at (string_cmp k)) es) refl (is_among n (renamed_names fs)) refl
  where
    go : (old : Option Template) → lookup (is_at (string_cmp k)) es ≡ old → (there : Bool) → is_among n (renamed_names fs) ≡ there → is_some old ≡ there
    go None found false there = refl
    go (Some p) found true there = refl
    go None found true there =
        let absent = subst (Absent (string_bytes k)) so_far (absent_lookup k es found) in
        sym (none_among_read item n fs (subst (λ m. Absent m (field_templates_of item fs)) named absent)) ∙ there
    go (Some p) found false there =
        let absent = subst (Absent (string_bytes k)) (sym so_far) (subst (λ m. Absent m (field_templates_of item fs)) (sym named) (absent_as_read item n fs there)) in
        let none : Some p ≡ None = sym found ∙ lookup_absent k es absent in
        absurd (cc)

-- what isn't there is none
not_there : {A : Type 0} (o : Option A) → is_some o ≡ false → o ≡ None
not_there None h = refl
not_there (Some a) h = absurd (true≢false h)

-- the first field of a name: it is put among the templates
pub field_read : (item : Bool) (done : List Member) (e : Member) (k : String Global) (p : Template) (es new : List Entry) (old : Option Template) (text : List ℕ) → text ≡ string_bytes e.0 → string_bytes k ≡ renamed text → view p ≡ field_template item text (tree_in e.1)
    → old ≡ lookup (is_at (string_cmp k)) es → false ≡ is_some old → new ≡ insert_entry string_cmp es k p → entries_view es ≡ field_templates_of item (fields_in done) → are_distinct (renamed_names (fields_in done)) ≡ true
    → (entries_view new ≡ field_templates_of item (fields_in (done ++ (e ∷ [])))) × (are_distinct (renamed_names (fields_in (done ++ (e ∷ [])))) ≡ true)
field_read item done e k p es new old text same called shown found first is so_far distinct =
    let named : string_bytes k ≡ renamed (string_bytes e.0) = called ∙ ap renamed same in
    let read : view p ≡ field_template item (string_bytes e.0) (tree_in e.1) = shown ∙ ap (λ n. field_template item n (tree_in e.1)) same in
    let none : is_some (lookup (is_at (string_cmp k)) es) ≡ false = ap is_some (sym found) ∙ sym first in
    let among = sym (known_name item (fields_in done) k (renamed (string_bytes e.0)) es named so_far) ∙ none in
    (ap entries_view is ∙ inserted k p es (absent_lookup k es (not_there (lookup (is_at (string_cmp k)) es) none)) ∙ rw (named, read, so_far) (sym (one_more item done e among)), distinct_more done e among distinct)

-- the second field of a name
pub twice_told : (item : Bool) (done : List Member) (e : Member) (more whole : List Member) (k : String Global) (es : List Entry) (old : Option Template) (text : List ℕ) → whole ≡ done ++ (e ∷ more) → text ≡ string_bytes e.0 → string_bytes k ≡ renamed text → old ≡ lookup (is_at (string_cmp k)) es → true ≡ is_some old → entries_view es ≡ field_templates_of item (fields_in done)
    → Tells DuplicateAfterStrip (part_faults item (json.Object (fields_in whole)))
twice_told item done e more whole k es old text all same called found second so_far =
    let named : string_bytes k ≡ renamed (string_bytes e.0) = called ∙ ap renamed same in
    let there = sym (known_name item (fields_in done) k (renamed (string_bytes e.0)) es named so_far) ∙ ap is_some (sym found) ∙ sym second in
    let faults : duplicate_faults (fields_in whole) ≡ model.DuplicateAfterStrip ∷ [] = ap (λ ms. duplicate_faults (fields_in ms)) all ∙ ap (λ b. if b then [] else (model.DuplicateAfterStrip ∷ [])) (name_twice done e more there) in
    told_left DuplicateAfterStrip (duplicate_faults (fields_in whole)) (fields_faults item (fields_in whole)) (rw faults (record { listed = search rules }))

-- what is wrong with one field is wrong with the object
pub field_told : (item : Bool) (e : SpellingRefusal) (whole left more : List Member) (m : Member) (text : List ℕ) → fields_faults item (fields_in whole) ≡ fields_faults item (fields_in left) → left ≡ m ∷ more → text ≡ string_bytes m.0 → Tells e (field_faults item text (tree_in m.1)) → Tells e (part_faults item (json.Object (fields_in whole)))
field_told item e whole left more m text so_far split same told =
    told_right e (duplicate_faults (fields_in whole)) (fields_faults item (fields_in whole))
    (told_same e _ _ (told_left e (field_faults item text (tree_in m.1)) (fields_faults item (fields_in more)) told) (ap (λ n. field_faults item n (tree_in m.1) ++ fields_faults item (fields_in more)) same ∙ sym (so_far ∙ ap (λ ms. fields_faults item (fields_in ms)) split)))

-- a field with which nothing is wrong
pub field_passed : (item : Bool) (whole left more : List Member) (m : Member) (text : List ℕ) → fields_faults item (fields_in whole) ≡ fields_faults item (fields_in left) → left ≡ m ∷ more → text ≡ string_bytes m.0 → field_faults item text (tree_in m.1) ≡ [] → fields_faults item (fields_in whole) ≡ fields_faults item (fields_in more)
field_passed item whole left more m text so_far split same none =
    so_far ∙ ap (λ ms. fields_faults item (fields_in ms)) split ∙ ap (λ faults. faults ++ fields_faults item (fields_in more)) (ap (λ n. field_faults item n (tree_in m.1)) (sym same) ∙ none)
