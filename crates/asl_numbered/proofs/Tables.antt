-- Looking a node up in a table, and adding one at its end.
use Rattle.std.proofs.Common.{◌≡◌, ◌↔◌, ◌<◌, ◌≤◌, ℕ, zero, suc, List, [], ◌∷◌, ◌++◌, length, get_or, Bool, true, false, Option, Some, None, is_some, slice_get, Bor, refl, sym, ap, ◌∙◌, subst, ◌⊎◌, inl, inr, arith}
use Rattle.std.proofs.lemmas.List.{length_push, length-map, get_or_push, get_or_past, map-append}
use Rattle.std.proofs.lemmas.List.Quantifiers.{position-Some}
use Rattle.std.proofs.lemmas.Option.{slice_get-get_or, slice_get_within}
use Rattle.std.proofs.lemmas.Bool.{cases_lt}
use Rattle.std.specs.List.{position}
use Rattle.std.specs.Option.{unwrap_or}
use Rattle.std.specs.Prelude.{IsSome, IfSome}
use Rattle.std.specs.Map.{keys_of, lookup}
use Rattle.indexmap.specs.IndexMap.{insert_entry}
use Rattle.asl_model.specs.Shape as model
use Rattle.asl_numbered.specs.declared.node.Node.{Node}
use Rattle.asl_numbered.specs.declared.node.Node.TheVariants as nodes
use Rattle.asl_numbered.specs.declared.table.Facts.{Facts}
use Rattle.asl_numbered.specs.Expansion.{shape_at, shape_over, parts, AreBelow, RefersBelow, AreDistinct, IsNumberOf, Keeps, expansions}
use Rattle.asl_numbered.specs.Kinds.{AreSeveral, HasProperParts, IsProperNode}
use Rattle.asl_numbered.specs.Table.{AreFactsOf, IsOrdered, IsTable, shapes_in}
use Rattle.asl_numbered.proofs.Expansions.{shape_at_stays, list_stays, pushed, as_many, level}
use Rattle.asl_numbered.proofs.Sameness.{equal, same-shape, alike-equal}
use Rattle.asl_numbered.specs.Laws.{below-wider}

-- as many as there are nodes
pub shapes_length : (es : List (Node × Facts)) → length (shapes_in es) ≡ length es
shapes_length es = as_many (keys_of es) ∙ length-map es (λ e. e.0)

pub key_of : (es : List (Node × Facts)) (n : ℕ) (e : Node × Facts) → slice_get es n ≡ Some e → slice_get (keys_of es) n ≡ Some e.0
key_of [] n e at = absurd (cc)
key_of (first ∷ es) zero e at = let same : first ≡ e = cc in ap (λ x. Some x.0) same
key_of (first ∷ es) (suc n) e at = key_of es n e at

entry-of : (es : List (Node × Facts)) (n : ℕ) (k : Node) → slice_get (keys_of es) n ≡ Some k → (e : Node × Facts) × (slice_get es n ≡ Some e) × (e.0 ≡ k)
entry-of [] n k at = absurd (cc)
entry-of (first ∷ es) zero k at = (first, refl, cc)
entry-of (first ∷ es) (suc n) k at = entry-of es n k at

-- no entries are a table
pub empty_table : (es : List (Node × Facts)) → es ≡ [] → IsTable es
empty_table es none = rw none (record { earlier = λ n e at. absurd (cc); distinct = record { apart = λ m n h i e. absurd (omega (arith, h)) }; facts = λ n e at. absurd (cc); ordered = λ n e at. absurd (cc); proper = λ n e at. absurd (cc) })

-- a node of the table has the first level of the shape of its number
pub entry_level : (es : List (Node × Facts)) (n : ℕ) (e : Node × Facts) → IsTable es → slice_get es n ≡ Some e → shape_at (shapes_in es) n ≡ shape_over (shapes_in es) e.0
entry_level es n e table at = level (keys_of es) n e.0 (key_of es n e at) (table.earlier n e at)

-- its numbers are in the table
pub entry_below : (es : List (Node × Facts)) (n : ℕ) (e : Node × Facts) → IsTable es → slice_get es n ≡ Some e → AreBelow (length (shapes_in es)) (parts e.0)
entry_below es n e table at =
    let within : n ≤ length (shapes_in es) = omega (arith, slice_get_within es n e at, shapes_length es) in
    below-wider n (length (shapes_in es)) (parts e.0) within (table.earlier n e at).each

-- past the end there is Never
pub shape_past : (table : List model.Shape) (n : ℕ) → length table ≤ n → shape_at table n ≡ model.Never
shape_past table n past = get_or_past table n model.Never past

-- what a look-up by number tells of a shape, where it would tell false of Never
told : (test : model.Shape → Bool) (table : List model.Shape) (n : ℕ) (answer : Option Bool) → test model.Never ≡ false → (IsSome answer ↔ n < length table) → IfSome answer (λ b. b ≡ test (shape_at table n)) → unwrap_or answer false ≡ test (shape_at table n)
told test table n (Some b) none there is = is
told test table n None none there is = go (cases_lt n (length table))
  where
    go : (n < length table) ⊎ (length table ≤ n) → false ≡ test (shape_at table n)
    go (inl within) = absurd (let some : false ≡ true = there.1 within in cc)
    go (inr past) = sym (ap test (shape_past table n past) ∙ none)

pub told_inhabited : (table : List model.Shape) (n : ℕ) (answer : Option Bool) → (IsSome answer ↔ n < length table) → IfSome answer (λ b. b ≡ model.inhabited (shape_at table n)) → unwrap_or answer false ≡ model.inhabited (shape_at table n)
told_inhabited table n answer there is = told model.inhabited table n answer refl there is

pub told_several : (table : List model.Shape) (n : ℕ) (answer : Option Bool) → (IsSome answer ↔ n < length table) → IfSome answer (λ b. b ≡ model.has_several (shape_at table n)) → unwrap_or answer false ≡ model.has_several (shape_at table n)
told_several table n answer there is = told model.has_several table n answer refl there is

-- a number that isn't there has Never
pub none_past : (table : List model.Shape) (n : ℕ) (told : Option (Bor Node)) → told ≡ None → (IsSome told ↔ n < length table) → model.Never ≡ shape_at table n
none_past table n (Some node) e there = absurd (cc)
none_past table n None e there = go (cases_lt n (length table))
  where
    go : (n < length table) ⊎ (length table ≤ n) → model.Never ≡ shape_at table n
    go (inl within) = absurd (let some : false ≡ true = there.1 within in cc)
    go (inr past) = sym (shape_past table n past)

-- ---- a node that is there

pub found : (es : List (Node × Facts)) (node : Node) (i : ℕ) → IsTable es → position (equal node) (keys_of es) ≡ Some i → IsNumberOf (shapes_in es) (shape_over (shapes_in es) node) i
found es node i table at =
    let there = position-Some (equal node) (keys_of es) i nodes.Any at in
    let key = get_or (keys_of es) i nodes.Any in
    let entry = entry-of es i key (slice_get-get_or (keys_of es) i nodes.Any there.0) in
    let own : shape_at (shapes_in es) i ≡ shape_over (shapes_in es) key = entry_level es i entry.0 table entry.1 ∙ ap (shape_over (shapes_in es)) entry.2 in
    let same : shape_over (shapes_in es) node ≡ shape_over (shapes_in es) key = same-shape (shapes_in es) node key there.1 in
    let within : i < length (shapes_in es) = omega (arith, shapes_length es, slice_get_within es i entry.0 entry.1) in
    record { within = within; same = own ∙ sym same; alone = λ m h e. table.distinct.apart m i h within (e ∙ same ∙ sym own) }

-- ---- a node that isn't there

absent : (test : Node → Bool) (es : List (Node × Facts)) (n : ℕ) (k : Node) → lookup test es ≡ None → slice_get (keys_of es) n ≡ Some k → test k ≡ false
absent test [] n k none at = absurd (cc)
absent test (e ∷ es) n k none at = go n (test e.0) refl at (λ m h i. absent test es m k h i)
  where
    go : (n : ℕ) (here : Bool) → test e.0 ≡ here → slice_get (keys_of (e ∷ es)) n ≡ Some k → ((m : ℕ) → lookup test es ≡ None → slice_get (keys_of es) m ≡ Some k → test k ≡ false) → test k ≡ false
    go n true is at later = let some : Some e.1 ≡ None = rw is at none in absurd (cc)
    go zero false is at later = let same : e.0 ≡ k = cc in subst (λ x. test x ≡ false) same is
    go (suc n) false is at later = later n (rw is at none) at

-- its shape isn't there either
new-shape : (es : List (Node × Facts)) (node : Node) (m : ℕ) → IsTable es → lookup (equal node) es ≡ None → AreBelow (length (shapes_in es)) (parts node) → IsProperNode (shapes_in es) node → m < length (shapes_in es) → shape_at (shapes_in es) m ≡ shape_over (shapes_in es) node → ⊥
new-shape es node m table none below proper within same =
    let inside : m < length (keys_of es) = omega (arith, as_many (keys_of es)) in
    let key = get_or (keys_of es) m nodes.Any in
    let at : slice_get (keys_of es) m ≡ Some key = slice_get-get_or (keys_of es) m nodes.Any inside in
    let entry = entry-of es m key at in
    let own : shape_at (shapes_in es) m ≡ shape_over (shapes_in es) key = entry_level es m entry.0 table entry.1 ∙ ap (shape_over (shapes_in es)) entry.2 in
    let its : AreBelow (length (shapes_in es)) (parts key) = subst (λ x. AreBelow (length (shapes_in es)) (parts x)) entry.2 (entry_below es m entry.0 table entry.1) in
    let kinds : IsProperNode (shapes_in es) key = subst (IsProperNode (shapes_in es)) entry.2 (table.proper m entry.0 entry.1) in
    let yes : equal node key ≡ true = alike-equal (shapes_in es) table.distinct node key below its proper.proper kinds.proper (sym same ∙ own) in
    let no : equal node key ≡ false = absent (equal node) es m key none at in
    absurd (cc)

pushed-distinct : (table : List model.Shape) (s : model.Shape) → AreDistinct table → ((m : ℕ) → m < length table → shape_at table m ≡ s → ⊥) → AreDistinct (table ++ s ∷ [])
pushed-distinct table s distinct fresh = record { apart = λ m n h i e. go m n (omega (arith, h, length_push table s)) (omega (arith, i, length_push table s)) e }
  where
    longer : List model.Shape
    longer = table ++ s ∷ []

    old : (m : ℕ) → m < length table → shape_at longer m ≡ shape_at table m
    old m h = shape_at_stays table (s ∷ []) m h

    last : (m : ℕ) → m ≡ length table → shape_at longer m ≡ s
    last m e = get_or_push table s model.Never m (sym e)

    side : (m : ℕ) → m ≤ length table → (m < length table) ⊎ (m ≡ length table)
    side m h = split (cases_lt m (length table))
      where
        split : (m < length table) ⊎ (length table ≤ m) → (m < length table) ⊎ (m ≡ length table)
        split (inl a) = inl a
        split (inr a) = inr (omega arith)

    go : (m n : ℕ) → m ≤ length table → n ≤ length table → shape_at longer m ≡ shape_at longer n → m ≡ n
    go m n h i e = both (side m h) (side n i)
      where
        both : (m < length table) ⊎ (m ≡ length table) → (n < length table) ⊎ (n ≡ length table) → m ≡ n
        both (inl a) (inl b) = distinct.apart m n a b (sym (old m a) ∙ e ∙ old n b)
        both (inl a) (inr b) = absurd (fresh m a (sym (old m a) ∙ e ∙ last n b))
        both (inr a) (inl b) = absurd (fresh n b (sym (old n b) ∙ sym e ∙ last m a))
        both (inr a) (inr b) = a ∙ sym b

slice_get-pushed : (es : List (Node × Facts)) (f e : Node × Facts) (n : ℕ) → slice_get (es ++ f ∷ []) n ≡ Some e → (slice_get es n ≡ Some e) ⊎ ((n ≡ length es) × (f ≡ e))
slice_get-pushed [] f e zero at = inr (refl, cc)
slice_get-pushed [] f e (suc n) at = absurd (cc)
slice_get-pushed (first ∷ es) f e zero at = inl at
slice_get-pushed (first ∷ es) f e (suc n) at = step (slice_get-pushed es f e n at)
  where
    step : (slice_get es n ≡ Some e) ⊎ ((n ≡ length es) × (f ≡ e)) → (slice_get es n ≡ Some e) ⊎ ((suc n ≡ suc (length es)) × (f ≡ e))
    step (inl there) = inl there
    step (inr last) = inr (ap suc last.0, last.1)

none-from : {A : Type 0} (o : Option A) → false ≡ is_some o → o ≡ None
none-from None e = refl
none-from (Some a) e = absurd (cc)

inserted-last : (es : List (Node × Facts)) (node : Node) (flag : Facts) → lookup (equal node) es ≡ None → insert_entry equal es node flag ≡ es ++ (node, flag) ∷ []
inserted-last [] node flag none = refl
inserted-last (e ∷ es) node flag none = go (equal node e.0) refl (λ h. inserted-last es node flag h)
  where
    go : (here : Bool) → equal node e.0 ≡ here → (lookup (equal node) es ≡ None → insert_entry equal es node flag ≡ es ++ (node, flag) ∷ []) → insert_entry equal (e ∷ es) node flag ≡ e ∷ (es ++ (node, flag) ∷ [])
    go true is later = let some : Some e.1 ≡ None = rw is at none in absurd (cc)
    go false is later = rw is (ap (λ x. e ∷ x) (later (rw is at none)))

-- a proper node stays one
proper-kept : (table added : List model.Shape) (node : Node) → AreBelow (length table) (parts node) → HasProperParts table node → HasProperParts (table ++ added) node
proper-kept table added nodes.Any h p = tt
proper-kept table added nodes.Never h p = tt
proper-kept table added nodes.Null h p = tt
proper-kept table added nodes.Bool h p = tt
proper-kept table added nodes.Int h p = tt
proper-kept table added nodes.Text h p = tt
proper-kept table added (nodes.List first rest) h p = tt
proper-kept table added (nodes.Object fields extra) h p = tt
proper-kept table added (nodes.Several numbers) h p =
    subst AreSeveral (sym (list_stays table added numbers.items h)) p

module _ (es new : List (Node × Facts)) (node : Node) (flag : Facts) (table : IsTable es) (missing : false ≡ is_some (lookup (equal node) es)) (refers : RefersBelow (length (shapes_in es)) node) (kinds : IsProperNode (shapes_in es) node) (inserted : new ≡ insert_entry equal es node flag) where
  none : lookup (equal node) es ≡ None
  none = none-from (lookup (equal node) es) missing

  is : new ≡ es ++ (node, flag) ∷ []
  is = inserted ∙ inserted-last es node flag none

  -- the node's shape
  abbrev pub own : model.Shape
  own = shape_over (shapes_in es) node

  longer : shapes_in new ≡ shapes_in es ++ own ∷ []
  longer = ap shapes_in is ∙ ap expansions (map-append (λ e. e.0) es ((node, flag) ∷ [])) ∙ pushed (keys_of es) node

  below : AreBelow (length (shapes_in es)) (parts node)
  below = refers.each

  distinct : AreDistinct (shapes_in new)
  distinct = subst AreDistinct (sym longer) (pushed-distinct (shapes_in es) own table.distinct (λ m h e. new-shape es node m table none below kinds h e))

  stays : (n : ℕ) → n < length es → shape_at (shapes_in new) n ≡ shape_at (shapes_in es) n
  stays n h = ap (λ t. shape_at t n) longer ∙ shape_at_stays (shapes_in es) (own ∷ []) n (omega (arith, h, shapes_length es))

  last : shape_at (shapes_in new) (length es) ≡ own
  last = ap (λ t. shape_at t (length es)) longer ∙ get_or_push (shapes_in es) own model.Never (length es) (shapes_length es)

  pub added_keeps : Keeps (shapes_in es) (shapes_in new)
  added_keeps = record { added = own ∷ []; whole = longer }

  pub added_number : IsNumberOf (shapes_in new) own (length es)
  added_number =
      let within : length es < length (shapes_in new) = omega (arith, shapes_length new, ap length is, length_push es (node, flag)) in
      record { within = within; same = last; alone = λ m h e. distinct.apart m (length es) h within (e ∙ sym last) }

  -- a node of the table, and the new one, is proper over all
  kept : (k : Node) → AreBelow (length (shapes_in es)) (parts k) → IsProperNode (shapes_in es) k → IsProperNode (shapes_in new) k
  kept k h is = record { proper = subst (λ t. HasProperParts t k) (sym longer) (proper-kept (shapes_in es) (own ∷ []) k h is.proper) }

  pub added_table : AreFactsOf own flag → IsOrdered node → IsTable new
  added_table right order = record { earlier = λ n e at. earlier n e (there n e at); distinct = distinct; facts = λ n e at. facts n e (there n e at); ordered = λ n e at. ordered n e (there n e at); proper = λ n e at. proper n e (there n e at) }
    where
      there : (n : ℕ) (e : Node × Facts) → slice_get new n ≡ Some e → (slice_get es n ≡ Some e) ⊎ ((n ≡ length es) × ((node, flag) ≡ e))
      there n e at = slice_get-pushed es (node, flag) e n (subst (λ x. slice_get x n ≡ Some e) is at)

      earlier : (n : ℕ) (e : Node × Facts) → (slice_get es n ≡ Some e) ⊎ ((n ≡ length es) × ((node, flag) ≡ e)) → RefersBelow n e.0
      earlier n e (inl old) = table.earlier n e old
      earlier n e (inr at_end) = subst (λ x. RefersBelow n x.0) at_end.1 (subst (λ k. RefersBelow k node) (shapes_length es ∙ sym at_end.0) refers)

      facts : (n : ℕ) (e : Node × Facts) → (slice_get es n ≡ Some e) ⊎ ((n ≡ length es) × ((node, flag) ≡ e)) → AreFactsOf (shape_at (shapes_in new) n) e.1
      facts n e (inl old) = subst (λ s. AreFactsOf s e.1) (sym (stays n (slice_get_within es n e old))) (table.facts n e old)
      facts n e (inr at_end) =
          subst (λ x. AreFactsOf (shape_at (shapes_in new) n) x.1) at_end.1 (subst (λ s. AreFactsOf s flag) (sym (ap (λ k. shape_at (shapes_in new) k) at_end.0 ∙ last)) right)

      ordered : (n : ℕ) (e : Node × Facts) → (slice_get es n ≡ Some e) ⊎ ((n ≡ length es) × ((node, flag) ≡ e)) → IsOrdered e.0
      ordered n e (inl old) = table.ordered n e old
      ordered n e (inr at_end) = subst (λ x. IsOrdered x.0) at_end.1 order

      proper : (n : ℕ) (e : Node × Facts) → (slice_get es n ≡ Some e) ⊎ ((n ≡ length es) × ((node, flag) ≡ e)) → IsProperNode (shapes_in new) e.0
      proper n e (inl old) = kept e.0 (entry_below es n e table old) (table.proper n e old)
      proper n e (inr at_end) = subst (λ x. IsProperNode (shapes_in new) x.0) at_end.1 (kept node below kinds)
