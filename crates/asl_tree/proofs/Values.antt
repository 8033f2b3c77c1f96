-- The tree that a value is, and the one by which it is read.
use Rattle.std.proofs.Common.{◌≡◌, ◌^◌, ℕ, pos, Bool, true, false, if◌then◌else◌, cond, nat_lt, is_some, List, [], ◌∷◌, String, Global, string_bytes, bytes_eq, Option, Some, None, option_map, option_and_then, unwrap_or, Result, Ok, Err, refl, sym, ap, subst, ◌∙◌}
use Rattle.std.specs.Prelude.{IfOk}
use Rattle.std.specs.BTreeMap.{is_at}
use Rattle.std.specs.Cmp.Lexicographic.{slice_cmp}
use Rattle.std.specs.Map.{lookup}
use Rattle.std.specs.Ordering.{is_eq, nat_cmp}
use Rattle.std.proofs.lemmas.Cmp.{nat_list_eq_equiv}
use Rattle.std.proofs.lemmas.Map.Text.{is_eq-slice_cmp}
use Rattle.serde_json.specs.Data as json
use Rattle.serde_json.specs.Data.{Data, Num, Items, Members, unsigned, negative, float}
use Rattle.serde_json.specs.Find.{as_i64, as_integer}
use Rattle.serde_json.specs.declared.value.Value.{Value}
use Rattle.asl_model.specs.Json.{tree_of, elements_of, members_of}
use Rattle.asl_model.specs.Tree.{Tree, Null, Boolean, Integer, Text, Array, Object, Trees, NoTrees, AndTree, Fields, NoFields, AndField, field_named}
use Rattle.asl_tree.specs.Values.{IsTreeWith, whole, whole_elements, whole_fields, tree_in, fields_in}

-- two parts that are there, as one
both : {A B C : Type 0} (f : A → B → C) (o : Option A) (p : Option B) (a : A) (b : B) → (is_some o ≡ true → o ≡ Some a) → (is_some p ≡ true → p ≡ Some b)
    → is_some (option_and_then (λ x. option_map (f x) p) o) ≡ true → option_and_then (λ x. option_map (f x) p) o ≡ Some (f a b)
both f None p a b first later h = absurd (cc)
both f (Some x) None a b first later h = absurd (cc)
both f (Some x) (Some y) a b first later h =
    let p : Some x ≡ Some a = first refl in
    let q : Some y ≡ Some b = later refl in
    let same : x ≡ a = cc in
    let other : y ≡ b = cc in
    rw (same, other) refl

-- one part that is there
mapped : {A : Type 0} (f : A → Tree) (o : Option A) (a : A) → (is_some o ≡ true → o ≡ Some a) → is_some (option_map f o) ≡ true → option_map f o ≡ Some (f a)
mapped f None a same h = absurd (cc)
mapped f (Some x) a same h = ap (option_map f) (same refl)

number_there : (n : Num) → is_some (option_map Integer (as_i64 n)) ≡ true → option_map Integer (as_i64 n) ≡ Some (unwrap_or (option_map Integer (as_integer n)) Null)
number_there (unsigned n) h = by (nat_lt n (2 ^ 63)) h
  where
    by : (b : Bool) → is_some (option_map Integer (if b then Some (pos n) else None)) ≡ true → option_map Integer (if b then Some (pos n) else None) ≡ Some (Integer (pos n))
    by true h = refl
    by false h = absurd (cc)
number_there (negative z) h = refl
number_there (float x) h = absurd (cc)

mutual
  -- where a value is a tree, it is read by that
  pub tree_there : (v : Data) → is_some (tree_of v) ≡ true → tree_of v ≡ Some (whole v)
  tree_there json.null h = refl
  tree_there (json.boolean b) h = refl
  tree_there (json.number n) h = number_there n h
  tree_there (json.string s) h = refl
  tree_there (json.array vs) h = mapped Array (elements_of vs) (whole_elements vs) (elements_there vs) h
  tree_there (json.object ms) h = mapped Object (members_of ms) (whole_fields ms) (fields_there ms) h

  -- so for the elements
  elements_there : (vs : Items) → is_some (elements_of vs) ≡ true → elements_of vs ≡ Some (whole_elements vs)
  elements_there json.no_items h = refl
  elements_there (json.item v vs) h = both AndTree (tree_of v) (elements_of vs) (whole v) (whole_elements vs) (tree_there v) (elements_there vs) h

  -- so for the members
  fields_there : (ms : Members) → is_some (members_of ms) ≡ true → members_of ms ≡ Some (whole_fields ms)
  fields_there json.no_members h = refl
  fields_there (json.member n v ms) h = both (AndField n) (tree_of v) (members_of ms) (whole v) (whole_fields ms) (tree_there v) (fields_there ms) h

-- the tree that it is
pub whole-tree_of : (v : Data) (t : Tree) → tree_of v ≡ Some t → whole v ≡ t
whole-tree_of v t h = let is : Some (whole v) ≡ Some t = sym (tree_there v (ap is_some h)) ∙ h in cc

-- ---- what holds of the tree that a value is

-- it holds of the tree by which the value is read
pub holds_whole : (P : Tree → Type 0) (v : Data) → is_some (tree_of v) ≡ true → P (whole v) → IsTreeWith P v
holds_whole P v h p = record { tree = whole v; is = tree_there v h; holds = p }

pub answer_whole : {A E : Type 0} (P : A → Tree → Type 0) (r : Result A E) (v : Data) → is_some (tree_of v) ≡ true → IfOk r (λ a. P a (whole v)) → IfOk r (λ a. IsTreeWith (P a) v)
answer_whole P (Ok a) v h p = holds_whole (P a) v h p
answer_whole P (Err e) v h p = tt

-- it holds of whatever tree the value is
pub holds_this : (P : Tree → Type 0) (v : Data) (t : Tree) → tree_of v ≡ Some t → IsTreeWith P v → P t
holds_this P v t h o = let both : Some o.tree ≡ Some t = sym o.is ∙ h in subst P (cc) o.holds

pub answer_this : {A E : Type 0} (P : A → Tree → Type 0) (r : Result A E) (v : Data) (t : Tree) → tree_of v ≡ Some t → IfOk r (λ a. IsTreeWith (P a) v) → IfOk r (λ a. P a t)
answer_this P (Ok a) v t h o = holds_this (P a) v t h o
answer_this P (Err e) v t h o = tt

-- ---- looking a field up

-- a name is another where it compares as equal
pub same_name : (k m : List ℕ) → bytes_eq m k ≡ is_eq (slice_cmp nat_cmp k m)
same_name k m = nat_list_eq_equiv.symm m k ∙ sym (is_eq-slice_cmp k m)

-- a function of what is picked
pub picked : {A B : Type 0} (f : A → B) (x : A) (b : Bool) (s : Option A) → cond b (Some (f x)) (option_map f s) ≡ option_map f (cond b (Some x) s)
picked f x true s = refl
picked f x false s = refl

-- a look-up in a map finds what the fields have that it is read by
pub field_named_lookup : (q : List ℕ) (es : List (String Global × Value)) → field_named q (fields_in es) ≡ option_map tree_in (lookup (is_at (λ k. slice_cmp nat_cmp q (string_bytes k))) es)
field_named_lookup q [] = refl
field_named_lookup q (e ∷ es) =
    rw (same_name q (string_bytes e.0), field_named_lookup q es) (picked tree_in e.1 _ _)
