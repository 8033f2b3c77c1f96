-- Going through the fields of two maps side by side.
use Rattle.std.proofs.Common.{◌≡◌, ℕ, List, [], ◌∷◌, Bool, true, false, is_some, Some, None, bytes_eq, not, IsTrue, Bor, ◌≢◌, String, Global, string_bytes, string_cmp, nat_cmp, Ordering, Less, Equal, Greater, refl, sym, ap, ◌∙◌, subst, ◌⊎◌, inl, inr}
use Rattle.std.proofs.lemmas.Cmp.{nat_list_cmp_total}
use Rattle.std.proofs.lemmas.Map.Text.{is_eq-slice_cmp}
use Rattle.std.proofs.lemmas.Slice.Eq.{bytes_eq-Decides}
use Rattle.std.specs.Cmp.Lexicographic.{slice_cmp}
use Rattle.std.specs.List.{AllByRecursion}
use Rattle.std.specs.List.Sorted.{IsStrictlySortedBy}
use Rattle.std.specs.Map.{keys_of}
use Rattle.std.specs.Ordering.{is_eq, is_lt, match_ordering, ordering_reverse}
use Rattle.asl_model.specs.Path.{Name}
use Rattle.asl_model.specs.Tree.{Object, comes_before, field_named}
use Rattle.asl_tree.proofs.Views.{Entry}
use Rattle.asl_tree.specs.View.{view, entries_view}
use Rattle.asl_tree.specs.declared.Tree.{Tree}
use Rattle.asl_differences.specs.Places.{IsAlone, IsDifference, expected_alone, found_alone}
use Rattle.asl_differences.specs.declared.trees.Difference.{Difference}
use Rattle.asl_differences.proofs.Places.{differ_alone}

-- the name comes before those of all the entries
abbrev pub AllAbove : List ℕ → List Entry → Type 0
AllAbove n es = AllByRecursion (λ (k : String Global). slice_cmp nat_cmp n (string_bytes k) ≡ Less) (keys_of es)

-- some entry has the name
abbrev HasName : List ℕ → List Entry → Type 0
HasName n es = is_some (field_named n (entries_view es)) ≡ true

not_equal : (n m : List ℕ) → is_eq (slice_cmp nat_cmp n m) ≡ false → bytes_eq m n ≡ false
not_equal n m apart = go (bytes_eq m n) refl
  where
    go : (same : Bool) → bytes_eq m n ≡ same → same ≡ false
    go true is =
        let e : m ≡ n = (bytes_eq-Decides m n).0 is in
        let again : is_eq (slice_cmp nat_cmp n m) ≡ true = is_eq-slice_cmp n m ∙ (bytes_eq-Decides n m).1 (sym e) in
        sym again ∙ apart
    go false is = refl

above_trans : (n m : List ℕ) (es : List Entry) → slice_cmp nat_cmp n m ≡ Less → AllAbove m es → AllAbove n es
above_trans n m [] less h = tt
above_trans n m (e ∷ es) less h = (nat_list_cmp_total.trans n m (string_bytes e.0) less h.0, above_trans n m es less h.1)

-- a name that comes before those of all the entries is none of theirs
above_named : (n : List ℕ) (es : List Entry) → AllAbove n es → field_named n (entries_view es) ≡ None
above_named n [] h = refl
above_named n (e ∷ es) h = rw (not_equal n (string_bytes e.0) (ap is_eq h.0), above_named n es h.1) refl

-- such a name is another than one of theirs
apart_from : (n q : List ℕ) (es : List Entry) → AllAbove n es → HasName q es → bytes_eq n q ≡ false
apart_from n q es above some = go (bytes_eq n q) refl
  where
    go : (same : Bool) → bytes_eq n q ≡ same → same ≡ false
    go true is =
        let same : n ≡ q = (bytes_eq-Decides n q).0 is in
        let none : field_named q (entries_view es) ≡ None = subst (λ m. field_named m (entries_view es) ≡ None) same (above_named n es above) in
        let no : is_some (field_named q (entries_view es)) ≡ false = ap is_some none in
        sym some ∙ no
    go false is = refl

-- the field in front has its name
named_first : (n : List ℕ) (e : Entry) (es : List Entry) → string_bytes e.0 ≡ n → field_named n (entries_view (e ∷ es)) ≡ Some (view e.1)
named_first n e es same = rw ((bytes_eq-Decides (string_bytes e.0) n).1 same) refl

-- one of another name is found behind it
named_behind : (q : List ℕ) (e : Entry) (es : List Entry) → bytes_eq (string_bytes e.0) q ≡ false → field_named q (entries_view (e ∷ es)) ≡ field_named q (entries_view es)
named_behind q e es apart = rw apart refl

-- in order, what is in front comes before the others
pub in_order_behind : (e : Entry) (es : List Entry) → IsStrictlySortedBy string_cmp (keys_of (e ∷ es)) → IsStrictlySortedBy string_cmp (keys_of es)
unfolding IsStrictlySortedBy
in_order_behind e es h = h.1

above_others : (e : Entry) (es : List Entry) → IsStrictlySortedBy string_cmp (keys_of (e ∷ es)) → AllAbove (string_bytes e.0) es
unfolding IsStrictlySortedBy
above_others e es h = h.0

-- so for entries that are known to begin with it
pub named_in_order : (e : Entry) (es all : List Entry) → all ≡ e ∷ es → field_named (string_bytes e.0) (entries_view all) ≡ Some (view e.1)
named_in_order e es all is = ap (λ x. field_named (string_bytes e.0) (entries_view x)) is ∙ named_first (string_bytes e.0) e es refl

-- The names that are still to come on either side stand for the same in all the entries as in those that are left.
pub record IsAsFar (expected found left others : List Entry) : Type 0 where
  pub left_in_order : IsStrictlySortedBy string_cmp (keys_of left)
  pub others_in_order : IsStrictlySortedBy string_cmp (keys_of others)
  pub in_expected : (q : List ℕ) → HasName q left ⊎ HasName q others → field_named q (entries_view expected) ≡ field_named q (entries_view left)
  pub in_found : (q : List ℕ) → HasName q left ⊎ HasName q others → field_named q (entries_view found) ≡ field_named q (entries_view others)

-- so it is at the beginning
pub at_beginning : (expected found left others : List Entry) → left ≡ expected → others ≡ found → IsStrictlySortedBy string_cmp (keys_of expected) → IsStrictlySortedBy string_cmp (keys_of found) → IsAsFar expected found left others
at_beginning expected found left others from from_other in_order in_other_order = record {
  left_in_order = subst (λ es. IsStrictlySortedBy string_cmp (keys_of es)) (sym from) in_order;
  others_in_order = subst (λ es. IsStrictlySortedBy string_cmp (keys_of es)) (sym from_other) in_other_order;
  in_expected = λ q some. ap (λ es. field_named q (entries_view es)) (sym from);
  in_found = λ q some. ap (λ es. field_named q (entries_view es)) (sym from_other);
}

-- where the first on both sides have one name
module _ (expected found left others : List Entry) (e f : Entry) (same : string_bytes e.0 ≡ string_bytes f.0) (h : IsAsFar expected found (e ∷ left) (f ∷ others)) where
  another : (q : List ℕ) → HasName q left ⊎ HasName q others → bytes_eq (string_bytes e.0) q ≡ false
  another q (inl some) = apart_from (string_bytes e.0) q left (above_others e left h.left_in_order) some
  another q (inr some) = apart_from (string_bytes e.0) q others (subst (λ n. AllAbove n others) (sym same) (above_others f others h.others_in_order)) some

  another_too : (q : List ℕ) → HasName q left ⊎ HasName q others → bytes_eq (string_bytes f.0) q ≡ false
  another_too q some = ap (λ n. bytes_eq n q) (sym same) ∙ another q some

  still : (q : List ℕ) → HasName q left ⊎ HasName q others → HasName q (e ∷ left) ⊎ HasName q (f ∷ others)
  still q (inl some) = inl (ap is_some (named_behind q e left (another q (inl some))) ∙ some)
  still q (inr some) = inr (ap is_some (named_behind q f others (another_too q (inr some))) ∙ some)

  -- so it is behind them
  behind_both : IsAsFar expected found left others
  behind_both = record {
    left_in_order = in_order_behind e left h.left_in_order;
    others_in_order = in_order_behind f others h.others_in_order;
    in_expected = λ q some. h.in_expected q (still q some) ∙ named_behind q e left (another q some);
    in_found = λ q some. h.in_found q (still q some) ∙ named_behind q f others (another_too q some);
  }

  -- and that name stands for these two
  both_in_expected : field_named (string_bytes e.0) (entries_view expected) ≡ Some (view e.1)
  both_in_expected =
      let here = named_first (string_bytes e.0) e left refl in
      h.in_expected (string_bytes e.0) (inl (ap is_some here)) ∙ here

  both_in_found : field_named (string_bytes e.0) (entries_view found) ≡ Some (view f.1)
  both_in_found =
      let here = named_first (string_bytes e.0) e left refl in
      h.in_found (string_bytes e.0) (inl (ap is_some here)) ∙ named_first (string_bytes e.0) f others (sym same)

-- the same of lists that are known to begin with them
module _ (expected found now left now_others others : List Entry) (e f : Entry) (is : now ≡ e ∷ left) (others_is : now_others ≡ f ∷ others) (same : string_bytes e.0 ≡ string_bytes f.0) (h : IsAsFar expected found now now_others) where
  at_both : IsAsFar expected found (e ∷ left) (f ∷ others)
  at_both = subst (λ es. IsAsFar expected found (e ∷ left) es) others_is (subst (λ es. IsAsFar expected found es now_others) is h)

  pub next_of_both : IsAsFar expected found left others
  next_of_both = behind_both expected found left others e f same at_both

  pub both_expected : field_named (string_bytes e.0) (entries_view expected) ≡ Some (view e.1)
  both_expected = both_in_expected expected found left others e f same at_both

  pub both_found : field_named (string_bytes e.0) (entries_view found) ≡ Some (view f.1)
  both_found = both_in_found expected found left others e f same at_both

-- ---- what a name stands for that is on one side alone

-- the first that is left, where all the others come behind it
module _ (expected found now left others : List Entry) (e : Entry) (is : now ≡ e ∷ left) (above : AllAbove (string_bytes e.0) others) (h : IsAsFar expected found now others) where
  pub left_alone_expected : field_named (string_bytes e.0) (entries_view expected) ≡ Some (view e.1)
  left_alone_expected =
      let here = named_in_order e left now is in
      h.in_expected (string_bytes e.0) (inl (ap is_some here)) ∙ here

  pub left_alone_found : field_named (string_bytes e.0) (entries_view found) ≡ None
  left_alone_found = h.in_found (string_bytes e.0) (inl (ap is_some (named_in_order e left now is))) ∙ above_named (string_bytes e.0) others above

-- the first of the others, where all that are left come behind it
module _ (expected found left now others : List Entry) (f : Entry) (is : now ≡ f ∷ others) (above : AllAbove (string_bytes f.0) left) (h : IsAsFar expected found left now) where
  pub other_alone_expected : field_named (string_bytes f.0) (entries_view expected) ≡ None
  other_alone_expected = h.in_expected (string_bytes f.0) (inr (ap is_some (named_in_order f others now is))) ∙ above_named (string_bytes f.0) left above

  pub other_alone_found : field_named (string_bytes f.0) (entries_view found) ≡ Some (view f.1)
  other_alone_found =
      let here = named_in_order f others now is in
      h.in_found (string_bytes f.0) (inr (ap is_some here)) ∙ here

-- ---- which of two names comes first

equal_names : (n m : List ℕ) → slice_cmp nat_cmp n m ≡ Equal → n ≡ m
equal_names n m e = (bytes_eq-Decides n m).0 (sym (is_eq-slice_cmp n m) ∙ ap is_eq e)

less_of : (n m : List ℕ) → IsTrue (comes_before n m) → slice_cmp nat_cmp n m ≡ Less
less_of n m first = go (slice_cmp nat_cmp n m) first
  where
    go : (o : Ordering) → match_ordering o true false false ≡ true → o ≡ Less
    go Less h = refl
    go Equal h = absurd (cc)
    go Greater h = absurd (cc)

pub first_comes : (n m : List ℕ) → is_lt (slice_cmp nat_cmp n m) ≡ true → IsTrue (comes_before n m)
first_comes n m less = go (slice_cmp nat_cmp n m) less
  where
    go : (o : Ordering) → is_lt o ≡ true → match_ordering o true false false ≡ true
    go Less h = refl
    go Equal h = absurd (cc)
    go Greater h = absurd (cc)

pub second_comes : (n m : List ℕ) → is_lt (slice_cmp nat_cmp n m) ≡ false → n ≢ m → IsTrue (comes_before m n)
second_comes n m not_less apart = go (slice_cmp nat_cmp n m) refl not_less
  where
    go : (o : Ordering) → slice_cmp nat_cmp n m ≡ o → is_lt o ≡ false → IsTrue (comes_before m n)
    go Less is h = absurd (cc)
    go Equal is h = absurd (apart (equal_names n m is))
    go Greater is h =
        let turned : slice_cmp nat_cmp m n ≡ Less = nat_list_cmp_total.antisymm m n ∙ ap ordering_reverse is in
        rw turned refl

-- ---- what is told of fields

-- where both sides have fields left, of different names
module _ (expected found now left now_others others : List Entry) (name other_name : Bor (String Global)) (field other : Bor Tree) (is : now ≡ (name.now, field.now) ∷ left) (others_is : now_others ≡ (other_name.now, other.now) ∷ others) (h : IsAsFar expected found now now_others) where
  expected_first : slice_cmp nat_cmp (string_bytes name.now) (string_bytes other_name.now) ≡ Less → AllAbove (string_bytes name.now) now_others
  expected_first less =
      let in_order = subst (λ es. IsStrictlySortedBy string_cmp (keys_of es)) others_is h.others_in_order in
      rw others_is (less, above_trans (string_bytes name.now) (string_bytes other_name.now) others less (above_others (other_name.now, other.now) others in_order))

  found_first : slice_cmp nat_cmp (string_bytes other_name.now) (string_bytes name.now) ≡ Less → AllAbove (string_bytes other_name.now) now
  found_first less =
      let in_order = subst (λ es. IsStrictlySortedBy string_cmp (keys_of es)) is h.left_in_order in
      rw is (less, above_trans (string_bytes other_name.now) (string_bytes name.now) left less (above_others (name.now, field.now) left in_order))

  -- the one whose name comes first stands alone
  pub alone : (d : Difference) → IsAlone (string_bytes name.now) (string_bytes other_name.now) (view field.now) (view other.now) d → IsDifference (Object (entries_view expected)) (Object (entries_view found)) d
  alone d (expected_alone first tells) =
      let above = expected_first (less_of (string_bytes name.now) (string_bytes other_name.now) first) in
      differ_alone (Object (entries_view expected)) (Object (entries_view found)) (Name (string_bytes name.now)) (Some (view field.now)) None d tells
      (left_alone_expected expected found now left now_others (name.now, field.now) is above h)
      (left_alone_found expected found now left now_others (name.now, field.now) is above h)
      (λ e. absurd (cc))
  alone d (found_alone first tells) =
      let above = found_first (less_of (string_bytes other_name.now) (string_bytes name.now) first) in
      differ_alone (Object (entries_view expected)) (Object (entries_view found)) (Name (string_bytes other_name.now)) None (Some (view other.now)) d tells
      (other_alone_expected expected found now now_others others (other_name.now, other.now) others_is above h)
      (other_alone_found expected found now now_others others (other_name.now, other.now) others_is above h)
      (λ e. absurd (cc))

-- names that don't differ
pub names_same : (n m : List ℕ) → not (bytes_eq n m) ≡ false → n ≡ m
names_same n m h = go (bytes_eq n m) refl h
  where
    go : (same : Bool) → bytes_eq n m ≡ same → not same ≡ false → n ≡ m
    go true is e = (bytes_eq-Decides n m).0 is
    go false is e = absurd (cc)
