-- Setting a field's mention in an object shape, and setting an entry of the map that shows it.
use Rattle.std.proofs.Common.{◌≡◌, ℕ, List, [], ◌∷◌, Bool, false, Some, None, bytes_eq, String, Global, string_bytes, string_cmp, nat_cmp, Ordering, Less, Equal, Greater, refl, sym, ap, ◌∙◌, subst}
use Rattle.std.proofs.lemmas.Cmp.{nat_list_cmp_total}
use Rattle.std.proofs.lemmas.Map.Text.{is_eq-slice_cmp}
use Rattle.std.proofs.lemmas.Slice.Eq.{bytes_eq-Decides}
use Rattle.std.specs.BTreeMap.{is_at, insert_entry}
use Rattle.std.specs.Cmp.Lexicographic.{slice_cmp}
use Rattle.std.specs.List.{AllByRecursion}
use Rattle.std.specs.List.Sorted.{IsStrictlySortedBy}
use Rattle.std.specs.Map.{keys_of, lookup, set_value}
use Rattle.std.specs.Ordering.{is_eq}
use Rattle.asl_model.specs.Shape as model
use Rattle.asl_model.specs.Shape.{insert_mention}
use Rattle.asl_model.specs.ShapeOrder.{set_mention, without_mention}
use Rattle.asl_shape.specs.View.{view, fields_view}
use Rattle.asl_shape.specs.declared.shape.Field.{Field}
use Rattle.asl_shape.proofs.Lookups.{same_name}
use Rattle.asl_shape.proofs.Spellings.{Mention, put, put_shown}

-- the test of keys by which a name is looked up
abbrev pub named : List ℕ → String Global → Bool
named name = is_at (λ (k : String Global). slice_cmp nat_cmp name (string_bytes k))

-- each name comes behind that one
abbrev AllAbove : List ℕ → List Mention → Type 0
AllAbove n ms = AllByRecursion (λ (k : String Global). slice_cmp nat_cmp n (string_bytes k) ≡ Less) (keys_of ms)

pub not_equal : (n m : List ℕ) → is_eq (slice_cmp nat_cmp n m) ≡ false → bytes_eq m n ≡ false
not_equal n m apart = same_name n m ∙ apart

pub equal_names : (n m : List ℕ) → slice_cmp nat_cmp n m ≡ Equal → n ≡ m
equal_names n m e = (bytes_eq-Decides n m).0 (sym (is_eq-slice_cmp n m) ∙ ap is_eq e)

above-without : (n : List ℕ) (ms : List Mention) → AllAbove n ms → without_mention n (fields_view ms) ≡ fields_view ms
above-without n [] h = refl
above-without n (m ∷ ms) h = rw (not_equal n (string_bytes m.0) (ap is_eq h.0), above-without n ms h.1) refl

above-insert : (n : List ℕ) (needed : Bool) (s : model.Shape) (ms : List Mention) → AllAbove n ms → insert_mention n needed s (fields_view ms) ≡ model.AndFieldShape n needed s (fields_view ms)
above-insert n needed s [] h = refl
above-insert n needed s (m ∷ ms) h = rw h.0 refl

above-trans : (n k : List ℕ) (ms : List Mention) → slice_cmp nat_cmp n k ≡ Less → AllAbove k ms → AllAbove n ms
above-trans n k [] less h = tt
above-trans n k (m ∷ ms) less h = (nat_list_cmp_total.trans n k (string_bytes m.0) less h.0, above-trans n k ms less h.1)

above-lookup : (n : List ℕ) (ms : List Mention) → AllAbove n ms → lookup (named n) ms ≡ None
above-lookup n [] h = refl
above-lookup n (m ∷ ms) h = rw h.0 (above-lookup n ms h.1)

-- the map's insert is the setting of a mention
put-set_mention : (n : List ℕ) (needed : Bool) (s : model.Shape) (ms : List Mention) → IsStrictlySortedBy string_cmp (keys_of ms) → put n needed s (fields_view ms) ≡ set_mention n needed s (fields_view ms)
unfolding IsStrictlySortedBy
put-set_mention n needed s [] h = refl
put-set_mention n needed s (m ∷ ms) h = go (slice_cmp nat_cmp n (string_bytes m.0)) refl (put-set_mention n needed s ms h.1)
  where
    go : (order : Ordering) → slice_cmp nat_cmp n (string_bytes m.0) ≡ order → put n needed s (fields_view ms) ≡ set_mention n needed s (fields_view ms) → put n needed s (fields_view (m ∷ ms)) ≡ set_mention n needed s (fields_view (m ∷ ms))
    go Less is below =
        let all : AllAbove n (m ∷ ms) = (is, above-trans n (string_bytes m.0) ms is h.0) in
        rw is (sym (ap (insert_mention n needed s) (above-without n (m ∷ ms) all) ∙ above-insert n needed s (m ∷ ms) all))
    go Equal is below =
        let same : n ≡ string_bytes m.0 = equal_names n (string_bytes m.0) is in
        let all : AllAbove n ms = subst (λ k. AllAbove k ms) (sym same) h.0 in
        rw (is, (bytes_eq-Decides (string_bytes m.0) n).1 (sym same)) (sym (ap (insert_mention n needed s) (above-without n ms all) ∙ above-insert n needed s ms all ∙ ap (λ k. model.AndFieldShape k needed s (fields_view ms)) same))
    go Greater is below = rw (is, not_equal n (string_bytes m.0) (ap is_eq is), is) (ap (model.AndFieldShape (string_bytes m.0) m.1.needed (view m.1.shape)) below)

-- an entry that is there is replaced where it stands
set_value-put : (n : List ℕ) (f g : Field) (ms : List Mention) → IsStrictlySortedBy string_cmp (keys_of ms) → lookup (named n) ms ≡ Some g → fields_view (set_value (named n) ms f) ≡ put n f.needed (view f.shape) (fields_view ms)
unfolding IsStrictlySortedBy
set_value-put n f g [] h found = absurd (cc)
set_value-put n f g (m ∷ ms) h found = go (slice_cmp nat_cmp n (string_bytes m.0)) refl (λ at. set_value-put n f g ms h.1 at)
  where
    go : (order : Ordering) → slice_cmp nat_cmp n (string_bytes m.0) ≡ order → (lookup (named n) ms ≡ Some g → fields_view (set_value (named n) ms f) ≡ put n f.needed (view f.shape) (fields_view ms)) → fields_view (set_value (named n) (m ∷ ms) f) ≡ put n f.needed (view f.shape) (fields_view (m ∷ ms))
    go Less is below =
        let none : lookup (named n) ms ≡ None = above-lookup n ms (above-trans n (string_bytes m.0) ms is h.0) in
        let there : lookup (named n) ms ≡ Some g = rw is at found in
        absurd (cc)
    go Equal is below = rw is refl
    go Greater is below =
        let there : lookup (named n) ms ≡ Some g = rw is at found in
        rw is (ap (model.AndFieldShape (string_bytes m.0) m.1.needed (view m.1.shape)) (below there))

-- inserting a field into a map is the setting of its mention
pub inserted_mention : (name : List ℕ) (k : String Global) (f : Field) (ms new : List Mention) → string_bytes k ≡ name → IsStrictlySortedBy string_cmp (keys_of ms) → new ≡ insert_entry string_cmp ms k f → fields_view new ≡ set_mention name f.needed (view f.shape) (fields_view ms)
inserted_mention name k f ms new same ordered inserted =
    ap fields_view inserted ∙ put_shown ms k f ∙ put-set_mention (string_bytes k) f.needed (view f.shape) ms ordered ∙ ap (λ n. set_mention n f.needed (view f.shape) (fields_view ms)) same
