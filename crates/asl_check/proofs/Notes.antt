-- Notes of broken rules: what noting one more does to them, and what they tell.
use Rattle.std.proofs.Common.{◌≡◌, ◌+◌, ◌<◌, ℕ, List, [], ◌∷◌, ◌++◌, length, get_or, drop, Bool, Option, Some, None, is_some, true, false, cond, bytes_eq, Ordering, Less, Equal, Greater, String, string_bytes, string_cmp, refl, sym, ap, ◌∙◌, subst, append_assoc, drop-cons, add-one}
use Rattle.std.specs.List.Sorted.{IsStrictlySortedBy}
use Rattle.std.specs.Option.{option_or}
use Rattle.std.specs.declared.alloc.Global.{Global}
use Rattle.std.specs.BTreeMap.{is_at, insert_entry}
use Rattle.std.specs.Map.{lookup, keys_of}
use Rattle.std.specs.Ordering.{match_ordering, is_eq, nat_cmp}
use Rattle.std.specs.Cmp.Lexicographic.{slice_cmp}
use Rattle.std.proofs.lemmas.Slice.Eq.{bytes_eq-Decides}
use Rattle.asl_model.specs.Finding.{Breach, Finding}
use Rattle.asl_model.specs.Shape.{Shape}
use Rattle.asl_model.specs.Verdict.{AreInNameOrder}
use Rattle.asl_shape.proofs.Lookups.{same_name}
use Rattle.asl_check.specs.Listing.{listed_view, rules_view}
use Rattle.asl_check.specs.Noting.{AreNoted, note_view, noted_breach, notes_view}
use Rattle.asl_check.specs.Told.{first_of}
use Rattle.asl_check.specs.declared.listed.Listed.{Listed}
use Rattle.asl_check.specs.declared.noting.Noted.{Noted}
use Rattle.asl_check.proofs.FirstOf.{first_of_both, or_none}

-- a name with its broken rule
abbrev pub Note : Type 0
Note = String Global × Noted

-- what stands under a name
abbrev note_of : List ℕ → List Note → Option Noted
note_of n notes = lookup (is_at (λ (k : String Global). slice_cmp nat_cmp n (string_bytes k))) notes

-- ---- one more note

-- a rule may stand behind others of which none has its name
moved_behind : (n : List ℕ) (x : Finding) (xs : List Finding) → first_of x.state xs ≡ None → first_of n (x ∷ xs) ≡ first_of n (xs ++ x ∷ [])
moved_behind n x xs none = go (bytes_eq x.state n) refl ∙ sym (first_of_both n xs (x ∷ []))
  where
    go : (b : Bool) → bytes_eq x.state n ≡ b → cond b (Some x) (first_of n xs) ≡ option_or (first_of n xs) (cond b (Some x) None)
    go true is = ap (λ o. option_or o (Some x)) (sym (subst (λ m. first_of m xs ≡ None) ((bytes_eq-Decides x.state n).0 is) none))
    go false is = sym (or_none (first_of n xs))

-- a rule has a name where a note stands under it
noted_name : (n : List ℕ) (notes : List Note) → is_some (first_of n (notes_view notes)) ≡ is_some (note_of n notes)
noted_name n [] = refl
noted_name n (e ∷ es) = rw (same_name n (string_bytes e.0)) (go (is_eq (slice_cmp nat_cmp n (string_bytes e.0))) (noted_name n es))
  where
    go : (b : Bool) → is_some (first_of n (notes_view es)) ≡ is_some (note_of n es) → is_some (cond b (Some (note_view e)) (first_of n (notes_view es))) ≡ is_some (cond b (Some e.1) (note_of n es))
    go true below = refl
    go false below = below

-- what isn't there is none
none_there : {A : Type 0} (o : Option A) → is_some o ≡ false → o ≡ None
none_there None h = refl
none_there (Some x) h = absurd (cc)

-- a name that isn't there yet goes to its place among the others
inserted : (notes : List Note) (k : String Global) (b : Noted) (n : List ℕ) → note_of (string_bytes k) notes ≡ None → first_of n (notes_view (insert_entry string_cmp notes k b)) ≡ first_of n (notes_view notes ++ note_view (k, b) ∷ [])
inserted [] k b n h = refl
inserted (e ∷ es) k b n h = go (string_cmp k e.0) h (inserted es k b n)
  where
    front : first_of n (note_view (k, b) ∷ notes_view (e ∷ es)) ≡ first_of n (notes_view (e ∷ es) ++ note_view (k, b) ∷ [])
    front = moved_behind n (note_view (k, b)) (notes_view (e ∷ es)) (none_there _ (noted_name (string_bytes k) (e ∷ es) ∙ ap is_some h))

    go : (o : Ordering) → cond (is_eq o) (Some e.1) (note_of (string_bytes k) es) ≡ None → (note_of (string_bytes k) es ≡ None → first_of n (notes_view (insert_entry string_cmp es k b)) ≡ first_of n (notes_view es ++ note_view (k, b) ∷ []))
        → first_of n (notes_view (match_ordering o ((k, b) ∷ e ∷ es) ((e.0, b) ∷ es) (e ∷ insert_entry string_cmp es k b))) ≡ first_of n (notes_view (e ∷ es) ++ note_view (k, b) ∷ [])
    go Less h' below = front
    go Equal h' below = absurd (cc)
    go Greater h' below = ap (cond (bytes_eq (string_bytes e.0) n) (Some (note_view e))) (below h')

-- a rule of a name that has no note
pub note_new : (notes : List Note) (k : String Global) (b : Noted) (n : List ℕ) (breach : Breach) → string_bytes k ≡ n → noted_breach b ≡ breach → is_some (note_of n notes) ≡ false
    → AreNoted (notes_view notes ++ record { state = n; field = breach.field; fault = breach.fault; example = breach.example } ∷ []) (notes_view (insert_entry string_cmp notes k b))
note_new notes k b n breach named seen none =
    let free : note_of (string_bytes k) notes ≡ None = none_there _ (subst (λ m. is_some (note_of m notes) ≡ false) (sym named) none) in
    let same : note_view (k, b) ≡ record { state = n; field = breach.field; fault = breach.fault; example = breach.example } =
    ap (λ m. record { state = m; field = b.field.now; fault = (noted_breach b).fault; example = (noted_breach b).example }) named
    ∙ ap (λ (c : Breach). record { state = n; field = c.field; fault = c.fault; example = c.example }) seen in
    record { first = λ m. inserted notes k b m free ∙ ap (λ (x : Finding). first_of m (notes_view notes ++ x ∷ [])) same }

-- a rule of a name that has a note
pub note_old : (notes : List Note) (x : Finding) → is_some (note_of x.state notes) ≡ true → AreNoted (notes_view notes ++ x ∷ []) (notes_view notes)
note_old notes x there = record { first = λ n. go n (bytes_eq x.state n) refl ∙ sym (first_of_both n (notes_view notes) (x ∷ [])) }
  where
    some : (o other : Option Finding) → is_some o ≡ true → o ≡ option_or o other
    some None other h = absurd (cc)
    some (Some f) other h = refl

    go : (n : List ℕ) (b : Bool) → bytes_eq x.state n ≡ b → first_of n (notes_view notes) ≡ option_or (first_of n (notes_view notes)) (cond b (Some x) None)
    go n true is = some (first_of n (notes_view notes)) (Some x) (noted_name n notes ∙ subst (λ m. is_some (note_of m notes) ≡ true) ((bytes_eq-Decides x.state n).0 is) there)
    go n false is = sym (or_none (first_of n (notes_view notes)))

-- ---- rules that are noted one after another

module _ (table : List Shape) (rules : List Listed) where
  -- the notes so far, and the rules that are left
  abbrev pub with_left : List Note → ℕ → List Finding
  with_left notes i = notes_view notes ++ rules_view table (drop i rules)

  -- at first all are left
  pub none_noted : (notes : List Note) → notes ≡ [] → AreNoted (rules_view table rules) (with_left notes 0)
  none_noted notes none = record { first = λ n. ap (λ (ns : List Note). first_of n (with_left ns 0)) none }

  -- one more is noted
  pub one_noted : (now next : List Note) (i : ℕ) (rule : Listed) → i < length rules → rule ≡ get_or rules i rule → AreNoted (rules_view table rules) (with_left now i) → AreNoted (notes_view now ++ listed_view table rule ∷ []) (notes_view next) → AreNoted (rules_view table rules) (with_left next (i + 1))
  one_noted now next i rule within is l p = record { first = λ n. moved n ∙ l.first n }
    where
      left : List Finding
      left = rules_view table (drop (i + 1) rules)

      split : drop i rules ≡ rule ∷ drop (i + 1) rules
      split = drop-cons rules i rule within ∙ rw (← is, add-one) refl

      moved : (n : List ℕ) → first_of n (notes_view next ++ left) ≡ first_of n (with_left now i)
      moved n =
          first_of_both n (notes_view next) left
          ∙ (ap (λ o. option_or o (first_of n left)) (p.first n)
          ∙ (sym (first_of_both n (notes_view now ++ listed_view table rule ∷ []) left)
          ∙ (ap (first_of n) (append_assoc (notes_view now) (listed_view table rule ∷ []) left)
          ∙ ap (λ rest. first_of n (notes_view now ++ rules_view table rest)) (sym split))))

-- ---- what the notes tell

-- sorted names are in order
pub in_order : (notes : List Note) → IsStrictlySortedBy string_cmp (keys_of notes) → AreInNameOrder (notes_view notes)
unfolding IsStrictlySortedBy
in_order [] h = tt
in_order (e ∷ []) h = (refl, tt)
in_order (e ∷ (d ∷ notes)) h = ((rw h.0.0 refl), in_order (d ∷ notes) h.1)
