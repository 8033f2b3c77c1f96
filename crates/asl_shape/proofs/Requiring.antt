-- The names in `required`, one after another, and the fields that become needed.
use Rattle.std.proofs.Common.{◌≡◌, ℕ, List, [], ◌∷◌, Bool, true, false, not, ◌&&◌, ◌||◌, Some, None, String, string_bytes, bytes_eq, map, Ordering, Less, Equal, Greater, refl, sym, ap, ◌∙◌, subst}
use Rattle.std.specs.declared.alloc.Global.{Global}
use Rattle.std.specs.BTreeMap.{is_at, insert_entry}
use Rattle.std.specs.Cmp.Lexicographic.{slice_cmp}
use Rattle.std.specs.Map.{lookup, set_value}
use Rattle.std.specs.Ordering.{is_eq, nat_cmp}
use Rattle.std.specs.String.{string_cmp}
use Rattle.std.proofs.lemmas.Cmp.{nat_list_eq_equiv}
use Rattle.asl_model.specs.Shape as model
use Rattle.asl_model.specs.Shape.{insert_mention}
use Rattle.asl_model.specs.ShapeSpelling.{is_among, are_distinct, unmentioned, with_mention_needed, with_needed}
use Rattle.asl_shape.specs.View.{mentions_of}
use Rattle.asl_shape.proofs.Lookups.{same_name, shown_lookup}

-- ---- fields that become needed, in the mentions by which the values of a map are shown

module _ {X : Type 0} (show : X → Bool × model.Shape) where
  -- the mentions
  abbrev pub shown : List (String Global × X) → model.FieldShapes
  shown es = mentions_of (map (λ e. (e.0, show e.1)) es)

  -- a name that wasn't mentioned goes to its place
  new_here : (k : String Global) (f : X) (e : String Global × X) (es : List (String Global × X)) (o : Ordering) → string_cmp k e.0 ≡ o → lookup (is_at (string_cmp k)) (e ∷ es) ≡ None → (lookup (is_at (string_cmp k)) es ≡ None → shown (insert_entry string_cmp es k f) ≡ insert_mention (string_bytes k) (show f).0 (show f).1 (shown es)) → shown (insert_entry string_cmp (e ∷ es) k f) ≡ insert_mention (string_bytes k) (show f).0 (show f).1 (shown (e ∷ es))
  new_here k f e es Less is none later = rw is refl
  new_here k f e es Equal is none later =
      let none_here : Some e.1 ≡ None = rw is at none in
      absurd (cc)
  new_here k f e es Greater is none later =
      let none_later : lookup (is_at (string_cmp k)) es ≡ None = rw is at none in
      rw is (ap (model.AndFieldShape (string_bytes e.0) (show e.1).0 (show e.1).1) (later none_later))

  inserted_new : (k : String Global) (f : X) (es : List (String Global × X)) → lookup (is_at (string_cmp k)) es ≡ None → shown (insert_entry string_cmp es k f) ≡ insert_mention (string_bytes k) (show f).0 (show f).1 (shown es)
  inserted_new k f [] none = refl
  inserted_new k f (e ∷ es) none = new_here k f e es (string_cmp k e.0) refl none (inserted_new k f es)

  pub needed_new : (extra : Bool) (k : String Global) (f : X) (es : List (String Global × X)) → (show f).0 ≡ true → (show f).1 ≡ unmentioned extra → lookup (is_at (string_cmp k)) es ≡ None → shown (insert_entry string_cmp es k f) ≡ with_needed extra (string_bytes k) (shown es)
  needed_new extra k f es needed shape none =
      rw (shown_lookup show k es, none) (inserted_new k f es none ∙ rw (needed, shape) refl)

  -- a name that was mentioned becomes needed
  found_here : (k : String Global) (f g : X) (e : String Global × X) (es : List (String Global × X)) (here : Bool) → is_eq (string_cmp k e.0) ≡ here → (show g).0 ≡ true → (show g).1 ≡ (show f).1 → lookup (is_at (string_cmp k)) (e ∷ es) ≡ Some f → (lookup (is_at (string_cmp k)) es ≡ Some f → shown (set_value (is_at (string_cmp k)) es g) ≡ with_mention_needed (string_bytes k) (shown es)) → shown (set_value (is_at (string_cmp k)) (e ∷ es) g) ≡ with_mention_needed (string_bytes k) (shown (e ∷ es))
  found_here k f g e es true is needed shape found later =
      let here : Some e.1 ≡ Some f = rw is at found in
      let same : e.1 ≡ f = cc in
      rw (same_name (string_bytes k) (string_bytes e.0), is, needed, shape, same) refl
  found_here k f g e es false is needed shape found later =
      let found_later : lookup (is_at (string_cmp k)) es ≡ Some f = rw is at found in
      rw (same_name (string_bytes k) (string_bytes e.0), is) (ap (model.AndFieldShape (string_bytes e.0) (show e.1).0 (show e.1).1) (later found_later))

  made_needed : (k : String Global) (f g : X) (es : List (String Global × X)) → (show g).0 ≡ true → (show g).1 ≡ (show f).1 → lookup (is_at (string_cmp k)) es ≡ Some f → shown (set_value (is_at (string_cmp k)) es g) ≡ with_mention_needed (string_bytes k) (shown es)
  made_needed k f g [] needed shape found = absurd (cc)
  made_needed k f g (e ∷ es) needed shape found =
      found_here k f g e es (is_eq (string_cmp k e.0)) refl needed shape found (made_needed k f g es needed shape)

  pub needed_found : (extra : Bool) (k : String Global) (f g : X) (es : List (String Global × X)) → (show g).0 ≡ true → (show g).1 ≡ (show f).1 → lookup (is_at (string_cmp k)) es ≡ Some f → shown (set_value (is_at (string_cmp k)) es g) ≡ with_needed extra (string_bytes k) (shown es)
  needed_found extra k f g es needed shape found = rw (shown_lookup show k es, found) (made_needed k f g es needed shape found)

  -- a look-up goes by a key's bytes alone
  pub same_key : (key name : String Global) (es : List (String Global × X)) → string_bytes key ≡ string_bytes name → lookup (is_at (string_cmp name)) es ≡ None → lookup (is_at (string_cmp key)) es ≡ None
  same_key key name es named none =
      let P : List ℕ → Type 0 = λ bs. lookup (is_at (λ (k : String Global). slice_cmp nat_cmp bs (string_bytes k))) es ≡ None in
      subst P (sym named) none

-- ---- names that are new

-- none of the names stands twice, and none is taken
abbrev pub are_new : List (List ℕ) → (List ℕ → Bool) → Bool
are_new [] taken = true
are_new (n ∷ ns) taken = not (taken n) && (not (is_among n ns) && are_new ns taken)

regroup : (a b c d e : Bool) → (not (a || b) && (not c && (not d && e))) ≡ (not (a || c) && (not d && (not b && e)))
regroup true b c d e = refl
regroup false true true d e = refl
regroup false true false true e = refl
regroup false true false false e = refl
regroup false false c d e = refl

new_further : (n : List ℕ) (ns : List (List ℕ)) (taken now : List ℕ → Bool) → ((m : List ℕ) → now m ≡ (bytes_eq n m || taken m)) → (not (is_among n ns) && are_new ns taken) ≡ are_new ns now
new_further n [] taken now is = refl
new_further n (m ∷ ns) taken now is =
    rw (is m, ← new_further n ns taken now is, nat_list_eq_equiv.symm n m) (regroup (bytes_eq m n) (is_among n ns) (taken m) (is_among m ns) (are_new ns taken))

-- where a name is new, the others are new once it is taken
pub new_next : (n : List ℕ) (ns : List (List ℕ)) (taken now : List ℕ → Bool) → taken n ≡ false → ((m : List ℕ) → now m ≡ (bytes_eq n m || taken m)) → are_new (n ∷ ns) taken ≡ are_new ns now
new_next n ns taken now new is = rw new (new_further n ns taken now is)

-- where none is taken, names are new that are distinct
pub new_are_distinct : (ns : List (List ℕ)) (taken : List ℕ → Bool) → ((m : List ℕ) → taken m ≡ false) → are_new ns taken ≡ are_distinct ns
new_are_distinct [] taken none = refl
new_are_distinct (n ∷ ns) taken none = rw (none n, new_are_distinct ns taken none) refl
