-- Names that stand twice in a list.
use Rattle.std.proofs.Common.{◌≡◌, refl, sym, ap, ◌∙◌, subst, ℕ, List, [], ◌∷◌, ◌++◌, Bool, true, false, ◌||◌, if◌then◌else◌, bytes_eq, codes}
use Rattle.std.specs.List.{Contains}
use Rattle.std.proofs.lemmas.Slice.Eq.{bytes_eq-Decides}
use Rattle.asl_model.specs.DefinitionTable.{DuplicateName}
use Rattle.asl_model.specs.ShapeSpelling.{is_among}
use Rattle.asl_model.specs.StandsFor.{Complaint, duplicate_complaints}
use Rattle.asl_model.proofs.ShapeWitness.{bytes_eq-comm}
use Rattle.asl_fields.specs.View.{complaint_of}
use Rattle.asl_machine.proofs.Contained.{here, further}

-- the name is told as standing twice
abbrev pub twice : List ℕ → Complaint
twice n = complaint_of n (codes "States") DuplicateName

-- one that is the first of what comes behind, or further back
among_behind : (n : List ℕ) (ns ms : List (List ℕ)) → is_among n (ns ++ n ∷ ms) ≡ true
among_behind n [] ms = ap (λ b. b || is_among n ms) ((bytes_eq-Decides n n).1 refl)
among_behind n (k ∷ ns) ms = by (bytes_eq k n) (among_behind n ns ms)
  where
    by : (b : Bool) → is_among n (ns ++ n ∷ ms) ≡ true → (b || is_among n (ns ++ n ∷ ms)) ≡ true
    by true g = refl
    by false g = g

-- a name that isn't in the list and isn't that other one isn't among both
not_among_more : (n m : List ℕ) (ns : List (List ℕ)) → is_among n ns ≡ false → bytes_eq m n ≡ false → is_among n (ns ++ m ∷ []) ≡ false
not_among_more n m [] h e = ap (λ b. b || false) e
not_among_more n m (k ∷ ns) h e = by (bytes_eq k n) h (λ g. not_among_more n m ns g e)
  where
    by : (b : Bool) → (b || is_among n ns) ≡ false → (is_among n ns ≡ false → is_among n (ns ++ m ∷ []) ≡ false) → (b || is_among n (ns ++ m ∷ [])) ≡ false
    by true g go = absurd (cc)
    by false g go = go g

-- where none stands twice, and a further name isn't among them, none does with it
pub none_again : (n : List ℕ) (ns : List (List ℕ)) → duplicate_complaints ns ≡ [] → is_among n ns ≡ false → duplicate_complaints (ns ++ n ∷ []) ≡ []
none_again n [] h e = refl
none_again n (k ∷ ns) h e = by (is_among k ns) refl (bytes_eq k n) refl h e (none_again n ns)
  where
    by : (a : Bool) → is_among k ns ≡ a → (b : Bool) → bytes_eq k n ≡ b → (if a then twice k ∷ duplicate_complaints ns else duplicate_complaints ns) ≡ [] → (b || is_among n ns) ≡ false → (duplicate_complaints ns ≡ [] → is_among n ns ≡ false → duplicate_complaints (ns ++ n ∷ []) ≡ []) → duplicate_complaints (k ∷ (ns ++ n ∷ [])) ≡ []
    by true g b f h2 e2 go = absurd (cc)
    by false g true f h2 e2 go = absurd (cc)
    by false g false f h2 e2 go = ap (λ c. if c then twice k ∷ duplicate_complaints (ns ++ n ∷ []) else duplicate_complaints (ns ++ n ∷ [])) (not_among_more k n ns g (bytes_eq-comm k n f)) ∙ go h2 e2

-- a name that is among those in front of it is told
pub told_again : (n : List ℕ) (ns ms : List (List ℕ)) → is_among n ns ≡ true → Contains (duplicate_complaints (ns ++ n ∷ ms)) (twice n)
told_again n [] ms h = absurd (cc)
told_again n (k ∷ ns) ms h = by (bytes_eq k n) refl h (told_again n ns ms)
  where
    kept : (c : Bool) → Contains (duplicate_complaints (ns ++ n ∷ ms)) (twice n) → Contains (if c then twice k ∷ duplicate_complaints (ns ++ n ∷ ms) else duplicate_complaints (ns ++ n ∷ ms)) (twice n)
    kept true g = further (twice k) (twice n) (duplicate_complaints (ns ++ n ∷ ms)) g
    kept false g = g

    first : (c : Bool) → c ≡ true → Contains (if c then twice n ∷ duplicate_complaints (ns ++ n ∷ ms) else duplicate_complaints (ns ++ n ∷ ms)) (twice n)
    first true g = here (twice n) (duplicate_complaints (ns ++ n ∷ ms))
    first false g = absurd (cc)

    by : (b : Bool) → bytes_eq k n ≡ b → (b || is_among n ns) ≡ true → (is_among n ns ≡ true → Contains (duplicate_complaints (ns ++ n ∷ ms)) (twice n)) → Contains (duplicate_complaints (k ∷ (ns ++ n ∷ ms))) (twice n)
    by true f g go = subst (λ (j : List ℕ). Contains (duplicate_complaints (j ∷ (ns ++ n ∷ ms))) (twice n)) (sym ((bytes_eq-Decides k n).0 f)) (first (is_among n (ns ++ n ∷ ms)) (among_behind n ns ms))
    by false f g go = kept (is_among k (ns ++ n ∷ ms)) (go g)
