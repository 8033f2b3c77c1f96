-- Names of operators: what stands behind a front, and what stands before `Path`.
use Rattle.std.proofs.Common.{◌≡◌, ℕ, ◌-◌, List, [], ◌∷◌, ◌++◌, length, take, drop, Bool, cond, true, false, Option, Some, None, option_and_then, bytes_eq, codes, refl, sym, ap, ◌∙◌, eqb, eqb-true, eq-eqb}
use Rattle.std.proofs.lemmas.List.{take-append-drop}
use Rattle.std.proofs.lemmas.Slice.Eq.{bytes_eq-Decides}
use Rattle.asl_model.specs.CallSpelling.{behind}
use Rattle.asl_model.specs.RuleSpelling.{path_comparison_named}

-- a text that begins with the front
pub behind_found : (front rest : List ℕ) → behind front (front ++ rest) ≡ Some rest
behind_found [] rest = refl
behind_found (b ∷ front) rest = rw (eq-eqb b b refl) (behind_found front rest)

-- what stands behind a front, and the front before it, are the text
begins_by : (b c : ℕ) (front text rest : List ℕ) (e : Bool) → eqb c b ≡ e → option_and_then (behind front) (cond e (Some text) None) ≡ Some rest → (behind front text ≡ Some rest → text ≡ front ++ rest) → c ∷ text ≡ b ∷ (front ++ rest)
begins_by b c front text rest true e f further = rw (eqb-true c b e) (ap (λ t. b ∷ t) (further f))
begins_by b c front text rest false e f further = absurd (cc)

begins_with : (front text rest : List ℕ) → behind front text ≡ Some rest → text ≡ front ++ rest
begins_with [] text rest is = cc
begins_with (b ∷ front) [] rest is = absurd (cc)
begins_with (b ∷ front) (c ∷ text) rest is = begins_by b c front text rest (eqb c b) refl is (begins_with front text rest)

-- one that doesn't
pub behind_none : (front text : List ℕ) → ((rest : List ℕ) → ¬ (text ≡ front ++ rest)) → behind front text ≡ None
behind_none front text not = by (behind front text) refl
  where
    by : (o : Option (List ℕ)) → behind front text ≡ o → o ≡ None
    by None e = refl
    by (Some rest) e = absurd (not rest (begins_with front text rest e))

-- a name that doesn't end in `Path`
pub no_path : (n : List ℕ) → ((front : List ℕ) → ¬ (n ≡ front ++ codes "Path")) → path_comparison_named n ≡ None
no_path n not = by (bytes_eq (drop (length n - 4) n) (codes "Path")) refl
  where
    by : (e : Bool) → bytes_eq (drop (length n - 4) n) (codes "Path") ≡ e → path_comparison_named n ≡ None
    by true e =
        absurd (not (take (length n - 4) n) (sym (take-append-drop (length n - 4) n) ∙ ap (λ end. take (length n - 4) n ++ end) ((bytes_eq-Decides (drop (length n - 4) n) (codes "Path")).0 e)))
    by false e = rw e refl
