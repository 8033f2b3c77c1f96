-- Writes one after another.
use Rattle.std.proofs.Common.{◌≡◌, ℕ, List, [], ◌++◌, Option, take, drop, sym, ap, ◌∙◌, subst}
use Rattle.std.proofs.lemmas.List.{append_assoc, append-nil, take-append-drop}
use Rattle.std.specs.Io.KnownBytes.{Appends}
use Rattle.std.proofs.KnownBytes.{Appends-trans}

-- known bytes have grown by all but the rest
pub record LeavesRest (old now : Option (List ℕ)) (bs rest : List ℕ) : Type 0 where
  pub front : List ℕ
  pub parts : bs ≡ front ++ rest
  pub appended : Appends old now front

-- a write took n more
pub after_write : (old now new : Option (List ℕ)) (bs rest : List ℕ) (n : ℕ) → LeavesRest old now bs rest
    → Appends now new (take n rest) → LeavesRest old new bs (drop n rest)
after_write old now new bs rest n h w = record {
  front = h.front ++ take n rest;
  parts = h.parts ∙ ap (λ v. h.front ++ v) (sym (take-append-drop n rest)) ∙ sym (append_assoc h.front (take n rest) (drop n rest));
  appended = Appends-trans old now new h.front (take n rest) h.appended w;
}

-- nothing is left to write
pub all_written : (old now : Option (List ℕ)) (bs rest : List ℕ) → LeavesRest old now bs rest → rest ≡ [] → Appends old now bs
all_written old now bs rest h e =
    let P : List ℕ → Type 0 = λ v. Appends old now v in
    subst P (sym (h.parts ∙ ap (λ v. h.front ++ v) e ∙ append-nil h.front)) h.appended
