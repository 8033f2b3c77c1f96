-- Names that are gone through from the last to the first.
use Rattle.std.proofs.Common.{◌≡◌, ℕ, List, [], ◌∷◌, ◌++◌, Bool, true, false, ◌||◌, cond, if◌then◌else◌, is_some, Some, Ordering, bytes_eq, refl, sym, ap, ◌∙◌, append_assoc, append-nil}
use Rattle.std.specs.Borrow.{Bor}
use Rattle.std.specs.Ordering.{nat_cmp}
use Rattle.std.specs.Cmp.Lexicographic.{slice_cmp}
use Rattle.std.specs.BTreeMap.{BTreeMap, Updates, IsEmpty, get_by, is_at}
use Rattle.std.specs.Map.{lookup}
use Rattle.std.proofs.lemmas.Map.Text.{btree_map_updates_str}
use Rattle.std.proofs.lemmas.Slice.Eq.{bytes_eq-Decides}
use Rattle.asl_model.specs.ShapeSpelling.{is_among}
use Rattle.asl_model.specs.StandsFor.{duplicate_complaints}
use Rattle.asl_machine.specs.Telling.{from_last, repeated_told, texts}

abbrev pub Names : Type 0
Names = BTreeMap (Bor (List ℕ)) (Unit {0})

abbrev by_bytes : Bor (List ℕ) → Bor (List ℕ) → Ordering
by_bytes a b = slice_cmp nat_cmp a.now b.now

-- the name is in the map
abbrev pub is_in : Names → List ℕ → Bool
is_in names asked = is_some (get_by (λ k. slice_cmp nat_cmp asked k.now) names)

-- the names behind the ones that are left: those in the map, and what is to be told of them
pub record Behind (all left : List (Bor (List ℕ))) (names : Names) (repeated : List (Bor (List ℕ))) : Type 0 where
  pub further : List (Bor (List ℕ))
  pub parted : all ≡ left ++ further
  pub held : (asked : List ℕ) → is_in names asked ≡ is_among asked (texts further)
  pub told : from_last repeated ≡ duplicate_complaints (texts further)

pub none_behind : (all : List (Bor (List ℕ))) (names : Names) (repeated : List (Bor (List ℕ))) → IsEmpty names → repeated ≡ [] → Behind all all names repeated
none_behind all names repeated empty none = record {
  further = [];
  parted = sym (append-nil all);
  held = λ asked. ap (λ entries. is_some (lookup (is_at (λ k. slice_cmp nat_cmp asked k.now)) entries)) empty;
  told = ap from_last none;
}

from_last-append : (ns : List (Bor (List ℕ))) (n : Bor (List ℕ)) → from_last (ns ++ n ∷ []) ≡ repeated_told n.now ++ from_last ns
from_last-append [] n = refl
from_last-append (m ∷ ns) n = ap (λ cs. cs ++ repeated_told m.now) (from_last-append ns n)

-- the last of the names left
pub last_told : (ns left : List (Bor (List ℕ))) (n : Bor (List ℕ)) → ns ≡ left ++ n ∷ [] → from_last ns ≡ repeated_told n.now ++ from_last left
last_told ns left n e = ap from_last e ∙ from_last-append left n

parted_more : (all before left further : List (Bor (List ℕ))) (n : Bor (List ℕ)) → all ≡ before ++ further → before ≡ left ++ n ∷ [] → all ≡ left ++ n ∷ further
parted_more all before left further n e f = e ∙ ap (λ ns. ns ++ further) f ∙ append_assoc left (n ∷ []) further

-- a name that stands further on
pub one_again : (all before left : List (Bor (List ℕ))) (names : Names) (repeated after : List (Bor (List ℕ))) (n : Bor (List ℕ)) → Behind all before names repeated → before ≡ left ++ n ∷ [] → is_in names n.now ≡ true → after ≡ repeated ++ n ∷ [] → Behind all left names after
one_again all before left names repeated after n h e there pushed =
    let among : is_among n.now (texts h.further) ≡ true = sym (h.held n.now) ∙ there in
    record {
      further = n ∷ h.further;
      parted = parted_more all before left h.further n h.parted e;
      held = λ asked. held asked (bytes_eq n.now asked) refl;
      told = ap from_last pushed ∙ from_last-append repeated n ∙ ap (λ cs. repeated_told n.now ++ cs) h.told ∙ ap (λ b. if b then repeated_told n.now ++ duplicate_complaints (texts h.further) else duplicate_complaints (texts h.further)) (sym among);
    }
  where
    held : (asked : List ℕ) (b : Bool) → bytes_eq n.now asked ≡ b → is_in names asked ≡ (bytes_eq n.now asked || is_among asked (texts h.further))
    held asked true f = ap (is_in names) (sym ((bytes_eq-Decides n.now asked).0 f)) ∙ there ∙ ap (λ b. b || is_among asked (texts h.further)) (sym f)
    held asked false f = h.held asked ∙ ap (λ b. b || is_among asked (texts h.further)) (sym f)

-- one that doesn't
pub one_new : (all before left : List (Bor (List ℕ))) (names more : Names) (repeated : List (Bor (List ℕ))) (n : Bor (List ℕ)) → Behind all before names repeated → before ≡ left ++ n ∷ [] → is_in names n.now ≡ false → Updates by_bytes names more n (Some tt) → Behind all left more repeated
one_new all before left names more repeated n h e absent added =
    let among : is_among n.now (texts h.further) ≡ false = sym (h.held n.now) ∙ absent in
    record {
      further = n ∷ h.further;
      parted = parted_more all before left h.further n h.parted e;
      held = λ asked. ap is_some (btree_map_updates_str n.now names more (Some tt) added asked) ∙ by asked (bytes_eq n.now asked);
      told = h.told ∙ ap (λ b. if b then repeated_told n.now ++ duplicate_complaints (texts h.further) else duplicate_complaints (texts h.further)) (sym among);
    }
  where
    by : (asked : List ℕ) (b : Bool) → is_some (cond b (Some tt) (get_by (λ k. slice_cmp nat_cmp asked k.now) names)) ≡ (b || is_among asked (texts h.further))
    by asked true = refl
    by asked false = h.held asked
