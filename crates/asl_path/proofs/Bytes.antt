-- The longest front of bytes that pass a test, and where it ends.
use Rattle.std.proofs.Common.{◌≡◌, ℕ, suc, ◌<◌, ◌≤◌, List, [], ◌∷◌, length, take, Bool, true, false, cond, refl, ap, arith}
use Rattle.std.proofs.lemmas.Bool.Decides.{nat_tests}
use Rattle.std.specs.List.{slice_index}
use Rattle.asl_model.specs.PathSpelling.{front_length, in_dot_name, in_quoted_name}

front_within_one : (b : Bool) (n l : ℕ) → n ≤ l → cond b (suc n) 0 ≤ suc l
front_within_one true n l h = omega arith
front_within_one false n l h = omega arith

pub front_within : (test : ℕ → Bool) (s : List ℕ) → front_length test s ≤ length s
front_within test [] = omega arith
front_within test (x ∷ s) = front_within_one (test x) _ _ (front_within test s)

stops_one : (b : Bool) (test : ℕ → Bool) (x : ℕ) (s : List ℕ) → test x ≡ b → (front_length test s < length s → test (slice_index s (front_length test s)) ≡ false)
    → cond b (suc (front_length test s)) 0 < suc (length s) → test (slice_index (x ∷ s) (cond b (suc (front_length test s)) 0)) ≡ false
stops_one true test x s e later h = later (omega arith)
stops_one false test x s e later h = e

-- the byte behind the front doesn't pass the test
pub front_stops : (test : ℕ → Bool) (s : List ℕ) → front_length test s < length s → test (slice_index s (front_length test s)) ≡ false
front_stops test [] h = absurd (omega arith)
front_stops test (x ∷ s) h = stops_one (test x) test x s refl (front_stops test s) h

whole_one : (b : Bool) (test : ℕ → Bool) (x : ℕ) (s : List ℕ) → test x ≡ b → front_length test (take (front_length test s) s) ≡ length (take (front_length test s) s)
    → front_length test (take (cond b (suc (front_length test s)) 0) (x ∷ s)) ≡ length (take (cond b (suc (front_length test s)) 0) (x ∷ s))
whole_one true test x s e later = rw e (ap suc later)
whole_one false test x s e later = refl

-- every byte of the front passes the test
pub front_whole : (test : ℕ → Bool) (s : List ℕ) → front_length test (take (front_length test s) s) ≡ length (take (front_length test s) s)
front_whole test [] = refl
front_whole test (x ∷ s) = whole_one (test x) test x s refl (front_whole test s)

pub dot_name_ascii : (b : ℕ) → in_dot_name b ≡ false → b < 128
dot_name_ascii b e = grind (arith, nat_tests)

pub quoted_name_ascii : (quote b : ℕ) → quote < 128 → in_quoted_name quote b ≡ false → b < 128
quoted_name_ascii quote b h e = grind (arith, nat_tests)
