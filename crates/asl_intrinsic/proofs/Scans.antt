-- The parts of a call's text that are cut off byte by byte.
use Rattle.std.proofs.Common.{◌≡◌, ◌<◌, ◌≤◌, ◌==◌, ℕ, zero, suc, List, [], ◌∷◌, length, drop, get_or, Bool, true, false, cond, IsUtf8, refl, subst, arith}
use Rattle.std.proofs.lemmas.Bool.Decides.{nat_tests}
use Rattle.std.proofs.lemmas.Str.{IsCharBoundary-after_ascii, IsCharBoundary-start}
use Rattle.std.specs.List.{slice_index}
use Rattle.std.specs.Str.{IsCharBoundary}
use Rattle.asl_model.specs.CallSpelling.{ends_path, open_quote, path_length, without_spaces}
use Rattle.asl_model.specs.PathSpelling.{front_length}
use Rattle.asl_path.proofs.Bytes.{front_within}
use Rattle.asl_path.proofs.Cuts.{boundary}
use Rattle.asl_intrinsic.specs.Parts.{may_stand_in}
use Rattle.asl_intrinsic.specs.declared.scanning.Part.{Part}
use Rattle.asl_intrinsic.specs.declared.scanning.Part.TheVariants.{Spaces, Word, Digits, Plain}

-- each byte of the front passes the test
front_passes : (test : ℕ → Bool) (s : List ℕ) (i : ℕ) → i < front_length test s → test (get_or s i 0) ≡ true
front_passes test [] i h = absurd (omega arith)
front_passes test (x ∷ s) i h = go (test x) refl i h (front_passes test s)
  where
    go : (b : Bool) → test x ≡ b → (k : ℕ) → k < cond b (suc (front_length test s)) 0 → ((j : ℕ) → j < front_length test s → test (get_or s j 0) ≡ true) → test (get_or (x ∷ s) k 0) ≡ true
    go true e zero h later = e
    go true e (suc k) h later = later k (omega arith)
    go false e k h later = absurd (omega arith)

-- a text may be cut behind a front of ASCII bytes
behind_ascii : (test : ℕ → Bool) → ((b : ℕ) → test b ≡ true → b < 128) → (s : List ℕ) → IsUtf8 s → IsCharBoundary s (front_length test s)
behind_ascii test ascii s utf8 = go (front_length test s) refl
  where
    go : (n : ℕ) → front_length test s ≡ n → IsCharBoundary s n
    go zero e = IsCharBoundary-start s utf8
    go (suc n) e =
        let within = front_within test s in
        let low = ascii (get_or s n 0) (front_passes test s n (omega arith)) in
        subst (IsCharBoundary s) (omega arith) (IsCharBoundary-after_ascii s n utf8 (omega arith) low)

-- a text may be cut behind each part
pub part_ends : (part : Part) (s : List ℕ) (n : ℕ) → IsUtf8 s → n ≡ front_length (may_stand_in part) s → IsCharBoundary s n
part_ends Spaces s n utf8 e = rw e (behind_ascii (λ b. may_stand_in Spaces b) (λ b h. grind (arith, nat_tests)) s utf8)
part_ends Word s n utf8 e = rw e (behind_ascii (λ b. may_stand_in Word b) (λ b h. grind (arith, nat_tests)) s utf8)
part_ends Digits s n utf8 e = rw e (behind_ascii (λ b. may_stand_in Digits b) (λ b h. grind (arith, nat_tests)) s utf8)
part_ends Plain s n utf8 e = boundary (λ b. may_stand_in Plain b) (λ b h. grind (arith, nat_tests)) s n e

-- a path is no longer than the text
path_within : (quote : ℕ) (s : List ℕ) → path_length quote s ≤ length s
path_within quote [] = omega arith
path_within quote (x ∷ s) = go (ends_path quote x) (path_within (open_quote quote x) s)
  where
    go : (b : Bool) → path_length (open_quote quote x) s ≤ length s → cond b 0 (suc (path_length (open_quote quote x) s)) ≤ suc (length s)
    go true h = omega arith
    go false h = omega arith

-- what ends a path is an ASCII byte
ends_at_ascii : (quote b : ℕ) → ends_path quote b ≡ true → b < 128
ends_at_ascii quote b h = grind (arith, nat_tests)

-- so is the byte behind a path
path_stops : (quote : ℕ) (s : List ℕ) → path_length quote s < length s → slice_index s (path_length quote s) < 128
path_stops quote [] h = absurd (omega arith)
path_stops quote (x ∷ s) h = go (ends_path quote x) refl (path_stops (open_quote quote x) s) h
  where
    go : (b : Bool) → ends_path quote x ≡ b → (path_length (open_quote quote x) s < length s → slice_index s (path_length (open_quote quote x) s) < 128) → cond b 0 (suc (path_length (open_quote quote x) s)) < suc (length s)
        → slice_index (x ∷ s) (cond b 0 (suc (path_length (open_quote quote x) s))) < 128
    go true e later h = ends_at_ascii quote x e
    go false e later h = later (omega arith)

-- a text may be cut behind a path
pub path_ends : (s : List ℕ) (n : ℕ) → n ≡ path_length 0 s → IsCharBoundary s n
path_ends s n e = rw e (path_within 0 s, λ h k. let low = path_stops 0 s h in absurd (omega arith))

-- what is left without its leading spaces stands behind them
pub spaces_cut : (s : List ℕ) → without_spaces s ≡ drop (front_length (λ b. b == 32) s) s
spaces_cut [] = refl
spaces_cut (x ∷ s) = go (x == 32) (spaces_cut s)
  where
    go : (b : Bool) → without_spaces s ≡ drop (front_length (λ y. y == 32) s) s → cond b (without_spaces s) (x ∷ s) ≡ drop (cond b (suc (front_length (λ y. y == 32) s)) 0) (x ∷ s)
    go true later = later
    go false later = refl
