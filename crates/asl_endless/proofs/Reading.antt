-- A source that gives one byte for ever.
use Rattle.std.proofs.Common.{◌≡◌, ◌+◌, ◌<◌, ◌++◌, ℕ, List, length, take, arith, sym, ap, ◌∙◌, refl}
use Rattle.std.proofs.lemmas.List.{length-replicate, replicate-append-replicate, take_all}
use Rattle.std.proofs.lemmas.Bool.{lt-ltb}
use Rattle.std.specs.Prelude.{replicate, Result, Ok, Err, OnOk, IsErr}
use Rattle.asl_texts.specs.Fronts.{ReadsFronts, NoFrontIsLong}
use Rattle.asl_endless.specs.Repeated.{Repeats}

-- behind a buffer that is full of it the source goes on
pub goes_on : (byte : ℕ) (old new : List ℕ) (count : ℕ) → new ≡ replicate (length old) byte → count ≡ length new → ReadsFronts (Repeats byte) (Repeats byte) count new
goes_on byte old new count filled whole = λ front begun.
    let n = length front in
    let all : take count new ≡ new = take_all count new (omega arith) in
    let size : length new ≡ length old = ap length filled ∙ length-replicate (length old) byte in
    let swapped : length old + n ≡ n + length old = omega arith in (
      record {
        more = front;
        back = replicate (length old) byte;
        begun = begun;
        parts = ap (λ v. v ++ front) (all ∙ filled) ∙ ap (λ v. replicate (length old) byte ++ v) begun
            ∙ replicate-append-replicate (length old) n byte ∙ ap (λ k. replicate k byte) swapped
            ∙ sym (replicate-append-replicate n (length old) byte) ∙ ap (λ v. v ++ replicate (length old) byte) (sym begun);
      },
      λ none room. absurd (omega arith),
    )

-- and no text is long enough for it
pub never_short : (byte n : ℕ) → 16777216 < n → NoFrontIsLong (Repeats byte) → ⊥
never_short byte n over short =
    let size : length (replicate n byte) ≡ n = length-replicate n byte in
    let is_short = short (replicate n byte) (ap (λ k. replicate k byte) (sym size)) in
    let is_long = lt-ltb 16777216 (length (replicate n byte)) (omega arith) in
    absurd (cc)

-- so it isn't read as one
pub not_read : {A E : Type 0} (byte : ℕ) (r : Result A E) → OnOk r (NoFrontIsLong (Repeats byte)) → IsErr r
not_read byte (Ok a) short = absurd (never_short byte 16777217 (omega arith) short)
not_read byte (Err e) short = refl
