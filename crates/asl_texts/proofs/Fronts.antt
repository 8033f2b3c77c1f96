-- Fronts of what a source gives, read piece by piece and line by line.
use Rattle.std.proofs.Common.{◌≡◌, ◌+◌, ◌≤◌, ◌<◌, ℕ, List, [], ◌∷◌, ◌++◌, Bool, true, false, nat_eq, length, take, drop, arith, sym, ap, ◌∙◌, subst, refl, if◌then◌else◌}
use Rattle.std.proofs.lemmas.List.{append_assoc, append-nil, length-append, take_all, take-append-drop}
use Rattle.std.proofs.lemmas.Bool.{le-ltb}
use Rattle.std.specs.Prelude.{IsFalse}
use Rattle.asl_model.specs.Printed.{first_line, further_lines, is_too_long}
use Rattle.asl_texts.specs.Fronts.{HasFront, FillsFronts, TakesFrontLine, NoFrontLineIsLong}
use Rattle.asl_texts.proofs.LineSteps.{line_by, unbroken_line, unbroken_after, broken_line, broken_after, front_length}

-- nothing is taken yet
pub at_start : (Begins : List ℕ → Type 0) (front : List ℕ) → Begins front → HasFront Begins [] front
at_start Begins front begun = record { more = front; back = []; begun = begun; parts = sym (append-nil front) }

-- one piece more
pub read_on : (Before After : List ℕ → Type 0) (taken old new front : List ℕ) → HasFront Before (taken ++ old) front
    → ((more : List ℕ) → Before more → HasFront After new (old ++ more)) → HasFront After (taken ++ new) front
read_on Before After taken old new front h on =
    let next = on h.more h.begun in
    record {
      more = next.more;
      back = h.back ++ next.back;
      begun = next.begun;
      parts = append_assoc taken new next.more
          ∙ ap (λ v. taken ++ v) (next.parts ∙ append_assoc old h.more next.back)
          ∙ sym (append_assoc taken old (h.more ++ next.back))
          ∙ sym (append_assoc (taken ++ old) h.more next.back)
          ∙ ap (λ v. v ++ next.back) h.parts
          ∙ append_assoc front h.back next.back;
    }

-- a piece more of a text
pub text_read_on : (Before After : List ℕ → Type 0) (taken new front : List ℕ) → HasFront Before taken front
    → ((more : List ℕ) → Before more → HasFront After new more) → HasFront After (taken ++ new) front
text_read_on Before After taken new front h on =
    read_on Before After taken [] new front (subst (λ v. HasFront Before v front) (sym (append-nil taken)) h) on

-- a text that is within the limit
short : (text front back : List ℕ) → text ≡ front ++ back → length text ≤ 16777216 → IsFalse (is_too_long front)
short text front back parts within =
    let whole : length text ≡ length front + length back = ap length parts ∙ length-append front back in
    le-ltb 16777216 (length front) (omega arith)

-- nothing more comes
pub whole_read : (Begins : List ℕ → Type 0) (text front : List ℕ) → HasFront Begins text front
    → ((more : List ℕ) → Begins more → more ≡ []) → length text ≤ 16777216 → IsFalse (is_too_long front)
whole_read Begins text front h none within =
    short text front h.back (sym (append-nil text) ∙ ap (λ v. text ++ v) (sym (none h.more h.begun)) ∙ h.parts) within

-- ---- lines

-- the first line is no more than all
line_within : (xs : List ℕ) → length (first_line xs) ≤ length xs
line_within [] = omega arith
line_within (b ∷ bs) = step (nat_eq b 10) (line_within bs)
  where
    step : (t : Bool) → length (first_line bs) ≤ length bs → length (line_by t b (first_line bs)) ≤ length (b ∷ bs)
    step true rec = omega arith
    step false rec = omega arith

-- no line stands behind a front of what has no line break
none_further : (p ys : List ℕ) → length (p ++ ys) ≤ length (first_line (p ++ ys)) → further_lines p ≡ []
none_further [] ys h = refl
none_further (b ∷ bs) ys h = step (nat_eq b 10) h (none_further bs ys)
  where
    step : (t : Bool) → length (b ∷ (bs ++ ys)) ≤ length (line_by t b (first_line (bs ++ ys)))
        → (length (bs ++ ys) ≤ length (first_line (bs ++ ys)) → further_lines bs ≡ [])
        → (if t then bs else further_lines bs) ≡ []
    step true g rec = absurd (omega arith)
    step false g rec = rec (omega arith)

-- what stands behind the first line of a text begins with what stands behind that of a front of it
further_front : (p ys : List ℕ) → (rest : List ℕ) × (further_lines (p ++ ys) ≡ further_lines p ++ rest)
further_front [] ys = (further_lines ys, refl)
further_front (b ∷ bs) ys = step (nat_eq b 10) (further_front bs ys)
  where
    step : (t : Bool) → (rest : List ℕ) × (further_lines (bs ++ ys) ≡ further_lines bs ++ rest)
        → (rest : List ℕ) × ((if t then bs ++ ys else further_lines (bs ++ ys)) ≡ (if t then bs else further_lines bs) ++ rest)
    step true rec = (ys, refl)
    step false rec = rec

-- no line break so far
abbrev pub IsUnbroken : List ℕ → Type 0
IsUnbroken line = length line ≤ length (first_line line)

-- a piece with no line break
pub piece_unbroken : (line p : List ℕ) (n : ℕ) → n ≡ length (first_line p) → length p ≤ n → IsUnbroken line → IsUnbroken (line ++ take n p)
piece_unbroken line p n e le unbroken =
    let all : take n p ≡ p = take_all n p le in
    let whole : length (first_line (line ++ p)) ≡ length line + length (first_line p) = ap length (unbroken_line line p unbroken) ∙ length-append line (first_line p) in
    let both : length (line ++ p) ≡ length line + length p = length-append line p in
    let so : IsUnbroken (line ++ p) = omega arith in
    subst (λ v. IsUnbroken (line ++ v)) (sym all) so

-- a piece is taken
pub piece_taken : (Begins : List ℕ → Type 0) (line p front : List ℕ) (n : ℕ) → HasFront Begins (line ++ p) front → HasFront Begins ((line ++ take n p) ++ drop n p) front
piece_taken Begins line p front n h =
    let same : line ++ p ≡ (line ++ take n p) ++ drop n p = ap (λ v. line ++ v) (sym (take-append-drop n p)) ∙ sym (append_assoc line (take n p) (drop n p)) in
    subst (λ v. HasFront Begins v front) same h

-- the line ends where the source does
pub line_ended : (Before After : List ℕ → Type 0) (line old front : List ℕ) → IsUnbroken line → length line ≤ 16777216
    → FillsFronts Before After old [] → HasFront Before (line ++ old) front
    → IsFalse (is_too_long (first_line front)) × HasFront After [] (further_lines front)
line_ended Before After line old front unbroken within fills h =
    let filled = fills h.more h.begun in
    let nothing : old ++ h.more ≡ [] = filled.1 refl in
    let whole : line ≡ front ++ h.back = sym (append-nil line) ∙ ap (λ v. line ++ v) (sym nothing) ∙ sym (append_assoc line old h.more) ∙ h.parts in
    let parts : length line ≡ length front + length h.back = ap length whole ∙ length-append front h.back in
    let first : length (first_line front) ≤ length front = line_within front in
    let none : further_lines front ≡ [] = none_further front h.back (subst IsUnbroken whole unbroken) in (
      le-ltb 16777216 (length (first_line front)) (omega arith),
      record { more = filled.0.more; back = filled.0.more; begun = filled.0.begun; parts = ap (λ v. v ++ filled.0.more) (sym none) },
    )

-- the line ends at its break
pub line_broken : (Begins : List ℕ → Type 0) (line p front : List ℕ) (n : ℕ) → n ≡ length (first_line p) → n < length p → IsUnbroken line
    → length (line ++ take n p) ≤ 16777216 → HasFront Begins (line ++ p) front
    → IsFalse (is_too_long (first_line front)) × HasFront Begins (drop 1 (drop n p)) (further_lines front)
line_broken Begins line p front n e lt unbroken within h =
    let inside : length (first_line p) < length p = omega arith in
    let whole : front ++ h.back ≡ line ++ (p ++ h.more) = sym h.parts ∙ append_assoc line p h.more in
    let first : first_line (front ++ h.back) ≡ line ++ take n p =
    ap first_line whole ∙ unbroken_line line (p ++ h.more) unbroken ∙ ap (λ v. line ++ v) (broken_line p h.more inside ∙ ap (λ k. take k p) (sym e)) in
    let behind : further_lines (front ++ h.back) ≡ drop 1 (drop n p) ++ h.more =
    ap further_lines whole ∙ unbroken_after line (p ++ h.more) unbroken ∙ broken_after p h.more inside ∙ ap (λ k. drop 1 (drop k p) ++ h.more) (sym e) in
    let longer : length (first_line front) ≤ length (first_line (front ++ h.back)) = front_length front h.back in
    let same : length (first_line (front ++ h.back)) ≡ length (line ++ take n p) = ap length first in
    let further = further_front front h.back in (
      le-ltb 16777216 (length (first_line front)) (omega arith),
      record { more = h.more; back = further.0; begun = h.begun; parts = sym behind ∙ further.1 },
    )

-- three lines taken one after another
pub three_taken : (A B C D : List ℕ → Type 0) (p q r : List ℕ) → TakesFrontLine A B [] p → TakesFrontLine B C p q → TakesFrontLine C D q r → NoFrontLineIsLong A
three_taken A B C D p q r first second third = λ front begun.
    let one = first front (at_start A front begun) in
    let two = second (further_lines front) one.1 in
    let three = third (further_lines (further_lines front)) two.1 in
    (one.0, two.0, three.0)
