-- What a front of a text says of its first line.
use Rattle.std.proofs.Common.{◌≡◌, ◌+◌, ◌≤◌, ◌<◌, ℕ, List, [], ◌∷◌, ◌++◌, Bool, true, false, Option, None, Some, nat_eq, length, take, drop, arith, sym, ap, ◌∙◌, subst, refl, if◌then◌else◌}
use Rattle.std.proofs.lemmas.List.{append_assoc, length-append, take_all, drop_all}
use Rattle.std.proofs.lemmas.Bool.{lt-ltb}
use Rattle.std.specs.Io.KnownBytes.{Keeps, prepend_known}
use Rattle.asl_model.specs.Printed.{first_line, further_lines}
use Rattle.asl_texts.specs.Lines.{TakesLine, HasLongLine}

-- known bytes have lost the beginning of their first line
abbrev pub LeavesLine : Option (List ℕ) → Option (List ℕ) → List ℕ → Type 0
LeavesLine None new line = Unit {0}
LeavesLine (Some xs) None line = ⊥
LeavesLine (Some xs) (Some ys) line = (first_line xs ≡ line ++ first_line ys) × (further_lines xs ≡ further_lines ys)

-- what a first byte, a line break or not, makes of the first line
abbrev pub line_by : Bool → ℕ → List ℕ → List ℕ
line_by t b rest = if t then [] else b ∷ rest

-- no line break in p
pub unbroken_line : (p ys : List ℕ) → length p ≤ length (first_line p) → first_line (p ++ ys) ≡ p ++ first_line ys
unbroken_line [] ys h = refl
unbroken_line (b ∷ bs) ys h = step (nat_eq b 10) h (unbroken_line bs ys)
  where
    step : (t : Bool) → length (b ∷ bs) ≤ length (line_by t b (first_line bs))
        → (length bs ≤ length (first_line bs) → first_line (bs ++ ys) ≡ bs ++ first_line ys)
        → line_by t b (first_line (bs ++ ys)) ≡ b ∷ (bs ++ first_line ys)
    step true g rec = absurd (omega arith)
    step false g rec = ap (λ l. b ∷ l) (rec (omega arith))

pub unbroken_after : (p ys : List ℕ) → length p ≤ length (first_line p) → further_lines (p ++ ys) ≡ further_lines ys
unbroken_after [] ys h = refl
unbroken_after (b ∷ bs) ys h = step (nat_eq b 10) h (unbroken_after bs ys)
  where
    step : (t : Bool) → length (b ∷ bs) ≤ length (line_by t b (first_line bs))
        → (length bs ≤ length (first_line bs) → further_lines (bs ++ ys) ≡ further_lines ys)
        → (if t then bs ++ ys else further_lines (bs ++ ys)) ≡ further_lines ys
    step true g rec = absurd (omega arith)
    step false g rec = rec (omega arith)

-- a line break in p
pub broken_line : (p ys : List ℕ) → length (first_line p) < length p → first_line (p ++ ys) ≡ take (length (first_line p)) p
broken_line [] ys h = absurd (omega arith)
broken_line (b ∷ bs) ys h = step (nat_eq b 10) h (broken_line bs ys)
  where
    step : (t : Bool) → length (line_by t b (first_line bs)) < length (b ∷ bs)
        → (length (first_line bs) < length bs → first_line (bs ++ ys) ≡ take (length (first_line bs)) bs)
        → line_by t b (first_line (bs ++ ys)) ≡ take (length (line_by t b (first_line bs))) (b ∷ bs)
    step true g rec = refl
    step false g rec = ap (λ l. b ∷ l) (rec (omega arith))

pub broken_after : (p ys : List ℕ) → length (first_line p) < length p
    → further_lines (p ++ ys) ≡ drop 1 (drop (length (first_line p)) p) ++ ys
broken_after [] ys h = absurd (omega arith)
broken_after (b ∷ bs) ys h = step (nat_eq b 10) h (broken_after bs ys)
  where
    step : (t : Bool) → length (line_by t b (first_line bs)) < length (b ∷ bs)
        → (length (first_line bs) < length bs → further_lines (bs ++ ys) ≡ drop 1 (drop (length (first_line bs)) bs) ++ ys)
        → (if t then bs ++ ys else further_lines (bs ++ ys)) ≡ drop 1 (drop (length (line_by t b (first_line bs))) (b ∷ bs)) ++ ys
    step true g rec = refl
    step false g rec = rec (omega arith)

-- the first line of a text has what that of a front of it has, or more
pub front_length : (p ys : List ℕ) → length (first_line p) ≤ length (first_line (p ++ ys))
front_length [] ys = omega arith
front_length (b ∷ bs) ys = step (nat_eq b 10) (front_length bs ys)
  where
    step : (t : Bool) → length (first_line bs) ≤ length (first_line (bs ++ ys))
        → length (line_by t b (first_line bs)) ≤ length (line_by t b (first_line (bs ++ ys)))
    step true rec = omega arith
    step false rec = omega arith

-- bytes that are known as they were
pub left_by_fill : (old mid new : Option (List ℕ)) (line : List ℕ) → LeavesLine old mid line → Keeps mid new → LeavesLine old new line
left_by_fill None mid new line h k = tt
left_by_fill (Some xs) None new line h k = absurd h
left_by_fill (Some xs) (Some ys) None line h k = absurd k
left_by_fill (Some xs) (Some ys) (Some zs) line h k =
    let P : List ℕ → Type 0 = λ v. (first_line xs ≡ line ++ first_line v) × (further_lines xs ≡ further_lines v) in subst P (sym k) h

-- a piece with no line break is taken
pub left_by_piece : (old rest : Option (List ℕ)) (line p : List ℕ) (n : ℕ) → n ≡ length (first_line p) → length p ≤ n
    → LeavesLine old (prepend_known p rest) line → LeavesLine old (prepend_known (drop n p) rest) (line ++ take n p)
left_by_piece None rest line p n e le h = tt
left_by_piece (Some xs) None line p n e le h = absurd h
left_by_piece (Some xs) (Some ys) line p n e le h =
    let whole : length p ≤ length (first_line p) = omega arith in
    let none : drop n p ≡ [] = drop_all n p le in
    let all : take n p ≡ p = take_all n p le in
    let at : first_line (drop n p ++ ys) ≡ first_line ys = ap (λ (v : List ℕ). first_line (v ++ ys)) none in
    let after : further_lines (drop n p ++ ys) ≡ further_lines ys = ap (λ (v : List ℕ). further_lines (v ++ ys)) none in (
      h.0 ∙ ap (λ (v : List ℕ). line ++ v) (unbroken_line p ys whole) ∙ sym (append_assoc line p (first_line ys))
          ∙ ap (λ (v : List ℕ). (line ++ v) ++ first_line ys) (sym all) ∙ ap (λ (v : List ℕ). (line ++ take n p) ++ v) (sym at),
      h.1 ∙ unbroken_after p ys whole ∙ sym after,
    )

-- the last piece of a line is taken, and the line break is passed over
pub taken_by_piece : (old rest : Option (List ℕ)) (line p : List ℕ) (n : ℕ) → n ≡ length (first_line p) → n < length p
    → LeavesLine old (prepend_known p rest) line → TakesLine old (prepend_known (drop 1 (drop n p)) rest) (line ++ take n p)
taken_by_piece None rest line p n e lt h = tt
taken_by_piece (Some xs) None line p n e lt h = absurd h
taken_by_piece (Some xs) (Some ys) line p n e lt h =
    let inside : length (first_line p) < length p = omega arith in
    let front : first_line (p ++ ys) ≡ take n p = broken_line p ys inside ∙ ap (λ k. take k p) (sym e) in
    let back : further_lines (p ++ ys) ≡ drop 1 (drop n p) ++ ys = broken_after p ys inside ∙ ap (λ k. drop 1 (drop k p) ++ ys) (sym e) in
    (sym (h.0 ∙ ap (λ (v : List ℕ). line ++ v) front), sym (h.1 ∙ back))

-- a piece that doesn't fit into the limit shows that the line doesn't
pub longer_by_piece : (old rest : Option (List ℕ)) (line p : List ℕ) (n : ℕ) → n ≡ length (first_line p) → 16777216 < n + length line
    → LeavesLine old (prepend_known p rest) line → HasLongLine old
longer_by_piece None rest line p n e lt h = tt
longer_by_piece (Some xs) None line p n e lt h = absurd h
longer_by_piece (Some xs) (Some ys) line p n e lt h =
    let whole : length (first_line xs) ≡ length line + length (first_line (p ++ ys)) = ap length h.0 ∙ length-append line (first_line (p ++ ys)) in
    let more = front_length p ys in
    lt-ltb 16777216 (length (first_line xs)) (omega arith)
