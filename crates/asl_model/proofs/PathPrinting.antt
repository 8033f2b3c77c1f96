-- The printed form of a path spells it, where each segment has a spelling; and each segment of a path that some text
-- spells has one.
use Rattle.std.proofs.Common.{◌≡◌, ◌<◌, ◌≤◌, ◌^◌, List, [], ◌∷◌, ◌++◌, ℕ, zero, suc, length, take, drop, slice_index, Bool, true, false, ◌==◌, nat_lt, not, ◌&&◌, ◌||◌, Option, Some, None, if◌then◌else◌, option_map, option_and_then, IsTrue, refl, ap, ap₂, sym, subst, ◌∙◌, arith, append_assoc, decimal, codes}
use Rattle.std.specs.Char.{is_ascii_digit}
use Rattle.std.specs.Str.Parse.{AllDigits, digits_value}
use Rattle.std.specs.Fmt.{digits}
use Rattle.std.proofs.Math.Seq.{drop-append_seam, take-append_seam}
use Rattle.std.proofs.lemmas.Bool.{eqb-true, false≢true, and_from, and_parts, or_parts, or_right, lt-ltb, ltb-true, ne_eqb, le-leb}
use Rattle.std.proofs.lemmas.Fmt.{decimal_is_IsNumeral, decimal_nonempty, first_decimal}
use Rattle.std.proofs.lemmas.Str.Parse.{digit_from_value}
use Rattle.std.proofs.lemmas.Option.{none-some, same_Some}
use Rattle.asl_model.specs.Path.{Segment, Name, Index}
use Rattle.asl_model.specs.PathSpelling.{after, front_length, in_dot_name, in_quoted_name, is_index, cut_dot_name, cut_quoted_name, cut_index, cut_bracket, cut_segment, Begins, Spells, is_dot_name, has_byte, printed_segment, printed_segments, printed_path, has_spelling, have_spellings}
use Rattle.asl_model.proofs.ReadingSteps.{taken_if, taken_unless, map_from}

-- ---- the longest front

front_append : (test : ℕ → Bool) (n more : List ℕ) → front_length test n ≡ length n → front_length test more ≡ 0 → front_length test (n ++ more) ≡ length n
front_append test [] more whole stop = stop
front_append test (x ∷ n) more whole stop = by (test x) (λ h. front_append test n more h stop) whole
  where
    by : (t : Bool) → (front_length test n ≡ length n → front_length test (n ++ more) ≡ length n) → (if t then suc (front_length test n) else 0) ≡ suc (length n) → (if t then suc (front_length test (n ++ more)) else 0) ≡ suc (length n)
    by true more_of h = ap suc (more_of (omega arith))
    by false more_of h = absurd (omega arith)

front_lacks : (test : ℕ → Bool) (b : ℕ) → ((x : ℕ) → test x ≡ true → (x == b) ≡ false) → (text : List ℕ) → has_byte b (take (front_length test text) text) ≡ false
front_lacks test b apart [] = refl
front_lacks test b apart (x ∷ text) = by (test x) refl (front_lacks test b apart text)
  where
    by : (t : Bool) → test x ≡ t → has_byte b (take (front_length test text) text) ≡ false → has_byte b (take (if t then suc (front_length test text) else 0) (x ∷ text)) ≡ false
    by true e rest = ap₂ ◌||◌ (apart x e) rest
    by false e rest = refl

abbrev with_rest : Segment → List ℕ → Segment × List ℕ
with_rest s rest = (s, rest)

abbrev dot_name_at : ℕ → List ℕ → Bool → Option (Segment × List ℕ)
dot_name_at k text none = if none then None else Some (with_rest (Name (take k text)) (drop k text))

abbrev quoted_at : ℕ → List ℕ → List ℕ → Option (Segment × List ℕ)
quoted_at quote n behind = option_map (with_rest (Name n)) (option_and_then (after 93) (after quote behind))

-- ---- a dot name

dot_cut : (n more : List ℕ) → is_dot_name n ≡ true → front_length in_dot_name more ≡ 0 → cut_dot_name (n ++ more) ≡ Some (Name n, more)
dot_cut n more dotted stop = by (length n == 0) refl dotted
  where
    by : (empty : Bool) → (length n == 0) ≡ empty → (not empty && front_length in_dot_name n == length n) ≡ true → cut_dot_name (n ++ more) ≡ Some (Name n, more)
    by true e d = absurd (false≢true d)
    by false e d =
        subst (λ k. dot_name_at k (n ++ more) (k == 0) ≡ Some (with_rest (Name n) more))
        (sym (front_append in_dot_name n more (eqb-true _ _ d) stop))
        (ap (dot_name_at (length n) (n ++ more)) e
        ∙ ap₂ (λ x y. Some (with_rest (Name x) y)) (take-append_seam n more) (drop-append_seam n more))

-- ---- a name in quotes

lacks_front : (quote : ℕ) (n : List ℕ) → has_byte quote n ≡ false → has_byte 92 n ≡ false → front_length (in_quoted_name quote) n ≡ length n
lacks_front quote [] q b = refl
lacks_front quote (x ∷ n) q b =
    let qs = or_parts (x == quote) (has_byte quote n) q in
    let bs = or_parts (x == 92) (has_byte 92 n) b in
    ap (λ t. if t then suc (front_length (in_quoted_name quote) n) else 0) (ap₂ (λ s t. not s && not t) qs.0 bs.0)
    ∙ ap suc (lacks_front quote n qs.1 bs.1)

quoted_cut : (quote : ℕ) (n more : List ℕ) → has_byte quote n ≡ false → has_byte 92 n ≡ false → front_length (in_quoted_name quote) (quote ∷ 93 ∷ more) ≡ 0 → after quote (quote ∷ 93 ∷ more) ≡ Some (93 ∷ more) → cut_quoted_name quote (n ++ quote ∷ 93 ∷ more) ≡ Some (Name n, more)
quoted_cut quote n more q b stop behind =
    subst (λ k. quoted_at quote (take k text) (drop k text) ≡ Some (with_rest (Name n) more))
    (sym (front_append (in_quoted_name quote) n (quote ∷ 93 ∷ more) (lacks_front quote n q b) stop))
    (ap₂ (quoted_at quote) (take-append_seam n (quote ∷ 93 ∷ more)) (drop-append_seam n (quote ∷ 93 ∷ more))
    ∙ ap (λ o. option_map (with_rest (Name n)) (option_and_then (after 93) o)) behind)
  where
    text : List ℕ
    text = n ++ quote ∷ 93 ∷ more

-- ---- an index

digits_front : (ds : List ℕ) → AllDigits 10 ds → front_length is_ascii_digit ds ≡ length ds
digits_front [] d = refl
digits_front (x ∷ ds) d =
    let range = digit_from_value x d.0 in
    ap (λ t. if t then suc (front_length is_ascii_digit ds) else 0) (digit range) ∙ ap suc (digits_front ds d.1)
  where
    digit : (48 ≤ x) × (x ≤ 57) → is_ascii_digit x ≡ true
    digit r = and_from _ _ (le-leb 48 x r.0) (le-leb x 57 r.1)

abbrev index_at : List ℕ → List ℕ → Option (Segment × List ℕ)
index_at ds behind = if is_index ds then option_map (with_rest (Index (digits_value 10 ds))) (after 93 behind) else None

-- decimal text has no leading zero
no_leading_zero : (i : ℕ) → i < 2 ^ 32 → (length (decimal i) == 1 || not (slice_index (decimal i) 0 == 48)) ≡ true
unfolding digits
no_leading_zero zero small = refl
no_leading_zero (suc i) small = or_right (length (decimal (suc i)) == 1) _ (ap not (ne_eqb _ 48 (λ e. absurd (omega (arith, e, first_decimal (suc i) (omega arith) (omega arith))))))

decimal_is_index : (i : ℕ) → i < 2 ^ 32 → is_index (decimal i) ≡ true
decimal_is_index i small =
    and_from _ _
    (and_from _ _ (ap not (ne_eqb (length (decimal i)) 0 (λ e. absurd (omega (arith, e, decimal_nonempty i (omega arith)))))) (no_leading_zero i small))
    (ap (λ n. nat_lt n (2 ^ 32)) (decimal_is_IsNumeral i (omega arith)).1 ∙ lt-ltb i (2 ^ 32) small)

index_cut : (i : ℕ) (more : List ℕ) → i < 2 ^ 32 → cut_index (decimal i ++ 93 ∷ more) ≡ Some (Index i, more)
index_cut i more small =
    let numeral = decimal_is_IsNumeral i (omega arith) in
    subst (λ k. index_at (take k text) (drop k text) ≡ Some (with_rest (Index i) more))
    (sym (front_append is_ascii_digit (decimal i) (93 ∷ more) (digits_front (decimal i) numeral.0.1) refl))
    (ap₂ index_at (take-append_seam (decimal i) (93 ∷ more)) (drop-append_seam (decimal i) (93 ∷ more))
    ∙ ap (λ t. if t then Some (with_rest (Index (digits_value 10 (decimal i))) more) else None) (decimal_is_index i small)
    ∙ ap (λ n. Some (with_rest (Index n) more)) numeral.1)
  where
    text : List ℕ
    text = decimal i ++ 93 ∷ more

-- behind a bracket, what begins with a digit is an index
bracket_digit : (ds more : List ℕ) → 0 < length ds → AllDigits 10 ds → cut_bracket (ds ++ more) ≡ cut_index (ds ++ more)
bracket_digit [] more some d = absurd (omega arith)
bracket_digit (x ∷ ds) more some d =
    let range = digit_from_value x d.0 in
    ap₂ (λ a b. if a then cut_quoted_name 39 (ds ++ more) else (if b then cut_quoted_name 34 (ds ++ more) else cut_index (x ∷ (ds ++ more))))
    (ne_eqb x 39 (λ e. absurd (omega (arith, e, range.0)))) (ne_eqb x 34 (λ e. absurd (omega (arith, e, range.0))))

-- ---- one segment, and all

stop_at : (a b : Bool) (n more : List ℕ) → front_length in_dot_name ((if a then codes "." ++ n else (if b then codes "[\"" ++ (n ++ codes "\"]") else codes "['" ++ (n ++ codes "']"))) ++ more) ≡ 0
stop_at true b n more = refl
stop_at false true n more = refl
stop_at false false n more = refl

segments_stop : (p : List Segment) → front_length in_dot_name (printed_segments p) ≡ 0
segments_stop [] = refl
segments_stop (Name n ∷ p) = stop_at (is_dot_name n) (has_byte 39 n) n (printed_segments p)
segments_stop (Index i ∷ p) = refl

printed_name_cut : (n more : List ℕ) → has_spelling (Name n) ≡ true → front_length in_dot_name more ≡ 0 → cut_segment (printed_segment (Name n) ++ more) ≡ Some (Name n, more)
printed_name_cut n more spelled stop = by (is_dot_name n) (has_byte 92 n) (has_byte 39 n) (has_byte 34 n) refl refl refl refl spelled
  where
    by : (dot escape apostrophe quote : Bool) → is_dot_name n ≡ dot → has_byte 92 n ≡ escape → has_byte 39 n ≡ apostrophe → has_byte 34 n ≡ quote → (not escape && (not apostrophe || not quote)) ≡ true
        → cut_segment ((if dot then codes "." ++ n else (if apostrophe then codes "[\"" ++ (n ++ codes "\"]") else codes "['" ++ (n ++ codes "']"))) ++ more) ≡ Some (Name n, more)
    by true escape apostrophe quote d e a q s = dot_cut n more d stop
    by false true apostrophe quote d e a q s = absurd (false≢true s)
    by false false true true d e a q s = absurd (false≢true s)
    by false false true false d e a q s = ap (cut_quoted_name 34) (append_assoc n (codes "\"]") more) ∙ quoted_cut 34 n more q e refl refl
    by false false false quote d e a q s = ap (cut_quoted_name 39) (append_assoc n (codes "']") more) ∙ quoted_cut 39 n more a e refl refl

printed_cut : (s : Segment) (more : List ℕ) → has_spelling s ≡ true → front_length in_dot_name more ≡ 0 → cut_segment (printed_segment s ++ more) ≡ Some (s, more)
printed_cut (Name n) more spelled stop = printed_name_cut n more spelled stop
printed_cut (Index i) more spelled stop =
    let small = ltb-true i (2 ^ 32) spelled in
    ap cut_bracket (append_assoc (decimal i) (codes "]") more)
    ∙ bracket_digit (decimal i) (93 ∷ more) (decimal_nonempty i (omega arith)) (decimal_is_IsNumeral i (omega arith)).0.1
    ∙ index_cut i more small

printed_begin : (p : List Segment) → have_spellings p ≡ true → Begins p (printed_segments p) []
printed_begin [] h = refl
printed_begin (s ∷ p) h =
    let hs = and_parts _ _ h in
    (printed_segments p, printed_cut s (printed_segments p) hs.0 (segments_stop p), printed_begin p hs.1)

-- the printed form of a path spells it
pub printed_spells : (p : List Segment) → IsTrue (have_spellings p) → Spells (printed_path p) p
printed_spells p h = record { segments = printed_segments p; dollar = refl; all = printed_begin p h }

-- ---- a segment that some text spells

dot_name_apart : (x : ℕ) → in_dot_name x ≡ true → ((x == 92) ≡ false) × ((x == 39) ≡ false)
dot_name_apart x h = (by 92 (x == 92) refl refl h, by 39 (x == 39) refl refl h)
  where
    by : (b : ℕ) (t : Bool) → (x == b) ≡ t → in_dot_name b ≡ false → in_dot_name x ≡ true → (x == b) ≡ false
    by b true e out inside = absurd (false≢true (sym out ∙ ap in_dot_name (sym (eqb-true x b e)) ∙ inside))
    by b false e out inside = e

quoted_name_apart : (quote x : ℕ) → in_quoted_name quote x ≡ true → ((x == 92) ≡ false) × ((x == quote) ≡ false)
quoted_name_apart quote x h = by (x == quote) (x == 92) refl refl h
  where
    by : (q b : Bool) → (x == quote) ≡ q → (x == 92) ≡ b → (not q && not b) ≡ true → ((x == 92) ≡ false) × ((x == quote) ≡ false)
    by true b e f k = absurd (false≢true k)
    by false true e f k = absurd (false≢true k)
    by false false e f k = (f, e)

dot_name_spelled : (text : List ℕ) (c : Segment × List ℕ) → cut_dot_name text ≡ Some c → has_spelling c.0 ≡ true
dot_name_spelled text c h =
    let n = front_length in_dot_name text in
    let p = taken_unless (n == 0) (Some (Name (take n text), drop n text)) c h in
    subst (λ d. has_spelling d.0 ≡ true) (same_Some (with_rest (Name (take n text)) (drop n text)) c p.1)
    (ap₂ (λ e a. not e && (not a || not (has_byte 34 (take n text)))) (front_lacks in_dot_name 92 (λ x y. (dot_name_apart x y).0) text) (front_lacks in_dot_name 39 (λ x y. (dot_name_apart x y).1) text))

quoted_parts : (quote : ℕ) (text : List ℕ) (c : Segment × List ℕ) → cut_quoted_name quote text ≡ Some c → (n : List ℕ) × (c.0 ≡ Name n) × (has_byte 92 n ≡ false) × (has_byte quote n ≡ false)
quoted_parts quote text c h =
    let k = front_length (in_quoted_name quote) text in
    let p = map_from (with_rest (Name (take k text))) (option_and_then (after 93) (after quote (drop k text))) c h in
    (take k text, ap (λ d. d.0) (sym p.2), front_lacks (in_quoted_name quote) 92 (λ x y. (quoted_name_apart quote x y).0) text, front_lacks (in_quoted_name quote) quote (λ x y. (quoted_name_apart quote x y).1) text)

quote_spelled : (text : List ℕ) (c : Segment × List ℕ) → cut_quoted_name 34 text ≡ Some c → has_spelling c.0 ≡ true
quote_spelled text c h =
    let p = quoted_parts 34 text c h in
    subst (λ s. has_spelling s ≡ true) (sym p.1) (ap₂ (λ e q. not e && (not (has_byte 39 p.0) || not q)) p.2 p.3 ∙ or_right (not (has_byte 39 p.0)) true refl)

apostrophe_spelled : (text : List ℕ) (c : Segment × List ℕ) → cut_quoted_name 39 text ≡ Some c → has_spelling c.0 ≡ true
apostrophe_spelled text c h =
    let p = quoted_parts 39 text c h in
    subst (λ s. has_spelling s ≡ true) (sym p.1) (ap₂ (λ e a. not e && (not a || not (has_byte 34 p.0))) p.2 p.3)

index_spelled : (text : List ℕ) (c : Segment × List ℕ) → cut_index text ≡ Some c → has_spelling c.0 ≡ true
index_spelled text c h =
    let k = front_length is_ascii_digit text in
    let t = taken_if (is_index (take k text)) (option_map (with_rest (Index (digits_value 10 (take k text)))) (after 93 (drop k text))) c h in
    let p = map_from (with_rest (Index (digits_value 10 (take k text)))) (after 93 (drop k text)) c t.1 in
    subst (λ d. has_spelling d.0 ≡ true) p.2 (and_parts (not (length (take k text) == 0) && (length (take k text) == 1 || not (slice_index (take k text) 0 == 48))) _ t.0).1

bracket_spelled : (text : List ℕ) (c : Segment × List ℕ) → cut_bracket text ≡ Some c → has_spelling c.0 ≡ true
bracket_spelled [] c h = absurd (none-some c h)
bracket_spelled (x ∷ rest) c h = by (x == 39) (x == 34) h
  where
    by : (a q : Bool) → (if a then cut_quoted_name 39 rest else (if q then cut_quoted_name 34 rest else cut_index (x ∷ rest))) ≡ Some c → has_spelling c.0 ≡ true
    by true q k = apostrophe_spelled rest c k
    by false true k = quote_spelled rest c k
    by false false k = index_spelled (x ∷ rest) c k

segment_spelled : (text : List ℕ) (c : Segment × List ℕ) → cut_segment text ≡ Some c → has_spelling c.0 ≡ true
segment_spelled [] c h = absurd (none-some c h)
segment_spelled (x ∷ rest) c h = by (x == 46) (x == 91) h
  where
    by : (d b : Bool) → (if d then cut_dot_name rest else (if b then cut_bracket rest else None)) ≡ Some c → has_spelling c.0 ≡ true
    by true b k = dot_name_spelled rest c k
    by false true k = bracket_spelled rest c k
    by false false k = absurd (none-some c k)

pub begun_have_spellings : (p : List Segment) (text rest : List ℕ) → Begins p text rest → have_spellings p ≡ true
begun_have_spellings [] text rest b = refl
begun_have_spellings (s ∷ p) text rest b = and_from _ _ (segment_spelled text (s, b.0) b.1) (begun_have_spellings p b.0 rest b.2)

-- a path that some text spells is spelled by its printed form
pub printed_again : (text : List ℕ) (p : List Segment) → Spells text p → Spells (printed_path p) p
printed_again text p s = printed_spells p (begun_have_spellings p s.segments [] s.all)
