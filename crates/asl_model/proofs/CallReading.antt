-- A call that is read from a text is written by it.
use Rattle.std.proofs.Common.{◌≡◌, ◌≢◌, ◌^◌, ℕ, zero, suc, ℤ, pos, List, [], ◌∷◌, ◌++◌, length, take, drop, slice_index, nat_lt, nat_le, ◌==◌, Bool, true, false, ◌&&◌, ◌||◌, not, IsTrue, IsFalse, if◌then◌else◌, Some, None, option_map, option_and_then, bytes_eq, codes, refl, sym, ap, ap₂, subst, ◌∙◌, ◌⊎◌, inl, inr, ◌↔◌, arith, append_assoc, take-append-drop}
use Rattle.std.specs.Char.{is_ascii_digit}
use Rattle.std.specs.Str.Parse.{digits_value}
use Rattle.std.proofs.lemmas.Bool.{and_parts, or_cases, or_parts, eqb-true, eqb-false, ltb-true, leb-true, false≢true, true≢false}
use Rattle.std.proofs.lemmas.List.{append-nil}
use Rattle.std.proofs.lemmas.Option.{none-some, same_Some}
use Rattle.std.proofs.lemmas.Slice.Eq.{bytes_eq-Decides}
use Rattle.asl_model.specs.Intrinsic.{Pieces, begins_with}
use Rattle.asl_model.specs.PathSpelling.{is_one_of, front_length}
use Rattle.asl_model.specs.CallSpelling.{Cut, in_function_name, negated, without_spaces, byte_in_front, hole_in_front, cut_pieces, is_whole, whole_number, negative_of, literal_argument, followed_by, cut_negative, open_quote, path_length, cut_path, cut_word, cut_argument, after_argument, cut_arguments, cut_parentheses, cut_call, whole_call, written_call, WrittenCall, WrittenAs, WrittenArgument, WrittenNull, WrittenBoolean, WrittenInteger, WrittenText, WrittenPath, WrittenNested, WrittenArguments, NoneWritten, AndWritten}
use Rattle.asl_model.specs.CallGrammar.{ConsistsOf, no_byte_is_left, and_byte, is_space, IsWhole, zero_is_whole, digits_are_whole, WritesNumber, from_zero_on, from_zero_down, WritesPieces, nothing_is_left, escaped_byte, hole_in_text, plain_byte, is_not, GoesOn, path_is_over, byte_of_path, quoted_in_path, WritesCall, writes_call, WritesInside, writes_none, writes_some, WritesArguments, writes_last, writes_further, WritesSpaced, writes_spaced, WritesArgument, writes_null, writes_true, writes_false, writes_number, writes_text, writes_path, writes_nested}
use Rattle.asl_model.proofs.ReadingSteps.{taken_if, then_from, map_from}
use Rattle.asl_model.proofs.CallWriting.{apart, path_at, pieces_at, argument_at, same_way, spaced_whole, arguments_skip, call_whole, call_read}

-- ---- bytes

-- the longest front whose bytes pass a test
front_consists : (test : ℕ → Bool) (text : List ℕ) → ConsistsOf test (take (front_length test text) text)
front_consists test [] = no_byte_is_left
front_consists test (x ∷ text) = go (test x) refl (front_consists test text)
  where
    go : (t : Bool) → test x ≡ t → ConsistsOf test (take (front_length test text) text) → ConsistsOf test (take (if t then suc (front_length test text) else 0) (x ∷ text))
    go true e further = and_byte e further
    go false e further = no_byte_is_left

-- each byte passes where the longest front is all
whole_front : (test : ℕ → Bool) (text : List ℕ) → front_length test text ≡ length text → ConsistsOf test text
whole_front test [] h = no_byte_is_left
whole_front test (x ∷ text) h = go (test x) refl h (whole_front test text)
  where
    go : (t : Bool) → test x ≡ t → (if t then suc (front_length test text) else 0) ≡ suc (length text) → (front_length test text ≡ length text → ConsistsOf test text) → ConsistsOf test (x ∷ text)
    go true e same further = and_byte e (further (omega (arith, same)))
    go false e same further = absurd (omega (arith, same))

-- a text is spaces and what stands behind them
spaces_off : (text : List ℕ) → (before : List ℕ) × ConsistsOf is_space before × (text ≡ before ++ without_spaces text)
spaces_off [] = ([], no_byte_is_left, refl)
spaces_off (x ∷ text) = go (x == 32) refl (spaces_off text)
  where
    go : (t : Bool) → (x == 32) ≡ t → ((before : List ℕ) × ConsistsOf is_space before × (text ≡ before ++ without_spaces text)) → (before : List ℕ) × ConsistsOf is_space before × (x ∷ text ≡ before ++ (if t then without_spaces text else x ∷ text))
    go true e further = (x ∷ further.0, and_byte e further.1, ap (λ t. x ∷ t) further.2)
    go false e further = ([], no_byte_is_left, refl)

-- ---- texts

-- what stands between the apostrophes of a text that is cut
abbrev PiecesOff : List ℕ → Pieces × List ℕ → Type 0
PiecesOff text c = (inside : List ℕ) × WritesPieces inside c.0 × (text ≡ inside ++ (39 ∷ c.1))

-- an apostrophe ends the text
nothing_off : (x : ℕ) (rest : List ℕ) (c : Pieces × List ℕ) → (x == 39) ≡ true → (record { first = []; after_holes = [] }, rest) ≡ c → PiecesOff (x ∷ rest) c
nothing_off x rest c e same = subst (PiecesOff (x ∷ rest)) same ([], nothing_is_left, ap (λ b. b ∷ rest) (eqb-true x 39 e))

-- `{` and `}` don't stand together where the next byte is another one
no_hole_off : (x y : ℕ) (rest inside tail : List ℕ) → (x == 123 && y == 125) ≡ false → y ∷ rest ≡ inside ++ (39 ∷ tail) → IsFalse (x == 123 && begins_with 125 inside)
no_hole_off x y rest [] tail h e = go (x == 123)
  where
    go : (t : Bool) → (t && false) ≡ false
    go true = refl
    go false = refl
no_hole_off x y rest (b ∷ inside) tail h e = ap (λ t. x == 123 && t) (same_way 125 b ∙ ap (λ (t : List ℕ). slice_index t 0 == 125) (sym e)) ∙ h

-- bytes that don't compare as equal are different
different : (x k : ℕ) → (x == k) ≡ false → x ≢ k
different x k h = eqb-false x k h

-- what is cut into pieces writes them, up to the apostrophe
pieces_off : (text : List ℕ) (c : Pieces × List ℕ) → cut_pieces text ≡ Some c → PiecesOff text c
pieces_off [] c h = absurd (none-some c h)
pieces_off (x ∷ []) c h = let t = taken_if (x == 39) (Some (record { first = []; after_holes = [] }, [])) c h in nothing_off x [] c t.0 (same_Some _ c t.1)
pieces_off (x ∷ y ∷ rest) c h = closes (x == 39) refl h (pieces_off rest) (pieces_off (y ∷ rest))
  where
    holes : (t : Bool) → (x == 123 && y == 125) ≡ t → (x == 39) ≡ false → (x == 92) ≡ false → pieces_at x y rest false false t ≡ Some c → ((d : Pieces × List ℕ) → cut_pieces rest ≡ Some d → PiecesOff rest d) → ((d : Pieces × List ℕ) → cut_pieces (y ∷ rest) ≡ Some d → PiecesOff (y ∷ rest) d) → PiecesOff (x ∷ y ∷ rest) c
    holes true e n m k far near =
        let o = map_from hole_in_front (cut_pieces rest) c k in
        let w = far o.0 o.1 in
        let both = and_parts (x == 123) (y == 125) e in
        subst (PiecesOff (x ∷ y ∷ rest)) o.2 (123 ∷ 125 ∷ w.0, hole_in_text w.1, ap₂ (λ a b. a ∷ b ∷ rest) (eqb-true x 123 both.0) (eqb-true y 125 both.1) ∙ ap (λ t. 123 ∷ 125 ∷ t) w.2)
    holes false e n m k far near =
        let o = map_from (byte_in_front x) (cut_pieces (y ∷ rest)) c k in
        let w = near o.0 o.1 in
        subst (PiecesOff (x ∷ y ∷ rest)) o.2 (x ∷ w.0, plain_byte (different x 39 n) (different x 92 m) (no_hole_off x y rest w.0 o.0.1 e w.2) w.1, ap (λ t. x ∷ t) w.2)

    escapes : (t : Bool) → (x == 92) ≡ t → (x == 39) ≡ false → pieces_at x y rest false t (x == 123 && y == 125) ≡ Some c → ((d : Pieces × List ℕ) → cut_pieces rest ≡ Some d → PiecesOff rest d) → ((d : Pieces × List ℕ) → cut_pieces (y ∷ rest) ≡ Some d → PiecesOff (y ∷ rest) d) → PiecesOff (x ∷ y ∷ rest) c
    escapes true e n k far near = escaped (is_one_of (codes "'{}\\") y) refl k
      where
        escaped : (t : Bool) → is_one_of (codes "'{}\\") y ≡ t → ◌≡◌ {A = Cut Pieces} (elim t [ true ↦ option_map (byte_in_front y) (cut_pieces rest) | false ↦ None ]) (Some c) → PiecesOff (x ∷ y ∷ rest) c
        escaped true f k =
            let o = map_from (byte_in_front y) (cut_pieces rest) c k in
            let w = far o.0 o.1 in
            subst (PiecesOff (x ∷ y ∷ rest)) o.2 (92 ∷ y ∷ w.0, escaped_byte f w.1, ap (λ b. b ∷ y ∷ rest) (eqb-true x 92 e) ∙ ap (λ t. 92 ∷ y ∷ t) w.2)
        escaped false f k = absurd (none-some c k)
    escapes false e n k far near = holes (x == 123 && y == 125) refl n e k far near

    closes : (t : Bool) → (x == 39) ≡ t → pieces_at x y rest t (x == 92) (x == 123 && y == 125) ≡ Some c → ((d : Pieces × List ℕ) → cut_pieces rest ≡ Some d → PiecesOff rest d) → ((d : Pieces × List ℕ) → cut_pieces (y ∷ rest) ≡ Some d → PiecesOff (y ∷ rest) d) → PiecesOff (x ∷ y ∷ rest) c
    closes true e k far near = nothing_off x (y ∷ rest) c e (same_Some _ c k)
    closes false e k far near = escapes (x == 92) refl e k far near

-- ---- numbers

-- what passes the test is whole
is_whole_off : (digits : List ℕ) → is_whole digits ≡ true → IsWhole digits
is_whole_off [] h = absurd (false≢true h)
is_whole_off (d ∷ digits) h =
    let parts = and_parts (not (length (d ∷ digits) == 0) && (front_length is_ascii_digit (d ∷ digits) == length (d ∷ digits))) (length (d ∷ digits) == 1 || not (d == 48)) h in
    let front = and_parts (not (length (d ∷ digits) == 0)) (front_length is_ascii_digit (d ∷ digits) == length (d ∷ digits)) parts.0 in
    go (whole_front is_ascii_digit (d ∷ digits) (eqb-true _ _ front.1)) (d == 48) refl (or_cases (length (d ∷ digits) == 1) (not (d == 48)) parts.1)
  where
    alone : (others : List ℕ) → suc (length others) ≡ 1 → others ≡ []
    alone [] e = refl
    alone (x ∷ others) e = absurd (omega (arith, e))

    behind : {b : ℕ} {others : List ℕ} → ConsistsOf is_ascii_digit (b ∷ others) → IsTrue (is_ascii_digit b) × ConsistsOf is_ascii_digit others
    behind (and_byte h further) = (h, further)

    go : ConsistsOf is_ascii_digit (d ∷ digits) → (t : Bool) → (d == 48) ≡ t → IsTrue (length (d ∷ digits) == 1) ⊎ IsTrue (not (d == 48)) → IsWhole (d ∷ digits)
    go all true e (inl one) = subst IsWhole (sym (ap₂ ◌∷◌ (eqb-true d 48 e) (alone digits (eqb-true _ _ one)))) zero_is_whole
    go all true e (inr other) = absurd (false≢true (sym (ap not e) ∙ other))
    go all false e one = digits_are_whole (behind all).0 (different d 48 e) (behind all).1

-- a number that is read is written
number_off : (digits : List ℕ) (z : ℤ) → whole_number digits ≡ Some z → WritesNumber digits z
number_off digits z h =
    let t = taken_if (is_whole digits && nat_lt (digits_value 10 digits) (2 ^ 63)) (Some (pos (digits_value 10 digits))) z h in
    let both = and_parts (is_whole digits) (nat_lt (digits_value 10 digits) (2 ^ 63)) t.0 in
    subst (WritesNumber digits) (same_Some _ z t.1) (from_zero_on (is_whole_off digits both.0) (ltb-true _ _ both.1))

-- so one below zero
negative_off : (digits : List ℕ) (z : ℤ) → negative_of digits ≡ Some z → WritesNumber (45 ∷ digits) z
negative_off digits z h =
    let t = taken_if (is_whole digits && nat_le (digits_value 10 digits) (2 ^ 63)) (Some (negated (digits_value 10 digits))) z h in
    let both = and_parts (is_whole digits) (nat_le (digits_value 10 digits) (2 ^ 63)) t.0 in
    subst (WritesNumber (45 ∷ digits)) (same_Some _ z t.1) (from_zero_down (is_whole_off digits both.0) (leb-true _ _ both.1))

-- a word in front of an argument's end
pub word_off : (depth : ℕ) (word : List ℕ) (a : WrittenArgument) → literal_argument word ≡ Some a → WritesArgument depth word a
word_off depth word a h = null (bytes_eq word (codes "null")) refl h
  where
    falsity : (t : Bool) → bytes_eq word (codes "false") ≡ t → (if t then Some (WrittenBoolean false) else option_map WrittenInteger (whole_number word)) ≡ Some a → WritesArgument depth word a
    falsity true e k = subst (WritesArgument depth word) (same_Some _ a k) (subst (λ w. WritesArgument depth w (WrittenBoolean false)) (sym ((bytes_eq-Decides word (codes "false")).0 e)) writes_false)
    falsity false e k = let o = map_from WrittenInteger (whole_number word) a k in subst (WritesArgument depth word) o.2 (writes_number (number_off word o.0 o.1))

    truth : (t : Bool) → bytes_eq word (codes "true") ≡ t → (if t then Some (WrittenBoolean true) else (if bytes_eq word (codes "false") then Some (WrittenBoolean false) else option_map WrittenInteger (whole_number word))) ≡ Some a → WritesArgument depth word a
    truth true e k = subst (WritesArgument depth word) (same_Some _ a k) (subst (λ w. WritesArgument depth w (WrittenBoolean true)) (sym ((bytes_eq-Decides word (codes "true")).0 e)) writes_true)
    truth false e k = falsity (bytes_eq word (codes "false")) refl k

    null : (t : Bool) → bytes_eq word (codes "null") ≡ t → (if t then Some WrittenNull else (if bytes_eq word (codes "true") then Some (WrittenBoolean true) else (if bytes_eq word (codes "false") then Some (WrittenBoolean false) else option_map WrittenInteger (whole_number word)))) ≡ Some a → WritesArgument depth word a
    null true e k = subst (WritesArgument depth word) (same_Some _ a k) (subst (λ w. WritesArgument depth w WrittenNull) (sym ((bytes_eq-Decides word (codes "null")).0 e)) writes_null)
    null false e k = truth (bytes_eq word (codes "true")) refl k

-- ---- paths

-- a byte that neither ends a path nor opens a quote
other_byte : (b : ℕ) → is_one_of (codes ",) ") b ≡ false → is_one_of (codes "'\"") b ≡ false → IsFalse (is_one_of (codes ",) '\"") b)
other_byte b h k =
    let comma = or_parts (b == 44) (b == 41 || (b == 32 || false)) h in
    let close = or_parts (b == 41) (b == 32 || false) comma.1 in
    let space = or_parts (b == 32) false close.1 in
    ap₂ ◌||◌ comma.0 (ap₂ ◌||◌ close.0 (ap₂ ◌||◌ space.0 k))

-- what is taken of a text with an open quote: up to that quote, and a path from there on
abbrev QuotedOff : ℕ → List ℕ → Type 0
QuotedOff quote text = (inside : List ℕ) × (more : List ℕ) × (take (path_length quote text) text ≡ inside ++ (quote ∷ more)) × ConsistsOf (is_not quote) inside × GoesOn more

-- the byte that stands first, where no quote is open
path_byte : (b : ℕ) (text : List ℕ) (x : ℕ) (r : List ℕ) → drop (path_length 0 (b ∷ text)) (b ∷ text) ≡ x ∷ r → (drop (path_length 0 text) text ≡ x ∷ r → GoesOn (take (path_length 0 text) text)) → ((b == 0) ≡ false → drop (path_length b text) text ≡ x ∷ r → QuotedOff b text) → GoesOn (take (path_length 0 (b ∷ text)) (b ∷ text))
path_byte b text x r h plain quoted = ends (is_one_of (codes ",) ") b) refl h
  where
    opens : (t : Bool) → is_one_of (codes "'\"") b ≡ t → is_one_of (codes ",) ") b ≡ false → drop (suc (path_length (if t then b else 0) text)) (b ∷ text) ≡ x ∷ r → GoesOn (take (suc (path_length (if t then b else 0) text)) (b ∷ text))
    opens true e n k =
        let q = quoted (apart (is_one_of (codes "'\"")) b 0 e refl) k in
        subst (λ t. GoesOn (b ∷ t)) (sym q.2) (quoted_in_path e q.3 q.4)
    opens false e n k = byte_of_path (other_byte b n e) (plain k)

    ends : (t : Bool) → is_one_of (codes ",) ") b ≡ t → drop (if t then 0 else suc (path_length (open_quote 0 b) text)) (b ∷ text) ≡ x ∷ r → GoesOn (take (if t then 0 else suc (path_length (open_quote 0 b) text)) (b ∷ text))
    ends true e k = path_is_over
    ends false e k = opens (is_one_of (codes "'\"") b) refl e k

-- the byte that stands first, where a quote is open
quoted_byte : (b : ℕ) (text : List ℕ) (quote x : ℕ) (r : List ℕ) → (quote == 0) ≡ false → drop (path_length quote (b ∷ text)) (b ∷ text) ≡ x ∷ r → (drop (path_length 0 text) text ≡ x ∷ r → GoesOn (take (path_length 0 text) text)) → (drop (path_length quote text) text ≡ x ∷ r → QuotedOff quote text) → QuotedOff quote (b ∷ text)
quoted_byte b text quote x r some h plain quoted = open_still (quote == 0) some h
  where
    byte : (t : Bool) → (b == quote) ≡ t → drop (suc (path_length (if t then 0 else quote) text)) (b ∷ text) ≡ x ∷ r → (inside : List ℕ) × (more : List ℕ) × (take (suc (path_length (if t then 0 else quote) text)) (b ∷ text) ≡ inside ++ (quote ∷ more)) × ConsistsOf (is_not quote) inside × GoesOn more
    byte true e k = ([], take (path_length 0 text) text, ap (λ c. c ∷ take (path_length 0 text) text) (eqb-true b quote e), no_byte_is_left, plain k)
    byte false e k = let q = quoted k in (b ∷ q.0, q.1, ap (λ t. b ∷ t) q.2, and_byte (ap not e) q.3, q.4)

    open_still : (t : Bool) → t ≡ false → drop (path_at quote b text (t && is_one_of (codes ",) ") b) (if t then (if is_one_of (codes "'\"") b then b else 0) else (if b == quote then 0 else quote))) (b ∷ text) ≡ x ∷ r → (inside : List ℕ) × (more : List ℕ) × (take (path_at quote b text (t && is_one_of (codes ",) ") b) (if t then (if is_one_of (codes "'\"") b then b else 0) else (if b == quote then 0 else quote))) (b ∷ text) ≡ inside ++ (quote ∷ more)) × ConsistsOf (is_not quote) inside × GoesOn more
    open_still true e k = absurd (true≢false e)
    open_still false e k = byte (b == quote) refl k

mutual
  -- what is taken of a text goes on as a path, where something is left behind it
  path_off : (text : List ℕ) (x : ℕ) (r : List ℕ) → drop (path_length 0 text) text ≡ x ∷ r → GoesOn (take (path_length 0 text) text)
  path_off [] x r h = path_is_over
  path_off (b ∷ text) x r h = path_byte b text x r h (path_off text x r) (quoted_off text b x r)

  -- so where a quote is open
  quoted_off : (text : List ℕ) (quote x : ℕ) (r : List ℕ) → (quote == 0) ≡ false → drop (path_length quote text) text ≡ x ∷ r → QuotedOff quote text
  quoted_off [] quote x r some h = absurd (cc)
  quoted_off (b ∷ text) quote x r some h = quoted_byte b text quote x r some h (path_off text x r) (quoted_off text quote x r some)

-- ---- arguments

-- calls that are cut are written, at that depth
abbrev Reads : (List ℕ → Cut WrittenCall) → ℕ → Type 0
Reads nested depth = (text : List ℕ) (c : WrittenCall) (rest : List ℕ) → nested text ≡ Some (c, rest) → (front : List ℕ) × (text ≡ front ++ rest) × WritesCall depth front c

-- an argument that is cut is written
abbrev ArgumentOff : ℕ → List ℕ → WrittenArgument → List ℕ → Type 0
ArgumentOff depth text a rest = (front : List ℕ) × (text ≡ front ++ rest) × WritesArgument depth front a

-- a word or a nested call
word_cut : (nested : List ℕ → Cut WrittenCall) (depth : ℕ) → Reads nested depth → (text : List ℕ) (a : WrittenArgument) (rest : List ℕ) → cut_word nested text ≡ Some (a, rest) → ArgumentOff depth text a rest
word_cut nested depth reads text a rest h = go (slice_index (drop n text) 0 == 40) h
  where
    n : ℕ
    n = front_length in_function_name text

    go : (t : Bool) → ◌≡◌ {A = Cut WrittenArgument} (elim t [ true ↦ option_map (λ c. followed_by c.1 (WrittenNested c.0)) (nested text) | false ↦ option_map (followed_by (drop n text)) (literal_argument (take n text)) ]) (Some (a, rest)) → ArgumentOff depth text a rest
    go true k =
        let o = map_from (λ (c : WrittenCall × List ℕ). followed_by c.1 (WrittenNested c.0)) (nested text) (a, rest) k in
        let w = reads text o.0.0 o.0.1 o.1 in
        subst (λ p. ArgumentOff depth text p.0 p.1) o.2 (w.0, w.1, writes_nested w.2)
    go false k =
        let o = map_from (followed_by (drop n text)) (literal_argument (take n text)) (a, rest) k in
        subst (λ p. ArgumentOff depth text p.0 p.1) o.2 (take n text, sym (take-append-drop n text), word_off depth (take n text) o.0 o.1)

-- a number behind a minus sign
negative_cut : (depth : ℕ) (text : List ℕ) (a : WrittenArgument) (rest : List ℕ) → cut_negative text ≡ Some (a, rest) → ArgumentOff depth (45 ∷ text) a rest
negative_cut depth text a rest h =
    let n = front_length is_ascii_digit text in
    let o = map_from (λ z. followed_by (drop n text) (WrittenInteger z)) (negative_of (take n text)) (a, rest) h in
    subst (λ p. ArgumentOff depth (45 ∷ text) p.0 p.1) o.2 (45 ∷ take n text, ap (λ t. 45 ∷ t) (sym (take-append-drop n text)), writes_number (negative_off (take n text) o.0 o.1))

-- a path behind which something stands
path_cut : (depth : ℕ) (text : List ℕ) (a : WrittenArgument) (x : ℕ) (r : List ℕ) → cut_path (36 ∷ text) ≡ Some (a, x ∷ r) → ArgumentOff depth (36 ∷ text) a (x ∷ r)
path_cut depth text a x r h =
    let n = path_length 0 text in
    let same = same_Some (WrittenPath (36 ∷ take n text), drop n text) (a, x ∷ r) h in
    subst (λ p. ArgumentOff depth (36 ∷ text) p.0 p.1) same (36 ∷ take n text, ap (λ t. 36 ∷ t) (sym (take-append-drop n text)), writes_path (path_off text x r (ap (λ p. p.1) same)))

-- a text in apostrophes
text_cut : (depth : ℕ) (text : List ℕ) (a : WrittenArgument) (rest : List ℕ) → option_map (λ (c : Pieces × List ℕ). followed_by c.1 (WrittenText c.0)) (cut_pieces text) ≡ Some (a, rest) → ArgumentOff depth (39 ∷ text) a rest
text_cut depth text a rest h =
    let o = map_from (λ (c : Pieces × List ℕ). followed_by c.1 (WrittenText c.0)) (cut_pieces text) (a, rest) h in
    let w = pieces_off text o.0 o.1 in
    subst (λ p. ArgumentOff depth (39 ∷ text) p.0 p.1) o.2 (39 ∷ (w.0 ++ codes "'"), ap (λ t. 39 ∷ t) (w.2 ∙ sym (append_assoc w.0 (codes "'") o.0.1)), writes_text w.1)

-- an argument behind which something stands
argument_cut : (nested : List ℕ → Cut WrittenCall) (depth : ℕ) → Reads nested depth → (text : List ℕ) (a : WrittenArgument) (x : ℕ) (r : List ℕ) → cut_argument nested text ≡ Some (a, x ∷ r) → ArgumentOff depth text a (x ∷ r)
argument_cut nested depth reads [] a x r h = absurd (none-some (a, x ∷ r) h)
argument_cut nested depth reads (y ∷ text) a x r h = apostrophe (y == 39) refl h
  where
    minus : (t : Bool) → (y == 45) ≡ t → argument_at nested y text false false t ≡ Some (a, x ∷ r) → ArgumentOff depth (y ∷ text) a (x ∷ r)
    minus true e k = subst (λ b. ArgumentOff depth (b ∷ text) a (x ∷ r)) (sym (eqb-true y 45 e)) (negative_cut depth text a (x ∷ r) k)
    minus false e k = word_cut nested depth reads (y ∷ text) a (x ∷ r) k

    dollar : (t : Bool) → (y == 36) ≡ t → argument_at nested y text false t (y == 45) ≡ Some (a, x ∷ r) → ArgumentOff depth (y ∷ text) a (x ∷ r)
    dollar true e k = subst (λ b. ArgumentOff depth (b ∷ text) a (x ∷ r)) (sym (eqb-true y 36 e)) (path_cut depth text a x r (subst (λ b. cut_path (b ∷ text) ≡ Some (a, x ∷ r)) (eqb-true y 36 e) k))
    dollar false e k = minus (y == 45) refl k

    apostrophe : (t : Bool) → (y == 39) ≡ t → argument_at nested y text t (y == 36) (y == 45) ≡ Some (a, x ∷ r) → ArgumentOff depth (y ∷ text) a (x ∷ r)
    apostrophe true e k = subst (λ b. ArgumentOff depth (b ∷ text) a (x ∷ r)) (sym (eqb-true y 39 e)) (text_cut depth text a (x ∷ r) k)
    apostrophe false e k = dollar (y == 36) refl k

-- an argument with spaces round it, and the byte behind them
spaced_cut : (nested : List ℕ → Cut WrittenCall) (depth : ℕ) → Reads nested depth → (text : List ℕ) (a : WrittenArgument) (rest : List ℕ) (x : ℕ) (r : List ℕ) → cut_argument nested (without_spaces text) ≡ Some (a, rest) → without_spaces rest ≡ x ∷ r → (front : List ℕ) × (text ≡ front ++ (x ∷ r)) × WritesSpaced depth front a
spaced_cut nested depth reads text a [] x r h e = absurd (cc)
spaced_cut nested depth reads text a (y ∷ rest) x r h e =
    let before = spaces_off text in
    let written = argument_cut nested depth reads (without_spaces text) a y rest h in
    let after = spaces_off (y ∷ rest) in (
      before.0 ++ (written.0 ++ after.0),
      before.2 ∙ (ap (λ t. before.0 ++ t) (written.1 ∙ ap (λ t. written.0 ++ t) (after.2 ∙ ap (λ t. after.0 ++ t) e)) ∙ sym (spaced_whole before.0 written.0 after.0 (x ∷ r))),
      writes_spaced before.1 written.2 after.1,
    )

-- arguments, and `)` behind them
abbrev ArgumentsOff : ℕ → List ℕ → WrittenArguments → List ℕ → Type 0
ArgumentsOff depth text arguments rest = (front : List ℕ) × (text ≡ front ++ (41 ∷ rest)) × WritesArguments depth front arguments

-- arguments that are cut are written
arguments_cut : (nested : List ℕ → Cut WrittenCall) (depth : ℕ) → Reads nested depth → (n : ℕ) (text : List ℕ) (arguments : WrittenArguments) (rest : List ℕ) → cut_arguments nested n text ≡ Some (arguments, rest) → ArgumentsOff depth text arguments rest
arguments_cut nested depth reads zero text arguments rest h = absurd (none-some (arguments, rest) h)
arguments_cut nested depth reads (suc n) text arguments rest h =
    let o = then_from (λ (c : WrittenArgument × List ℕ). after_argument (λ t. cut_arguments nested n t) c.0 (without_spaces c.1)) (cut_argument nested (without_spaces text)) (arguments, rest) h in
    go o.0.0 o.0.1 o.1 (without_spaces o.0.1) refl o.2 (arguments_cut nested depth reads n)
  where
    comma : (a : WrittenArgument) (behind : List ℕ) → cut_argument nested (without_spaces text) ≡ Some (a, behind) → (x : ℕ) (r : List ℕ) → without_spaces behind ≡ x ∷ r → (t : Bool) → (x == 44) ≡ t → ◌≡◌ {A = Cut WrittenArguments} (elim t [ true ↦ option_map (λ c. (AndWritten a c.0, c.1)) (cut_arguments nested n r) | false ↦ None ]) (Some (arguments, rest)) → ((t : List ℕ) (others : WrittenArguments) (u : List ℕ) → cut_arguments nested n t ≡ Some (others, u) → ArgumentsOff depth t others u) → ArgumentsOff depth text arguments rest
    comma a behind cut x r e true f k further =
        let o = map_from (λ (c : WrittenArguments × List ℕ). (AndWritten a c.0, c.1)) (cut_arguments nested n r) (arguments, rest) k in
        let w = further r o.0.0 o.0.1 o.1 in
        let s = spaced_cut nested depth reads text a behind x r cut e in
        subst (λ p. ArgumentsOff depth text p.0 p.1) o.2
        (s.0 ++ (44 ∷ w.0), s.1 ∙ (ap₂ (λ b t. s.0 ++ (b ∷ t)) (eqb-true x 44 f) w.1 ∙ sym (append_assoc s.0 (44 ∷ w.0) (41 ∷ o.0.1))), writes_further s.2 w.2)
    comma a behind cut x r e false f k further = absurd (none-some (arguments, rest) k)

    close : (a : WrittenArgument) (behind : List ℕ) → cut_argument nested (without_spaces text) ≡ Some (a, behind) → (x : ℕ) (r : List ℕ) → without_spaces behind ≡ x ∷ r → (t : Bool) → (x == 41) ≡ t → ◌≡◌ {A = Cut WrittenArguments} (elim t [ true ↦ Some (AndWritten a NoneWritten, r) | false ↦ elim (x == 44) [ true ↦ option_map (λ c. (AndWritten a c.0, c.1)) (cut_arguments nested n r) | false ↦ None ] ]) (Some (arguments, rest)) → ((t : List ℕ) (others : WrittenArguments) (u : List ℕ) → cut_arguments nested n t ≡ Some (others, u) → ArgumentsOff depth t others u) → ArgumentsOff depth text arguments rest
    close a behind cut x r e true f k further =
        let s = spaced_cut nested depth reads text a behind x r cut e in
        subst (λ p. ArgumentsOff depth text p.0 p.1) (same_Some (AndWritten a NoneWritten, r) (arguments, rest) k)
        (s.0, s.1 ∙ ap (λ b. s.0 ++ (b ∷ r)) (eqb-true x 41 f), writes_last s.2)
    close a behind cut x r e false f k further = comma a behind cut x r e (x == 44) refl k further

    go : (a : WrittenArgument) (behind : List ℕ) → cut_argument nested (without_spaces text) ≡ Some (a, behind) → (next : List ℕ) → without_spaces behind ≡ next → after_argument (λ t. cut_arguments nested n t) a next ≡ Some (arguments, rest) → ((t : List ℕ) (others : WrittenArguments) (u : List ℕ) → cut_arguments nested n t ≡ Some (others, u) → ArgumentsOff depth t others u) → ArgumentsOff depth text arguments rest
    go a behind cut [] e k further = absurd (none-some (arguments, rest) k)
    go a behind cut (x ∷ r) e k further = close a behind cut x r e (x == 41) refl k further

-- ---- calls

-- what stands inside the parentheses
inside_cut : (nested : List ℕ → Cut WrittenCall) (depth : ℕ) → Reads nested depth → (text : List ℕ) (arguments : WrittenArguments) (rest : List ℕ) → cut_parentheses nested (without_spaces text) ≡ Some (arguments, rest) → (front : List ℕ) × (text ≡ front ++ (41 ∷ rest)) × WritesInside depth front arguments
inside_cut nested depth reads text arguments rest h = go (without_spaces text) refl h
  where
    close : (x : ℕ) (r : List ℕ) → without_spaces text ≡ x ∷ r → (t : Bool) → (x == 41) ≡ t → ◌≡◌ {A = Cut WrittenArguments} (elim t [ true ↦ Some (NoneWritten, r) | false ↦ cut_arguments nested (length (x ∷ r)) (x ∷ r) ]) (Some (arguments, rest)) → (front : List ℕ) × (text ≡ front ++ (41 ∷ rest)) × WritesInside depth front arguments
    close x r e true f k =
        let before = spaces_off text in
        subst (λ p. (front : List ℕ) × (text ≡ front ++ (41 ∷ p.1)) × WritesInside depth front p.0) (same_Some (NoneWritten, r) (arguments, rest) k)
        (before.0, before.2 ∙ ap (λ t. before.0 ++ t) (e ∙ ap (λ b. b ∷ r) (eqb-true x 41 f)), writes_none before.1)
    close x r e false f k =
        let w = arguments_cut nested depth reads (length (x ∷ r)) text arguments rest (sym (arguments_skip nested (length (x ∷ r)) text) ∙ (ap (cut_arguments nested (length (x ∷ r))) e ∙ k)) in
        (w.0, w.1, writes_some w.2)

    go : (t : List ℕ) → without_spaces text ≡ t → cut_parentheses nested t ≡ Some (arguments, rest) → (front : List ℕ) × (text ≡ front ++ (41 ∷ rest)) × WritesInside depth front arguments
    go [] e k = absurd (none-some (arguments, rest) k)
    go (x ∷ r) e k = close x r e (x == 41) refl k

-- a front that isn't empty begins with a byte
front_begins : (test : ℕ → Bool) (text : List ℕ) → not (front_length test text == 0) ≡ true → (b : ℕ) × (name : List ℕ) × (take (front_length test text) text ≡ b ∷ name)
front_begins test [] h = absurd (false≢true h)
front_begins test (x ∷ text) h = go (test x) h
  where
    go : (t : Bool) → not ((if t then suc (front_length test text) else 0) == 0) ≡ true → (b : ℕ) × (name : List ℕ) × (take (if t then suc (front_length test text) else 0) (x ∷ text) ≡ b ∷ name)
    go true k = (x, take (front_length test text) text, refl)
    go false k = absurd (false≢true k)

-- what stands behind a front that `(` follows
opening_off : (k : ℕ) (text : List ℕ) → (slice_index (drop k text) 0 == 40) ≡ true → drop k text ≡ 40 ∷ drop (suc k) text
opening_off zero [] h = absurd (false≢true h)
opening_off zero (x ∷ text) h = ap (λ b. b ∷ text) (eqb-true x 40 h)
opening_off (suc k) [] h = absurd (false≢true h)
opening_off (suc k) (x ∷ text) h = opening_off k text h

-- a call that is cut is written, at each depth
call_cut : (depth : ℕ) → Reads (λ t. cut_call depth t) depth
call_cut zero text c rest h = absurd (none-some (c, rest) h)
call_cut (suc depth) text c rest h = go (not (k == 0) && slice_index (drop k text) 0 == 40) refl h (call_cut depth)
  where
    k : ℕ
    k = front_length in_function_name text

    named : (b : ℕ) (name : List ℕ) → take k text ≡ b ∷ name → drop k text ≡ 40 ∷ drop (suc k) text → (arguments : WrittenArguments) (tail : List ℕ) → ((front : List ℕ) × (drop (suc k) text ≡ front ++ (41 ∷ tail)) × WritesInside depth front arguments) → (front : List ℕ) × (text ≡ front ++ tail) × WritesCall (suc depth) front (WrittenAs (take k text) arguments)
    named b name e opens arguments tail inside = (
      (b ∷ name) ++ (40 ∷ (inside.0 ++ codes ")")),
      sym (take-append-drop k text) ∙ (ap₂ ◌++◌ e (opens ∙ ap (λ t. 40 ∷ t) inside.1) ∙ sym (call_whole (b ∷ name) inside.0 tail)),
      subst (λ n. WritesCall (suc depth) ((b ∷ name) ++ (40 ∷ (inside.0 ++ codes ")"))) (WrittenAs n arguments)) (sym e) (writes_call (subst (ConsistsOf in_function_name) e (front_consists in_function_name text)) inside.2),
    )

    go : (t : Bool) → (not (k == 0) && slice_index (drop k text) 0 == 40) ≡ t → ◌≡◌ {A = Cut WrittenCall} (elim t [ true ↦ option_map (λ c. (WrittenAs (take k text) c.0, c.1)) (cut_parentheses (λ r. cut_call depth r) (without_spaces (drop (suc k) text))) | false ↦ None ]) (Some (c, rest)) → Reads (λ t. cut_call depth t) depth → (front : List ℕ) × (text ≡ front ++ rest) × WritesCall (suc depth) front c
    go true e cut reads =
        let o = map_from (λ (p : WrittenArguments × List ℕ). (WrittenAs (take k text) p.0, p.1)) (cut_parentheses (λ r. cut_call depth r) (without_spaces (drop (suc k) text))) (c, rest) cut in
        let both = and_parts (not (k == 0)) (slice_index (drop k text) 0 == 40) e in
        let begins = front_begins in_function_name text both.0 in
        subst (λ p. (front : List ℕ) × (text ≡ front ++ p.1) × WritesCall (suc depth) front p.0) o.2
        (named begins.0 begins.1 begins.2 (opening_off k text both.1) o.0.0 o.0.1 (inside_cut (λ r. cut_call depth r) depth reads (drop (suc k) text) o.0.0 o.0.1 o.1))
    go false e cut reads = absurd (none-some (c, rest) cut)

-- ---- whole texts

-- nothing stands behind
nothing_behind : (text : List ℕ) → (length text == 0) ≡ true → text ≡ []
nothing_behind [] h = refl
nothing_behind (x ∷ text) h = absurd (omega (arith, eqb-true (length (x ∷ text)) 0 h))

-- a text that is read as a call writes it
written_writes : (text : List ℕ) (c : WrittenCall) → written_call text ≡ Some c → WritesCall 32 text c
written_writes text c h =
    let o = then_from whole_call (cut_call 32 text) c h in
    let t = taken_if (length o.0.1 == 0) (Some o.0.0) c o.2 in
    let w = call_cut 32 text o.0.0 o.0.1 o.1 in
    let same : text ≡ w.0 = w.1 ∙ (ap (λ t. w.0 ++ t) (nothing_behind o.0.1 t.0) ∙ append-nil w.0) in
    subst (WritesCall 32 text) (same_Some o.0.0 c t.1) (subst (λ t. WritesCall 32 t o.0.0) (sym same) w.2)

-- a text that writes a call is read as it
writes_written : (text : List ℕ) (c : WrittenCall) → WritesCall 32 text c → written_call text ≡ Some c
writes_written text c w = ap (option_and_then whole_call) (ap (cut_call 32) (sym (append-nil text)) ∙ call_read w [])

-- both ways
pub written_exactly : (text : List ℕ) (c : WrittenCall) → (written_call text ≡ Some c) ↔ WritesCall 32 text c
written_exactly text c = (written_writes text c, writes_written text c)
