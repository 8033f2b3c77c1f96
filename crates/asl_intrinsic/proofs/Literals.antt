-- What comes next in a literal text.
use Rattle.std.proofs.Common.{◌≡◌, ◌<◌, ◌≤◌, ◌==◌, ◌&&◌, not, ℕ, suc, List, [], ◌∷◌, ◌++◌, length, get_or, take, drop, Bool, true, false, cond, Some, None, option_map, codes, IsUtf8, append_assoc, append-nil, refl, sym, ap, subst, ◌∙◌, arith}
use Rattle.std.proofs.lemmas.Bool.Decides.{nat_tests}
use Rattle.std.proofs.lemmas.Str.{IsCharBoundary-after_ascii}
use Rattle.std.specs.Str.{IsCharBoundary}
use Rattle.std.specs.Str.Pattern.{LacksTextAt}
use Rattle.asl_model.specs.CallSpelling.{Cut, byte_in_front, cut_pieces, end_of_text, hole_in_front}
use Rattle.asl_model.specs.Intrinsic.{Pieces}
use Rattle.asl_model.specs.PathSpelling.{front_length, is_one_of}
use Rattle.asl_intrinsic.specs.Cutting.{bytes_in_front, cut_behind}
use Rattle.asl_intrinsic.specs.declared.literal.PieceEnd.{PieceEnd}
use Rattle.asl_intrinsic.specs.declared.literal.PieceEnd.TheVariants.{Apostrophe, Hole}
use Rattle.asl_intrinsic.specs.Parts.{may_stand_in}
use Rattle.asl_intrinsic.specs.declared.scanning.Part.TheVariants.{Plain}

-- ---- bytes in front

-- with no bytes in front a cut is as it was
pub in_front-none : (c : Cut Pieces) → c ≡ option_map (bytes_in_front []) c
in_front-none None = refl
in_front-none (Some c) = refl

-- one byte in front of others
in_front-one : (b : ℕ) (bytes : List ℕ) (c : Cut Pieces) → option_map (byte_in_front b) (option_map (bytes_in_front bytes) c) ≡ option_map (bytes_in_front (b ∷ bytes)) c
in_front-one b bytes None = refl
in_front-one b bytes (Some c) = refl

-- ---- plain bytes

-- the byte is none of those that mean something in a literal text
record IsPlain (b : ℕ) : Type 0 where
  no_apostrophe : (b == 39) ≡ false
  no_backslash : (b == 92) ≡ false
  no_brace : (b == 123) ≡ false

-- so is each byte that may stand in a plain part
is_plain : (b : ℕ) → may_stand_in Plain b ≡ true → IsPlain b
is_plain b e = go (b == 39) refl (b == 92) refl (b == 123) refl e
  where
    go : (p : Bool) → (b == 39) ≡ p → (q : Bool) → (b == 92) ≡ q → (r : Bool) → (b == 123) ≡ r → (not p && not q && not r) ≡ true → IsPlain b
    go false a false c false d h = record { no_apostrophe = a; no_backslash = c; no_brace = d }
    go true a q c r d h = absurd (cc)
    go false a true c r d h = absurd (cc)
    go false a false c true d h = absurd (cc)

-- what a text of two bytes or more gives, by the tests of its first two
abbrev by_tests : (closes escapes escapable hole : Bool) (x y : ℕ) (s : List ℕ) → Cut Pieces
by_tests closes escapes escapable hole x y s =
    elim closes [
      | true ↦ Some (end_of_text (y ∷ s))
      | false ↦ elim escapes [
        | true ↦ elim escapable [ true ↦ option_map (byte_in_front y) (cut_pieces s) | false ↦ None ]
        | false ↦ elim hole [
          | true ↦ option_map hole_in_front (cut_pieces s)
          | false ↦ option_map (byte_in_front x) (cut_pieces (y ∷ s))
        ]
      ]
    ]

-- tests that answer the same give the same
by_same_tests : (a b c d a' b' c' d' : Bool) (x y : ℕ) (s : List ℕ) → a ≡ a' → b ≡ b' → c ≡ c' → d ≡ d' → by_tests a b c d x y s ≡ by_tests a' b' c' d' x y s
by_same_tests a b c d a' b' c' d' x y s e f g h = ap (λ t. by_tests t b c d x y s) e ∙ ap (λ t. by_tests a' t c d x y s) f ∙ ap (λ t. by_tests a' b' t d x y s) g ∙ ap (λ t. by_tests a' b' c' t x y s) h

-- a plain byte stands in front of what is cut off behind it
plain_byte : (x : ℕ) (s : List ℕ) → may_stand_in Plain x ≡ true → cut_pieces (x ∷ s) ≡ option_map (byte_in_front x) (cut_pieces s)
plain_byte x [] e = ap (λ (closes : Bool). cond closes (Some (end_of_text [])) None) (is_plain x e).no_apostrophe
plain_byte x (y ∷ s) e =
    let h = is_plain x e in
    by_same_tests _ _ _ _ false false (is_one_of (codes "'{}\\") y) false x y s h.no_apostrophe h.no_backslash refl (ap (λ opens. opens && y == 125) h.no_brace)

-- the plain bytes in front are shown
pub plain_shown : (s : List ℕ) → cut_pieces s ≡ option_map (bytes_in_front (take (front_length (may_stand_in Plain) s) s)) (cut_pieces (drop (front_length (may_stand_in Plain) s) s))
plain_shown [] = refl
plain_shown (x ∷ s) = go (may_stand_in Plain x) refl (plain_shown s)
  where
    n : ℕ
    n = front_length (may_stand_in Plain) s

    go : (b : Bool) → may_stand_in Plain x ≡ b → cut_pieces s ≡ option_map (bytes_in_front (take n s)) (cut_pieces (drop n s)) → cut_pieces (x ∷ s) ≡ option_map (bytes_in_front (take (cond b (suc n) 0) (x ∷ s))) (cut_pieces (drop (cond b (suc n) 0) (x ∷ s)))
    go true e later = plain_byte x s e ∙ ap (option_map (byte_in_front x)) later ∙ in_front-one x (take n s) (cut_pieces (drop n s))
    go false e later = in_front-none (cut_pieces (x ∷ s))

-- ---- braces and escapes

-- equal texts are split alike behind their first byte
split_alike : (s t front back : List ℕ) → s ≡ t → front ≡ take 1 s → back ≡ drop 1 s → option_map (bytes_in_front (take 1 t)) (cut_pieces (drop 1 t)) ≡ option_map (bytes_in_front front) (cut_pieces back)
split_alike s t front back is at_front at_back = rw (at_front, at_back, is) refl

-- a brace that opens no hole is shown
pub brace_shown : (s front back rest : List ℕ) → s ≡ 123 ∷ rest → LacksTextAt (codes "{}") s 0 → front ≡ take 1 s → back ≡ drop 1 s → cut_pieces s ≡ option_map (bytes_in_front front) (cut_pieces back)
brace_shown s front back [] is lacks at_front at_back = ap cut_pieces is ∙ split_alike s (123 ∷ []) front back is at_front at_back
brace_shown s front back (y ∷ rest) is lacks at_front at_back = go (y == 125) refl
  where
    go : (closes : Bool) → (y == 125) ≡ closes → cut_pieces s ≡ option_map (bytes_in_front front) (cut_pieces back)
    go true e = let same : y ≡ 125 = grind (arith, nat_tests) in absurd (lacks rest (is ∙ ap (λ z. 123 ∷ z ∷ rest) same))
    go false e = ap cut_pieces is ∙ by_same_tests false false (is_one_of (codes "'{}\\") y) _ false false (is_one_of (codes "'{}\\") y) false 123 y rest refl refl refl e ∙ split_alike s (123 ∷ y ∷ rest) front back is at_front at_back

-- an escaped byte is shown
pub escaped_shown : (s front back : List ℕ) (b : ℕ) (rest : List ℕ) → s ≡ b ∷ rest → is_one_of (codes "'{}\\") b ≡ true → front ≡ take 1 s → back ≡ drop 1 s → cut_pieces (92 ∷ s) ≡ option_map (bytes_in_front front) (cut_pieces back)
escaped_shown s front back b rest is e at_front at_back =
    ap (λ t. cut_pieces (92 ∷ t)) is ∙ by_same_tests false true _ (92 == 123 && b == 125) false true true (92 == 123 && b == 125) 92 b rest refl refl e refl ∙ split_alike s (b ∷ rest) front back is at_front at_back

-- the first byte and the others
pub first_of : (s : List ℕ) → 1 ≤ length s → (rest : List ℕ) × (s ≡ get_or s 0 0 ∷ rest)
first_of [] h = absurd (omega arith)
first_of (b ∷ s) h = (s, refl)

-- what may be escaped is an ASCII byte
pub escaped_ascii : (b : ℕ) → is_one_of (codes "'{}\\") b ≡ true → b < 128
escaped_ascii b e = grind (arith, nat_tests)

-- a text may be cut behind an escaped byte
pub behind_escaped : (s bytes : List ℕ) → IsUtf8 s → bytes ≡ s → 1 ≤ length bytes → is_one_of (codes "'{}\\") (get_or bytes 0 0) ≡ true → IsCharBoundary s 1
behind_escaped s bytes utf8 same some e =
    let low : get_or s 0 0 < 128 = subst (λ t. get_or t 0 0 < 128) same (escaped_ascii (get_or bytes 0 0) e) in
    IsCharBoundary-after_ascii s 0 utf8 (subst (λ t. 1 ≤ length t) same some) low

-- ---- pieces

-- bytes that are shown are written behind those in front
pub more_shown : (text : List ℕ) (piece new shown rest behind : List ℕ) → cut_pieces text ≡ option_map (bytes_in_front piece) (cut_pieces rest) → cut_pieces rest ≡ option_map (bytes_in_front shown) (cut_pieces behind) → new ≡ piece ++ shown → cut_pieces text ≡ option_map (bytes_in_front new) (cut_pieces behind)
more_shown text piece new shown rest behind so_far next is = so_far ∙ ap (option_map (bytes_in_front piece)) next ∙ rw is (joined (cut_pieces behind))
  where
    joined : (c : Cut Pieces) → option_map (bytes_in_front piece) (option_map (bytes_in_front shown) c) ≡ option_map (bytes_in_front (piece ++ shown)) c
    joined None = refl
    joined (Some c) = ap (λ (first : List ℕ). Some (record { first = first; after_holes = c.0.after_holes }, c.1)) (sym (append_assoc piece shown c.0.first))

-- a hole ends the piece
pub ended_by_hole : (text piece rest behind : List ℕ) → cut_pieces text ≡ option_map (bytes_in_front piece) (cut_pieces rest) → cut_pieces rest ≡ option_map hole_in_front (cut_pieces behind) → cut_pieces text ≡ cut_behind piece Hole behind
ended_by_hole text piece rest behind so_far next = so_far ∙ ap (option_map (bytes_in_front piece)) next ∙ joined (cut_pieces behind)
  where
    joined : (c : Cut Pieces) → option_map (bytes_in_front piece) (option_map hole_in_front c) ≡ option_map (λ d. (record { first = piece; after_holes = d.0.first ∷ d.0.after_holes }, d.1)) c
    joined None = refl
    joined (Some c) = ap (λ (first : List ℕ). Some (record { first = first; after_holes = c.0.first ∷ c.0.after_holes }, c.1)) (append-nil piece)

-- ---- texts

-- the further pieces behind those that were cut off
abbrev pub with_further : List ℕ → List (List ℕ) → Pieces × List ℕ → Pieces × List ℕ
with_further first others c = (record { first = first; after_holes = others ++ c.0.first ∷ c.0.after_holes }, c.1)

-- the pieces that were cut off, by what ends the last of them
abbrev pub cut_so_far : List ℕ → List (List ℕ) → PieceEnd → List ℕ → Cut Pieces
cut_so_far first others Hole rest = option_map (with_further first others) (cut_pieces rest)
cut_so_far first others Apostrophe rest = Some (record { first = first; after_holes = others }, rest)

-- pieces may be put in front one after the other
further-further : (first piece : List ℕ) (others : List (List ℕ)) (c : Cut Pieces) → option_map (with_further first others) (option_map (with_further piece []) c) ≡ option_map (with_further first (others ++ piece ∷ [])) c
further-further first piece others None = refl
further-further first piece others (Some c) = ap (λ (further : List (List ℕ)). Some (record { first = first; after_holes = further }, c.1)) (sym (append_assoc others (piece ∷ []) (c.0.first ∷ c.0.after_holes)))

-- a piece behind a hole was cut off
pub one_piece_more : (text first : List ℕ) (others new : List (List ℕ)) (piece rest behind : List ℕ) (end : PieceEnd) → cut_pieces text ≡ cut_so_far first others Hole rest → cut_pieces rest ≡ cut_behind piece end behind → new ≡ others ++ piece ∷ []
    → cut_pieces text ≡ cut_so_far first new end behind
one_piece_more text first others new piece rest behind Hole so_far next is = so_far ∙ ap (option_map (with_further first others)) next ∙ rw is (further-further first piece others (cut_pieces behind))
one_piece_more text first others new piece rest behind Apostrophe so_far next is = so_far ∙ ap (option_map (with_further first others)) next ∙ rw is refl
