-- Trees that JSON texts read as are proper: their strings are UTF-8, and each object has its names once, in byte order.
use Rattle.std.proofs.Common.{◌≡◌, refl, sym, ap, ◌∙◌, subst, arith, ◌+◌, ◌-◌, ◌*◌, ◌<◌, ◌≤◌, ◌==◌, nat_lt, nat_le, nat_eq, ℕ, zero, suc, ℤ, List, [], ◌∷◌, ◌++◌, length, get_or, take, drop, append-nil, length-append, Bool, true, false, ◌&&◌, ◌||◌, cond, Option, Some, None, option_map, option_and_then, IsTrue, IsUtf8, inl, inr, ltb-true, ltb-false, lt-ltb, le-ltb, le-leb, leb-true, leb-false, eqb-true, ne_eqb, Ordering, Less, Equal, Greater}
use Rattle.std.proofs.lemmas.Bool.{and_parts, and_cases, cases_lt, cond_both}
use Rattle.std.proofs.lemmas.Cmp.{nat_list_cmp_total}
use Rattle.std.proofs.lemmas.Str.{IsUtf8-append, IsUtf8-nil, IsUtf8-encode, IsUtf8-past_char, IsUtf8-drop, IsCharBoundary-after_ascii, encode_ascii, inside_one}
use Rattle.std.specs.Char.{is_digit, digit_value, encode_utf8}
use Rattle.std.specs.Cmp.Lexicographic.{slice_cmp}
use Rattle.std.specs.List.{starts_with}
use Rattle.std.specs.Ordering.{nat_cmp, match_ordering, ordering_reverse}
use lib.Utf8.{scalar, scalars, encode, encodes, low_scalar}
use Rattle.json.specs.Ascii.{true_text, false_text, null_text}
use Rattle.json.specs.Json as json
use Rattle.json.specs.Json.{items, members, value}
use Rattle.json.specs.Lex.{Lexeme, token, comma, colon, Class, quote, backslash, operator, space, other, class, operator_lexeme, string_token, Mode, between, in_word, in_string, in_escape, lex_byte, lex, Place, fresh, after_value, after_comma, after_key, begins_colon, may_begin, may_close, if_allowed, place_token, punctuate, tokens}
use Rattle.json.specs.Text.{content, plain, after_backslash, after_u, after_high, prepend, short_escape, code_unit, is_high_surrogate, is_low_surrogate, surrogate_pair}
use Rattle.json.specs.Token.{Token}
use Rattle.json.specs.Word.{is_operator, is_space, head, ends_word, after_number, number_before, literal, word}
use Rattle.serde_json.specs.Data.{Num, Data, null, boolean, number, string, array, object, Items, no_items, item, Members, no_members, member, put}
use Rattle.serde_json.specs.Find.{as_i64}
use Rattle.serde_json.specs.Read.{number_of, of_json, of_items, of_members, max_depth}
use Rattle.asl_model.specs.Json.{ReadsAsValue, ReadsAsTree, tree_of, elements_of, members_of}
use Rattle.asl_model.specs.Tree.{Tree, Integer, Array, Object, Trees, AndTree, Fields, AndField, comes_before, before_fields, IsProper, AreProper, HasProperFields}
use Rattle.asl_model.proofs.RunOptions.{some_inj, none_some}

-- ---- the content of a string

-- what is there is UTF-8
abbrev IfUtf8 : Option (List ℕ) → Type 0
IfUtf8 None = Unit {0}
IfUtf8 (Some s) = IsUtf8 s

prepended : (front : List ℕ) (o : Option (List ℕ)) → IsUtf8 front → IfUtf8 o → IfUtf8 (prepend front o)
prepended front None u h = tt
prepended front (Some s) u h = IsUtf8-append front s u h

one_byte : (x : ℕ) → x < 128 → IsUtf8 (x ∷ [])
one_byte x low = subst IsUtf8 (encode_ascii x low) (IsUtf8-encode x (low_scalar x (omega arith)))

-- what stands behind an ASCII byte
behind_byte : (x : ℕ) (xs : List ℕ) → x < 128 → IsUtf8 (x ∷ xs) → IsUtf8 xs
behind_byte x xs low u = IsUtf8-past_char (x ∷ xs) xs x u (ap (λ (l : List ℕ). l ++ xs) (sym (encode_ascii x low)))

-- either way
both_ways : (b : Bool) (x y : Option (List ℕ)) → (b ≡ true → IfUtf8 x) → (b ≡ false → IfUtf8 y) → IfUtf8 (cond b x y)
both_ways b x y f g = cond_both b x y IfUtf8 f g

-- a text whose bytes up to that many are read rightly
abbrev IsReadBelow : ℕ → Type 0
IsReadBelow k = (xs : List ℕ) → length xs ≤ k → IsUtf8 xs → IfUtf8 (content plain xs)

-- a short escape is ASCII and stands for ASCII
abbrev IsShort : ℕ → Option ℕ → Type 0
IsShort x None = Unit {0}
IsShort x (Some c) = (x < 128) × (c < 128)

or_cases : (a b : Bool) (P : Type 0) → (a ≡ true → P) → (b ≡ true → P) → (a || b) ≡ true → P
or_cases true b P f g e = f refl
or_cases false b P f g e = g e

short_is_ascii : (x : ℕ) → IsShort x (short_escape x)
unfolding short_escape
short_is_ascii x =
    cond_both ((x == 34) || (x == 92) || (x == 47)) (Some x) _ (IsShort x)
    (λ e. let low : x < 128 = or_cases ((x == 34) || (x == 92)) (x == 47) (x < 128) (λ f. or_cases (x == 34) (x == 92) (x < 128) (λ g. omega (arith, eqb-true x 34 g)) (λ g. omega (arith, eqb-true x 92 g)) f) (λ f. omega (arith, eqb-true x 47 f)) e in (low, low))
    (λ e0. cond_both (x == 98) (Some 8) _ (IsShort x) (λ e. (omega (arith, eqb-true x 98 e), omega arith))
    (λ e1. cond_both (x == 102) (Some 12) _ (IsShort x) (λ e. (omega (arith, eqb-true x 102 e), omega arith))
    (λ e2. cond_both (x == 110) (Some 10) _ (IsShort x) (λ e. (omega (arith, eqb-true x 110 e), omega arith))
    (λ e3. cond_both (x == 114) (Some 13) _ (IsShort x) (λ e. (omega (arith, eqb-true x 114 e), omega arith))
    (λ e4. cond_both (x == 116) (Some 9) None (IsShort x) (λ e. (omega (arith, eqb-true x 116 e), omega arith)) (λ e. tt))))))

-- a hex digit is ASCII, and its value is below 16
hex_is_ascii : (x : ℕ) → is_digit x 16 ≡ true → (x < 128) × (digit_value x < 16)
hex_is_ascii x e = (elim (cases_lt x 128) [ inl low ↦ low | inr high ↦ absurd (omega (arith, big high, value)) ], value)
  where
    value : digit_value x < 16
    value = ltb-true (digit_value x) 16 e

    big : 128 ≤ x → digit_value x ≡ 36
    big high = rw (le-ltb x 48 (omega arith), le-ltb x 58 (omega arith), le-ltb x 65 (omega arith), le-ltb x 91 (omega arith), le-ltb x 97 (omega arith), le-ltb x 123 (omega arith)) refl

-- four hex digits are ASCII, and spell a number of two bytes
abbrev IsUnit : ℕ → ℕ → ℕ → ℕ → Option ℕ → Type 0
IsUnit a b c d None = Unit {0}
IsUnit a b c d (Some u) = (a < 128) × (b < 128) × (c < 128) × (d < 128) × (u < 65536)

unit_is_ascii : (a b c d : ℕ) → IsUnit a b c d (code_unit a b c d)
unfolding code_unit
unit_is_ascii a b c d =
    cond_both (is_digit a 16 && is_digit b 16 && is_digit c 16 && is_digit d 16) (Some (digit_value a * 4096 + digit_value b * 256 + digit_value c * 16 + digit_value d)) None (IsUnit a b c d)
    (λ e.
    let first = and_parts (is_digit a 16 && is_digit b 16 && is_digit c 16) (is_digit d 16) e in
    let second = and_parts (is_digit a 16 && is_digit b 16) (is_digit c 16) first.0 in
    let third = and_parts (is_digit a 16) (is_digit b 16) second.0 in
    let ha = hex_is_ascii a third.0 in
    let hb = hex_is_ascii b third.1 in
    let hc = hex_is_ascii c second.1 in
    let hd = hex_is_ascii d first.1 in
    (ha.0, hb.0, hc.0, hd.0, omega (arith, ha.1, hb.1, hc.1, hd.1)))
    (λ e. tt)

-- a unit that is no surrogate is a character, and so is what a pair of surrogates stands for
high_scalar : (c : ℕ) → 57344 ≤ c → c < 1114112 → scalar c ≡ true
high_scalar c low high = rw (le-ltb c 55296 (omega arith), le-leb 57344 c low, lt-ltb c 1114112 high) refl

unit_scalar : (u : ℕ) → u < 65536 → is_high_surrogate u ≡ false → is_low_surrogate u ≡ false → scalar u ≡ true
unit_scalar u small no_high no_low = elim (cases_lt u 55296) [
  | inl low ↦ low_scalar u low
  | inr big ↦ elim (and_cases (nat_le 0xd800 u) (nat_lt u 0xdc00) no_high) [
    | inl e ↦ absurd (omega (arith, leb-false 0xd800 u e))
    | inr e ↦ elim (and_cases (nat_le 0xdc00 u) (nat_lt u 0xe000) no_low) [
      | inl f ↦ absurd (omega (arith, leb-false 0xdc00 u f, ltb-false u 0xdc00 e))
      | inr f ↦ high_scalar u (omega (arith, ltb-false u 0xe000 f)) (omega arith)
    ]
  ]
]

pair_scalar : (h l : ℕ) → is_high_surrogate h ≡ true → is_low_surrogate l ≡ true → scalar (surrogate_pair h l) ≡ true
pair_scalar h l high low =
    let first = and_parts (nat_le 0xd800 h) (nat_lt h 0xdc00) high in
    let second = and_parts (nat_le 0xdc00 l) (nat_lt l 0xe000) low in
    let h0 = leb-true 0xd800 h first.0 in
    let h1 = ltb-true h 0xdc00 first.1 in
    let l0 = leb-true 0xdc00 l second.0 in
    let l1 = ltb-true l 0xe000 second.1 in
    let is : surrogate_pair h l ≡ 65536 + (h - 55296) * 1024 + (l - 56320) = refl in
    high_scalar (surrogate_pair h l) (omega (arith, is, h0, h1, l0, l1)) (omega (arith, is, h0, h1, l0, l1))

behind_four : (a b c d : ℕ) (xs : List ℕ) → a < 128 → b < 128 → c < 128 → d < 128 → IsUtf8 (a ∷ b ∷ c ∷ d ∷ xs) → IsUtf8 xs
behind_four a b c d xs ha hb hc hd u = behind_byte d xs hd (behind_byte c (d ∷ xs) hc (behind_byte b (c ∷ d ∷ xs) hb (behind_byte a (b ∷ c ∷ d ∷ xs) ha u)))

module _ (k : ℕ) (read : IsReadBelow k) where
  read_low : (h : ℕ) → is_high_surrogate h ≡ true → (xs : List ℕ) → length xs ≤ k → IsUtf8 xs → IfUtf8 (content (after_high h) xs)
  unfolding content
  read_low h high [] len u = tt
  read_low h high (s ∷ []) len u = tt
  read_low h high (s ∷ t ∷ []) len u = tt
  read_low h high (s ∷ t ∷ a ∷ []) len u = tt
  read_low h high (s ∷ t ∷ a ∷ b ∷ []) len u = tt
  read_low h high (s ∷ t ∷ a ∷ b ∷ c ∷ []) len u = tt
  read_low h high (s ∷ t ∷ a ∷ b ∷ c ∷ d ∷ xs) len u =
      both_ways ((s == 92) && (t == 117)) _ None (λ e. go (and_parts (s == 92) (t == 117) e) (code_unit a b c d) (unit_is_ascii a b c d)) (λ e. tt)
    where
      go : ((s == 92) ≡ true) × ((t == 117) ≡ true) → (o : Option ℕ) → IsUnit a b c d o → IfUtf8 (option_and_then (λ l. cond (is_low_surrogate l) (prepend (encode_utf8 (surrogate_pair h l)) (content plain xs)) None) o)
      go e None unit = tt
      go e (Some l) unit =
          let s_low : s < 128 = omega (arith, eqb-true s 92 e.0) in
          let t_low : t < 128 = omega (arith, eqb-true t 117 e.1) in
          let rest = behind_four a b c d xs unit.0 unit.1 unit.2 unit.3 (behind_byte t (a ∷ b ∷ c ∷ d ∷ xs) t_low (behind_byte s (t ∷ a ∷ b ∷ c ∷ d ∷ xs) s_low u)) in
          both_ways (is_low_surrogate l) (prepend (encode_utf8 (surrogate_pair h l)) (content plain xs)) None (λ low. prepended (encode_utf8 (surrogate_pair h l)) (content plain xs) (IsUtf8-encode (surrogate_pair h l) (pair_scalar h l high low)) (read xs (omega arith) rest)) (λ f. tt)

  read_unit : (xs : List ℕ) → length xs ≤ k → IsUtf8 xs → IfUtf8 (content after_u xs)
  unfolding content
  read_unit [] len u = tt
  read_unit (a ∷ []) len u = tt
  read_unit (a ∷ b ∷ []) len u = tt
  read_unit (a ∷ b ∷ c ∷ []) len u = tt
  read_unit (a ∷ b ∷ c ∷ d ∷ xs) len u = go (code_unit a b c d) (unit_is_ascii a b c d)
    where
      go : (o : Option ℕ) → IsUnit a b c d o → IfUtf8 (option_and_then (λ h. cond (is_high_surrogate h) (content (after_high h) xs) (cond (is_low_surrogate h) None (prepend (encode_utf8 h) (content plain xs)))) o)
      go None unit = tt
      go (Some h) unit =
          let rest = behind_four a b c d xs unit.0 unit.1 unit.2 unit.3 u in
          both_ways (is_high_surrogate h) (content (after_high h) xs) (cond (is_low_surrogate h) None (prepend (encode_utf8 h) (content plain xs)))
          (λ high. read_low h high xs (omega arith) rest)
          (λ no_high. both_ways (is_low_surrogate h) None (prepend (encode_utf8 h) (content plain xs)) (λ low. tt) (λ no_low. prepended (encode_utf8 h) (content plain xs) (IsUtf8-encode h (unit_scalar h unit.4 no_high no_low)) (read xs (omega arith) rest)))

  read_escape : (xs : List ℕ) → length xs ≤ k → IsUtf8 xs → IfUtf8 (content after_backslash xs)
  unfolding content
  read_escape [] len u = tt
  read_escape (x ∷ xs) len u =
      both_ways (x == 117) (content after_u xs) (option_and_then (λ c. prepend (c ∷ []) (content plain xs)) (short_escape x))
      (λ e. let low : x < 128 = omega (arith, eqb-true x 117 e) in read_unit xs (omega arith) (behind_byte x xs low u))
      (λ e. go (short_escape x) (short_is_ascii x))
    where
      go : (o : Option ℕ) → IsShort x o → IfUtf8 (option_and_then (λ c. prepend (c ∷ []) (content plain xs)) o)
      go None short = tt
      go (Some c) short = prepended (c ∷ []) (content plain xs) (one_byte c short.1) (read xs (omega arith) (behind_byte x xs short.0 u))

-- bytes of other characters stand for themselves
pass_high : (front rest : List ℕ) → ((k : ℕ) → k < length front → 128 ≤ get_or front k 0) → content plain (front ++ rest) ≡ prepend front (content plain rest)
unfolding content
pass_high [] rest h = as_it_is (content plain rest)
  where
    as_it_is : (o : Option (List ℕ)) → o ≡ prepend [] o
    as_it_is None = refl
    as_it_is (Some s) = refl
pass_high (x ∷ front) rest h =
    let high : 128 ≤ x = h 0 (omega arith) in
    rw (ne_eqb x 34 (λ e. absurd (omega (arith, e))), ne_eqb x 92 (λ e. absurd (omega (arith, e))), le-ltb x 32 (omega arith))
    (ap (prepend (x ∷ [])) (pass_high front rest (λ k less. h (suc k) (omega arith))) ∙ twice (content plain rest))
  where
    twice : (o : Option (List ℕ)) → prepend (x ∷ []) (prepend front o) ≡ prepend (x ∷ front) o
    twice None = refl
    twice (Some s) = refl

some_bytes : (c : ℕ) → 0 < length (encode c)
unfolding encode
some_bytes c =
    cond_both (nat_lt c 128) _ _ (λ (l : List ℕ). 0 < length l) (λ e. omega arith)
    (λ e. cond_both (nat_lt c 2048) _ _ (λ (l : List ℕ). 0 < length l) (λ f. omega arith) (λ f. cond_both (nat_lt c 65536) _ _ (λ (l : List ℕ). 0 < length l) (λ g. omega arith) (λ g. omega arith)))

read_below : (k : ℕ) → IsReadBelow k
unfolding content
read_below k [] len u = tt
read_below zero (x ∷ xs) len u = absurd (omega arith)
read_below (suc k) (x ∷ xs) len u = elim (cases_lt x 128) [
  | inl low ↦
      let rest = behind_byte x xs low u in
      both_ways (x == 34) (Some []) _ (λ e. IsUtf8-nil)
      (λ e. both_ways (x == 92) (content after_backslash xs) _ (λ f. read_escape k (λ ys l v. read_below k ys l v) xs (omega arith) rest)
      (λ f. both_ways (nat_lt x 32) None _ (λ g. tt) (λ g. prepended (x ∷ []) (content plain xs) (one_byte x low) (read_below k xs (omega arith) rest))))
  | inr high ↦ characters u.0 u.1.0 u.1.1 high (λ ys l v. read_below k ys l v)
]
  where
    characters : (cs : List ℕ) → scalars cs ≡ true → encodes cs ≡ x ∷ xs → 128 ≤ x → IsReadBelow k → IfUtf8 (content plain (x ∷ xs))
    characters [] ok is high read = absurd (cc)
    characters (c ∷ cs) ok is high read =
        let parts = and_parts (scalar c) (scalars cs) ok in
        let large : 128 ≤ c = elim (cases_lt c 128) [
          | inl small ↦ let same : c ∷ encodes cs ≡ x ∷ xs = ap (λ (l : List ℕ). l ++ encodes cs) (sym (encode_ascii c small)) ∙ is in let e : c ≡ x = cc in absurd (omega (arith, e))
          | inr h ↦ h
        ] in
        let front : (i : ℕ) → i < length (encode c) → 128 ≤ get_or (encode c) i 0 = λ i less. elim (cases_lt (get_or (encode c) i 0) 128) [
          | inl small ↦ absurd (omega (arith, inside_one c [] (encode c) i (sym (append-nil (encode c))) less small))
          | inr h ↦ h
        ] in
        let total : length (encode c ++ encodes cs) ≡ length (x ∷ xs) = ap (λ (l : List ℕ). length l) is in
        let fewer : length (encodes cs) ≤ k = omega (arith, some_bytes c, total, length-append (encode c) (encodes cs)) in
        subst (λ (l : List ℕ). IfUtf8 (content plain l)) is (subst IfUtf8 (sym (pass_high (encode c) (encodes cs) front)) (prepended (encode c) (content plain (encodes cs)) (IsUtf8-encode c parts.0) (read (encodes cs) fewer (cs, (parts.1, refl)))))

pub content_utf8 : (xs : List ℕ) → IsUtf8 xs → IfUtf8 (content plain xs)
content_utf8 xs u = read_below (length xs) xs (omega arith) u

-- ---- tokens

-- its text is UTF-8
abbrev IsGoodToken : Token → Type 0
IsGoodToken Token.begin_object = Unit {0}
IsGoodToken Token.end_object = Unit {0}
IsGoodToken Token.begin_array = Unit {0}
IsGoodToken Token.end_array = Unit {0}
IsGoodToken (Token.key s) = IsUtf8 s
IsGoodToken (Token.string s) = IsUtf8 s
IsGoodToken (Token.number s) = Unit {0}
IsGoodToken (Token.boolean b) = Unit {0}
IsGoodToken Token.null = Unit {0}
IsGoodToken Token.bad = Unit {0}

abbrev AreGoodTokens : List Token → Type 0
AreGoodTokens [] = Unit {0}
AreGoodTokens (t ∷ ts) = IsGoodToken t × AreGoodTokens ts

abbrev IsGoodLexeme : Lexeme → Type 0
IsGoodLexeme (token t) = IsGoodToken t
IsGoodLexeme comma = Unit {0}
IsGoodLexeme colon = Unit {0}

abbrev AreGoodLexemes : List Lexeme → Type 0
AreGoodLexemes [] = Unit {0}
AreGoodLexemes (l ∷ ls) = IsGoodLexeme l × AreGoodLexemes ls

good_string : (o : Option (List ℕ)) → IfUtf8 o → IsGoodToken (string_token o)
good_string None h = tt
good_string (Some s) h = h

good_literal : (name : List ℕ) (t : Token) (text : List ℕ) → IsGoodToken t → IsGoodToken (literal name t text)
good_literal name t text h = cond_both (starts_with nat_eq text name && ends_word (drop (length name) text)) t Token.bad IsGoodToken (λ e. h) (λ e. tt)

good_number : (text : List ℕ) (o : Option (List ℕ)) → IsGoodToken (number_before text o)
good_number text None = tt
good_number text (Some rest) = cond_both (ends_word rest) (Token.number (take (length text - length rest) text)) Token.bad IsGoodToken (λ e. tt) (λ e. tt)

good_word : (text : List ℕ) → IsGoodToken (word text)
unfolding word
good_word text =
    cond_both (head text == 116) (literal true_text (Token.boolean true) text) _ IsGoodToken (λ e. good_literal true_text (Token.boolean true) text tt)
    (λ e. cond_both (head text == 102) (literal false_text (Token.boolean false) text) _ IsGoodToken (λ f. good_literal false_text (Token.boolean false) text tt)
    (λ f. cond_both (head text == 110) (literal null_text Token.null text) (number_before text (after_number text)) IsGoodToken (λ g. good_literal null_text Token.null text tt) (λ g. good_number text (after_number text))))

good_operator : (x : ℕ) → IsGoodLexeme (operator_lexeme x)
good_operator x =
    cond_both (x == 123) (token Token.begin_object) _ IsGoodLexeme (λ e. tt)
    (λ e. cond_both (x == 125) (token Token.end_object) _ IsGoodLexeme (λ f. tt)
    (λ f. cond_both (x == 91) (token Token.begin_array) _ IsGoodLexeme (λ g. tt)
    (λ g. cond_both (x == 93) (token Token.end_array) _ IsGoodLexeme (λ h. tt) (λ h. cond_both (x == 44) comma colon IsGoodLexeme (λ i. tt) (λ i. tt)))))

-- only a quote is of its class
class_of_quote : (x : ℕ) → class x ≡ quote → x ≡ 34
class_of_quote x e = go (x == 34) refl e
  where
    no_quote : (a b c : Bool) → cond a backslash (cond b operator (cond c space other)) ≡ quote → ⊥
    no_quote true b c f = absurd (cc)
    no_quote false true c f = absurd (cc)
    no_quote false false true f = absurd (cc)
    no_quote false false false f = absurd (cc)

    go : (b : Bool) → (x == 34) ≡ b → cond b quote (cond (x == 92) backslash (cond (is_operator x) operator (cond (is_space x) space other))) ≡ quote → x ≡ 34
    go true f g = eqb-true x 34 f
    go false f g = absurd (no_quote (x == 92) (is_operator x) (is_space x) g)

-- behind each ASCII byte the text is UTF-8
abbrev IsCutWell : List ℕ → Type 0
IsCutWell text = (i : ℕ) → i < length text → get_or text i 0 < 128 → IsUtf8 (drop (i + 1) text)

cut_well : (text : List ℕ) → IsUtf8 text → IsCutWell text
cut_well text u i within low = IsUtf8-drop text (i + 1) u (IsCharBoundary-after_ascii text i u within low)

behind_first : (x : ℕ) (xs : List ℕ) → IsCutWell (x ∷ xs) → IsCutWell xs
behind_first x xs h i within low =
    let next : suc i + 1 ≡ suc (i + 1) = omega arith in
    subst (λ (n : ℕ). IsUtf8 (drop n (x ∷ xs))) next (h (suc i) (omega arith) low)

good_lexemes : (m : Mode) (xs : List ℕ) → IsCutWell xs → AreGoodLexemes (lex m xs)
unfolding lex
good_lexemes m [] h = tt
good_lexemes m (x ∷ xs) h = go m (class x) refl (λ next. good_lexemes next xs (behind_first x xs h))
  where
    go : (n : Mode) (c : Class) → class x ≡ c → ((next : Mode) → AreGoodLexemes (lex next xs)) → AreGoodLexemes (lex_byte n c x xs (λ next. lex next xs))
    go between quote e further =
        let is : x ≡ 34 = class_of_quote x e in
        (good_string (content plain xs) (content_utf8 xs (h 0 (omega arith) (omega (arith, is)))), further in_string)
    go between backslash e further = (tt, further in_word)
    go between operator e further = (good_operator x, further between)
    go between space e further = further between
    go between other e further = (good_word (x ∷ xs), further in_word)
    go in_word quote e further = further in_word
    go in_word backslash e further = further in_word
    go in_word operator e further = (good_operator x, further between)
    go in_word space e further = further between
    go in_word other e further = further in_word
    go in_string quote e further = further between
    go in_string backslash e further = further in_escape
    go in_string operator e further = further in_string
    go in_string space e further = further in_string
    go in_string other e further = further in_string
    go in_escape quote e further = further in_string
    go in_escape backslash e further = further in_string
    go in_escape operator e further = further in_string
    go in_escape space e further = further in_string
    go in_escape other e further = further in_string

if_good : (allowed : Bool) (t : Token) (k : Place → List Token) (next : Place) → IsGoodToken t → AreGoodTokens (k next) → AreGoodTokens (if_allowed allowed t k next)
if_good true t k next h g = (h, g)
if_good false t k next h g = (tt, tt)

good_place : (p : Place) (t : Token) (before_colon : Bool) (k : Place → List Token) → IsGoodToken t → ((next : Place) → AreGoodTokens (k next)) → AreGoodTokens (place_token p t before_colon k)
good_place p Token.begin_object b k h g = if_good (may_begin p) Token.begin_object k fresh h (g fresh)
good_place p Token.end_object b k h g = if_good (may_close p) Token.end_object k after_value h (g after_value)
good_place p Token.begin_array b k h g = if_good (may_begin p) Token.begin_array k fresh h (g fresh)
good_place p Token.end_array b k h g = if_good (may_close p) Token.end_array k after_value h (g after_value)
good_place p (Token.key s) b k h g = (tt, tt)
good_place p (Token.string s) true k h g = if_good (may_begin p) (Token.key s) k after_key h (g after_key)
good_place p (Token.string s) false k h g = if_good (may_begin p) (Token.string s) k after_value h (g after_value)
good_place p (Token.number s) b k h g = if_good (may_begin p) (Token.number s) k after_value h (g after_value)
good_place p (Token.boolean c) b k h g = if_good (may_begin p) (Token.boolean c) k after_value h (g after_value)
good_place p Token.null b k h g = if_good (may_begin p) Token.null k after_value h (g after_value)
good_place p Token.bad b k h g = (tt, tt)

good_tokens : (p : Place) (ls : List Lexeme) → AreGoodLexemes ls → AreGoodTokens (punctuate p ls)
unfolding punctuate
good_tokens fresh [] h = tt
good_tokens after_value [] h = tt
good_tokens after_comma [] h = (tt, tt)
good_tokens after_key [] h = (tt, tt)
good_tokens fresh (token t ∷ ls) h = good_place fresh t (begins_colon ls) (λ next. punctuate next ls) h.0 (λ next. good_tokens next ls h.1)
good_tokens after_value (token t ∷ ls) h = good_place after_value t (begins_colon ls) (λ next. punctuate next ls) h.0 (λ next. good_tokens next ls h.1)
good_tokens after_comma (token t ∷ ls) h = good_place after_comma t (begins_colon ls) (λ next. punctuate next ls) h.0 (λ next. good_tokens next ls h.1)
good_tokens after_key (token t ∷ ls) h = good_place after_key t (begins_colon ls) (λ next. punctuate next ls) h.0 (λ next. good_tokens next ls h.1)
good_tokens fresh (comma ∷ ls) h = (tt, tt)
good_tokens after_value (comma ∷ ls) h = good_tokens after_comma ls h.1
good_tokens after_comma (comma ∷ ls) h = (tt, tt)
good_tokens after_key (comma ∷ ls) h = (tt, tt)
good_tokens fresh (colon ∷ ls) h = (tt, tt)
good_tokens after_value (colon ∷ ls) h = (tt, tt)
good_tokens after_comma (colon ∷ ls) h = (tt, tt)
good_tokens after_key (colon ∷ ls) h = good_tokens fresh ls h.1

-- ---- the value that tokens are

abbrev mutual
  IsGoodJson : json.Json → Type 0
  IsGoodJson json.null = Unit {0}
  IsGoodJson (json.boolean b) = Unit {0}
  IsGoodJson (json.number s) = Unit {0}
  IsGoodJson (json.string s) = IsUtf8 s
  IsGoodJson (json.array js) = AreGoodItems js
  IsGoodJson (json.object ms) = AreGoodMembers ms

  AreGoodItems : json.Items → Type 0
  AreGoodItems json.no_items = Unit {0}
  AreGoodItems (json.item j js) = IsGoodJson j × AreGoodItems js

  AreGoodMembers : json.Members → Type 0
  AreGoodMembers json.no_members = Unit {0}
  AreGoodMembers (json.member k j ms) = IsUtf8 k × IsGoodJson j × AreGoodMembers ms

-- what is parsed is good, and so are the tokens that are left
abbrev IsParsedWell : {A : Type 0} → (A → Type 0) → Option (A × List Token) → Type 0
IsParsedWell P None = Unit {0}
IsParsedWell P (Some p) = P p.0 × AreGoodTokens p.1

abbrev ParsesWell : {A : Type 0} → (A → Type 0) → (List Token → Option (A × List Token)) → Type 0
ParsesWell P parse = (ts : List Token) → AreGoodTokens ts → IsParsedWell P (parse ts)

mapped_well : {A B : Type 0} (P : A → Type 0) (Q : B → Type 0) (f : A → B) → ((a : A) → P a → Q (f a)) → (o : Option (A × List Token)) → IsParsedWell P o → IsParsedWell Q (json.parse_map f o)
mapped_well P Q f keeps None h = tt
mapped_well P Q f keeps (Some p) h = (keeps p.0 h.0, h.1)

-- one behind another
then_well : {A B : Type 0} (P : A → Type 0) (Q : B → Type 0) (f : A × List Token → Option (B × List Token)) → ((p : A × List Token) → P p.0 → AreGoodTokens p.1 → IsParsedWell Q (f p)) → (o : Option (A × List Token)) → IsParsedWell P o → IsParsedWell Q (option_and_then f o)
then_well P Q f further None h = tt
then_well P Q f further (Some p) h = further p h.0 h.1

-- what follows a closing bracket is good
abbrev IsLeftWell : Option (List Token) → Type 0
IsLeftWell None = Unit {0}
IsLeftWell (Some ts) = AreGoodTokens ts

closed_well : (ts : List Token) → AreGoodTokens ts → IsLeftWell (json.after_end_array ts)
closed_well [] h = tt
closed_well (Token.begin_object ∷ ts) h = tt
closed_well (Token.end_object ∷ ts) h = tt
closed_well (Token.begin_array ∷ ts) h = tt
closed_well (Token.end_array ∷ ts) h = h.1
closed_well (Token.key s ∷ ts) h = tt
closed_well (Token.string s ∷ ts) h = tt
closed_well (Token.number s ∷ ts) h = tt
closed_well (Token.boolean b ∷ ts) h = tt
closed_well (Token.null ∷ ts) h = tt
closed_well (Token.bad ∷ ts) h = tt

abbrev IsGoodKey : Option (List ℕ) → Type 0
IsGoodKey None = Unit {0}
IsGoodKey (Some s) = IsUtf8 s

key_well : ParsesWell IsGoodKey json.read_key
key_well [] h = tt
key_well (Token.begin_object ∷ ts) h = tt
key_well (Token.end_object ∷ ts) h = (tt, h.1)
key_well (Token.begin_array ∷ ts) h = tt
key_well (Token.end_array ∷ ts) h = tt
key_well (Token.key s ∷ ts) h = (h.0, h.1)
key_well (Token.string s ∷ ts) h = tt
key_well (Token.number s ∷ ts) h = tt
key_well (Token.boolean b ∷ ts) h = tt
key_well (Token.null ∷ ts) h = tt
key_well (Token.bad ∷ ts) h = tt

module _ (value : json.Parse json.Json) (well : ParsesWell IsGoodJson value) where
  item_well : (more : json.Parse json.Items) → ParsesWell AreGoodItems more → (ts : List Token) → AreGoodTokens ts → (o : Option (List Token)) → IsLeftWell o → IsParsedWell AreGoodItems (json.items_step value more ts o)
  item_well more further ts h (Some rest) g = (tt, g)
  item_well more further ts h None g = then_well IsGoodJson AreGoodItems (λ p. json.parse_map (json.item p.0) (more p.1)) (λ p j left. mapped_well AreGoodItems AreGoodItems (json.item p.0) (λ js k. (j, k)) (more p.1) (further p.1 left)) (value ts) (well ts h)

  items_well : (n : ℕ) → ParsesWell AreGoodItems (json.items value n)
  unfolding items
  items_well zero ts h = tt
  items_well (suc n) ts h = item_well (json.items value n) (λ us g. items_well n us g) ts h (json.after_end_array ts) (closed_well ts h)

  member_well : (more : json.Parse json.Members) → ParsesWell AreGoodMembers more → (k : Option (List ℕ)) → IsGoodKey k → ParsesWell AreGoodMembers (json.members_step value more k)
  member_well more further None key ts h = (tt, h)
  member_well more further (Some k) key ts h = then_well IsGoodJson AreGoodMembers (λ p. json.parse_map (json.member k p.0) (more p.1)) (λ p j left. mapped_well AreGoodMembers AreGoodMembers (json.member k p.0) (λ ms g. (key, j, g)) (more p.1) (further p.1 left)) (value ts) (well ts h)

  members_well : (n : ℕ) → ParsesWell AreGoodMembers (json.members value n)
  unfolding members
  members_well zero ts h = tt
  members_well (suc n) ts h = then_well IsGoodKey AreGoodMembers (λ p. json.members_step value (json.members value n) p.0 p.1) (λ p key left. member_well (json.members value n) (λ us g. members_well n us g) p.0 key p.1 left) (json.read_key ts) (key_well ts h)

with_well : (a : json.Parse json.Items) (o : json.Parse json.Members) → ParsesWell AreGoodItems a → ParsesWell AreGoodMembers o → ParsesWell IsGoodJson (json.value_with a o)
with_well a o items members [] h = tt
with_well a o items members (Token.begin_object ∷ ts) h = mapped_well AreGoodMembers IsGoodJson json.object (λ ms g. g) (o ts) (members ts h.1)
with_well a o items members (Token.end_object ∷ ts) h = tt
with_well a o items members (Token.begin_array ∷ ts) h = mapped_well AreGoodItems IsGoodJson json.array (λ js g. g) (a ts) (items ts h.1)
with_well a o items members (Token.end_array ∷ ts) h = tt
with_well a o items members (Token.key s ∷ ts) h = tt
with_well a o items members (Token.string s ∷ ts) h = (h.0, h.1)
with_well a o items members (Token.number s ∷ ts) h = (tt, h.1)
with_well a o items members (Token.boolean b ∷ ts) h = (tt, h.1)
with_well a o items members (Token.null ∷ ts) h = (tt, h.1)
with_well a o items members (Token.bad ∷ ts) h = tt

value_well : (depth : ℕ) → ParsesWell IsGoodJson (json.value depth)
unfolding value
value_well zero = with_well (λ ts. None) (λ ts. None) (λ ts h. tt) (λ ts h. tt)
value_well (suc depth) =
    with_well (λ ts. json.items (json.value depth) (length ts) ts) (λ ts. json.members (json.value depth) (length ts) ts)
    (λ ts h. items_well (json.value depth) (value_well depth) (length ts) ts h) (λ ts h. members_well (json.value depth) (value_well depth) (length ts) ts h)

-- ---- members in order

-- the name comes before that of the first member
abbrev before_members : List ℕ → Members → Bool
before_members n no_members = true
before_members n (member m v ms) = comes_before n m

abbrev mutual
  IsProperData : Data → Type 0
  IsProperData null = Unit {0}
  IsProperData (boolean b) = Unit {0}
  IsProperData (number n) = Unit {0}
  IsProperData (string s) = IsUtf8 s
  IsProperData (array vs) = AreProperItems vs
  IsProperData (object ms) = AreProperMembers ms

  AreProperItems : Items → Type 0
  AreProperItems no_items = Unit {0}
  AreProperItems (item v vs) = IsProperData v × AreProperItems vs

  AreProperMembers : Members → Type 0
  AreProperMembers no_members = Unit {0}
  AreProperMembers (member n v ms) = IsUtf8 n × IsTrue (before_members n ms) × IsProperData v × AreProperMembers ms

-- a name that doesn't come before another, and is another, comes behind it
greater-before : (k l : List ℕ) → slice_cmp nat_cmp k l ≡ Greater → IsTrue (comes_before l k)
greater-before k l e = ap (λ (o : Ordering). match_ordering o true false false) (nat_list_cmp_total.antisymm l k ∙ ap ordering_reverse e)

-- the members with one more, by the order of the names
abbrev put_by : Ordering → List ℕ → Data → List ℕ → Data → Members → Members
put_by o k d l e ms = match_ordering o (member k d (member l e ms)) (member l d ms) (member l e (put k d ms))

put_before : (n k : List ℕ) (d : Data) (ms : Members) → IsTrue (comes_before n k) → IsTrue (before_members n ms) → IsTrue (before_members n (put k d ms))
put_before n k d no_members less h = less
put_before n k d (member l e ms) less h = go (slice_cmp nat_cmp k l)
  where
    go : (o : Ordering) → IsTrue (before_members n (put_by o k d l e ms))
    go Less = less
    go Equal = h
    go Greater = h

put_proper : (k : List ℕ) (d : Data) (ms : Members) → IsUtf8 k → IsProperData d → AreProperMembers ms → AreProperMembers (put k d ms)
put_proper k d no_members u p h = (u, refl, p, tt)
put_proper k d (member l e ms) u p h = go (slice_cmp nat_cmp k l) refl (put_proper k d ms u p h.3)
  where
    go : (o : Ordering) → slice_cmp nat_cmp k l ≡ o → AreProperMembers (put k d ms) → AreProperMembers (put_by o k d l e ms)
    go Less f further = (u, ap (λ (q : Ordering). match_ordering q true false false) f, p, h)
    go Equal f further = (h.0, h.1, p, h.3)
    go Greater f further = (h.0, put_before l k d ms (greater-before k l f) h.1, h.2, further)

-- ---- from JSON to data, and to trees

abbrev IfProper : Option Data → Type 0
IfProper None = Unit {0}
IfProper (Some v) = IsProperData v

abbrev IfProperItems : Option Items → Type 0
IfProperItems None = Unit {0}
IfProperItems (Some vs) = AreProperItems vs

abbrev IfProperMembers : Option Members → Type 0
IfProperMembers None = Unit {0}
IfProperMembers (Some ms) = AreProperMembers ms

mutual
  json_proper : (j : json.Json) → IsGoodJson j → IfProper (of_json j)
  json_proper json.null h = tt
  json_proper (json.boolean b) h = tt
  json_proper (json.number s) h = go (number_of s)
    where
      go : (o : Option Num) → IfProper (option_map number o)
      go None = tt
      go (Some n) = tt
  json_proper (json.string s) h = h
  json_proper (json.array js) h = go (of_items js) (items_proper js h)
    where
      go : (o : Option Items) → IfProperItems o → IfProper (option_map array o)
      go None g = tt
      go (Some vs) g = g
  json_proper (json.object ms) h = go (of_members ms no_members) (members_proper ms no_members h tt)
    where
      go : (o : Option Members) → IfProperMembers o → IfProper (option_map object o)
      go None g = tt
      go (Some found) g = g

  items_proper : (js : json.Items) → AreGoodItems js → IfProperItems (of_items js)
  items_proper json.no_items h = tt
  items_proper (json.item j js) h = go (of_json j) (json_proper j h.0) (of_items js) (items_proper js h.1)
    where
      go : (o : Option Data) → IfProper o → (rest : Option Items) → IfProperItems rest → IfProperItems (option_and_then (λ d. option_map (item d) rest) o)
      go None g rest f = tt
      go (Some v) g None f = tt
      go (Some v) g (Some vs) f = (g, f)

  members_proper : (ms : json.Members) (found : Members) → AreGoodMembers ms → AreProperMembers found → IfProperMembers (of_members ms found)
  members_proper json.no_members found h g = g
  members_proper (json.member k j ms) found h g = go (of_json j) (json_proper j h.1) (λ d p. members_proper ms (put k d found) h.2 (put_proper k d found h.0 p g))
    where
      go : (o : Option Data) → IfProper o → ((d : Data) → IsProperData d → IfProperMembers (of_members ms (put k d found))) → IfProperMembers (option_and_then (λ d. of_members ms (put k d found)) o)
      go None f further = tt
      go (Some v) f further = further v f

-- the first field has the name of the first member
same_first : (n : List ℕ) (ms : Members) (fs : Fields) → members_of ms ≡ Some fs → before_fields n fs ≡ before_members n ms
same_first n no_members fs e = sym (ap (before_fields n) (some_inj e))
same_first n (member m v ms) fs e = go (tree_of v) (members_of ms) e
  where
    go : (o : Option Tree) (rest : Option Fields) → option_and_then (λ t. option_map (AndField m t) rest) o ≡ Some fs → before_fields n fs ≡ comes_before n m
    go None rest f = none_some f
    go (Some t) None f = none_some f
    go (Some t) (Some gs) f = sym (ap (before_fields n) (some_inj f))

mutual
  tree_proper : (v : Data) (t : Tree) → IsProperData v → tree_of v ≡ Some t → IsProper t
  tree_proper null t h e = subst IsProper (some_inj e) tt
  tree_proper (boolean b) t h e = subst IsProper (some_inj e) tt
  tree_proper (number n) t h e = go (as_i64 n) e
    where
      go : (o : Option ℤ) → option_map Integer o ≡ Some t → IsProper t
      go None f = none_some f
      go (Some z) f = subst IsProper (some_inj f) tt
  tree_proper (string s) t h e = subst IsProper (some_inj e) h
  tree_proper (array vs) t h e = go (elements_of vs) e (λ ts f. elements_proper vs ts h f)
    where
      go : (o : Option Trees) → option_map Array o ≡ Some t → ((ts : Trees) → o ≡ Some ts → AreProper ts) → IsProper t
      go None f further = none_some f
      go (Some ts) f further = subst IsProper (some_inj f) (further ts refl)
  tree_proper (object ms) t h e = go (members_of ms) e (λ fs f. fields_proper ms fs h f)
    where
      go : (o : Option Fields) → option_map Object o ≡ Some t → ((fs : Fields) → o ≡ Some fs → HasProperFields fs) → IsProper t
      go None f further = none_some f
      go (Some fs) f further = subst IsProper (some_inj f) (further fs refl)

  elements_proper : (vs : Items) (ts : Trees) → AreProperItems vs → elements_of vs ≡ Some ts → AreProper ts
  elements_proper no_items ts h e = subst AreProper (some_inj e) tt
  elements_proper (item v vs) ts h e = go (tree_of v) (elements_of vs) e (λ t f. tree_proper v t h.0 f) (λ us f. elements_proper vs us h.1 f)
    where
      go : (o : Option Tree) (rest : Option Trees) → option_and_then (λ t. option_map (AndTree t) rest) o ≡ Some ts → ((t : Tree) → o ≡ Some t → IsProper t) → ((us : Trees) → rest ≡ Some us → AreProper us) → AreProper ts
      go None rest f first further = none_some f
      go (Some t) None f first further = none_some f
      go (Some t) (Some us) f first further = subst AreProper (some_inj f) (first t refl, further us refl)

  fields_proper : (ms : Members) (fs : Fields) → AreProperMembers ms → members_of ms ≡ Some fs → HasProperFields fs
  fields_proper no_members fs h e = subst HasProperFields (some_inj e) tt
  fields_proper (member n v ms) fs h e = go (tree_of v) (members_of ms) refl e (λ t f. tree_proper v t h.2 f) (λ gs f. fields_proper ms gs h.3 f)
    where
      go : (o : Option Tree) (rest : Option Fields) → members_of ms ≡ rest → option_and_then (λ t. option_map (AndField n t) rest) o ≡ Some fs → ((t : Tree) → o ≡ Some t → IsProper t) → ((gs : Fields) → rest ≡ Some gs → HasProperFields gs) → HasProperFields fs
      go None rest is f first further = none_some f
      go (Some t) None is f first further = none_some f
      go (Some t) (Some gs) is f first further = subst HasProperFields (some_inj f) (h.0, subst IsTrue (sym (same_first n ms gs is)) h.1, first t refl, further gs refl)

read_proper : (text : List ℕ) (v : Data) → ReadsAsValue text v → IsProperData v
read_proper text v reads =
    let tokens_good = good_tokens fresh (lex between text) (good_lexemes between text (cut_well text reads.0)) in
    parsed (json.value max_depth (tokens text)) (value_well max_depth (tokens text) tokens_good) reads.1
  where
    last : (j : json.Json) (rest : List Token) → IsGoodJson j → (o : Option json.Json) → json.if_last j rest ≡ o → option_and_then of_json o ≡ Some v → IsProperData v
    last j [] good None f e = none_some e
    last j [] good (Some k) f e = subst IfProper (ap (λ (q : Option json.Json). option_and_then of_json q) f ∙ e) (json_proper j good)
    last j (t ∷ rest) good None f e = none_some e
    last j (t ∷ rest) good (Some k) f e = none_some f

    parsed : (o : Option (json.Json × List Token)) → IsParsedWell IsGoodJson o → option_and_then of_json (option_and_then (λ p. json.if_last p.0 p.1) o) ≡ Some v → IsProperData v
    parsed None h e = none_some e
    parsed (Some p) h e = last p.0 p.1 h.0 (json.if_last p.0 p.1) refl e

pub trees_proper : (text : List ℕ) (t : Tree) → ReadsAsTree text t → IsProper t
trees_proper text t reads = tree_proper reads.0 t (read_proper text reads.0 reads.1) reads.2
