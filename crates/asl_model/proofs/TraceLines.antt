-- The lines of a history's text: each is the line of one of its entries, and the line of an entry that is no data-flow
-- fault isn't that of one.
use Rattle.std.proofs.Common.{◌≡◌, refl, sym, ap, ◌∙◌, arith, ◌+◌, ◌<◌, ◌≤◌, ◌/◌, ◌%◌, ◌==◌, ℕ, zero, suc, ℤ, pos, negsuc, List, [], ◌∷◌, ◌++◌, append_assoc, Bool, true, false, ◌&&◌, not, if◌then◌else◌, inl, inr, ne_eqb, le-ltb, lt-ltb, codes, decimal}
use Rattle.std.proofs.lemmas.Bool.{and_parts, and_from, false≢true, cases_eq, cases_lt}
use Rattle.std.specs.Fmt.{digit_glyph, digits_onto, digits}
use Rattle.json.specs.Print.{escape_byte, escape, quoted}
use Rattle.serde_json.specs.Find.{of_integer}
use Rattle.serde_json.specs.Written.{number_text, comma_if, items_text, members_text}
use Rattle.asl_model.specs.Faults.{Fault}
use Rattle.asl_model.specs.Tree.{Tree, Null, Boolean, Integer, Text, Array, Object, Trees, NoTrees, AndTree, Fields, NoFields, AndField}
use Rattle.asl_model.specs.Json.{items_of, members_for, compact_text}
use Rattle.asl_model.specs.Run.{Output, FailedWith, Entry, Entered, Asked, Left, Raised, TaskFailed, BranchFailed, Retried, Caught, Ended}
use Rattle.asl_model.specs.Certificate.{RaisesNothing, TellsNoFault}
use Rattle.asl_model.specs.Printed.{line_break, first_line, further_lines}
use Rattle.asl_model.specs.TracePrinted.{numbers, entry_tree, trace_text, IsLineOf, is_first_line, is_later_line, IsRaiseLine}

-- ---- bytes that pass a test

abbrev each : (ℕ → Bool) → List ℕ → Bool
each passes [] = true
each passes (x ∷ xs) = passes x && each passes xs

each_append : (passes : ℕ → Bool) (xs ys : List ℕ) → each passes xs ≡ true → each passes ys ≡ true → each passes (xs ++ ys) ≡ true
each_append passes [] ys h g = g
each_append passes (x ∷ xs) ys h g =
    let both = and_parts (passes x) (each passes xs) h in
    and_from (passes x) (each passes (xs ++ ys)) both.0 (each_append passes xs ys both.1 g)

-- the digits of a number, where each digit passes
module _ (passes : ℕ → Bool) (digit : (d : ℕ) → d < 10 → passes (48 + d) ≡ true) where
  digit_passes : (d : ℕ) → d < 10 → passes (digit_glyph false d) ≡ true
  digit_passes d h = ap (λ (small : Bool). passes (if small then 48 + d else 87 + d)) (lt-ltb d 10 h) ∙ digit d h

  digits_pass : (k n : ℕ) (text : List ℕ) → each passes text ≡ true → each passes (digits_onto k 10 false n text) ≡ true
  digits_pass zero n text h = h
  digits_pass (suc k) n text h = go (n / 10 == 0) (and_from (passes (digit_glyph false (n % 10))) (each passes text) (digit_passes (n % 10) (omega arith)) h) (λ g. digits_pass k (n / 10) (digit_glyph false (n % 10) ∷ text) g)
    where
      more : List ℕ
      more = digit_glyph false (n % 10) ∷ text

      go : (last : Bool) → each passes more ≡ true → (each passes more ≡ true → each passes (digits_onto k 10 false (n / 10) more) ≡ true) → each passes (if last then more else digits_onto k 10 false (n / 10) more) ≡ true
      go true g further = g
      go false g further = further g

  decimal_passes : (n : ℕ) → each passes (decimal n) ≡ true
  unfolding digits
  decimal_passes n = digits_pass 64 n [] refl

-- ---- no line break in a compact text

-- no line break
abbrev goes_on : ℕ → Bool
goes_on x = not (x == 10)

other_byte : (x y : ℕ) → (x ≡ y → ⊥) → not (x == y) ≡ true
other_byte x y other = ap not (ne_eqb x y other)

escaped_as_itself : (x : ℕ) → 93 ≤ x → escape_byte x ≡ x ∷ []
unfolding escape_byte
escaped_as_itself x high =
    rw (
      ne_eqb x 34 (λ e. absurd (omega (arith, e))),
      ne_eqb x 92 (λ e. absurd (omega (arith, e))),
      ne_eqb x 8 (λ e. absurd (omega (arith, e))),
      ne_eqb x 12 (λ e. absurd (omega (arith, e))),
      ne_eqb x 10 (λ e. absurd (omega (arith, e))),
      ne_eqb x 13 (λ e. absurd (omega (arith, e))),
      ne_eqb x 9 (λ e. absurd (omega (arith, e))),
      le-ltb x 32 (omega arith),
    ) refl

-- so it is for each byte below that number
abbrev escapes_go_on : ℕ → Bool
escapes_go_on zero = true
escapes_go_on (suc n) = each goes_on (escape_byte n) && escapes_go_on n

below_goes_on : (n : ℕ) → escapes_go_on n ≡ true → (x : ℕ) → x < n → each goes_on (escape_byte x) ≡ true
below_goes_on zero e x h = absurd (omega arith)
below_goes_on (suc n) e x h =
    let both = and_parts (each goes_on (escape_byte n)) (escapes_go_on n) e in
    elim (cases_eq x n) [ inl same ↦ rw same both.0 | inr other ↦ below_goes_on n both.1 x (omega arith) ]

low_escapes_go_on : escapes_go_on 93 ≡ true
unfolding escape_byte
low_escapes_go_on = refl

escape_goes_on : (x : ℕ) → each goes_on (escape_byte x) ≡ true
escape_goes_on x = elim (cases_lt x 93) [
  | inl low ↦ below_goes_on 93 low_escapes_go_on x low
  | inr high ↦ rw (escaped_as_itself x high) (and_from (goes_on x) true (other_byte x 10 (λ e. absurd (omega (arith, e)))) refl)
]

escaped_goes_on : (s : List ℕ) → each goes_on (escape s) ≡ true
escaped_goes_on [] = refl
escaped_goes_on (x ∷ s) = each_append goes_on (escape_byte x) (escape s) (escape_goes_on x) (escaped_goes_on s)

quoted_goes_on : (s : List ℕ) → each goes_on (quoted s) ≡ true
quoted_goes_on s = each_append goes_on (escape s) (34 ∷ []) (escaped_goes_on s) refl

decimal_goes_on : (n : ℕ) → each goes_on (decimal n) ≡ true
decimal_goes_on n = decimal_passes goes_on (λ d h. other_byte (48 + d) 10 (λ e. absurd (omega (arith, e)))) n

number_goes_on : (z : ℤ) → each goes_on (number_text (of_integer z)) ≡ true
number_goes_on (pos n) = decimal_goes_on n
number_goes_on (negsuc n) = decimal_goes_on (suc n)

comma_goes_on : (later : Bool) → each goes_on (comma_if later) ≡ true
comma_goes_on true = refl
comma_goes_on false = refl

mutual
  tree_goes_on : (t : Tree) → each goes_on (compact_text t) ≡ true
  tree_goes_on Null = refl
  tree_goes_on (Boolean true) = refl
  tree_goes_on (Boolean false) = refl
  tree_goes_on (Integer z) = number_goes_on z
  tree_goes_on (Text s) = quoted_goes_on s
  tree_goes_on (Array ts) = elements_go_on false ts
  tree_goes_on (Object fs) = fields_go_on false fs

  elements_go_on : (later : Bool) (ts : Trees) → each goes_on (items_text later (items_of ts)) ≡ true
  elements_go_on later NoTrees = refl
  elements_go_on later (AndTree t ts) =
      each_append goes_on (comma_if later) (compact_text t ++ items_text true (items_of ts)) (comma_goes_on later)
      (each_append goes_on (compact_text t) (items_text true (items_of ts)) (tree_goes_on t) (elements_go_on true ts))

  fields_go_on : (later : Bool) (fs : Fields) → each goes_on (members_text later (members_for fs)) ≡ true
  fields_go_on later NoFields = refl
  fields_go_on later (AndField n t fs) =
      each_append goes_on (comma_if later) (quoted n ++ 58 ∷ (compact_text t ++ members_text true (members_for fs))) (comma_goes_on later)
      (each_append goes_on (quoted n) (58 ∷ (compact_text t ++ members_text true (members_for fs))) (quoted_goes_on n)
      (each_append goes_on (compact_text t) (members_text true (members_for fs)) (tree_goes_on t) (fields_go_on true fs)))

-- ---- lines

not_same : (b : Bool) → not b ≡ true → b ≡ false
not_same true h = absurd (false≢true h)
not_same false h = refl

before_break : (xs rest : List ℕ) → each goes_on xs ≡ true → first_line (xs ++ 10 ∷ rest) ≡ xs
before_break [] rest h = refl
before_break (x ∷ xs) rest h =
    let both = and_parts (goes_on x) (each goes_on xs) h in
    ap (λ (here : Bool). if here then [] else x ∷ first_line (xs ++ 10 ∷ rest)) (not_same (x == 10) both.0) ∙ ap (λ (l : List ℕ). x ∷ l) (before_break xs rest both.1)

behind_break : (xs rest : List ℕ) → each goes_on xs ≡ true → further_lines (xs ++ 10 ∷ rest) ≡ rest
behind_break [] rest h = refl
behind_break (x ∷ xs) rest h =
    let both = and_parts (goes_on x) (each goes_on xs) h in
    ap (λ (here : Bool). if here then xs ++ 10 ∷ rest else further_lines (xs ++ 10 ∷ rest)) (not_same (x == 10) both.0) ∙ behind_break xs rest both.1

-- the line of an entry, without its break
abbrev entry_text : List ℕ × Entry → List ℕ
entry_text e = compact_text (entry_tree e.0 e.1)

-- ---- the kind of an entry

-- the bytes behind the first closing bracket
abbrev behind_list : List ℕ → List ℕ
behind_list [] = []
behind_list (x ∷ xs) = if x == 93 then xs else behind_list xs

-- no closing bracket
abbrev stays_inside : ℕ → Bool
stays_inside x = not (x == 93)

passed : (xs rest : List ℕ) → each stays_inside xs ≡ true → behind_list (xs ++ rest) ≡ behind_list rest
passed [] rest h = refl
passed (x ∷ xs) rest h =
    let both = and_parts (stays_inside x) (each stays_inside xs) h in
    ap (λ (here : Bool). if here then xs ++ rest else behind_list (xs ++ rest)) (not_same (x == 93) both.0) ∙ passed xs rest both.1

comma_inside : (later : Bool) → each stays_inside (comma_if later) ≡ true
comma_inside true = refl
comma_inside false = refl

decimal_inside : (n : ℕ) → each stays_inside (decimal n) ≡ true
decimal_inside n = decimal_passes stays_inside (λ d h. other_byte (48 + d) 93 (λ e. absurd (omega (arith, e)))) n

-- the text of a place ends with the first closing bracket
behind_place : (later : Bool) (place : List ℕ) (rest : List ℕ) → behind_list (items_text later (items_of (numbers place)) ++ rest) ≡ rest
behind_place later [] rest = refl
behind_place later (i ∷ place) rest =
    let more = items_text true (items_of (numbers place)) in
    ap behind_list (append_assoc (comma_if later) (decimal i ++ more) rest)
    ∙ passed (comma_if later) ((decimal i ++ more) ++ rest) (comma_inside later)
    ∙ ap behind_list (append_assoc (decimal i) more rest)
    ∙ passed (decimal i) (more ++ rest) (decimal_inside i)
    ∙ behind_place true place rest

behind_at : (place : List ℕ) (fs : Fields) → behind_list (compact_text (Object (AndField (codes "at") (Array (numbers place)) fs))) ≡ members_text true (members_for fs)
unfolding escape_byte
behind_at place fs = behind_place false place (members_text true (members_for fs))

-- the text begins with the other
abbrev begins : List ℕ → List ℕ → Bool
begins [] text = true
begins (x ∷ front) [] = false
begins (x ∷ front) (y ∷ text) = x == y && begins front text

-- behind its place a Raise line goes on so, and no other does
abbrev tells_raise : List ℕ → Bool
tells_raise line = begins (codes ",\"entry\":\"Ra") (behind_list line)

told_so : (place : List ℕ) (fs : Fields) (b : Bool) → begins (codes ",\"entry\":\"Ra") (members_text true (members_for fs)) ≡ b → tells_raise (compact_text (Object (AndField (codes "at") (Array (numbers place)) fs))) ≡ b
told_so place fs b e = ap (begins (codes ",\"entry\":\"Ra")) (behind_at place fs) ∙ e

-- the fields behind the first
abbrev behind_first : Tree → Fields
behind_first Null = NoFields
behind_first (Boolean b) = NoFields
behind_first (Integer z) = NoFields
behind_first (Text s) = NoFields
behind_first (Array ts) = NoFields
behind_first (Object NoFields) = NoFields
behind_first (Object (AndField n t fs)) = fs

abbrev behind_its_place : List ℕ → Entry → Fields
behind_its_place place entry = behind_first (entry_tree place entry)

raise_told : (place n : List ℕ) (fault : Fault) → tells_raise (entry_text (place, Raised n fault)) ≡ true
unfolding escape_byte
raise_told place n fault = told_so place (behind_its_place place (Raised n fault)) true refl

no_raise_told : (place : List ℕ) (entry : Entry) → RaisesNothing entry → tells_raise (entry_text (place, entry)) ≡ false
unfolding escape_byte
no_raise_told place (Entered n input) h = told_so place (behind_its_place place (Entered n input)) false refl
no_raise_told place (Asked n payload) h = told_so place (behind_its_place place (Asked n payload)) false refl
no_raise_told place (Left n output) h = told_so place (behind_its_place place (Left n output)) false refl
no_raise_told place (Raised n fault) h = absurd h
no_raise_told place (TaskFailed n error cause) h = told_so place (behind_its_place place (TaskFailed n error cause)) false refl
no_raise_told place (BranchFailed n i error cause) h = told_so place (behind_its_place place (BranchFailed n i error cause)) false refl
no_raise_told place (Retried n i) h = told_so place (behind_its_place place (Retried n i)) false refl
no_raise_told place (Caught n i next) h = told_so place (behind_its_place place (Caught n i next)) false refl
no_raise_told place (Ended (Output output)) h = told_so place (behind_its_place place (Ended (Output output))) false refl
no_raise_told place (Ended (FailedWith error cause)) h = told_so place (behind_its_place place (Ended (FailedWith error cause))) false refl

not_raised : (place : List ℕ) (entry : Entry) (line : List ℕ) → RaisesNothing entry → line ≡ entry_text (place, entry) → IsRaiseLine line → ⊥
not_raised place entry line quiet is raise =
    let same : tells_raise (entry_text (place, entry)) ≡ tells_raise (entry_text (raise.place, Raised raise.state raise.fault)) = ap tells_raise (sym is ∙ raise.same) in
    false≢true (sym (no_raise_told place entry quiet) ∙ (same ∙ raise_told raise.place raise.state raise.fault))

not_empty : (line : List ℕ) → line ≡ [] → IsRaiseLine line → ⊥
not_empty line is raise = let same : [] ≡ entry_text (raise.place, Raised raise.state raise.fault) = sym is ∙ raise.same in absurd (cc)

-- ---- the whole text

in_lines : (told : List ℕ × Entry) (further : List (List ℕ × Entry)) → trace_text (told ∷ further) ≡ entry_text told ++ 10 ∷ trace_text further
in_lines told further = append_assoc (entry_text told) line_break (trace_text further)

pub no_raise_line : (told : List (List ℕ × Entry)) (line text : List ℕ) → TellsNoFault told → text ≡ trace_text told → IsLineOf line text → IsRaiseLine line → ⊥
no_raise_line [] line text quiet same (is_first_line e) raise = not_empty line (e ∙ ap first_line same) raise
no_raise_line [] line text quiet same (is_later_line within) raise = no_raise_line [] line (further_lines text) tt (ap further_lines same) within raise
no_raise_line (told ∷ further) line text quiet same (is_first_line e) raise =
    not_raised told.0 told.1 line quiet.0 (e ∙ (ap first_line (same ∙ in_lines told further) ∙ before_break (entry_text told) (trace_text further) (tree_goes_on (entry_tree told.0 told.1)))) raise
no_raise_line (told ∷ further) line text quiet same (is_later_line within) raise =
    no_raise_line further line (further_lines text) quiet.1 (ap further_lines (same ∙ in_lines told further) ∙ behind_break (entry_text told) (trace_text further) (tree_goes_on (entry_tree told.0 told.1))) within raise
