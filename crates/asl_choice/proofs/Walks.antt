-- Walking along a pattern and a text: bytes are themselves, and behind a star the first place to begin at is enough.
use Rattle.std.proofs.Common.{◌≡◌, ℕ, List, [], ◌∷◌, ◌++◌, length, map, drop, get_or, drop-cons, add-one, ◌+◌, ◌<◌, ◌≤◌, ◌==◌, Bool, true, false, IsTrue, refl, sym, ap, subst, ◌∙◌, append_assoc, eq-eqb, arith, length-append}
use Rattle.std.proofs.lemmas.List.{drop_at, drop_all, drop-append-le}
use Rattle.std.proofs.lemmas.Bool.{ne_eqb}
use Rattle.std.proofs.lemmas.Bool.Decides.{nat_tests}
use Rattle.asl_model.specs.Test.{PatternPart, ByteOf, Star, IsCutBy, cut_off_byte, cut_off_star, some_end, is_cut_by}
use Rattle.asl_model.proofs.RunPatterns.{cut_passes, passes_cut}
use Rattle.asl_choice.specs.declared.rule.PatternPart as code
use Rattle.asl_choice.specs.View.{pattern_view}
use Rattle.asl_choice.specs.Walking.{StandsBehind}

-- two tests that follow from one another are the same
same_truths : (a b : Bool) → (IsTrue a → IsTrue b) → (IsTrue b → IsTrue a) → a ≡ b
same_truths true b f g = sym (f refl)
same_truths false true f g = g refl
same_truths false false f g = refl

-- the bytes that a pattern begins with are those that a text begins with
bytes_cut : (front : List ℕ) (parts : List PatternPart) (text : List ℕ) → IsCutBy (map ByteOf front ++ parts) text → (further : List ℕ) × (text ≡ front ++ further) × IsCutBy parts further
bytes_cut [] parts text h = (text, refl, h)
bytes_cut (b ∷ front) parts text (cut_off_byte {further = others} h) =
    let rest = bytes_cut front parts others h in
    (rest.0, ap (λ cs. b ∷ cs) rest.1, rest.2)

-- a pattern that begins with the bytes that the text begins with cuts it where its rest cuts the rest
cut_bytes : (front : List ℕ) (parts : List PatternPart) (rest : List ℕ) → IsCutBy parts rest → IsCutBy (map ByteOf front ++ parts) (front ++ rest)
cut_bytes [] parts rest h = h
cut_bytes (b ∷ front) parts rest h = cut_off_byte (cut_bytes front parts rest h)

-- a star takes any further text in front
star_longer : (parts : List PatternPart) (front text : List ℕ) → IsCutBy (Star ∷ parts) text → IsCutBy (Star ∷ parts) (front ++ text)
star_longer parts front text (cut_off_star {further = further} first h) =
    subst (IsCutBy (Star ∷ parts)) (append_assoc front first further) (cut_off_star (front ++ first) h)

-- where some front of bytes leads to a star, an earlier one leads to it too
leftmost_cut : (front : List ℕ) (parts : List PatternPart) (text rest : List ℕ) → text ≡ front ++ rest → IsCutBy (Star ∷ (map ByteOf front ++ (Star ∷ parts))) text → IsCutBy (Star ∷ parts) rest
leftmost_cut front parts text rest same (cut_off_star {further = end} first h) =
    let bytes = bytes_cut front (Star ∷ parts) end h in
    let whole : front ++ rest ≡ (first ++ front) ++ bytes.0 = sym same ∙ ap (λ cs. first ++ cs) bytes.1 ∙ sym (append_assoc first front bytes.0) in
    let left : rest ≡ drop (length front) (first ++ front) ++ bytes.0 =
    sym (drop_at front rest (length front) refl) ∙ ap (drop (length front)) whole ∙ drop-append-le (length front) (first ++ front) bytes.0 (omega (arith, length-append first front)) in
    subst (IsCutBy (Star ∷ parts)) (sym left) (star_longer parts (drop (length front) (first ++ front)) bytes.0 bytes.2)

-- behind bytes that are the same, the same is left to decide
bytes_here : (front : List ℕ) (parts : List PatternPart) (rest : List ℕ) → is_cut_by (map ByteOf front ++ parts) (front ++ rest) ≡ is_cut_by parts rest
bytes_here [] parts rest = refl
bytes_here (b ∷ front) parts rest = rw (eq-eqb b b refl) (bytes_here front parts rest)

-- where a star stands behind some bytes, the leftmost end that begins with them decides
leftmost : (front : List ℕ) (parts : List PatternPart) (rest : List ℕ) → some_end (is_cut_by (map ByteOf front ++ (Star ∷ parts))) (front ++ rest) ≡ some_end (is_cut_by parts) rest
leftmost front parts rest =
    let whole = map ByteOf front ++ (Star ∷ parts) in
    same_truths _ _
    (λ h. cut_passes (leftmost_cut front parts (front ++ rest) rest refl (passes_cut (Star ∷ whole) (front ++ rest) h)))
    (λ h. cut_passes (cut_off_star [] (cut_bytes front (Star ∷ parts) rest (passes_cut (Star ∷ parts) rest h))))

-- at a star, whether the pattern cuts the text; whether it cuts some end of it
pub here_at_star : (pattern parts : List code.PatternPart) (text rest : List ℕ) → StandsBehind pattern text (Star ∷ pattern_view parts) rest → is_cut_by (pattern_view pattern) text ≡ some_end (is_cut_by (pattern_view parts)) rest
here_at_star pattern parts text rest h = rw (h.in_pattern, h.in_text) (bytes_here h.front (Star ∷ pattern_view parts) rest)

pub end_at_star : (pattern parts : List code.PatternPart) (text rest : List ℕ) → StandsBehind pattern text (Star ∷ pattern_view parts) rest → some_end (is_cut_by (pattern_view pattern)) text ≡ some_end (is_cut_by (pattern_view parts)) rest
end_at_star pattern parts text rest h = rw (h.in_pattern, h.in_text) (leftmost h.front (pattern_view parts) rest)

-- behind what they begin with together, the pattern and the text go on to decide
still : (pattern : List code.PatternPart) (parts : List PatternPart) (text rest : List ℕ) → StandsBehind pattern text parts rest → is_cut_by (pattern_view pattern) text ≡ is_cut_by parts rest
still pattern parts text rest h = rw (h.in_pattern, h.in_text) (bytes_here h.front parts rest)

-- the next element of a pattern is a byte
next_part : (pattern : List code.PatternPart) (i b : ℕ) → i < length pattern → get_or pattern i (code.TheVariants.Byte 0) ≡ code.TheVariants.Byte b → pattern_view (drop i pattern) ≡ ByteOf b ∷ pattern_view (drop (i + 1) pattern)
next_part pattern i b within is = ap pattern_view (drop-cons pattern i (code.TheVariants.Byte 0) within) ∙ rw (is, add-one) refl

-- a byte of the pattern, and no text
pub text_over : (pattern : List code.PatternPart) (text rest : List ℕ) (i b : ℕ) → StandsBehind pattern text (pattern_view (drop i pattern)) rest → i < length pattern → get_or pattern i (code.TheVariants.Byte 0) ≡ code.TheVariants.Byte b → length rest ≡ 0
    → is_cut_by (pattern_view pattern) text ≡ false
text_over pattern text [] i b h within is over = still pattern _ text [] h ∙ ap (λ p. is_cut_by p []) (next_part pattern i b within is)
text_over pattern text (c ∷ rest) i b h within is over = absurd (omega arith)

-- a byte of the pattern, and another of the text
pub bytes_differ : (pattern : List code.PatternPart) (text rest further : List ℕ) (i b c : ℕ) → StandsBehind pattern text (pattern_view (drop i pattern)) rest → i < length pattern → get_or pattern i (code.TheVariants.Byte 0) ≡ code.TheVariants.Byte b → rest ≡ c ∷ further → ¬ (c ≡ b)
    → is_cut_by (pattern_view pattern) text ≡ false
bytes_differ pattern text rest further i b c h within is split differ =
    still pattern _ text rest h ∙ rw (next_part pattern i b within is, split, ne_eqb b c (λ same. differ (sym same))) refl

-- one more byte is the same
one_more : (front : List ℕ) (b : ℕ) (parts : List PatternPart) → map ByteOf front ++ (ByteOf b ∷ parts) ≡ map ByteOf (front ++ (b ∷ [])) ++ parts
one_more [] b parts = refl
one_more (c ∷ front) b parts = ap (λ p. ByteOf c ∷ p) (one_more front b parts)

-- a byte of the pattern, and the same of the text
pub byte_walked : (pattern : List code.PatternPart) (text rest further : List ℕ) (i b c : ℕ) → StandsBehind pattern text (pattern_view (drop i pattern)) rest → i < length pattern → get_or pattern i (code.TheVariants.Byte 0) ≡ code.TheVariants.Byte b → rest ≡ c ∷ further → c ≡ b
    → StandsBehind pattern text (pattern_view (drop (i + 1) pattern)) further
byte_walked pattern text rest further i b c h within is split same = record {
  front = h.front ++ (b ∷ []);
  in_pattern = h.in_pattern ∙ ap (λ p. map ByteOf h.front ++ p) (next_part pattern i b within is) ∙ one_more h.front b (pattern_view (drop (i + 1) pattern));
  in_text = h.in_text ∙ ap (λ cs. h.front ++ cs) (split ∙ ap (λ d. d ∷ further) same) ∙ sym (append_assoc h.front (b ∷ []) further);
}

-- at the end of the pattern the text has to be at its end
pub at_end : (pattern : List code.PatternPart) (text rest : List ℕ) (i : ℕ) → StandsBehind pattern text (pattern_view (drop i pattern)) rest → length pattern ≤ i → is_cut_by (pattern_view pattern) text ≡ is_cut_by [] rest
at_end pattern text rest i h end = still pattern _ text rest h ∙ rw (drop_all i pattern end) refl

-- a text that passes is an end of itself that passes
pub passes_here : (passes : List ℕ → Bool) (text : List ℕ) → passes text ≡ true → some_end passes text ≡ true
passes_here passes [] h = h
passes_here passes (b ∷ bs) h = rw h refl

-- no pattern is left: the text has to be over too
pub rest_over : (rest : List ℕ) → is_cut_by [] rest ≡ (length rest == 0)
rest_over [] = refl
rest_over (b ∷ rest) = grind (arith, nat_tests)
