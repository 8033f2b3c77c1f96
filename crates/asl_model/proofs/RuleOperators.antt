-- The operators of a rule are exactly those that are read.
use Rattle.std.proofs.Common.{◌≡◌, ◌-◌, ℕ, List, [], ◌∷◌, ◌++◌, length, take, drop, ◌==◌, Bool, true, false, ◌||◌, if◌then◌else◌, Option, Some, None, option_map, option_and_then, Result, Ok, Err, bytes_eq, codes, refl, sym, ap, subst, ◌∙◌, ◌⊎◌, inl, inr, take-append-drop}
use Rattle.std.proofs.lemmas.Bool.{or_cases, eqb-true, eqb-false, ne_eqb, false≢true}
use Rattle.std.proofs.lemmas.Option.{none-some, same_Some}
use Rattle.std.proofs.lemmas.Slice.Eq.{bytes_eq-Decides}
use Rattle.asl_model.specs.Tree.{Tree, Null, Boolean, Integer, Text, Array, Object}
use Rattle.asl_model.specs.Path.{Segment}
use Rattle.asl_model.specs.PathSpelling.{path_of}
use Rattle.asl_model.specs.CallSpelling.{behind}
use Rattle.asl_model.specs.Test.{Relation, Equals, LessThan, GreaterThan, LessThanEquals, GreaterThanEquals, Comparison, StringIs, NumericIs, BooleanEquals, Constant, AtPath, ValueKind, NullKind, NumericKind, StringKind, BooleanKind, PatternPart, ByteOf, Star, Test, Compare, StringMatches, IsOfKind, IsPresent, as_text, as_boolean}
use Rattle.asl_model.specs.RuleSpelling.{RuleFault, UnknownOperator, BadOperand, BadPath, BadPattern, Operator, WithValue, WithPath, Matching, OfKind, Presence, relation_named, or_else, comparison_named, path_comparison_named, kind_named, operator_named, pattern_of, is_comparable, given_or, operator_test, named_test}
use Rattle.asl_model.specs.RuleGrammar.{NamesRelation, names_equals, names_less_than, names_greater_than, names_less_than_equals, names_greater_than_equals, NamesComparison, names_string, names_numeric, names_boolean, NamesKind, names_null, names_number, names_text, names_truth, IsOperandOf, text_operand, number_operand, truth_operand, SpellsPattern, pattern_is_over, star_in_pattern, escaped_star, escaped_backslash, byte_in_pattern, SpellsOperator, spells_comparison, spells_path_comparison, spells_match, spells_kind, spells_presence}
use Rattle.asl_model.proofs.RunOptions.{same_ok, ok_or_err}
use Rattle.asl_model.proofs.ReadingSteps.{taken_if, then_from, map_from}
use Rattle.asl_model.proofs.PathReading.{path_of-Spells, Spells-path_of}
use Rattle.asl_model.proofs.CallMeaning.{behind_is}

-- ---- names that are known

-- the name of a comparison
comparison_known : {n : List ℕ} {c : Comparison} → NamesComparison n c → operator_named n ≡ Some (WithValue c)
comparison_known (names_string names_equals) = refl
comparison_known (names_string names_less_than) = refl
comparison_known (names_string names_greater_than) = refl
comparison_known (names_string names_less_than_equals) = refl
comparison_known (names_string names_greater_than_equals) = refl
comparison_known (names_numeric names_equals) = refl
comparison_known (names_numeric names_less_than) = refl
comparison_known (names_numeric names_greater_than) = refl
comparison_known (names_numeric names_less_than_equals) = refl
comparison_known (names_numeric names_greater_than_equals) = refl
comparison_known names_boolean = refl

-- with `Path` at its end
path_comparison_known : {n : List ℕ} {c : Comparison} → NamesComparison n c → operator_named (n ++ codes "Path") ≡ Some (WithPath c)
path_comparison_known (names_string names_equals) = refl
path_comparison_known (names_string names_less_than) = refl
path_comparison_known (names_string names_greater_than) = refl
path_comparison_known (names_string names_less_than_equals) = refl
path_comparison_known (names_string names_greater_than_equals) = refl
path_comparison_known (names_numeric names_equals) = refl
path_comparison_known (names_numeric names_less_than) = refl
path_comparison_known (names_numeric names_greater_than) = refl
path_comparison_known (names_numeric names_less_than_equals) = refl
path_comparison_known (names_numeric names_greater_than_equals) = refl
path_comparison_known names_boolean = refl

-- the name of a kind
kind_known : {n : List ℕ} {kind : ValueKind} → NamesKind n kind → operator_named n ≡ Some (OfKind kind)
kind_known names_null = refl
kind_known names_number = refl
kind_known names_text = refl
kind_known names_truth = refl

-- ---- known names

-- a name that is looked up is that word, or is looked up further
this_or_further : {A : Type 0} (n word : List ℕ) (a b : A) (further : Option A) → (if bytes_eq n word then Some a else further) ≡ Some b → ((n ≡ word) × (a ≡ b)) ⊎ (further ≡ Some b)
this_or_further n word a b further h = go (bytes_eq n word) refl h
  where
    go : (t : Bool) → bytes_eq n word ≡ t → (if t then Some a else further) ≡ Some b → ((n ≡ word) × (a ≡ b)) ⊎ (further ≡ Some b)
    go true e k = inl ((bytes_eq-Decides n word).0 e, same_Some a b k)
    go false e k = inr k

-- one or the other
first_or_further : {A : Type 0} (a : A) (x y : Option A) → or_else x y ≡ Some a → (x ≡ Some a) ⊎ (y ≡ Some a)
first_or_further a None y h = inr h
first_or_further a (Some b) y h = inl h

-- a known relation
known_relation : (n : List ℕ) (r : Relation) → relation_named n ≡ Some r → NamesRelation n r
known_relation n r h = first (this_or_further n (codes "Equals") Equals r _ h)
  where
    named : (word : List ℕ) (q : Relation) → NamesRelation word q → (n ≡ word) × (q ≡ r) → NamesRelation n r
    named word q names same = subst (NamesRelation n) same.1 (subst (λ m. NamesRelation m q) (sym same.0) names)

    fifth : ((n ≡ codes "GreaterThanEquals") × (GreaterThanEquals ≡ r)) ⊎ (None ≡ Some r) → NamesRelation n r
    fifth (inl same) = named (codes "GreaterThanEquals") GreaterThanEquals names_greater_than_equals same
    fifth (inr none) = absurd (none-some r none)

    fourth : ((n ≡ codes "LessThanEquals") × (LessThanEquals ≡ r)) ⊎ ((if bytes_eq n (codes "GreaterThanEquals") then Some GreaterThanEquals else None) ≡ Some r) → NamesRelation n r
    fourth (inl same) = named (codes "LessThanEquals") LessThanEquals names_less_than_equals same
    fourth (inr more) = fifth (this_or_further n (codes "GreaterThanEquals") GreaterThanEquals r None more)

    third : ((n ≡ codes "GreaterThan") × (GreaterThan ≡ r)) ⊎ ((if bytes_eq n (codes "LessThanEquals") then Some LessThanEquals else (if bytes_eq n (codes "GreaterThanEquals") then Some GreaterThanEquals else None)) ≡ Some r) → NamesRelation n r
    third (inl same) = named (codes "GreaterThan") GreaterThan names_greater_than same
    third (inr more) = fourth (this_or_further n (codes "LessThanEquals") LessThanEquals r _ more)

    second : ((n ≡ codes "LessThan") × (LessThan ≡ r)) ⊎ ((if bytes_eq n (codes "GreaterThan") then Some GreaterThan else (if bytes_eq n (codes "LessThanEquals") then Some LessThanEquals else (if bytes_eq n (codes "GreaterThanEquals") then Some GreaterThanEquals else None))) ≡ Some r) → NamesRelation n r
    second (inl same) = named (codes "LessThan") LessThan names_less_than same
    second (inr more) = third (this_or_further n (codes "GreaterThan") GreaterThan r _ more)

    first : ((n ≡ codes "Equals") × (Equals ≡ r)) ⊎ ((if bytes_eq n (codes "LessThan") then Some LessThan else (if bytes_eq n (codes "GreaterThan") then Some GreaterThan else (if bytes_eq n (codes "LessThanEquals") then Some LessThanEquals else (if bytes_eq n (codes "GreaterThanEquals") then Some GreaterThanEquals else None)))) ≡ Some r) → NamesRelation n r
    first (inl same) = named (codes "Equals") Equals names_equals same
    first (inr more) = second (this_or_further n (codes "LessThan") LessThan r _ more)

-- a known comparison
known_comparison : (n : List ℕ) (c : Comparison) → comparison_named n ≡ Some c → NamesComparison n c
known_comparison n c h = first (first_or_further c (option_map StringIs (option_and_then relation_named (behind (codes "String") n))) _ h)
  where
    boolean : ((n ≡ codes "BooleanEquals") × (BooleanEquals ≡ c)) ⊎ (None ≡ Some c) → NamesComparison n c
    boolean (inl same) = subst (NamesComparison n) same.1 (subst (λ m. NamesComparison m BooleanEquals) (sym same.0) names_boolean)
    boolean (inr none) = absurd (none-some c none)

    second : (option_map NumericIs (option_and_then relation_named (behind (codes "Numeric") n)) ≡ Some c) ⊎ ((if bytes_eq n (codes "BooleanEquals") then Some BooleanEquals else None) ≡ Some c) → NamesComparison n c
    second (inl k) =
        let o = map_from NumericIs (option_and_then relation_named (behind (codes "Numeric") n)) c k in
        let w = then_from relation_named (behind (codes "Numeric") n) o.0 o.1 in
        subst (NamesComparison n) o.2 (subst (λ m. NamesComparison m (NumericIs o.0)) (sym (behind_is (codes "Numeric") n w.0 w.1)) (names_numeric (known_relation w.0 o.0 w.2)))
    second (inr k) = boolean (this_or_further n (codes "BooleanEquals") BooleanEquals c None k)

    first : (option_map StringIs (option_and_then relation_named (behind (codes "String") n)) ≡ Some c) ⊎ (or_else (option_map NumericIs (option_and_then relation_named (behind (codes "Numeric") n))) (if bytes_eq n (codes "BooleanEquals") then Some BooleanEquals else None) ≡ Some c) → NamesComparison n c
    first (inl k) =
        let o = map_from StringIs (option_and_then relation_named (behind (codes "String") n)) c k in
        let w = then_from relation_named (behind (codes "String") n) o.0 o.1 in
        subst (NamesComparison n) o.2 (subst (λ m. NamesComparison m (StringIs o.0)) (sym (behind_is (codes "String") n w.0 w.1)) (names_string (known_relation w.0 o.0 w.2)))
    first (inr k) = second (first_or_further c (option_map NumericIs (option_and_then relation_named (behind (codes "Numeric") n))) (if bytes_eq n (codes "BooleanEquals") then Some BooleanEquals else None) k)

-- a known one with `Path`
known_path_comparison : (n : List ℕ) (c : Comparison) → path_comparison_named n ≡ Some c → (m : List ℕ) × (n ≡ m ++ codes "Path") × NamesComparison m c
known_path_comparison n c h =
    let t = taken_if (bytes_eq (drop (length n - 4) n) (codes "Path")) (comparison_named (take (length n - 4) n)) c h in
    (take (length n - 4) n, sym (take-append-drop (length n - 4) n) ∙ ap (λ u. take (length n - 4) n ++ u) ((bytes_eq-Decides (drop (length n - 4) n) (codes "Path")).0 t.0), known_comparison (take (length n - 4) n) c t.1)

-- a known kind
known_kind : (n : List ℕ) (kind : ValueKind) → kind_named n ≡ Some kind → NamesKind n kind
known_kind n kind h = first (this_or_further n (codes "IsNull") NullKind kind _ h)
  where
    named : (word : List ℕ) (q : ValueKind) → NamesKind word q → (n ≡ word) × (q ≡ kind) → NamesKind n kind
    named word q names same = subst (NamesKind n) same.1 (subst (λ m. NamesKind m q) (sym same.0) names)

    fourth : ((n ≡ codes "IsBoolean") × (BooleanKind ≡ kind)) ⊎ (None ≡ Some kind) → NamesKind n kind
    fourth (inl same) = named (codes "IsBoolean") BooleanKind names_truth same
    fourth (inr none) = absurd (none-some kind none)

    third : ((n ≡ codes "IsString") × (StringKind ≡ kind)) ⊎ ((if bytes_eq n (codes "IsBoolean") then Some BooleanKind else None) ≡ Some kind) → NamesKind n kind
    third (inl same) = named (codes "IsString") StringKind names_text same
    third (inr more) = fourth (this_or_further n (codes "IsBoolean") BooleanKind kind None more)

    second : ((n ≡ codes "IsNumeric") × (NumericKind ≡ kind)) ⊎ ((if bytes_eq n (codes "IsString") then Some StringKind else (if bytes_eq n (codes "IsBoolean") then Some BooleanKind else None)) ≡ Some kind) → NamesKind n kind
    second (inl same) = named (codes "IsNumeric") NumericKind names_number same
    second (inr more) = third (this_or_further n (codes "IsString") StringKind kind _ more)

    first : ((n ≡ codes "IsNull") × (NullKind ≡ kind)) ⊎ ((if bytes_eq n (codes "IsNumeric") then Some NumericKind else (if bytes_eq n (codes "IsString") then Some StringKind else (if bytes_eq n (codes "IsBoolean") then Some BooleanKind else None))) ≡ Some kind) → NamesKind n kind
    first (inl same) = named (codes "IsNull") NullKind names_null same
    first (inr more) = second (this_or_further n (codes "IsNumeric") NumericKind kind _ more)

-- ---- patterns

-- what is read of a text that begins with these two bytes
abbrev pattern_at : ℕ → ℕ → List ℕ → Bool → Bool → Option (List PatternPart)
pattern_at x y rest escapes star =
    elim escapes [
      | true ↦ elim (y == 42 || y == 92) [ true ↦ option_map (λ parts. ByteOf y ∷ parts) (pattern_of rest) | false ↦ None ]
      | false ↦ option_map (λ parts. (if star then Star else ByteOf x) ∷ parts) (pattern_of (y ∷ rest))
    ]

-- one byte that stands last
pattern_last : (x : ℕ) → (x == 92) ≡ false → (part : PatternPart) → (if x == 42 then Star else ByteOf x) ≡ part → pattern_of (x ∷ []) ≡ Some (part ∷ [])
pattern_last x e part same = ap (λ t. if t then None else (if x == 42 then Some (Star ∷ []) else Some (ByteOf x ∷ []))) e ∙ (go (x == 42) ∙ ap (λ q. Some (q ∷ [])) same)
  where
    go : (t : Bool) → (if t then Some (Star ∷ []) else Some (ByteOf x ∷ [])) ≡ Some ((if t then Star else ByteOf x) ∷ [])
    go true = refl
    go false = refl

-- a pattern that is spelled is read
pattern_read : {text : List ℕ} {parts : List PatternPart} → SpellsPattern text parts → pattern_of text ≡ Some parts
pattern_read pattern_is_over = refl
pattern_read (star_in_pattern {text = []} h) = ap (option_map (λ parts. Star ∷ parts)) (pattern_read h)
pattern_read (star_in_pattern {text = y ∷ text} h) = ap (option_map (λ parts. Star ∷ parts)) (pattern_read h)
pattern_read (escaped_star h) = ap (option_map (λ parts. ByteOf 42 ∷ parts)) (pattern_read h)
pattern_read (escaped_backslash h) = ap (option_map (λ parts. ByteOf 92 ∷ parts)) (pattern_read h)
pattern_read (byte_in_pattern {b = b} {text = []} n m h) =
    pattern_last b (ne_eqb b 92 m) (ByteOf b) (ap (λ t. if t then Star else ByteOf b) (ne_eqb b 42 n))
    ∙ ap (option_map (λ parts. ByteOf b ∷ parts)) (pattern_read h)
pattern_read (byte_in_pattern {b = b} {text = y ∷ text} n m h) =
    ap (λ t. pattern_at b y text t (b == 42)) (ne_eqb b 92 m)
    ∙ (ap (pattern_at b y text false) (ne_eqb b 42 n)
    ∙ ap (option_map (λ parts. ByteOf b ∷ parts)) (pattern_read h))

-- a byte that is a star or stands for itself, in front of others
star_or_byte : (x : ℕ) (rest : List ℕ) (parts : List PatternPart) → (x == 92) ≡ false → SpellsPattern rest parts → SpellsPattern (x ∷ rest) ((if x == 42 then Star else ByteOf x) ∷ parts)
star_or_byte x rest parts e h = go (x == 42) refl
  where
    go : (t : Bool) → (x == 42) ≡ t → SpellsPattern (x ∷ rest) ((if t then Star else ByteOf x) ∷ parts)
    go true f = subst (λ b. SpellsPattern (b ∷ rest) (Star ∷ parts)) (sym (eqb-true x 42 f)) (star_in_pattern h)
    go false f = byte_in_pattern (eqb-false x 42 f) (eqb-false x 92 e) h

-- one that is read is spelled
read_pattern : (text : List ℕ) (parts : List PatternPart) → pattern_of text ≡ Some parts → SpellsPattern text parts
read_pattern [] parts h = subst (SpellsPattern []) (same_Some [] parts h) pattern_is_over
read_pattern (x ∷ []) parts h = go (x == 92) refl h
  where
    star : (t : Bool) → (if t then Some (Star ∷ []) else Some (ByteOf x ∷ [])) ≡ Some parts → (if t then Star else ByteOf x) ∷ [] ≡ parts
    star true k = same_Some (Star ∷ []) parts k
    star false k = same_Some (ByteOf x ∷ []) parts k

    go : (t : Bool) → (x == 92) ≡ t → (if t then None else (if x == 42 then Some (Star ∷ []) else Some (ByteOf x ∷ []))) ≡ Some parts → SpellsPattern (x ∷ []) parts
    go true e k = absurd (none-some parts k)
    go false e k = subst (SpellsPattern (x ∷ [])) (star (x == 42) k) (star_or_byte x [] [] e pattern_is_over)
read_pattern (x ∷ y ∷ rest) parts h = go (x == 92) refl h (read_pattern rest) (read_pattern (y ∷ rest))
  where
    escaped : (x == 92) ≡ true → (q : List PatternPart) → SpellsPattern rest q → (y ≡ 42) ⊎ (y ≡ 92) → SpellsPattern (x ∷ y ∷ rest) (ByteOf y ∷ q)
    escaped e q further (inl f) = subst (λ b. SpellsPattern (b ∷ y ∷ rest) (ByteOf y ∷ q)) (sym (eqb-true x 92 e)) (subst (λ b. SpellsPattern (92 ∷ b ∷ rest) (ByteOf b ∷ q)) (sym f) (escaped_star further))
    escaped e q further (inr f) = subst (λ b. SpellsPattern (b ∷ y ∷ rest) (ByteOf y ∷ q)) (sym (eqb-true x 92 e)) (subst (λ b. SpellsPattern (92 ∷ b ∷ rest) (ByteOf b ∷ q)) (sym f) (escaped_backslash further))

    one_of : (y == 42) ≡ true ⊎ (y == 92) ≡ true → (y ≡ 42) ⊎ (y ≡ 92)
    one_of (inl e) = inl (eqb-true y 42 e)
    one_of (inr e) = inr (eqb-true y 92 e)

    escapes : (x == 92) ≡ true → (t : Bool) → (y == 42 || y == 92) ≡ t → ◌≡◌ {A = Option (List PatternPart)} (elim t [ true ↦ option_map (λ q. ByteOf y ∷ q) (pattern_of rest) | false ↦ None ]) (Some parts) → ((q : List PatternPart) → pattern_of rest ≡ Some q → SpellsPattern rest q) → SpellsPattern (x ∷ y ∷ rest) parts
    escapes e true f k far =
        let o = map_from (λ q. ByteOf y ∷ q) (pattern_of rest) parts k in
        subst (SpellsPattern (x ∷ y ∷ rest)) o.2 (escaped e o.0 (far o.0 o.1) (one_of (or_cases (y == 42) (y == 92) f)))
    escapes e false f k far = absurd (none-some parts k)

    go : (t : Bool) → (x == 92) ≡ t → pattern_at x y rest t (x == 42) ≡ Some parts → ((q : List PatternPart) → pattern_of rest ≡ Some q → SpellsPattern rest q) → ((q : List PatternPart) → pattern_of (y ∷ rest) ≡ Some q → SpellsPattern (y ∷ rest) q) → SpellsPattern (x ∷ y ∷ rest) parts
    go true e k far near = escapes e (y == 42 || y == 92) refl k far
    go false e k far near =
        let o = map_from (λ q. (if x == 42 then Star else ByteOf x) ∷ q) (pattern_of (y ∷ rest)) parts k in
        subst (SpellsPattern (x ∷ y ∷ rest)) o.2 (star_or_byte x (y ∷ rest) o.0 e (near o.0 o.1))

-- ---- operators

-- an operand of a comparison passes
operand_compared : {c : Comparison} {t : Tree} → IsOperandOf c t → is_comparable c t ≡ true
operand_compared text_operand = refl
operand_compared number_operand = refl
operand_compared truth_operand = refl

-- what passes is one
compared_operand : (c : Comparison) (t : Tree) → is_comparable c t ≡ true → IsOperandOf c t
compared_operand (StringIs r) (Text s) h = text_operand
compared_operand (StringIs r) t h = absurd (false≢true h)
compared_operand (NumericIs r) (Integer n) h = number_operand
compared_operand (NumericIs r) t h = absurd (false≢true h)
compared_operand BooleanEquals (Boolean b) h = truth_operand
compared_operand BooleanEquals t h = absurd (false≢true h)

-- a text, a truth value
pub text_is : (t : Tree) (s : List ℕ) → as_text t ≡ Some s → t ≡ Text s
text_is (Text u) s h = ap Text (same_Some u s h)
text_is Null s h = absurd (none-some s h)
text_is (Boolean b) s h = absurd (none-some s h)
text_is (Integer n) s h = absurd (none-some s h)
text_is (Array ts) s h = absurd (none-some s h)
text_is (Object fs) s h = absurd (none-some s h)

-- so for a truth value
truth_is : (t : Tree) (b : Bool) → as_boolean t ≡ Some b → t ≡ Boolean b
truth_is (Boolean c) b h = ap Boolean (same_Some c b h)
truth_is Null b h = absurd (none-some b h)
truth_is (Text u) b h = absurd (none-some b h)
truth_is (Integer n) b h = absurd (none-some b h)
truth_is (Array ts) b h = absurd (none-some b h)
truth_is (Object fs) b h = absurd (none-some b h)

-- an operator that is spelled is read
pub operator_read : (p : List Segment) {n : List ℕ} {t : Tree} {test : Test} → SpellsOperator p n t test → named_test p n t ≡ Ok test
operator_read p (spells_comparison {comparison = c} {t = t} names operand) =
    ap (given_or UnknownOperator (λ operator. operator_test p operator t)) (comparison_known names)
    ∙ ap (λ b. if b then Ok (Compare p c (Constant t)) else Err BadOperand) (operand_compared operand)
operator_read p (spells_path_comparison {s = s} {comparison = c} {q = q} names path) =
    ap (given_or UnknownOperator (λ operator. operator_test p operator (Text s))) (path_comparison_known names)
    ∙ ap (given_or BadPath (λ r. Ok (Compare p c (AtPath r)))) (Spells-path_of s q path)
operator_read p (spells_match pattern) = ap (given_or BadPattern (λ q. Ok (StringMatches p q))) (pattern_read pattern)
operator_read p (spells_kind {b = b} names) = ap (given_or UnknownOperator (λ operator. operator_test p operator (Boolean b))) (kind_known names)
operator_read p spells_presence = refl

-- what is given where nothing else is refused
given : {A : Type 0} (fault : RuleFault) (f : A → Result Test RuleFault) (o : Option A) (test : Test) → given_or fault f o ≡ Ok test → (a : A) × (o ≡ Some a) × (f a ≡ Ok test)
given fault f None test h = ok_or_err (sym h)
given fault f (Some a) test h = (a, refl, h)

-- an operator that is read is spelled
pub read_operator : (p : List Segment) (n : List ℕ) (t : Tree) (test : Test) → named_test p n t ≡ Ok test → SpellsOperator p n t test
read_operator p n t test h =
    let w = given UnknownOperator (λ operator. operator_test p operator t) (operator_named n) test h in
    first (first_or_further w.0 (option_map WithValue (comparison_named n)) _ w.1) w.2
  where
    -- the operator that is tested
    Tested : Operator → Type 0
    Tested operator = operator_test p operator t ≡ Ok test

    value : (c : Comparison) → NamesComparison n c → (b : Bool) → is_comparable c t ≡ b → (if b then Ok (Compare p c (Constant t)) else Err BadOperand) ≡ Ok test → SpellsOperator p n t test
    value c names true e k = subst (SpellsOperator p n t) (same_ok k) (spells_comparison names (compared_operand c t e))
    value c names false e k = ok_or_err (sym k)

    matching : Tested Matching → n ≡ codes "StringMatches" → SpellsOperator p n t test
    matching k same =
        let s = given BadOperand (λ s. given_or BadPattern (λ parts. Ok (StringMatches p parts)) (pattern_of s)) (as_text t) test k in
        let q = given BadPattern (λ parts. Ok (StringMatches p parts)) (pattern_of s.0) test s.2 in
        subst (λ m. SpellsOperator p m t test) (sym same) (subst (λ u. SpellsOperator p (codes "StringMatches") u test) (sym (text_is t s.0 s.1)) (subst (SpellsOperator p (codes "StringMatches") (Text s.0)) (same_ok q.2) (spells_match (read_pattern s.0 q.0 q.1))))

    presence : Tested Presence → n ≡ codes "IsPresent" → SpellsOperator p n t test
    presence k same =
        let b = given BadOperand (λ b. Ok (IsPresent p b)) (as_boolean t) test k in
        subst (λ m. SpellsOperator p m t test) (sym same) (subst (λ u. SpellsOperator p (codes "IsPresent") u test) (sym (truth_is t b.0 b.1)) (subst (SpellsOperator p (codes "IsPresent") (Boolean b.0)) (same_ok b.2) spells_presence))

    of_kind : (kind : ValueKind) → NamesKind n kind → Tested (OfKind kind) → SpellsOperator p n t test
    of_kind kind names k =
        let b = given BadOperand (λ b. Ok (IsOfKind p kind b)) (as_boolean t) test k in
        subst (λ u. SpellsOperator p n u test) (sym (truth_is t b.0 b.1)) (subst (SpellsOperator p n (Boolean b.0)) (same_ok b.2) (spells_kind names))

    with_path : (c : Comparison) → path_comparison_named n ≡ Some c → Tested (WithPath c) → SpellsOperator p n t test
    with_path c e k =
        let m = known_path_comparison n c e in
        let s = given BadOperand (λ s. given_or BadPath (λ q. Ok (Compare p c (AtPath q))) (path_of s)) (as_text t) test k in
        let q = given BadPath (λ q. Ok (Compare p c (AtPath q))) (path_of s.0) test s.2 in
        subst (λ o. SpellsOperator p o t test) (sym m.1) (subst (λ u. SpellsOperator p (m.0 ++ codes "Path") u test) (sym (text_is t s.0 s.1)) (subst (SpellsOperator p (m.0 ++ codes "Path") (Text s.0)) (same_ok q.2) (spells_path_comparison m.2 (path_of-Spells s.0 q.0 q.1))))

    last : (operator : Operator) → ((n ≡ codes "IsPresent") × (Presence ≡ operator)) ⊎ (None ≡ Some operator) → Tested operator → SpellsOperator p n t test
    last operator (inl same) k = presence (subst Tested (sym same.1) k) same.0
    last operator (inr none) k = absurd (none-some operator none)

    fourth : (operator : Operator) → ((n ≡ codes "StringMatches") × (Matching ≡ operator)) ⊎ ((if bytes_eq n (codes "IsPresent") then Some Presence else None) ≡ Some operator) → Tested operator → SpellsOperator p n t test
    fourth operator (inl same) k = matching (subst Tested (sym same.1) k) same.0
    fourth operator (inr more) k = last operator (this_or_further n (codes "IsPresent") Presence operator None more) k

    third : (operator : Operator) → (option_map OfKind (kind_named n) ≡ Some operator) ⊎ ((if bytes_eq n (codes "StringMatches") then Some Matching else (if bytes_eq n (codes "IsPresent") then Some Presence else None)) ≡ Some operator) → Tested operator → SpellsOperator p n t test
    third operator (inl e) k = let o = map_from OfKind (kind_named n) operator e in of_kind o.0 (known_kind n o.0 o.1) (subst Tested (sym o.2) k)
    third operator (inr more) k = fourth operator (this_or_further n (codes "StringMatches") Matching operator _ more) k

    second : (operator : Operator) → (option_map WithPath (path_comparison_named n) ≡ Some operator) ⊎ (or_else (option_map OfKind (kind_named n)) (if bytes_eq n (codes "StringMatches") then Some Matching else (if bytes_eq n (codes "IsPresent") then Some Presence else None)) ≡ Some operator) → Tested operator → SpellsOperator p n t test
    second operator (inl e) k = let o = map_from WithPath (path_comparison_named n) operator e in with_path o.0 o.1 (subst Tested (sym o.2) k)
    second operator (inr more) k = third operator (first_or_further operator (option_map OfKind (kind_named n)) _ more) k

    first : {operator : Operator} → (option_map WithValue (comparison_named n) ≡ Some operator) ⊎ (or_else (option_map WithPath (path_comparison_named n)) (or_else (option_map OfKind (kind_named n)) (if bytes_eq n (codes "StringMatches") then Some Matching else (if bytes_eq n (codes "IsPresent") then Some Presence else None))) ≡ Some operator) → Tested operator → SpellsOperator p n t test
    first {operator} (inl e) k = let o = map_from WithValue (comparison_named n) operator e in value o.0 (known_comparison n o.0 o.1) (is_comparable o.0 t) refl (subst Tested (sym o.2) k)
    first {operator} (inr more) k = second operator (first_or_further operator (option_map WithPath (path_comparison_named n)) _ more) k
