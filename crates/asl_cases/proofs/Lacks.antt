-- How many parts are lacking, and that none are exactly where everything is covered.
use Rattle.std.proofs.Common.{◌≡◌, ℕ, zero, suc, ◌+◌, ◌<◌, ◌≤◌, Bool, true, false, not, ◌&&◌, cond, List, [], ◌∷◌, ◌++◌, map, length, drop, refl, sym, ap, ◌∙◌, subst, arith, Some}
use Rattle.std.specs.Prelude.{◌↔◌, IsTrue, slice_get, All, nat_lt}
use Rattle.std.specs.List.{enumerate_from, filter, flat_map, range_with_len}
use Rattle.std.proofs.lemmas.Bool.{le-ltb, lt-ltb}
use Rattle.std.proofs.lemmas.List.{drop_all, length-append, nil_from_length}
use Rattle.std.proofs.lemmas.List.Elements.{All-cons, All-head, All-nil, All-tail, filter-append}
use Rattle.std.proofs.lemmas.List.FromFn.{filter_of_map_range_with_len_more}
use Rattle.std.proofs.lemmas.Option.{none-some, same_Some}
use Rattle.asl_model.specs.Machine.{State, StateOf, Retrier}
use Rattle.asl_model.specs.Numbering.{Table}
use Rattle.asl_run.specs.Driving.{Told}
use Rattle.asl_cases.specs.Coverage.{IsCovered, Part, Itself, RetrierAt, is_taken, lacking, lacking_of, parts_of, untaken}

-- ---- no part of a state is lacking

step_in : (t : Part → Bool) (part : Part) (parts : List Part) (b : Bool) → t part ≡ b → (length (untaken t parts) ≡ 0 → All (λ p. IsTrue (t p)) parts) → length (cond (not b) (part ∷ untaken t parts) (untaken t parts)) ≡ 0 → All (λ p. IsTrue (t p)) (part ∷ parts)
step_in t part parts true e others h = All-cons (λ p. IsTrue (t p)) part parts e (others h)
step_in t part parts false e others h = absurd (omega arith)

none_untaken : (t : Part → Bool) (parts : List Part) → length (untaken t parts) ≡ 0 → All (λ p. IsTrue (t p)) parts
none_untaken t [] h = All-nil (λ p. IsTrue (t p))
none_untaken t (part ∷ parts) h = step_in t part parts (t part) refl (none_untaken t parts) h

step_out : (t : Part → Bool) (part : Part) (parts : List Part) → t part ≡ true → untaken t (part ∷ parts) ≡ untaken t parts
step_out t part parts e = ap (λ b. cond (not b) (part ∷ untaken t parts) (untaken t parts)) e

all_untaken : (t : Part → Bool) (parts : List Part) → All (λ p. IsTrue (t p)) parts → length (untaken t parts) ≡ 0
all_untaken t [] h = refl
all_untaken t (part ∷ parts) h =
    ap (λ (ps : List Part). length ps) (step_out t part parts (All-head (λ p. IsTrue (t p)) part parts h))
    ∙ all_untaken t parts (All-tail (λ p. IsTrue (t p)) part parts h)

lacks_case : (t : Part → Bool) (state : State) (b : Bool) → t Itself ≡ b → length (lacking_of t state) ≡ 0 → All (λ p. IsTrue (t p)) (parts_of state)
lacks_case t state true e h =
    none_untaken t (parts_of state)
    (sym (ap (λ b. length (cond b (untaken t (parts_of state)) (Itself ∷ []))) e) ∙ h)
lacks_case t state false e h =
    absurd (one_is (sym (ap (λ b. length (cond b (untaken t (parts_of state)) (Itself ∷ []))) e) ∙ h))
  where
    one_is : length (Itself ∷ []) ≡ 0 → ⊥
    one_is h = omega arith

none_lacks : (t : Part → Bool) (state : State) → length (lacking_of t state) ≡ 0 → All (λ p. IsTrue (t p)) (parts_of state)
none_lacks t state h = lacks_case t state (t Itself) refl h

all_lacks : (t : Part → Bool) (state : State) → All (λ p. IsTrue (t p)) (parts_of state) → length (lacking_of t state) ≡ 0
all_lacks t (StateOf settings kind) h =
    ap (λ b. length (cond b (untaken t (parts_of (StateOf settings kind))) (Itself ∷ []))) (h 0 Itself (omega arith))
    ∙ all_untaken t (parts_of (StateOf settings kind)) h

-- ---- nor of any state

-- what is lacking of the states, which are numbered from n on
abbrev pub lacking_from : (ℕ → State → Part → Bool) → ℕ → List State → List Part
lacking_from t n states = flat_map (λ s. lacking_of (t s.0 s.1) s.1) (enumerate_from n states)

-- each part of each of them is taken
abbrev AllTaken : (ℕ → State → Part → Bool) → ℕ → List State → Type 0
AllTaken t n states = (k : ℕ) (state : State) → slice_get states k ≡ Some state
    → All (λ part. IsTrue (t (n + k) state part)) (parts_of state)

none_lacking : (t : ℕ → State → Part → Bool) (n : ℕ) (states : List State) → length (lacking_from t n states) ≡ 0 → AllTaken t n states
none_lacking t n [] h k state at = absurd (none-some state at)
none_lacking t n (s ∷ states) h zero state at =
    let both = length-append (lacking_of (t n s) s) (lacking_from t (n + 1) states) in
    let here : length (lacking_of (t n s) s) ≡ 0 = omega arith in
    let number : n ≡ n + 0 = omega arith in
    subst (λ m. All (λ part. IsTrue (t m state part)) (parts_of state)) number
    (subst (λ x. All (λ part. IsTrue (t n x part)) (parts_of x)) (same_Some s state at) (none_lacks (t n s) s here))
none_lacking t n (s ∷ states) h (suc k) state at =
    let both = length-append (lacking_of (t n s) s) (lacking_from t (n + 1) states) in
    let others : length (lacking_from t (n + 1) states) ≡ 0 = omega arith in
    let number : n + 1 + k ≡ n + suc k = omega arith in
    subst (λ m. All (λ part. IsTrue (t m state part)) (parts_of state)) number
    (none_lacking t (n + 1) states others k state at)

all_lacking : (t : ℕ → State → Part → Bool) (n : ℕ) (states : List State) → AllTaken t n states → length (lacking_from t n states) ≡ 0
all_lacking t n [] h = refl
all_lacking t n (s ∷ states) h =
    let number : n + 0 ≡ n = omega arith in
    let here = all_lacks (t n s) s (subst (λ m. All (λ part. IsTrue (t m s part)) (parts_of s)) number (h 0 s refl)) in
    let others = all_lacking t (n + 1) states (λ k state at.
    let next : n + suc k ≡ n + 1 + k = omega arith in
    subst (λ m. All (λ part. IsTrue (t m state part)) (parts_of state)) next (h (suc k) state at)) in
    let both = length-append (lacking_of (t n s) s) (lacking_from t (n + 1) states) in
    omega arith

none_is_covered : (table : Table) (told : Told) → length (lacking table told) ≡ 0 → IsCovered table told
none_is_covered table told h number state at =
    let zero_more : 0 + number ≡ number = omega arith in
    subst (λ m. All (λ part. IsTrue (is_taken table told m state part)) (parts_of state)) zero_more
    (none_lacking (is_taken table told) 0 table.states h number state at)

covered_is_none : (table : Table) (told : Told) → IsCovered table told → length (lacking table told) ≡ 0
covered_is_none table told h =
    all_lacking (is_taken table told) 0 table.states (λ k state at.
    let zero_more : k ≡ 0 + k = omega arith in
    subst (λ m. All (λ part. IsTrue (is_taken table told m state part)) (parts_of state)) zero_more (h k state at))

-- ---- counting

-- the parts of a state that is entered, one kind after the other
pub parts_counted : (t : Part → Bool) (rules default retriers catchers : List Part) → t Itself ≡ true → length (untaken t (Itself ∷ (rules ++ (default ++ (retriers ++ catchers))))) ≡ length (untaken t rules) + length (untaken t default) + length (untaken t retriers) + length (untaken t catchers)
parts_counted t rules default retriers catchers e =
    let lacks = λ (p : Part). not (t p) in
    let first = ap (λ (ps : List Part). length ps) (step_out t Itself (rules ++ (default ++ (retriers ++ catchers))) e) in
    let a = ap (λ (ps : List Part). length ps) (filter-append lacks rules (default ++ (retriers ++ catchers))) ∙ length-append (untaken t rules) (untaken t (default ++ (retriers ++ catchers))) in
    let b = ap (λ (ps : List Part). length ps) (filter-append lacks default (retriers ++ catchers)) ∙ length-append (untaken t default) (untaken t (retriers ++ catchers)) in
    let d = ap (λ (ps : List Part). length ps) (filter-append lacks retriers catchers) ∙ length-append (untaken t retriers) (untaken t catchers) in
    omega arith

-- one more by its number
numbered_more : (t : Part → Bool) (part : ℕ → Part) (n : ℕ) (b : Bool) → t (part n) ≡ b → length (untaken t (map part (range_with_len 0 (n + 1)))) ≡ length (untaken t (map part (range_with_len 0 n))) + cond b 0 1
numbered_more t part n b e =
    ap (λ (ps : List Part). length ps) (filter_of_map_range_with_len_more (λ (p : Part). not (t p)) part 0 n n (omega arith))
    ∙ (length-append (untaken t (map part (range_with_len 0 n))) (cond (not (t (part n))) (part n ∷ []) [])
    ∙ ap (λ m. length (untaken t (map part (range_with_len 0 n))) + m) (last b e))
  where
    one_is : length (part n ∷ []) ≡ 1
    one_is = omega arith

    last : (c : Bool) → t (part n) ≡ c → length (cond (not (t (part n))) (part n ∷ []) []) ≡ cond c 0 1
    last true h = ap (λ x. length (cond (not x) (part n ∷ []) [])) h
    last false h = ap (λ x. length (cond (not x) (part n ∷ []) [])) h ∙ one_is

pub numbered_lacks : (t : Part → Bool) (part : ℕ → Part) (n : ℕ) → t (part n) ≡ false → length (untaken t (map part (range_with_len 0 (n + 1)))) ≡ length (untaken t (map part (range_with_len 0 n))) + 1
numbered_lacks t part n e = numbered_more t part n false e

pub numbered_has : (t : Part → Bool) (part : ℕ → Part) (n : ℕ) → t (part n) ≡ true → length (untaken t (map part (range_with_len 0 (n + 1)))) ≡ length (untaken t (map part (range_with_len 0 n))) + 0
numbered_has t part n e = numbered_more t part n true e

-- the retriers that may retry, numbered from n on
abbrev pub retriers_from : ℕ → List Retrier → List Part
retriers_from n retriers = map (λ numbered. RetrierAt numbered.0)
    (filter (λ numbered. nat_lt 0 numbered.1.max_attempts) (enumerate_from n retriers))

-- the first of them may retry, and did or didn't; or it may not
retrier_more : (t : Part → Bool) (n : ℕ) (retrier : Retrier) (retriers : List Retrier) (may set : Bool) → nat_lt 0 retrier.max_attempts ≡ may → t (RetrierAt n) ≡ set → length (untaken t (retriers_from n (retrier ∷ retriers))) ≡ cond (may && not set) 1 0 + length (untaken t (retriers_from (n + 1) retriers))
retrier_more t n retrier retriers may set m s =
    ap (λ b. length (untaken t (map (λ (numbered : ℕ × Retrier). RetrierAt numbered.0) (cond b ((n, retrier) ∷ rest) rest)))) m
    ∙ by_may may
  where
    rest : List (ℕ × Retrier)
    rest = filter (λ numbered. nat_lt 0 numbered.1.max_attempts) (enumerate_from (n + 1) retriers)

    by_set : (c : Bool) → t (RetrierAt n) ≡ c → length (untaken t (RetrierAt n ∷ retriers_from (n + 1) retriers)) ≡ cond (not c) 1 0 + length (untaken t (retriers_from (n + 1) retriers))
    by_set true h = ap (λ x. length (cond (not x) (RetrierAt n ∷ untaken t (retriers_from (n + 1) retriers)) (untaken t (retriers_from (n + 1) retriers)))) h ∙ omega arith
    by_set false h = ap (λ x. length (cond (not x) (RetrierAt n ∷ untaken t (retriers_from (n + 1) retriers)) (untaken t (retriers_from (n + 1) retriers)))) h ∙ omega arith

    by_may : (b : Bool) → length (untaken t (map (λ (numbered : ℕ × Retrier). RetrierAt numbered.0) (cond b ((n, retrier) ∷ rest) rest))) ≡ cond (b && not set) 1 0 + length (untaken t (retriers_from (n + 1) retriers))
    by_may true = by_set set s
    by_may false = omega arith

-- what is left behind one of a list
drop_next : {A : Type 0} (xs : List A) (n : ℕ) (x : A) → slice_get xs n ≡ Some x → drop n xs ≡ x ∷ drop (suc n) xs
drop_next [] n x h = absurd (none-some x h)
drop_next (y ∷ xs) zero x h = ap (λ z. z ∷ xs) (same_Some y x h)
drop_next (y ∷ xs) (suc n) x h = drop_next xs n x h

drop_at : {A : Type 0} (xs : List A) (n : ℕ) (x : A) → slice_get xs n ≡ Some x → drop n xs ≡ x ∷ drop (n + 1) xs
drop_at xs n x h =
    let next : suc n ≡ n + 1 = omega arith in
    drop_next xs n x h ∙ ap (λ m. x ∷ drop m xs) next

retrier_step : (t : Part → Bool) (n : ℕ) (retriers : List Retrier) (retrier : Retrier) (may set : Bool) → slice_get retriers n ≡ Some retrier → nat_lt 0 retrier.max_attempts ≡ may → t (RetrierAt n) ≡ set → length (untaken t (retriers_from n (drop n retriers))) ≡ cond (may && not set) 1 0 + length (untaken t (retriers_from (n + 1) (drop (n + 1) retriers)))
retrier_step t n retriers retrier may set at m s =
    ap (λ (rs : List Retrier). length (untaken t (retriers_from n rs))) (drop_at retriers n retrier at)
    ∙ retrier_more t n retrier (drop (n + 1) retriers) may set m s

-- a retrier that may retry, and didn't
pub retrier_lacks : (t : Part → Bool) (n : ℕ) (retriers : List Retrier) (retrier : Retrier) → slice_get retriers n ≡ Some retrier → 0 < retrier.max_attempts → t (RetrierAt n) ≡ false → length (untaken t (retriers_from n (drop n retriers))) ≡ 1 + length (untaken t (retriers_from (n + 1) (drop (n + 1) retriers)))
retrier_lacks t n retriers retrier at may e =
    retrier_step t n retriers retrier true false at (lt-ltb 0 retrier.max_attempts may) e

-- that may, and did
pub retrier_has : (t : Part → Bool) (n : ℕ) (retriers : List Retrier) (retrier : Retrier) → slice_get retriers n ≡ Some retrier → 0 < retrier.max_attempts → t (RetrierAt n) ≡ true → length (untaken t (retriers_from n (drop n retriers))) ≡ 0 + length (untaken t (retriers_from (n + 1) (drop (n + 1) retriers)))
retrier_has t n retriers retrier at may e =
    retrier_step t n retriers retrier true true at (lt-ltb 0 retrier.max_attempts may) e

-- that may not
pub retrier_never : (t : Part → Bool) (n : ℕ) (retriers : List Retrier) (retrier : Retrier) → slice_get retriers n ≡ Some retrier → retrier.max_attempts ≤ 0 → length (untaken t (retriers_from n (drop n retriers))) ≡ 0 + length (untaken t (retriers_from (n + 1) (drop (n + 1) retriers)))
retrier_never t n retriers retrier at never =
    retrier_step t n retriers retrier false (t (RetrierAt n)) at (le-ltb 0 retrier.max_attempts never) refl

-- one more state
pub lacking_step : (t : ℕ → State → Part → Bool) (n : ℕ) (states : List State) (state : State) → slice_get states n ≡ Some state → length (lacking_from t n (drop n states)) ≡ length (lacking_of (t n state) state) + length (lacking_from t (n + 1) (drop (n + 1) states))
lacking_step t n states state at =
    ap (λ (ss : List State). length (lacking_from t n ss)) (drop_at states n state at)
    ∙ length-append (lacking_of (t n state) state) (lacking_from t (n + 1) (drop (n + 1) states))

-- none is left
pub lacking_over : (t : ℕ → State → Part → Bool) (n : ℕ) (states : List State) → length states ≤ n → length (lacking_from t n (drop n states)) ≡ 0
lacking_over t n states h = ap (λ (ss : List State). length (lacking_from t n ss)) (drop_all n states h)

-- as many lines as parts that are lacking are none exactly where everything is covered
pub no_line_is_covered : {A : Type 0} (lines : List A) (table : Table) (told : Told) → length lines ≡ length (lacking table told) → (lines ≡ []) ↔ IsCovered table told
no_line_is_covered lines table told h = (
  λ (none : lines ≡ []). none_is_covered table told (sym h ∙ ap length none),
  λ (covered : IsCovered table told). nil_from_length lines (h ∙ covered_is_none table told covered),
)
