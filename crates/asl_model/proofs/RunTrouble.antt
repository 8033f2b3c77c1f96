-- What comes of an error is exactly what the rules of retriers and catchers say.
use Rattle.std.proofs.Common.{◌≡◌, ◌≢◌, ◌↔◌, ◌<◌, ◌+◌, ℕ, zero, suc, List, [], ◌∷◌, Bool, true, false, ◌||◌, nat_lt, if◌then◌else◌, IsTrue, Option, Some, None, codes, refl, sym, ap, subst, ◌∙◌, ◌⊎◌, inl, inr, arith}
use Rattle.std.specs.Prelude.{bytes_eq}
use Rattle.std.proofs.lemmas.Bool.{or_cases, or_left, or_right, ltb-true, ltb-false, lt-ltb, le-ltb, false≢true, true≢false}
use Rattle.std.proofs.lemmas.Slice.Eq.{bytes_eq-Decides}
use Rattle.asl_model.specs.Tree.{Tree}
use Rattle.asl_model.specs.Path.{Segment}
use Rattle.asl_model.specs.Placing.{placed}
use Rattle.asl_model.specs.Machine.{Retrier, Catcher, Settings}
use Rattle.asl_model.specs.Run.{takes_error, count_at, one_higher, retrying, catching, error_output, error_placed, Trouble, Retries, Catches, Misfits, Escapes, caught_as, caught_by, unless_retrying, trouble_of, AppearsIn, appears_as_itself, appears_by_wildcard, appears_later, RetrierTakes, CatcherTakes, IsFirst, first_is_this, first_is_later, HoldsOfNone, none_is_left, nor_of_this, IsNotRetried, no_retrier_takes, no_attempt_is_left, HandsOn, hands_on_raw, hands_on_placed, ComesTo, is_retried, is_caught, is_no_fit, is_not_caught}
use Rattle.asl_model.proofs.PlacingExactly.{comes_out, placed_so}
use Rattle.asl_model.proofs.RunOptions.{some_inj, none_some}

-- ---- error names

-- an error that appears is found
appears_found : {error : List ℕ} {names : List (List ℕ)} → AppearsIn error names → IsTrue (takes_error error names)
appears_found (appears_as_itself {error = error} {others = others}) = or_left (bytes_eq error error || bytes_eq error (codes "States.ALL")) (takes_error error others) (or_left (bytes_eq error error) (bytes_eq error (codes "States.ALL")) ((bytes_eq-Decides error error).1 refl))
appears_found (appears_by_wildcard {error = error} {others = others}) = or_left (bytes_eq (codes "States.ALL") error || bytes_eq (codes "States.ALL") (codes "States.ALL")) (takes_error error others) (or_right (bytes_eq (codes "States.ALL") error) (bytes_eq (codes "States.ALL") (codes "States.ALL")) refl)
appears_found (appears_later {error = error} {n = n} {others = others} h) = or_right (bytes_eq n error || bytes_eq n (codes "States.ALL")) (takes_error error others) (appears_found h)

-- an error that is found appears
found_appears : (error : List ℕ) (names : List (List ℕ)) → IsTrue (takes_error error names) → AppearsIn error names
found_appears error [] h = absurd (false≢true h)
found_appears error (n ∷ others) h = go (or_cases (bytes_eq n error || bytes_eq n (codes "States.ALL")) (takes_error error others) h) (found_appears error others)
  where
    here : IsTrue (bytes_eq n error) ⊎ IsTrue (bytes_eq n (codes "States.ALL")) → AppearsIn error (n ∷ others)
    here (inl same) = subst (λ m. AppearsIn error (m ∷ others)) (sym ((bytes_eq-Decides n error).0 same)) appears_as_itself
    here (inr every) = subst (λ m. AppearsIn error (m ∷ others)) (sym ((bytes_eq-Decides n (codes "States.ALL")).0 every)) appears_by_wildcard

    go : IsTrue (bytes_eq n error || bytes_eq n (codes "States.ALL")) ⊎ IsTrue (takes_error error others) → (IsTrue (takes_error error others) → AppearsIn error others) → AppearsIn error (n ∷ others)
    go (inl h) later = here (or_cases (bytes_eq n error) (bytes_eq n (codes "States.ALL")) h)
    go (inr h) later = appears_later (later h)

-- one that doesn't appear isn't found
not_found : (error : List ℕ) (names : List (List ℕ)) → (AppearsIn error names → ⊥) → takes_error error names ≡ false
not_found error names h = go (takes_error error names) refl
  where
    go : (taken : Bool) → takes_error error names ≡ taken → takes_error error names ≡ false
    go true e = absurd (h (found_appears error names e))
    go false e = e

-- one that isn't found doesn't appear
not_appearing : (error : List ℕ) (names : List (List ℕ)) → takes_error error names ≡ false → AppearsIn error names → ⊥
not_appearing error names e h = true≢false (sym (appears_found h) ∙ e)

-- ---- the first that takes an error, or none

-- a test that decides finds the first, or none
decided : {A : Type 0} (P : A → Type 0) → ((a : A) → P a ⊎ (P a → ⊥)) → (xs : List A) → ((i : ℕ) × (a : A) × IsFirst P xs i a) ⊎ HoldsOfNone P xs
decided P test [] = inr none_is_left
decided {A} P test (x ∷ xs) = go (test x) (decided P test xs)
  where
    go : P x ⊎ (P x → ⊥) → ((i : ℕ) × (a : A) × IsFirst P xs i a) ⊎ HoldsOfNone P xs → ((i : ℕ) × (a : A) × IsFirst P (x ∷ xs) i a) ⊎ HoldsOfNone P (x ∷ xs)
    go (inl h) further = inl (0, x, first_is_this h)
    go (inr n) (inl found) = inl (suc found.0, found.1, first_is_later n found.2)
    go (inr n) (inr none) = inr (nor_of_this n none)

-- an error appears in an `ErrorEquals` or doesn't
appears_or_not : (error : List ℕ) (names : List (List ℕ)) → AppearsIn error names ⊎ (AppearsIn error names → ⊥)
appears_or_not error names = go (takes_error error names) refl
  where
    go : (taken : Bool) → takes_error error names ≡ taken → AppearsIn error names ⊎ (AppearsIn error names → ⊥)
    go true e = inl (found_appears error names e)
    go false e = inr (not_appearing error names e)

-- what the retrier with that number comes to
abbrev attempt : ℕ → ℕ → List ℕ → Option ℕ
attempt i most counts = if nat_lt (count_at i counts) most then Some i else None

-- the retrier that is the first to take the error decides
first_retries : (error counts : List ℕ) (i : ℕ) {retriers : List Retrier} {k : ℕ} {retrier : Retrier} → IsFirst (RetrierTakes error) retriers k retrier → retrying i retriers counts error ≡ attempt (i + k) retrier.max_attempts counts
first_retries error counts i (first_is_this {a = retrier} {others = others} h) =
    ap (λ b. if b then attempt i retrier.max_attempts counts else retrying (suc i) others counts error) (appears_found h)
    ∙ ap (λ n. attempt n retrier.max_attempts counts) (omega arith)
first_retries error counts i (first_is_later {a = retrier} {b = passed} {others = others} {i = k} n h) =
    ap (λ b. if b then attempt i passed.max_attempts counts else retrying (suc i) others counts error) (not_found error passed.error_equals n)
    ∙ (first_retries error counts (suc i) h ∙ ap (λ m. attempt m retrier.max_attempts counts) (omega arith))

-- where no retrier takes the error, none retries
none_retries : (error counts : List ℕ) (i : ℕ) {retriers : List Retrier} → HoldsOfNone (RetrierTakes error) retriers → retrying i retriers counts error ≡ None
none_retries error counts i none_is_left = refl
none_retries error counts i (nor_of_this {b = passed} {others = others} n h) =
    ap (λ b. if b then attempt i passed.max_attempts counts else retrying (suc i) others counts error) (not_found error passed.error_equals n)
    ∙ none_retries error counts (suc i) h

-- the first catcher to take the error is found
first_catches : (error : List ℕ) (i : ℕ) {catchers : List Catcher} {k : ℕ} {catcher : Catcher} → IsFirst (CatcherTakes error) catchers k catcher → catching i catchers error ≡ Some (i + k, catcher)
first_catches error i (first_is_this {a = catcher} {others = others} h) =
    ap (λ b. if b then Some (i, catcher) else catching (suc i) others error) (appears_found h)
    ∙ ap (λ n. Some (n, catcher)) (omega arith)
first_catches error i (first_is_later {a = catcher} {b = passed} {others = others} {i = k} n h) =
    ap (λ b. if b then Some (i, passed) else catching (suc i) others error) (not_found error passed.error_equals n)
    ∙ (first_catches error (suc i) h ∙ ap (λ m. Some (m, catcher)) (omega arith))

-- where no catcher takes the error, none is found
none_catches : (error : List ℕ) (i : ℕ) {catchers : List Catcher} → HoldsOfNone (CatcherTakes error) catchers → catching i catchers error ≡ None
none_catches error i none_is_left = refl
none_catches error i (nor_of_this {b = passed} {others = others} n h) =
    ap (λ b. if b then Some (i, passed) else catching (suc i) others error) (not_found error passed.error_equals n)
    ∙ none_catches error (suc i) h

-- ---- retrying

-- an attempt that is left is taken
retried : (error counts : List ℕ) {retriers : List Retrier} {i : ℕ} {retrier : Retrier} → IsFirst (RetrierTakes error) retriers i retrier → count_at i counts < retrier.max_attempts → retrying 0 retriers counts error ≡ Some i
retried error counts {retriers} {i} {retrier} first left =
    first_retries error counts 0 first
    ∙ (ap (λ n. attempt n retrier.max_attempts counts) (omega arith)
    ∙ ap (λ b. if b then Some i else None) (lt-ltb (count_at i counts) retrier.max_attempts left))

-- an error that isn't retried finds no retrier
not_retried : {retriers : List Retrier} {counts error : List ℕ} → IsNotRetried retriers counts error → retrying 0 retriers counts error ≡ None
not_retried {retriers} {counts} {error} (no_retrier_takes none) = none_retries error counts 0 none
not_retried {retriers} {counts} {error} (no_attempt_is_left {i = i} {retrier = retrier} first spent) =
    first_retries error counts 0 first
    ∙ (ap (λ n. attempt n retrier.max_attempts counts) (omega arith)
    ∙ ap (λ b. if b then Some i else None) (le-ltb (count_at i counts) retrier.max_attempts spent))

-- ---- handing on

-- what is handed on is what is placed
handed_on : {path : Option (List Segment)} {raw input : Tree} {error cause : List ℕ} → HandsOn path raw (error_output error cause) input → error_placed path raw error cause ≡ Some input
handed_on {path} {raw} {input} {error} {cause} h = go h refl
  where
    go : {path : Option (List Segment)} {raw output input : Tree} → HandsOn path raw output input → output ≡ error_output error cause → error_placed path raw error cause ≡ Some input
    go hands_on_raw e = refl
    go (hands_on_placed {p = p} {raw = raw} {input = input} places) e = subst (λ output. placed p output raw ≡ Some input) e (comes_out places)

-- what is placed is handed on
on_hand : (path : Option (List Segment)) (raw input : Tree) (error cause : List ℕ) → error_placed path raw error cause ≡ Some input → HandsOn path raw (error_output error cause) input
on_hand None raw input error cause h = subst (HandsOn None raw (error_output error cause)) (some_inj h) hands_on_raw
on_hand (Some p) raw input error cause h = hands_on_placed (placed_so p (error_output error cause) raw input h)

-- where nothing is handed on, nothing is placed
no_hand : (path : Option (List Segment)) (raw : Tree) (error cause : List ℕ) → ((input : Tree) → HandsOn path raw (error_output error cause) input → ⊥) → error_placed path raw error cause ≡ None
no_hand path raw error cause n = go (error_placed path raw error cause) refl
  where
    go : (there : Option Tree) → error_placed path raw error cause ≡ there → error_placed path raw error cause ≡ None
    go None e = e
    go (Some input) e = absurd (n input (on_hand path raw input error cause e))

-- ---- what comes of it

-- a catcher that is the first to take the error
caught : (settings : Settings) (raw : Tree) (counts error cause : List ℕ) (handed : Option Tree) {i : ℕ} {catcher : Catcher} → IsNotRetried settings.retriers counts error → IsFirst (CatcherTakes error) settings.catchers i catcher → error_placed catcher.result_path raw error cause ≡ handed → trouble_of settings raw counts error cause ≡ caught_as i catcher.next handed
caught settings raw counts error cause handed {i} {catcher} not first e =
    ap (λ r. unless_retrying r (caught_by (catching 0 settings.catchers error) raw error cause)) (not_retried not)
    ∙ (ap (λ c. caught_by c raw error cause) (first_catches error 0 first ∙ ap (λ n. Some (n, catcher)) (omega arith))
    ∙ ap (caught_as i catcher.next) e)

-- what comes is what is computed
pub trouble_comes : {settings : Settings} {raw : Tree} {counts error cause : List ℕ} {t : Trouble} → ComesTo settings raw counts error cause t → trouble_of settings raw counts error cause ≡ t
trouble_comes {settings} {raw} {counts} {error} {cause} (is_retried first left) = ap (λ r. unless_retrying r (caught_by (catching 0 settings.catchers error) raw error cause)) (retried error counts first left)
trouble_comes {settings} {raw} {counts} {error} {cause} (is_caught {input = input} not first hands) = caught settings raw counts error cause (Some input) not first (handed_on hands)
trouble_comes {settings} {raw} {counts} {error} {cause} (is_no_fit {catcher = catcher} not first none) = caught settings raw counts error cause None not first (no_hand catcher.result_path raw error cause none)
trouble_comes {settings} {raw} {counts} {error} {cause} (is_not_caught not none) =
    ap (λ r. unless_retrying r (caught_by (catching 0 settings.catchers error) raw error cause)) (not_retried not)
    ∙ ap (λ c. caught_by c raw error cause) (none_catches error 0 none)

-- one of them always comes
some_comes : (settings : Settings) (raw : Tree) (counts error cause : List ℕ) → (t : Trouble) × ComesTo settings raw counts error cause t
some_comes settings raw counts error cause = retry (decided (RetrierTakes error) (λ r. appears_or_not error r.error_equals) settings.retriers)
  where
    hand : {i : ℕ} {catcher : Catcher} → IsNotRetried settings.retriers counts error → IsFirst (CatcherTakes error) settings.catchers i catcher → (there : Option Tree) → error_placed catcher.result_path raw error cause ≡ there → (t : Trouble) × ComesTo settings raw counts error cause t
    hand {i} {catcher} not first (Some input) e = (Catches i catcher.next input, is_caught not first (on_hand catcher.result_path raw input error cause e))
    hand {i} {catcher} not first None e = (Misfits, is_no_fit not first (λ input h. none_some (sym e ∙ handed_on h)))

    catch : IsNotRetried settings.retriers counts error → ((i : ℕ) × (c : Catcher) × IsFirst (CatcherTakes error) settings.catchers i c) ⊎ HoldsOfNone (CatcherTakes error) settings.catchers → (t : Trouble) × ComesTo settings raw counts error cause t
    catch not (inl found) = hand not found.2 (error_placed found.1.result_path raw error cause) refl
    catch not (inr none) = (Escapes, is_not_caught not none)

    further : IsNotRetried settings.retriers counts error → (t : Trouble) × ComesTo settings raw counts error cause t
    further not = catch not (decided (CatcherTakes error) (λ c. appears_or_not error c.error_equals) settings.catchers)

    attempts : (i : ℕ) (retrier : Retrier) → IsFirst (RetrierTakes error) settings.retriers i retrier → (left : Bool) → nat_lt (count_at i counts) retrier.max_attempts ≡ left → (t : Trouble) × ComesTo settings raw counts error cause t
    attempts i retrier first true e = (Retries i, is_retried first (ltb-true (count_at i counts) retrier.max_attempts e))
    attempts i retrier first false e = further (no_attempt_is_left first (ltb-false (count_at i counts) retrier.max_attempts e))

    retry : ((i : ℕ) × (r : Retrier) × IsFirst (RetrierTakes error) settings.retriers i r) ⊎ HoldsOfNone (RetrierTakes error) settings.retriers → (t : Trouble) × ComesTo settings raw counts error cause t
    retry (inl found) = attempts found.0 found.1 found.2 (nat_lt (count_at found.0 counts) found.1.max_attempts) refl
    retry (inr none) = further (no_retrier_takes none)

-- what is computed comes
comes_trouble : (settings : Settings) (raw : Tree) (counts error cause : List ℕ) (t : Trouble) → trouble_of settings raw counts error cause ≡ t → ComesTo settings raw counts error cause t
comes_trouble settings raw counts error cause t e =
    let some = some_comes settings raw counts error cause in
    subst (ComesTo settings raw counts error cause) (sym (trouble_comes some.1) ∙ e) some.1

-- both ways
pub trouble_exactly : (settings : Settings) (raw : Tree) (counts error cause : List ℕ) (t : Trouble) → ComesTo settings raw counts error cause t ↔ trouble_of settings raw counts error cause ≡ t
trouble_exactly settings raw counts error cause t = (trouble_comes, comes_trouble settings raw counts error cause t)

-- ---- counts

-- a retry is counted
pub counted_higher : (i : ℕ) (counts : List ℕ) → count_at i (one_higher i counts) ≡ suc (count_at i counts)
counted_higher zero [] = refl
counted_higher zero (c ∷ cs) = refl
counted_higher (suc i) [] = counted_higher i []
counted_higher (suc i) (c ∷ cs) = counted_higher i cs

-- and no other retrier's count changes
pub others_as_counted : (i j : ℕ) (counts : List ℕ) → i ≢ j → count_at j (one_higher i counts) ≡ count_at j counts
others_as_counted zero zero counts n = absurd (n refl)
others_as_counted zero (suc j) [] n = refl
others_as_counted zero (suc j) (c ∷ cs) n = refl
others_as_counted (suc i) zero [] n = refl
others_as_counted (suc i) zero (c ∷ cs) n = refl
others_as_counted (suc i) (suc j) [] n = others_as_counted i j [] (λ e. n (ap suc e))
others_as_counted (suc i) (suc j) (c ∷ cs) n = others_as_counted i j cs (λ e. n (ap suc e))
