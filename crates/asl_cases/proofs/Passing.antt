-- What a case that has passed comes to.
use Rattle.std.proofs.Common.{◌≡◌, ◌↔◌, sym, ap, ◌∙◌, subst, ℕ, List, [], Option, Some, None, Result, Ok, Err, IfOk, IfSome, option_and_then}
use Rattle.asl_model.specs.Run.{Entry, Ended, Outcome}
use Rattle.asl_model.proofs.RunOptions.{some_inj}
use Rattle.asl_run.specs.Driving.{Told}
use Rattle.asl_suites.specs.declared.suites.Expected.{Expected}
use Rattle.asl_cases.specs.Asking.{last_of}
use Rattle.asl_cases.specs.Judging.{HasPassed, IsEnd, outcome_in}

-- the last entry, where it tells that end of the run
told_last : (last : Option (List ℕ × Entry)) (o : Outcome) → Some o ≡ option_and_then outcome_in last → last ≡ Some ([], Ended o)
told_last None o h = absurd (cc)
told_last (Some ([], Ended found)) o h = ap (λ f. Some ([], Ended f)) (some_inj (sym h))
told_last (Some other) o h = absurd (cc)

pub ended_so : (told : Told) (o : Outcome) → Some o ≡ option_and_then outcome_in (last_of told) → last_of told ≡ Some ([], Ended o)
ended_so told o h = told_last (last_of told) o h

-- it has one, where the case has passed
pub no_pass : (expected : Expected) (told : Told) → None ≡ option_and_then outcome_in (last_of told) → HasPassed expected told → ⊥
no_pass expected told none passed =
    let some : None ≡ Some passed.outcome = none ∙ ap (option_and_then outcome_in) passed.ended in
    absurd (cc)

-- which is the expected one
pub end_of : (expected : Expected) (told : Told) (o : Outcome) → Some o ≡ option_and_then outcome_in (last_of told) → HasPassed expected told → IfSome expected.end (λ end. IsEnd end o)
end_of expected told o ended passed = subst (λ o. IfSome expected.end (λ end. IsEnd end o)) (sym (some_inj (ended ∙ ap (option_and_then outcome_in) passed.ended))) passed.end

-- what the last part tells tells the whole
pub whole_told : {P Q S E : Type 0} (r : Result (Option S) E) → IfOk r (λ words. words ≡ None ↔ Q) → (Q → P) → (P → Q) → IfOk r (λ words. words ≡ None ↔ P)
whole_told (Ok words) (right, has) whole part = (λ none. whole (right none), λ p. has (part p))
whole_told (Err e) told whole part = tt
