-- One step of a case, and the case that its steps make.
use Rattle.std.proofs.Common.{◌≡◌, ◌≢◌, ◌<◌, ◌≤◌, refl, sym, ap, ◌∙◌, subst, arith, ℕ, zero, suc, ◌+◌, Bool, true, false, List, [], ◌∷◌, bytes_eq, drop, slice_index_or, slice_set, Option, Some, None, option_map, IsTrue}
use Rattle.std.proofs.lemmas.Slice.Eq.{bytes_eq-Decides}
use Rattle.asl_model.specs.Certificate.{Declared, gives_of, waiting_at}
use Rattle.asl_model.specs.Machine.{Scope}
use Rattle.asl_model.specs.Run.{Activity, Action, Move, Gives, FailsTask, Output, FailedWith, outcome_of, step}
use Rattle.asl_model.specs.Shape.{has}
use Rattle.asl_model.specs.Tree.{Tree}
use Rattle.asl_run.specs.Driving.{IsTold}
use Rattle.asl_suites.specs.Scripts.{Script, StateScripts, ByAttempt, ByItem, answer_of, first_or, left_of, next_of, rest_of, script_for, silent}
use Rattle.asl_cases.specs.Asking.{item_of}
use Rattle.asl_cases.specs.Playing.{ActionFits, Answers, AreKept, Case, EndsSo, IsRun, IsTaken, Plays, Stage, takes_next, WaitsInTurn, begun, stage_of}
use Rattle.asl_cases.specs.Stepping.{EndsWith, GoesOn, IsAlone, none_waits, StepsTo, Stops, StopsSo, fits_task}
use Rattle.asl_cases.specs.declared.playing.End.{End}
use Rattle.asl_cases.specs.declared.playing.End.TheVariants as ends
use Rattle.asl_cases.proofs.Chains.{plays_ended, plays_none, plays_one, plays_then}

-- ---- scripts that have no answer

no_front : (listed : List Action) (other : Option Action) → None ≡ first_or listed other → listed ≡ []
no_front [] other h = refl
no_front (answer ∷ listed) other h = absurd (cc)

script_stays : (script : Script) → None ≡ next_of script → rest_of script ≡ script
script_stays script h =
    let none = no_front script.listed script.for_ever h in
    let with_listed : List Action → Script = λ l. record { listed = l; for_ever = script.for_ever } in
    ap (λ l. with_listed (drop 1 l)) none ∙ ap with_listed (sym none)

scripts_stay : (scripts : List Script) (i : ℕ) → None ≡ next_of (slice_index_or scripts i silent) → slice_set scripts i (rest_of (slice_index_or scripts i silent)) ≡ scripts
scripts_stay [] i h = refl
scripts_stay (s ∷ scripts) zero h = ap (λ t. t ∷ scripts) (script_stays s h)
scripts_stay (s ∷ scripts) (suc i) h = ap (λ rest. s ∷ rest) (scripts_stay scripts i h)

own_stays : (own : StateScripts) (item : Option ℕ) → None ≡ next_of (script_for own item) → left_of own item ≡ own
own_stays (ByAttempt script) item h = ap ByAttempt (script_stays script h)
own_stays (ByItem scripts) (Some i) h = ap ByItem (scripts_stay scripts i h)
own_stays (ByItem scripts) None h = refl

stays : (own : Option StateScripts) (item : Option ℕ) → None ≡ answer_of own item → option_map (λ o. left_of o item) own ≡ own
stays None item h = refl
stays (Some own) item h = ap Some (own_stays own item h)

-- where none is left all stay as they are
pub none_taken : (before after : Answers) (name : List ℕ) (item : Option ℕ) → None ≡ answer_of (before name) item → after name ≡ option_map (λ own. left_of own item) (before name)
    → ((n : List ℕ) → n ≢ name → after n ≡ before n) → AreKept before after
none_taken before after name item none left others = λ n. go n (bytes_eq n name) refl
  where
    go : (n : List ℕ) (same : Bool) → bytes_eq n name ≡ same → after n ≡ before n
    go n true e =
        let is : n ≡ name = (bytes_eq-Decides n name).0 e in
        ap after is ∙ left ∙ stays (before name) item none ∙ ap before (sym is)
    go n false e = others n (λ is. let f = (bytes_eq-Decides n name).1 is in absurd (cc))

-- ---- what fits

pub answer_fits : (shapes : Option Declared) (place : List ℕ) (a : Activity) (name : List ℕ) (answer : Action) → waiting_at place a ≡ Some name → IsTrue (fits_task shapes name answer) → ActionFits shapes place a answer
answer_fits None place a name answer waits fits = tt
answer_fits (Some declared) place a name Move waits fits = tt
answer_fits (Some declared) place a name (Gives answer) waits fits = rw waits fits
answer_fits (Some declared) place a name (FailsTask error cause) waits fits = tt

-- an answer that doesn't fit
pub record Misfits (shapes : Option Declared) (name : List ℕ) (answer : Action) : Type 0 where
  pub given : Tree
  pub declared : Declared
  pub is : answer ≡ Gives given
  pub is_declared : shapes ≡ Some declared
  pub misfit : has (gives_of declared name) given ≡ false

pub misfits : (shapes : Option Declared) (name : List ℕ) (answer : Action) → fits_task shapes name answer ≡ false → Misfits shapes name answer
misfits None name answer h = absurd (cc)
misfits (Some declared) name Move h = absurd (cc)
misfits (Some declared) name (Gives answer) h = record { given = answer; declared = declared; is = refl; is_declared = refl; misfit = h }
misfits (Some declared) name (FailsTask error cause) h = absurd (cc)

-- ---- one step

-- an answer is taken
pub answer_taken : (machine : Scope) (shapes : Option Declared) (before after : Stage) (number : ℕ) (name place : List ℕ) (answer : Action)
    → WaitsInTurn machine before.activity number name place → IsTaken before.answers name (item_of machine place before.activity) answer after.answers
    → IsTrue (fits_task shapes name answer) → IsTold machine before.activity (record { place = place; action = answer }) before.told after.told after.activity
    → Plays machine shapes 1 before after
answer_taken machine shapes before after number name place answer waits taken fits told =
    plays_one machine shapes before after (record { place = place; action = answer }) told.step told.enabled waits.turn (takes_next waits taken)
    (answer_fits shapes place before.activity name answer waits.waits fits) told.grown told.stands

-- the run has ended
pub stops_there : {machine : Scope} {shapes : Option Declared} {before after : Stage} {count : ℕ} (end : End) → count ≤ 1 → Plays machine shapes count before after → EndsWith (Some end) (outcome_of after.activity) → Stops machine shapes before end after
stops_there {machine = machine} {shapes = shapes} {before = before} {after = after} {count = count} end few plays h = record { count = count; answers = after.answers; few = few; plays = plays; why = go end h }
  where
    go : (end : End) → EndsWith (Some end) (outcome_of after.activity) → StopsSo machine shapes count after end after.answers
    go ends.Output h = (h, λ n. refl)
    go ends.Failed h = (h, λ n. refl)
    go (ends.NoAnswer state attempt item) h = absurd h
    go (ends.AnswerShape state attempt item answer) h = absurd h
    go (ends.InputShape input) h = absurd h
    go (ends.StepsSpent steps) h = absurd h

-- or it goes on
pub stepped : {machine : Scope} {shapes : Option Declared} {before after : Stage} (end : Option End) → Plays machine shapes 1 before after → EndsWith end (outcome_of after.activity) → StepsTo machine shapes before end after
stepped None plays h = record { plays = plays; goes_on = h }
stepped (Some end) plays h = stops_there end (omega arith) plays h

-- nothing has happened before the step
pub steps_from : {machine : Scope} {shapes : Option Declared} {a b : Stage} {count : ℕ} (c : Stage) (end : Option End) → count ≡ 0 → Plays machine shapes count a b → StepsTo machine shapes b end c → StepsTo machine shapes a end c
steps_from {machine = machine} {shapes = shapes} {a = a} {count = count} c None none first h =
    let one : count + 1 ≡ 1 = omega arith in
    record { plays = subst (λ n. Plays machine shapes n a c) one (plays_then first h.plays); goes_on = h.goes_on }
steps_from {machine = machine} {shapes = shapes} {a = a} {count = count} c (Some end) none first h =
    let same : h.count ≡ count + h.count = omega arith in
    let few = h.few in
    record {
      count = count + h.count;
      answers = h.answers;
      few = omega arith;
      plays = plays_then first h.plays;
      why = subst (λ n. StopsSo machine shapes n (stage_of c.activity h.answers c.told) end c.answers) same h.why;
    }

-- ---- the whole case

-- nothing has happened
pub begins : (given : Case) → Plays given.machine given.shapes 0 (begun given) (begun given)
begins given = plays_none given.machine given.shapes (begun given)

pub begins_alone : (given : Case) → IsAlone given.machine (begun given).activity (begun given).told
begins_alone given = none_waits tt

ends_so : (given : Case) (most count more : ℕ) (stage : Stage) (end : End) (after : Answers) → count < most → more ≤ 1 → Plays given.machine given.shapes (count + more) (begun given) stage
    → StopsSo given.machine given.shapes more stage end after → EndsSo given.machine given.shapes most (count + more) stage end after
ends_so given most count more stage ends.Output after fewer few plays ((output, ended), kept) = ((output, record { ended = ended; told = plays_ended (Output output) plays refl ended }), kept)
ends_so given most count more stage ends.Failed after fewer few plays ((error, cause, ended), kept) = ((error, cause, record { ended = ended; told = plays_ended (FailedWith error cause) plays refl ended }), kept)
ends_so given most count more stage (ends.NoAnswer state attempt item) after fewer few plays (none, unanswered, kept) = (omega arith, unanswered, kept)
ends_so given most count more stage (ends.AnswerShape state attempt item answer) after fewer few plays (none, misfit) = (omega arith, misfit)
ends_so given most count more stage (ends.InputShape input) after fewer few plays h = absurd h
ends_so given most count more stage (ends.StepsSpent steps) after fewer few plays h = absurd h

-- it ends with one step more, or none
pub ends_there : (given : Case) (most count : ℕ) (stage after : Stage) (end : End) → count < most → Plays given.machine given.shapes count (begun given) stage → Stops given.machine given.shapes stage end after → IsRun given most end after.told after.answers
ends_there given most count stage after end fewer so_far last =
    let plays = plays_then so_far last.plays in
    let few = last.few in
    record {
      count = count + last.count;
      activity = after.activity;
      answers = last.answers;
      within = omega arith;
      plays = plays;
      why = ends_so given most count last.count (stage_of after.activity last.answers after.told) end after.answers fewer last.few plays last.why;
    }

-- all steps were taken

-- one step more, and it goes on
pub one_more : {machine : Scope} {shapes : Option Declared} {a b c : Stage} {count : ℕ} → Plays machine shapes count a b → GoesOn machine shapes b c → Plays machine shapes (count + 1) a c
one_more so_far step = plays_then so_far step.plays
