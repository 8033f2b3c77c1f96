-- What a driven run comes to, for the declared shapes.
use Rattle.std.proofs.Common.{◌≡◌, ◌≤◌, ℕ, List, [], ◌∷◌, Bool, true, false, Option, Some, None, is_some, option_and_then, option_copied, option_map, slice_get, Bor, Result, Ok, Err, IfOk, refl, sym, ap, ◌∙◌, subst}
use Rattle.std.specs.Prelude.{All}
use Rattle.std.specs.Option.{unwrap_or}
use Rattle.std.proofs.lemmas.List.Elements.{All-head, All-tail}
use Rattle.asl_model.specs.Certificate.{Declared, ActionObeys, TakenObeys, AnswersObey, waiting_at, waiting_name}
use Rattle.asl_model.specs.Machine.{Scope}
use Rattle.asl_model.specs.Numbering.{table_of}
use Rattle.asl_model.specs.Run.{Activity, Action, Move, Gives, FailsTask, Event, Turn, activity_at, enabled, run_of}
use Rattle.asl_model.specs.TracePrinted.{trace_text}
use Rattle.asl_model.specs.Tree.{Tree}
use Rattle.asl_model.specs.Printed.{RunEnd, InputShape}
use Rattle.asl_records.specs.View.{declared_view}
use Rattle.asl_records.specs.declared.records.Declared as code
use Rattle.asl_run.specs.Driving.{MayHappen, answer_given, IsTaken, IsUnanswered, Policy, StopsSo, TurnIsUnanswered, policy_of}
use Rattle.asl_run.specs.declared.driving.Stop.{Stop}
use Rattle.asl_run.specs.declared.driving.Stop.TheVariants as stops
use Rattle.asl_texts.specs.Tracing.{Traces, begun}
use Rattle.asl_texts.specs.Runs.{AllEnabled, AllPicked, EndsSo, IsRun, MayBeSilent, MayGive, NextMisfits, ObeysShapes, RunGiven, RunsTo, end_at, fits_input, input_misfits, is_run, is_spent, left_standing, next_fits, place_of_turn, place_picked, turns_of, waiting_in_turn}
use Rattle.asl_texts.specs.declared.runs.Pick.{Pick}

-- so the order picks the places
abbrev By : Pick → ℕ → ℕ → Type 0
By order many number = number ≡ place_picked order many

-- what may happen in a run by that order, for those shapes, where those answers are left in the end
abbrev RunPolicy : Pick → Option Declared → List Action → Policy
RunPolicy order shapes left = policy_of (By order) (MayGive shapes) (MayBeSilent shapes left)

-- the events that were taken were enabled
all_enabled : (policy : Policy) (machine : Scope) (turns : List Turn) → All (IsTaken policy machine) turns → AllEnabled turns
all_enabled policy machine [] h = tt
all_enabled policy machine (turn ∷ turns) h =
    let P : Turn → Type 0 = IsTaken policy machine in
    (ap is_some (All-head P turn turns h).enabled, all_enabled policy machine turns (All-tail P turn turns h))

-- their places were those whose turn it was
all_picked : (order : Pick) (shapes : Option Declared) (left : List Action) (machine : Scope) (turns : List Turn) → All (IsTaken (RunPolicy order shapes left) machine) turns → AllPicked order machine turns
all_picked order shapes left machine [] h = tt
all_picked order shapes left machine (turn ∷ turns) h =
    let P : Turn → Type 0 = IsTaken (RunPolicy order shapes left) machine in
    let wanted = enabled turn.before machine in
    let picked = (All-head P turn turns h).picked in
    (ap (λ k. option_map (λ w. w.0) (slice_get wanted k)) (sym picked.picks) ∙ picked.stands, all_picked order shapes left machine turns (All-tail P turn turns h))

-- ---- what was taken obeys

answer_obeys : (declared : Declared) (p : List ℕ) (a : Activity) (action : Action) → MayHappen (MayGive (Some declared)) (activity_at p a) action → ActionObeys declared p a action
answer_obeys declared p a Move h = tt
answer_obeys declared p a (Gives answer) (answer_given is may) = rw is may
answer_obeys declared p a (FailsTask error cause) h = tt

taken_obeys : (declared : Declared) (order : Pick) (left : List Action) (machine : Scope) (turn : Turn) → IsTaken (RunPolicy order (Some declared) left) machine turn → TakenObeys declared turn.event.place turn.before turn.event.action turn.taken
taken_obeys declared order left machine turn h = rw h.enabled (answer_obeys declared turn.event.place turn.before turn.event.action h.allowed)

answers_obey : (declared : Declared) (order : Pick) (left : List Action) (machine : Scope) (turns : List Turn) → All (IsTaken (RunPolicy order (Some declared) left) machine) turns → AnswersObey declared turns
answers_obey declared order left machine [] h = tt
answers_obey declared order left machine (turn ∷ turns) h =
    let P : Turn → Type 0 = IsTaken (RunPolicy order (Some declared) left) machine in
    (taken_obeys declared order left machine turn (All-head P turn turns h), answers_obey declared order left machine turns (All-tail P turn turns h))

obeys : (shapes : Option Declared) (order : Pick) (left : List Action) (machine : Scope) (input : Tree) (events : List Event) → fits_input shapes input ≡ true → All (IsTaken (RunPolicy order shapes left) machine) (run_of machine input events) → ObeysShapes shapes machine input events
obeys None order left machine input events fits taken = tt
obeys (Some declared) order left machine input events fits taken = record { has_input = fits; answers = answers_obey declared order left machine (run_of machine input events) taken }

-- ---- why it ends

next_misfits : (shapes : Option Declared) (n : List ℕ) (left : List Action) → false ≡ is_spent left → next_fits shapes n left ≡ false → NextMisfits shapes n left
next_misfits shapes n [] some unfit = absurd (cc)
next_misfits shapes n (Move ∷ left) some unfit = absurd (cc)
next_misfits shapes n (Gives t ∷ left) some unfit = record { answer = t; others = left; next = refl; misfit = unfit }
next_misfits shapes n (FailsTask error cause ∷ left) some unfit = absurd (cc)

none_left : (left : List Action) → true ≡ is_spent left → left ≡ []
none_left [] e = refl
none_left (a ∷ left) e = absurd (cc)

-- the task that waits in its turn is the one that is told
waits_in_turn : (order : Pick) (shapes : Option Declared) (left : List Action) (machine : Scope) (a : Activity) (state : Option (List ℕ)) (u : TurnIsUnanswered (RunPolicy order shapes left) machine a state)
    → waiting_in_turn order machine a ≡ Some u.unanswered.name
waits_in_turn order shapes left machine a state u =
    let wanted = enabled a machine in
    let turn : place_of_turn order machine a ≡ Some u.place = ap (λ k. option_map (λ w. w.0) (slice_get wanted k)) (sym u.picked.picks) ∙ u.picked.stands in
    ap (option_and_then (λ place. waiting_at place a)) turn ∙ ap (option_and_then waiting_name) u.unanswered.waits

ends_so : (given : RunGiven) (order : Pick) (most count : ℕ) (a : Activity) (left : List Action) (spent : Bool) (stop : Stop) → spent ≡ is_spent left → StopsSo (RunPolicy order given.shapes left) given.machine most count a stop
    → EndsSo given order most count a left (end_at (table_of given.machine).names spent stop)
ends_so given order most count a left spent stops.Output e h = h
ends_so given order most count a left spent stops.Failed e h = h
ends_so given order most count a left true (stops.NoAnswer i) e h =
    let state = slice_get (table_of given.machine).names i in
    (h.0, h.1, (h.2.unanswered.name, waits_in_turn order given.shapes left given.machine a state h.2), none_left left e)
ends_so given order most count a left false (stops.NoAnswer i) e h =
    let state = slice_get (table_of given.machine).names i in
    let u : IsUnanswered (MayBeSilent given.shapes left) h.2.place a state = h.2.unanswered in
    let same : u.name ≡ unwrap_or state [] = sym (ap (λ o. unwrap_or o []) u.named) in
    (h.0, h.1, subst (λ n. waiting_in_turn order given.machine a ≡ Some n) same (waits_in_turn order given.shapes left given.machine a state h.2), subst (λ n. NextMisfits given.shapes n left) same (next_misfits given.shapes u.name left e u.silent))
ends_so given order most count a left spent stops.StepsSpent e h = h

-- ---- the whole run

-- the run whose history is written
pub written_run : (given : RunGiven) (order : Pick) (most : ℕ) (stop : Stop) (left : List Action) (spent : Bool) (end : RunEnd) (text : List ℕ)
    → fits_input given.shapes given.input ≡ true → spent ≡ is_spent left
    → Traces (RunPolicy order given.shapes left) given.machine most (begun given.machine given.input given.answers) stop text left
    → end ≡ end_at (table_of given.machine).names spent stop
    → IsRun given order most end text
written_run given order most stop left spent end text fits none_more written ends =
    let machine = given.machine in
    let shapes = given.shapes in
    let s = written.stops in
    let after = written.after in
    let turns = turns_of given s.drives.events in
    let E : ℕ → Activity → RunEnd → Type 0 = λ count a e. EndsSo given order most count a left e in
    let there : E s.count after (end_at (table_of machine).names spent stop) = ends_so given order most s.count after left spent stop none_more s.why in
    record {
      events = s.drives.events;
      left = left;
      within = subst (λ n. n ≤ most) (sym s.drives.counted) s.within;
      enabled = all_enabled (RunPolicy order shapes left) machine turns s.drives.taken;
      picked = all_picked order shapes left machine turns s.drives.taken;
      answered = s.drives.answered;
      obeys = obeys shapes order left machine given.input s.drives.events fits s.drives.taken;
      told = written.traced ∙ ap trace_text s.drives.traced;
      why = subst (λ n. E n (left_standing given s.drives.events) end) (sym s.drives.counted)
          (subst (λ a. E s.count a end) (sym s.drives.stands) (subst (E s.count after) (sym ends) there));
    }

-- ---- what the texts come to

-- declared shapes that are lent are seen as they are
pub shapes_seen : (lent : Option (Bor code.Declared)) (declared : Option code.Declared) → option_copied lent ≡ declared → option_map (λ (d : Bor code.Declared). declared_view d.now) lent ≡ option_map declared_view declared
shapes_seen None declared is = ap (option_map declared_view) is
shapes_seen (Some d) declared is = ap (option_map declared_view) is

-- an input that isn't of its shape
pub not_run : (given : RunGiven) (same : Option Declared) (order : Pick) (most : ℕ) (text : List ℕ) → same ≡ given.shapes → false ≡ fits_input same given.input → text ≡ [] → RunsTo given order most InputShape text
not_run given same order most text is unfit empty =
    subst (RunsTo given order most InputShape) (sym empty) (input_misfits (sym (unfit ∙ ap (λ s. fits_input s given.input) is)))

-- a run of an input that is, unless there was no memory for it
abbrev pub Ran : {T E : Type 0} → (T → RunEnd) → (T → List ℕ) → Result T E → RunGiven → Pick → ℕ → Type 0
Ran end text r given order most = IfOk r (λ t. IsRun given order most (end t) (text t))

pub run_so : {T E : Type 0} (end : T → RunEnd) (text : T → List ℕ) (r : Result T E) (given : RunGiven) (order : Pick) (most : ℕ) → Ran end text r given order most → IfOk r (λ t. RunsTo given order most (end t) (text t))
run_so end text (Ok t) given order most h = is_run h
run_so end text (Err e) given order most h = tt
