-- The laws about runs, each as the function of its name states it.
use Rattle.std.proofs.Common.{◌≡◌, refl, ℕ, List, [], ◌∷◌, ◌++◌, map, Option, Some, None}
use Rattle.asl_model.specs.Tree.{Tree}
use Rattle.asl_model.specs.Machine.{Scope, own_scope, LeadsInside}
use Rattle.asl_model.specs.Run.{Activity, Event, Entry, Step, Turn, start, step, after_step, run, run_of, entries_of, trace, last_activity}
use Rattle.asl_model.specs.Certificate.{Declared, Certificate, IsClosed, TakenObeys, AnswersObey, Obeys, RunIsAsCertified, ActivityFits, EachActivityFits, DataFits, EachHasFittingData, TypeGroup, IsKeptBy, KeepsData, ActivitiesAreAsCertified, DataAreAsCertified, NoneRaises, NoTurnRaises, TellsNoFault}
use Rattle.asl_model.proofs.RunFits.{event_fits, turns_fit, start_fits}
use Rattle.asl_model.proofs.RunStands.{step_stands, start_stands}

pub never_fault : (declared : Declared) (certificate : Certificate) (machine : Scope) → IsClosed declared certificate machine → (input : Tree) (events : List Event) → Obeys declared machine input events → RunIsAsCertified declared certificate machine input events
never_fault declared certificate machine closed input events obeys =
    let fits = turns_fit declared certificate machine closed (start machine input) events (start_fits declared certificate machine closed input obeys.has_input) obeys.answers in
    record { raises_nothing = fits.0; as_certified = fits.1 }

module _ (declared : Declared) (certificate : Certificate) (machine : Scope) (closed : IsClosed declared certificate machine) where
  -- an event leaves the data of the machine's activity as certified
  data_kept : (a : Activity) (event : Event) → DataFits declared certificate a machine certificate.output → (taken : Option Step) → step machine a event ≡ taken → TakenObeys declared event.place a event.action taken → DataFits declared certificate (after_step a taken) machine certificate.output
  data_kept a event before taken e obeys = (event_fits declared certificate machine closed a event before taken e obeys).2

  -- the data of all activities from one on
  data_fit : (a : Activity) (events : List Event) → DataFits declared certificate a machine certificate.output → AnswersObey declared (run machine a events) → EachHasFittingData declared certificate machine (run machine a events) × DataFits declared certificate (last_activity a (run machine a events)) machine certificate.output
  data_fit a [] before obeys = (tt, before)
  data_fit a (event ∷ events) before obeys =
      let first = data_kept a event before (step machine a event) refl obeys.0 in
      let further = data_fit (after_step a (step machine a event)) events first obeys.1 in
      ((before, further.0), further.1)

  pub every_activitys_data : (input : Tree) (events : List Event) → Obeys declared machine input events → DataAreAsCertified declared certificate machine input events
  every_activitys_data input events obeys =
      let fits = data_fit (start machine input) events (start_fits declared certificate machine closed input obeys.has_input) obeys.answers in
      record { before_each = fits.0; after_all = fits.1 }

  pub keeps_data : (group : TypeGroup) → KeepsData group declared certificate machine
  keeps_data group = record { kept = λ a event taken before at_group e obeys. data_kept a event before (Some taken) e obeys }

module _ (declared : Declared) (certificate : Certificate) (machine : Scope) (closed : IsClosed declared certificate machine) (leads : LeadsInside machine) where
  -- an event leaves the machine's activity as certified
  activity_kept : (a : Activity) (event : Event) → ActivityFits declared certificate a machine certificate.output → (taken : Option Step) → step machine a event ≡ taken → TakenObeys declared event.place a event.action taken → ActivityFits declared certificate (after_step a taken) machine certificate.output
  activity_kept a event before None e obeys = before
  activity_kept a event before (Some s) e obeys = record {
    stands = step_stands machine leads event.place machine own_scope a event.action s before.stands e;
    fits = data_kept declared certificate machine closed a event before.fits (Some s) e obeys;
  }

  -- all activities from one on
  activities_fit : (a : Activity) (events : List Event) → ActivityFits declared certificate a machine certificate.output → AnswersObey declared (run machine a events) → EachActivityFits declared certificate machine (run machine a events) × ActivityFits declared certificate (last_activity a (run machine a events)) machine certificate.output
  activities_fit a [] before obeys = (tt, before)
  activities_fit a (event ∷ events) before obeys =
      let first = activity_kept a event before (step machine a event) refl obeys.0 in
      let further = activities_fit (after_step a (step machine a event)) events first obeys.1 in
      ((before, further.0), further.1)

  pub every_activity : (input : Tree) (events : List Event) → Obeys declared machine input events → ActivitiesAreAsCertified declared certificate machine input events
  every_activity input events obeys =
      let begins : ActivityFits declared certificate (start machine input) machine certificate.output = record { stands = start_stands machine leads input; fits = start_fits declared certificate machine closed input obeys.has_input } in
      let fits = activities_fit (start machine input) events begins obeys.answers in
      record { before_each = fits.0; after_all = fits.1 }

  pub kept_by : (group : TypeGroup) → IsKeptBy group declared certificate machine
  kept_by group = record { kept = λ a event taken before at_group e obeys. activity_kept a event before (Some taken) e obeys }

-- the history of turns that raise nothing
in_a_row : (front back : List (List ℕ × Entry)) → TellsNoFault front → TellsNoFault back → TellsNoFault (front ++ back)
in_a_row [] back g h = h
in_a_row (told ∷ front) back g h = (g.0, in_a_row front back g.1 h)

step_tells : (p : List ℕ) (entries : List Entry) → NoneRaises entries → TellsNoFault (map (λ entry. (p, entry)) entries)
step_tells p [] h = tt
step_tells p (entry ∷ entries) h = (h.0, step_tells p entries h.1)

turns_tell : (turns : List Turn) → NoTurnRaises turns → TellsNoFault (trace turns)
turns_tell [] h = tt
turns_tell (turn ∷ turns) h = in_a_row (map (λ entry. (turn.event.place, entry)) (entries_of turn.taken)) (trace turns) (step_tells turn.event.place (entries_of turn.taken) h.0) (turns_tell turns h.1)

pub no_fault_told : (declared : Declared) (certificate : Certificate) (machine : Scope) → IsClosed declared certificate machine → (input : Tree) (events : List Event) → Obeys declared machine input events → TellsNoFault (trace (run_of machine input events))
no_fault_told declared certificate machine closed input events obeys = turns_tell (run_of machine input events) (never_fault declared certificate machine closed input events obeys).raises_nothing
