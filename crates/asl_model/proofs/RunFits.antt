-- Closed runs never fault: each step of an activity whose data are as certified raises nothing, makes entries that are as
-- certified, and leaves an activity whose data are as certified.
use Rattle.std.proofs.Common.{◌≡◌, refl, sym, ap, ◌∙◌, subst, ℕ, zero, suc, List, [], ◌∷◌, Bool, true, false, if◌then◌else◌, Option, Some, None, option_map, option_and_then, Result, Ok, Err}
use Rattle.asl_model.specs.Tree.{Tree, Array, Trees, NoTrees, AndTree, count}
use Rattle.asl_model.specs.Shape.{Shape, Has}
use Rattle.asl_model.specs.Faults.{Fault}
use Rattle.asl_model.specs.Machine.{Catcher, Settings, Scope, State, settings_of, kind_of, start_of, state_named, child_scope, IsScopeOf, own_scope, scope_of_child}
use Rattle.asl_model.specs.Flow.{Work, Finishes, Leaves, FailsWith, Asks, Splits, Raises, at_output_path, output_of, first_move}
use Rattle.asl_model.specs.Run.{Activity, Ready, Waiting, Split, Done, Failed, Activities, NoActivities, AndActivity, Action, Move, Gives, FailsTask, Event, Entry, Entered, TaskFailed, BranchFailed, Step, Trouble, Retries, Catches, Misfits, Escapes, Joining, AllDone, OneFailed, StillRunning, entry_then, caught_input, caught_as, caught_by, catching, takes_error, retrying, unless_retrying, trouble_of, by_trouble, troubled, leaves_for, leaves_with, started, by_work, done_before, running_before, joining, join_error, joins, moves_ready, moves_waiting, moves_split, acts, scope_under, scope_below, child_at, set_child, within, step_at, step, run, start, after_step, entries_of, activity_at}
use Rattle.asl_model.specs.Certificate.{waiting_name, Declared, Certificate, certified_input, IsClosedIn, EachHas, OutputFits, WorkFits, CaughtFits, CatchersFit, IsClosedAt, IsClosed, AnswerObeys, ActionObeys, TakenObeys, AnswersObey, end_under, end_of_child, end_at, RaisesNothing, IsAsCertified, NoneRaises, EachIsAsCertified, NoTurnRaises, TurnsAreAsCertified, move_at, how_many_children, DataFits, EachDataFits}
use Rattle.asl_model.proofs.RunOptions.{some_inj, none_some}

-- children of which one is still running in front aren't all done
never_done : {A : Type 0} {outputs : Trees} (others : Joining) → running_before others ≡ AllDone outputs → A
never_done (AllDone further) h = absurd (cc)
never_done (OneFailed i error cause) h = absurd (cc)
never_done StillRunning h = absurd (cc)

module _ (declared : Declared) (certificate : Certificate) (machine : Scope) (closed : IsClosed declared certificate machine) where
  -- what a step is to be
  pub record StepFits (scope : Scope) (end : Shape) (s : Step) : Type 0 where
    pub quiet : NoneRaises s.entries
    pub entries : EachIsAsCertified declared certificate end s.entries
    pub after : DataFits declared certificate s.after scope end

  -- leaving with an output that fits
  leaving : (scope : Scope) (end : Shape) (n : List ℕ) (next : Option (List ℕ)) (output : Tree) → OutputFits certificate end n next (Ok output) → StepFits scope end (leaves_for n next output)
  leaving scope end n None output fits = record { quiet = (tt, (tt, tt)); entries = (fits.0, (fits.1, tt)); after = fits.1 }
  leaving scope end n (Some next) output fits = record { quiet = (tt, tt); entries = (fits.0, tt); after = fits.1 }

  -- what comes of an error: what a catcher hands on fits
  abbrev TroubleFits : Trouble → Type 0
  TroubleFits (Retries i) = Unit {0}
  TroubleFits (Catches i next input) = Has (certified_input certificate next) input
  TroubleFits Misfits = ⊥
  TroubleFits Escapes = Unit {0}

  caught_fits : (i : ℕ) (next : List ℕ) (found : Option Tree) → CaughtFits certificate next found → TroubleFits (caught_as i next found)
  caught_fits i next None fits = fits
  caught_fits i next (Some input) fits = fits

  catching_fits : (raw : Tree) (error cause : List ℕ) (i : ℕ) (catchers : List Catcher) → CatchersFit certificate raw catchers → TroubleFits (caught_by (catching i catchers error) raw error cause)
  catching_fits raw error cause i [] fits = tt
  catching_fits raw error cause i (catcher ∷ others) fits = either (takes_error error catcher.error_equals) (caught_fits i catcher.next (caught_input catcher raw error cause) (fits.0 error cause)) (catching_fits raw error cause (suc i) others fits.1)
    where
      either : (taken : Bool) → TroubleFits (caught_by (Some (i, catcher)) raw error cause) → TroubleFits (caught_by (catching (suc i) others error) raw error cause) → TroubleFits (caught_by (if taken then Some (i, catcher) else catching (suc i) others error) raw error cause)
      either true this further = this
      either false this further = further

  trouble_fits : (settings : Settings) (raw : Tree) (counts error cause : List ℕ) → CatchersFit certificate raw settings.catchers → TroubleFits (trouble_of settings raw counts error cause)
  trouble_fits settings raw counts error cause fits = go (retrying 0 settings.retriers counts error)
    where
      go : (retried : Option ℕ) → TroubleFits (unless_retrying retried (caught_by (catching 0 settings.catchers error) raw error cause))
      go None = catching_fits raw error cause 0 settings.catchers fits
      go (Some i) = tt

  by_trouble_fits : (scope : Scope) (end : Shape) (n : List ℕ) (raw : Tree) (counts error cause : List ℕ) (trouble : Trouble) → Has (certified_input certificate n) raw → TroubleFits trouble → StepFits scope end (by_trouble n raw counts error cause trouble)
  by_trouble_fits scope end n raw counts error cause (Retries i) has fits = record { quiet = (tt, tt); entries = (tt, tt); after = has }
  by_trouble_fits scope end n raw counts error cause (Catches i next input) has fits = record { quiet = (tt, tt); entries = (tt, tt); after = fits }
  by_trouble_fits scope end n raw counts error cause Misfits has fits = absurd fits
  by_trouble_fits scope end n raw counts error cause Escapes has fits = record { quiet = (tt, tt); entries = (tt, tt); after = tt }

  -- state n, in trouble
  troubled_fits : (scope : Scope) (end : Shape) (n : List ℕ) (settings : Settings) (raw : Tree) (counts error cause : List ℕ) → Has (certified_input certificate n) raw → CatchersFit certificate raw settings.catchers → StepFits scope end (troubled n settings raw counts error cause)
  troubled_fits scope end n settings raw counts error cause has fits = by_trouble_fits scope end n raw counts error cause (trouble_of settings raw counts error cause) has (trouble_fits settings raw counts error cause fits)

  -- state n, leaving where its output fits
  leaves_with_fits : (scope : Scope) (end : Shape) (n : List ℕ) (settings : Settings) (raw : Tree) (counts : List ℕ) (next : Option (List ℕ)) (output : Result Tree Fault) → OutputFits certificate end n next output → StepFits scope end (leaves_with n settings raw counts next output)
  leaves_with_fits scope end n settings raw counts next (Ok output) fits = leaving scope end n next output fits
  leaves_with_fits scope end n settings raw counts next (Err fault) fits = absurd fits

  -- one more entry that fits
  entry_fits : (scope : Scope) (end : Shape) (entry : Entry) (s : Step) → RaisesNothing entry → IsAsCertified declared certificate end entry → StepFits scope end s → StepFits scope end (entry_then entry s)
  entry_fits scope end entry s quiet as_certified fits = record { quiet = (quiet, fits.quiet); entries = (as_certified, fits.entries); after = fits.after }

  -- the children that are started fit
  started_fits : (scopes : ℕ → Scope) (ends : ℕ → Shape) (inputs : Trees) → EachHas (λ i. certified_input certificate (start_of (scopes i))) inputs → EachDataFits declared certificate (started scopes inputs) scopes ends
  started_fits scopes ends NoTrees fits = tt
  started_fits scopes ends (AndTree input inputs) fits = (fits.0, started_fits (λ i. scopes (suc i)) (λ i. ends (suc i)) inputs fits.1)

  started_number : (scopes : ℕ → Scope) (inputs : Trees) → how_many_children (started scopes inputs) ≡ count inputs
  started_number scopes NoTrees = refl
  started_number scopes (AndTree input inputs) = ap suc (started_number (λ i. scopes (suc i)) inputs)

  -- the work of state n fits
  work_fits : (scope : Scope) (end : Shape) (n : List ℕ) (state : State) (raw : Tree) (counts : List ℕ) (work : Work) → state_named n scope ≡ Some state → first_move state raw ≡ work → Has (certified_input certificate n) raw → CatchersFit certificate raw (settings_of state).catchers → WorkFits declared certificate end n state raw work → StepFits scope end (by_work n state raw counts work)
  work_fits scope end n state raw counts (Finishes result) e m has catchers fits = leaves_with_fits scope end n (settings_of state) raw counts (settings_of state).next (output_of (settings_of state) raw result) fits
  work_fits scope end n state raw counts (Leaves next v) e m has catchers fits = leaves_with_fits scope end n (settings_of state) raw counts next (at_output_path (settings_of state) v) fits
  work_fits scope end n state raw counts (FailsWith error cause) e m has catchers fits = record { quiet = (tt, tt); entries = (tt, tt); after = tt }
  work_fits scope end n state raw counts (Asks payload) e m has catchers fits = record { quiet = (tt, tt); entries = (fits.0, tt); after = (has, fits.0, moved) }
    where
      moved : move_at scope n raw ≡ Some (Asks payload)
      moved = ap (option_map (λ s. first_move s raw)) e ∙ ap Some m
  work_fits scope end n state raw counts (Splits inputs) e m has catchers fits = record { quiet = tt; entries = tt; after = (has, record { inputs = inputs; split = moved; one_each = started_number (child_scope (kind_of state)) inputs }, children) }
    where
      moved : move_at scope n raw ≡ Some (Splits inputs)
      moved = ap (option_map (λ s. first_move s raw)) e ∙ ap Some m

      Below : Option State → Type 0
      Below found = EachDataFits declared certificate (started (child_scope (kind_of state)) inputs) (scope_under found) (end_under certificate n found)

      children : Below (state_named n scope)
      children = subst Below (sym e) (started_fits (child_scope (kind_of state)) (end_under certificate n (Some state)) inputs fits.0)
  work_fits scope end n state raw counts (Raises fault) e m has catchers fits = absurd fits

  -- a child that is done in front of others that are
  done_fits : (output : Tree) (n : ℕ) (ends : ℕ → Shape) (outputs : Trees) → Has (ends 0) output → (others : Joining) → ((further : Trees) → others ≡ AllDone further → (count further ≡ n) × EachHas (λ k. ends (suc k)) further) → done_before output others ≡ AllDone outputs → (count outputs ≡ suc n) × EachHas ends outputs
  done_fits output n ends outputs has (AllDone further) inner h =
      let done = inner further refl in
      let same : AndTree output further ≡ outputs = cc in
      subst (λ (ts : Trees). (count ts ≡ suc n) × EachHas ends ts) same (ap suc done.0, (has, done.1))
  done_fits output n ends outputs has (OneFailed k error cause) inner h = absurd (cc)
  done_fits output n ends outputs has StillRunning inner h = absurd (cc)

  -- all children are done: their outputs are results of the shapes certified for them
  outputs_fit : (i : ℕ) (children : Activities) (scopes : ℕ → Scope) (ends : ℕ → Shape) (outputs : Trees) → joining i children ≡ AllDone outputs → EachDataFits declared certificate children scopes ends → (count outputs ≡ how_many_children children) × EachHas ends outputs
  outputs_fit i NoActivities scopes ends NoTrees e fits = (refl, tt)
  outputs_fit i NoActivities scopes ends (AndTree t ts) e fits = absurd (cc)
  outputs_fit i (AndActivity (Ready n raw counts) others) scopes ends outputs e fits = never_done (joining (suc i) others) e
  outputs_fit i (AndActivity (Waiting n raw counts payload) others) scopes ends outputs e fits = never_done (joining (suc i) others) e
  outputs_fit i (AndActivity (Split n raw counts children) others) scopes ends outputs e fits = never_done (joining (suc i) others) e
  outputs_fit i (AndActivity (Done output) others) scopes ends outputs e fits = done_fits output (how_many_children others) ends outputs fits.0 (joining (suc i) others) (λ further f. outputs_fit (suc i) others (λ k. scopes (suc k)) (λ k. ends (suc k)) further f fits.1) e
  outputs_fit i (AndActivity (Failed error cause) others) scopes ends outputs e fits = absurd (cc)

  -- a scope of the machine, and the certificate is closed at each of its states, with that end
  record InScope (scope : Scope) (end : Shape) : Type 0 where
    is : IsScopeOf machine scope
    states : IsClosedIn declared certificate end scope

  -- one step of an activity itself
  ready_fits : (scope : Scope) (end : Shape) → InScope scope end → (n : List ℕ) (raw : Tree) (counts : List ℕ) (action : Action) (s : Step) → Has (certified_input certificate n) raw → (found : Option State) → state_named n scope ≡ found → option_and_then (moves_ready n raw counts action) found ≡ Some s → StepFits scope end s
  ready_fits scope end is_scope n raw counts action s has None e h = none_some h
  ready_fits scope end is_scope n raw counts Move s has (Some state) e h =
      let at = is_scope.states n state e in
      subst (StepFits scope end) (some_inj h) (entry_fits scope end (Entered n raw) (by_work n state raw counts (first_move state raw)) tt has (work_fits scope end n state raw counts (first_move state raw) e refl has (at.catchers raw has) (at.work raw has)))
  ready_fits scope end is_scope n raw counts (Gives answer) s has (Some state) e h = none_some h
  ready_fits scope end is_scope n raw counts (FailsTask error cause) s has (Some state) e h = none_some h

  waiting_fits : (scope : Scope) (end : Shape) → InScope scope end → (n : List ℕ) (raw : Tree) (counts : List ℕ) (payload : Tree) (action : Action) (s : Step) → ActionObeys declared [] (Waiting n raw counts payload) action → Has (certified_input certificate n) raw → (found : Option State) → state_named n scope ≡ found → option_map (λ state. first_move state raw) found ≡ Some (Asks payload) → option_and_then (moves_waiting n raw counts action) found ≡ Some s → StepFits scope end s
  waiting_fits scope end is_scope n raw counts payload action s obeys has None e asks h = none_some h
  waiting_fits scope end is_scope n raw counts payload Move s obeys has (Some state) e asks h = none_some h
  waiting_fits scope end is_scope n raw counts payload (Gives answer) s obeys has (Some state) e asks h =
      let at = is_scope.states n state e in
      let fits : WorkFits declared certificate end n state raw (Asks payload) = subst (WorkFits declared certificate end n state raw) (some_inj asks) (at.work raw has) in
      subst (StepFits scope end) (some_inj h) (leaves_with_fits scope end n (settings_of state) raw counts (settings_of state).next (output_of (settings_of state) raw answer) (fits.1 answer obeys))
  waiting_fits scope end is_scope n raw counts payload (FailsTask error cause) s obeys has (Some state) e asks h =
      let at = is_scope.states n state e in
      subst (StepFits scope end) (some_inj h) (entry_fits scope end (TaskFailed n error cause) (troubled n (settings_of state) raw counts error cause) tt tt (troubled_fits scope end n (settings_of state) raw counts error cause has (at.catchers raw has)))

  joins_fits : (scope : Scope) (end : Shape) (n : List ℕ) (state : State) (raw : Tree) (counts : List ℕ) (children : Activities) (inputs : Trees) (s : Step) → IsClosedAt declared certificate end n state → Has (certified_input certificate n) raw → first_move state raw ≡ Splits inputs → how_many_children children ≡ count inputs → EachDataFits declared certificate children (child_scope (kind_of state)) (end_under certificate n (Some state)) → (joined : Joining) → joining 0 children ≡ joined → joins n state raw counts joined ≡ Some s → StepFits scope end s
  joins_fits scope end n state raw counts children inputs s at has split one_each children_fit (AllDone outputs) e h =
      let fits : WorkFits declared certificate end n state raw (Splits inputs) = subst (WorkFits declared certificate end n state raw) split (at.work raw has) in
      let done = outputs_fit 0 children (child_scope (kind_of state)) (end_under certificate n (Some state)) outputs e children_fit in
      subst (StepFits scope end) (some_inj h) (leaves_with_fits scope end n (settings_of state) raw counts (settings_of state).next (output_of (settings_of state) raw (Array outputs)) (fits.1 outputs (done.0 ∙ one_each) done.1))
  joins_fits scope end n state raw counts children inputs s at has split one_each children_fit (OneFailed i error cause) e h =
      subst (StepFits scope end) (some_inj h) (entry_fits scope end (BranchFailed n i error cause) (troubled n (settings_of state) raw counts (join_error (kind_of state) error) cause) tt tt (troubled_fits scope end n (settings_of state) raw counts (join_error (kind_of state) error) cause has (at.catchers raw has)))
  joins_fits scope end n state raw counts children inputs s at has split one_each children_fit StillRunning e h = none_some h

  split_fits : (scope : Scope) (end : Shape) → InScope scope end → (n : List ℕ) (raw : Tree) (counts : List ℕ) (children : Activities) (action : Action) (s : Step) → Has (certified_input certificate n) raw → (inputs : Trees) → how_many_children children ≡ count inputs → (found : Option State) → state_named n scope ≡ found → option_map (λ state. first_move state raw) found ≡ Some (Splits inputs) → EachDataFits declared certificate children (scope_under found) (end_under certificate n found) → option_and_then (moves_split n raw counts children action) found ≡ Some s → StepFits scope end s
  split_fits scope end is_scope n raw counts children action s has inputs one_each None e splits children_fit h = none_some h
  split_fits scope end is_scope n raw counts children Move s has inputs one_each (Some state) e splits children_fit h = joins_fits scope end n state raw counts children inputs s (is_scope.states n state e) has (some_inj splits) one_each children_fit (joining 0 children) refl h
  split_fits scope end is_scope n raw counts children (Gives answer) s has inputs one_each (Some state) e splits children_fit h = none_some h
  split_fits scope end is_scope n raw counts children (FailsTask error cause) s has inputs one_each (Some state) e splits children_fit h = none_some h

  acts_fits : (scope : Scope) (end : Shape) → InScope scope end → (a : Activity) (action : Action) (s : Step) → DataFits declared certificate a scope end → ActionObeys declared [] a action → acts scope a action ≡ Some s → StepFits scope end s
  acts_fits scope end is_scope (Ready n raw counts) action s fits obeys h = ready_fits scope end is_scope n raw counts action s fits (state_named n scope) refl h
  acts_fits scope end is_scope (Waiting n raw counts payload) action s fits obeys h = waiting_fits scope end is_scope n raw counts payload action s obeys fits.0 (state_named n scope) refl fits.2 h
  acts_fits scope end is_scope (Split n raw counts children) action s fits obeys h = split_fits scope end is_scope n raw counts children action s fits.0 fits.1.inputs fits.1.one_each (state_named n scope) refl fits.1.split fits.2 h
  acts_fits scope end is_scope (Done output) action s fits obeys h = none_some h
  acts_fits scope end is_scope (Failed error cause) action s fits obeys h = none_some h

  -- a child that fits
  child_fits : (i : ℕ) (children : Activities) (scopes : ℕ → Scope) (ends : ℕ → Shape) (child : Activity) → child_at i children ≡ Some child → EachDataFits declared certificate children scopes ends → DataFits declared certificate child (scopes i) (ends i)
  child_fits i NoActivities scopes ends child e fits = none_some e
  child_fits zero (AndActivity first others) scopes ends child e fits = subst (λ (a : Activity). DataFits declared certificate a (scopes 0) (ends 0)) (some_inj e) fits.0
  child_fits (suc i) (AndActivity first others) scopes ends child e fits = child_fits i others (λ k. scopes (suc k)) (λ k. ends (suc k)) child e fits.1

  -- children with one replaced by what fits
  replaced_fit : (i : ℕ) (children : Activities) (scopes : ℕ → Scope) (ends : ℕ → Shape) (a : Activity) → EachDataFits declared certificate children scopes ends → DataFits declared certificate a (scopes i) (ends i) → EachDataFits declared certificate (set_child i a children) scopes ends
  replaced_fit i NoActivities scopes ends a fits new = tt
  replaced_fit zero (AndActivity first others) scopes ends a fits new = (new, fits.1)
  replaced_fit (suc i) (AndActivity first others) scopes ends a fits new = (fits.0, replaced_fit i others (λ k. scopes (suc k)) (λ k. ends (suc k)) a fits.1 new)

  replaced_number : (i : ℕ) (a : Activity) (children : Activities) → how_many_children (set_child i a children) ≡ how_many_children children
  replaced_number i a NoActivities = refl
  replaced_number zero a (AndActivity first others) = refl
  replaced_number (suc i) a (AndActivity first others) = ap suc (replaced_number i a others)

  -- what a step at a place is to be, where the place's scope and the whole's have these ends
  pub record MoveFits (scope : Scope) (end placed_end : Shape) (s : Step) : Type 0 where
    pub quiet : NoneRaises s.entries
    pub entries : EachIsAsCertified declared certificate placed_end s.entries
    pub after : DataFits declared certificate s.after scope end

  -- an answer that obeys in the whole obeys in the child
  obeys_below : (i : ℕ) (p : List ℕ) (n : List ℕ) (raw : Tree) (counts : List ℕ) (children : Activities) (child : Activity) (action : Action) → child_at i children ≡ Some child → ActionObeys declared (i ∷ p) (Split n raw counts children) action → ActionObeys declared p child action
  obeys_below i p n raw counts children child Move e obeys = tt
  obeys_below i p n raw counts children child (Gives answer) e obeys = subst (λ (found : Option Activity). AnswerObeys declared (option_and_then waiting_name (option_and_then (activity_at p) found)) answer) e obeys
  obeys_below i p n raw counts children child (FailsTask error cause) e obeys = tt

  -- the scope of a Split's child is a scope of the machine
  child_is_scope : (scope : Scope) (end : Shape) → InScope scope end → (n : List ℕ) (raw : Tree) (work : Work) (i : ℕ) (found : Option State) → state_named n scope ≡ found → option_map (λ state. first_move state raw) found ≡ Some work → InScope (scope_under found i) (end_under certificate n found i)
  child_is_scope scope end is_scope n raw work i None e h = none_some h
  child_is_scope scope end is_scope n raw work i (Some state) e h = record { is = scope_of_child n state i is_scope.is e; states = closed.children scope is_scope.is n state e i }

  -- a step of a child, as one of the whole
  within_fits : (scope : Scope) (end : Shape) (n : List ℕ) (raw : Tree) (counts : List ℕ) (children : Activities) (i : ℕ) (placed_end : Shape) (s inner : Step) → DataFits declared certificate (Split n raw counts children) scope end → MoveFits (scope_below scope n i) (end_under certificate n (state_named n scope) i) placed_end inner → within n raw counts children i inner ≡ s → MoveFits scope end placed_end s
  within_fits scope end n raw counts children i placed_end s inner fits moved h = subst (MoveFits scope end placed_end) h (record {
    quiet = moved.quiet;
    entries = moved.entries;
    after = (fits.0, record { inputs = fits.1.inputs; split = fits.1.split; one_each = replaced_number i inner.after children ∙ fits.1.one_each }, replaced_fit i children (scope_below scope n) (end_under certificate n (state_named n scope)) inner.after fits.2 moved.after);
  })

  -- one step at any place
  step_fits : (p : List ℕ) (scope : Scope) (end : Shape) → InScope scope end → (a : Activity) (action : Action) (s : Step) → DataFits declared certificate a scope end → ActionObeys declared p a action → step_at p scope a action ≡ Some s → MoveFits scope end (end_at certificate p scope end a) s
  step_fits [] scope end is_scope a action s fits obeys h = let done = acts_fits scope end is_scope a action s fits obeys h in record { quiet = done.quiet; entries = done.entries; after = done.after }
  step_fits (i ∷ p) scope end is_scope (Ready n raw counts) action s fits obeys h = none_some h
  step_fits (i ∷ p) scope end is_scope (Waiting n raw counts payload) action s fits obeys h = none_some h
  step_fits (i ∷ p) scope end is_scope (Split n raw counts children) action s fits obeys h = go (child_at i children) refl h
      (λ child t. step_fits p (scope_below scope n i) (end_under certificate n (state_named n scope) i) (child_is_scope scope end is_scope n raw (Splits fits.1.inputs) i (state_named n scope) refl fits.1.split) child action t)
    where
      End : Option Activity → Shape
      End found = end_of_child (λ child. end_at certificate p (scope_below scope n i) (end_under certificate n (state_named n scope) i) child) found

      there : (child : Activity) → child_at i children ≡ Some child → (stepped : Option Step) → step_at p (scope_below scope n i) child action ≡ stepped → option_map (within n raw counts children i) stepped ≡ Some s
          → ((t : Step) → DataFits declared certificate child (scope_below scope n i) (end_under certificate n (state_named n scope) i) → ActionObeys declared p child action → step_at p (scope_below scope n i) child action ≡ Some t → MoveFits (scope_below scope n i) (end_under certificate n (state_named n scope) i) (end_at certificate p (scope_below scope n i) (end_under certificate n (state_named n scope) i) child) t)
          → MoveFits scope end (End (Some child)) s
      there child e None f g inner = none_some g
      there child e (Some t) f g inner = within_fits scope end n raw counts children i (End (Some child)) s t fits (inner t (child_fits i children (scope_below scope n) (end_under certificate n (state_named n scope)) child e fits.2) (obeys_below i p n raw counts children child action e obeys) f) (some_inj g)

      go : (found : Option Activity) → child_at i children ≡ found → option_map (within n raw counts children i) (option_and_then (λ child. step_at p (scope_below scope n i) child action) found) ≡ Some s
          → ((child : Activity) (t : Step) → DataFits declared certificate child (scope_below scope n i) (end_under certificate n (state_named n scope) i) → ActionObeys declared p child action → step_at p (scope_below scope n i) child action ≡ Some t → MoveFits (scope_below scope n i) (end_under certificate n (state_named n scope) i) (end_at certificate p (scope_below scope n i) (end_under certificate n (state_named n scope) i) child) t)
          → MoveFits scope end (End (child_at i children)) s
      go None e g inner = none_some g
      go (Some child) e g inner = subst (λ (found : Option Activity). MoveFits scope end (End found) s) (sym e) (there child e (step_at p (scope_below scope n i) child action) refl g (inner child))
  step_fits (i ∷ p) scope end is_scope (Done output) action s fits obeys h = none_some h
  step_fits (i ∷ p) scope end is_scope (Failed error cause) action s fits obeys h = none_some h

  -- an event leaves the data of the machine's activity as certified
  pub event_fits : (a : Activity) (event : Event) → DataFits declared certificate a machine certificate.output → (taken : Option Step) → step machine a event ≡ taken → TakenObeys declared event.place a event.action taken → NoneRaises (entries_of taken) × EachIsAsCertified declared certificate (end_at certificate event.place machine certificate.output a) (entries_of taken) × DataFits declared certificate (after_step a taken) machine certificate.output
  event_fits a event fits None e obeys = (tt, tt, fits)
  event_fits a event fits (Some s) e obeys = let moved = step_fits event.place machine certificate.output (record { is = own_scope; states = closed.own }) a event.action s fits obeys e in (moved.quiet, moved.entries, moved.after)

  -- all turns from an activity on
  pub turns_fit : (a : Activity) (events : List Event) → DataFits declared certificate a machine certificate.output → AnswersObey declared (run machine a events) → NoTurnRaises (run machine a events) × TurnsAreAsCertified declared certificate machine (run machine a events)
  turns_fit a [] fits obeys = (tt, tt)
  turns_fit a (event ∷ events) fits obeys =
      let first = event_fits a event fits (step machine a event) refl obeys.0 in
      let further = turns_fit (after_step a (step machine a event)) events first.2 obeys.1 in
      ((first.0, further.0), (first.1, further.1))

  -- the start
  pub start_fits : (input : Tree) → Has declared.input input → DataFits declared certificate (start machine input) machine certificate.output
  start_fits input has = closed.start input has
