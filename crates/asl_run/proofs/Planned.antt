-- Plans from their parts.
use Rattle.std.proofs.Common.{◌≡◌, refl, ap, ◌∙◌, Bor, ℕ, List, Vec, Global, [], ◌∷◌, map, subst, sym, Option, Some, None, IfSome, option_map, Result, Ok, Err, IfOk, IsOkAnd, codes}
use Rattle.std.specs.declared.rc.Rc.{Rc}
use Rattle.asl_states.specs.Machine.{kind_view, settings_view, target_name}
use Rattle.asl_states.specs.declared.target.Target.{Target}
use Rattle.asl_model.specs.Faults as faults
use Rattle.asl_model.specs.Faults.{ResultPathMatchFailure, error_name}
use Rattle.asl_model.specs.Flow as flow
use Rattle.asl_model.specs.Flow.{output_of}
use Rattle.asl_model.specs.Machine.{child_scope}
use Rattle.asl_model.specs.Run as model
use Rattle.asl_model.specs.Tree.{Tree}
use Rattle.asl_tree.specs.View.{view}
use Rattle.asl_tree.specs.declared.Tree as code
use Rattle.asl_run.specs.Acting.{IsAt, MayCome, MayFollow, Plans, by_settings, by_state, by_trouble_at, names_at, state_at, told_at}
use Rattle.asl_processing.specs.Activities.{Begins, StartIn, inputs_of, ready_children}
use Rattle.asl_run.specs.Entries.{ended_view, entry_view}
use Rattle.asl_run.specs.Changing.{changed}
use Rattle.asl_processing.specs.Data.{datum_view}
use Rattle.asl_processing.specs.Faults.{error_view, fault_view}
use Rattle.asl_processing.specs.Flowing.{Flows}
use Rattle.asl_processing.specs.Leading.{Leads}
use Rattle.asl_processing.specs.Troubles.{CanRise, trouble_view}
use Rattle.asl_processing.specs.declared.activities.Visit.{Visit}
use Rattle.asl_run.specs.declared.changing.Change.{Change}
use Rattle.asl_run.specs.declared.changing.Change.TheVariants.{Ask, End, Enter, Retry, SplitInto}
use Rattle.asl_run.specs.declared.entries.Entry.{Entry}
use Rattle.asl_run.specs.declared.entries.Outcome.{Outcome}
use Rattle.asl_run.specs.declared.entries.Outcome.TheVariants as outcomes
use Rattle.asl_processing.specs.declared.faults.Fault.{Fault}
use Rattle.asl_processing.specs.declared.faults.Stop.{Stop}
use Rattle.asl_processing.specs.declared.faults.Stop.TheVariants as stops
use Rattle.asl_run.specs.declared.planning.Here.{Here}
use Rattle.asl_run.specs.declared.planning.Plan.{Plan}
use Rattle.asl_processing.specs.declared.troubles.Trouble.{Trouble}
use Rattle.asl_processing.specs.declared.working.Work.TheVariants as works

-- a change leaves that, and a count that is to rise can
pub record Leaves (here : Here) (change : Change) (after : model.Activity) : Type 0 where
  pub left : IsAt here → changed (names_at here) here.visit.now change ≡ after
  pub rises : (i : ℕ) → change ≡ Retry i → CanRise here.visit.now.counts.items i

-- a state is about to be entered
pub becomes : (here : Here) (next : Visit) (after : model.Activity) → (IsAt here → changed (names_at here) here.visit.now (Enter next) ≡ after) → Leaves here (Enter next) after
becomes here next after is = record { left = is; rises = λ i e. absurd (cc) }

-- a plan without an entry
pub begun : (here : Here) (plan : Plan) (change : Change) (after : model.Activity) → plan.entries.items ≡ [] → plan.change ≡ change → Leaves here change after → Plans here plan (record { entries = []; after = after })
begun here plan change after none is leaves = record {
  told = ap (map entry_view) none;
  left = λ stands. ap (changed (names_at here) here.visit.now) is ∙ leaves.left stands;
  rises = λ i e. leaves.rises i (sym is ∙ e);
}

-- with one more entry in front
pub preceded : (here : Here) (plan before : Plan) (made : Entry) (entry : model.Entry) (step : model.Step) → plan.entries.items ≡ made ∷ before.entries.items → plan.change ≡ before.change → entry_view made ≡ told_at here.at.now entry → Plans here before step
    → Plans here plan (model.entry_then entry step)
preceded here plan before made entry step first same told plans = record {
  told = ap (map entry_view) first ∙ ap (λ e. e ∷ map entry_view before.entries.items) told ∙ ap (λ es. told_at here.at.now entry ∷ es) plans.told;
  left = λ stands. ap (changed (names_at here) here.visit.now) same ∙ plans.left stands;
  rises = λ i e. plans.rises i (sym same ∙ e);
}

-- with an entry alone
pub told_once : (here : Here) (plan before : Plan) (made : Entry) (entry : model.Entry) (change : Change) (after : model.Activity) → before.entries.items ≡ [] → before.change ≡ change → plan.entries.items ≡ made ∷ before.entries.items → plan.change ≡ before.change
    → entry_view made ≡ told_at here.at.now entry → Leaves here change after → Plans here plan (record { entries = entry ∷ []; after = after })
told_once here plan before made entry change after none is first same told leaves =
    preceded here plan before made entry (record { entries = []; after = after }) first same told (begun here before change after none is leaves)

-- the execution goes on at a target that may follow
pub moves_on : (here : Here) (visit : Visit) (next : Target) (input : Rc code.Tree Global) → Begins next.number visit → visit.raw ≡ input → MayFollow here next → Leaves here (Enter visit) (model.Ready (target_name next) (view input.value) [])
moves_on here visit next input begins given follows = becomes here visit (model.Ready (target_name next) (view input.value) [])
    (λ stands. rw (begins.state, begins.uncounted, given, (follows.leads stands).named) refl)

-- what `Next` names may follow
pub next_follows : (here : Here) (next : Option (Bor Target)) → option_map (λ (t : Bor Target). t.now) next ≡ here.state.now.settings.next → IfSome next (λ t. MayFollow here t.now)
next_follows here None is = tt
next_follows here (Some t) is = record {
  leads = λ stands. let leads = stands.leads.settings.next in subst (λ (o : Option Target). IfSome o (Leads (names_at here))) (sym is) leads;
}

-- ---- what comes of what may want memory

-- under a further premise
pub with_premise : {E : Type 0} (here : Here) (r : Result Plan E) (premise : Type 0) (step : model.Step) → IfOk r (λ p. Plans here p step) → IfOk r (λ p. premise → Plans here p step)
with_premise here (Ok p) premise step plans = λ h. plans
with_premise here (Err e) premise step plans = tt

-- one more entry in front
pub preceded_so : {E F : Type 0} (here : Here) (r : Result Plan E) (before : Plan) (made : Result Entry F) (entry : model.Entry) (step : model.Step) → IfOk r (λ p. IsOkAnd made (λ m. p.entries.items ≡ m ∷ before.entries.items)) → IfOk r (λ p. p.change ≡ before.change)
    → IfOk made (λ m. entry_view m ≡ told_at here.at.now entry) → Plans here before step → IfOk r (λ p. Plans here p (model.entry_then entry step))
preceded_so here (Ok p) before (Ok made) entry step first same told plans = preceded here p before made entry step first same told plans
preceded_so here (Ok p) before (Err e) entry step first same told plans = absurd first
preceded_so here (Err e) before made entry step first same told plans = tt

-- an entry alone
pub told_so : {E F : Type 0} (here : Here) (r : Result Plan E) (before : Plan) (made : Result Entry F) (entry : model.Entry) (change : Change) (after : model.Activity) → before.entries.items ≡ [] → before.change ≡ change
    → IfOk r (λ p. IsOkAnd made (λ m. p.entries.items ≡ m ∷ before.entries.items)) → IfOk r (λ p. p.change ≡ before.change) → IfOk made (λ m. entry_view m ≡ told_at here.at.now entry) → Leaves here change after
    → IfOk r (λ p. Plans here p (record { entries = entry ∷ []; after = after }))
told_so here (Ok p) before (Ok made) entry change after none is first same told leaves = told_once here p before made entry change after none is first same told leaves
told_so here (Ok p) before (Err e) entry change after none is first same told leaves = absurd first
told_so here (Err e) before made entry change after none is first same told leaves = tt

-- the scope ends
pub ended_so : {E F : Type 0} (here : Here) (r : Result Plan E) (before : Plan) (made : Result Entry F) (outcome : Outcome) (told_as : model.Outcome) (after : model.Activity) → ended_view outcome ≡ after → before.entries.items ≡ [] → before.change ≡ End outcome
    → IfOk r (λ p. IsOkAnd made (λ m. p.entries.items ≡ m ∷ before.entries.items)) → IfOk r (λ p. p.change ≡ before.change) → IfOk made (λ m. entry_view m ≡ told_at here.at.now (model.Ended told_as))
    → IfOk r (λ p. Plans here p (record { entries = model.Ended told_as ∷ []; after = after }))
ended_so here r before made outcome told_as after seen none is first same told =
    told_so here r before made (model.Ended told_as) (End outcome) after none is first same told (record { left = λ stands. seen; rises = λ i e. absurd (cc) })

-- ---- errors

-- what comes of an error is the step in trouble
pub troubled_so : {E : Type 0} (here : Here) (r : Result Plan E) (error cause counts : List ℕ) (met : Trouble) (trouble : model.Trouble) → trouble_view met ≡ trouble → counts ≡ here.visit.now.counts.items
    → trouble_view met ≡ model.trouble_of (settings_view here.state.now.settings) (view here.visit.now.raw.value) counts error cause → IfOk r (λ p. (e k : List ℕ) → Plans here p (by_trouble_at here e k trouble)) → IfOk r (λ p. Plans here p (by_settings model.troubled here error cause))
troubled_so here (Ok p) error cause counts met trouble seen same is plans =
    subst (λ t. Plans here p (by_trouble_at here error cause t)) (sym seen ∙ is ∙ ap (λ cs. model.trouble_of (settings_view here.state.now.settings) (view here.visit.now.raw.value) cs error cause) same) (plans error cause)
troubled_so here (Err e) error cause counts met trouble seen same is plans = tt

-- a retrier retries
pub retried_so : {E F : Type 0} (here : Here) (r : Result Plan E) (before : Plan) (made : Result Entry F) (i : ℕ) → CanRise here.visit.now.counts.items i → before.entries.items ≡ [] → before.change ≡ Retry i
    → IfOk r (λ p. IsOkAnd made (λ m. p.entries.items ≡ m ∷ before.entries.items)) → IfOk r (λ p. p.change ≡ before.change) → IfOk made (λ m. entry_view m ≡ told_at here.at.now (model.Retried here.name.now i))
    → IfOk r (λ p. (e k : List ℕ) → Plans here p (by_trouble_at here e k (model.Retries i)))
retried_so here (Ok p) before (Ok made) i rises none is first same told = λ e k.
    told_once here p before made (model.Retried here.name.now i) (Retry i) (model.Ready here.name.now (view here.visit.now.raw.value) (model.one_higher i here.visit.now.counts.items)) none is first same told (record {
      left = λ stands. ap (λ n. model.Ready n (view here.visit.now.raw.value) (model.one_higher i here.visit.now.counts.items)) (sym stands.named);
      rises = λ j e. let same_number : i ≡ j = cc in subst (CanRise here.visit.now.counts.items) same_number rises;
    })
retried_so here (Ok p) before (Err x) i rises none is first same told = absurd first
retried_so here (Err x) before made i rises none is first same told = tt

-- a catcher hands on to a state that may follow
pub handed_on : {E F : Type 0} (here : Here) (r : Result Plan E) (before : Plan) (made : Result Entry F) (visit : Visit) (i : ℕ) (next : Target) (input : Rc code.Tree Global) → before.entries.items ≡ [] → before.change ≡ Enter visit
    → IfOk r (λ p. IsOkAnd made (λ m. p.entries.items ≡ m ∷ before.entries.items)) → IfOk r (λ p. p.change ≡ before.change) → IfOk made (λ m. entry_view m ≡ told_at here.at.now (model.Caught here.name.now i (target_name next)))
    → Begins next.number visit → visit.raw ≡ input → IfOk r (λ p. MayFollow here next → (e k : List ℕ) → Plans here p (by_trouble_at here e k (model.Catches i (target_name next) (view input.value))))
handed_on here (Ok p) before (Ok made) visit i next input none is first same told begins given = λ follows e k.
    told_once here p before made (model.Caught here.name.now i (target_name next)) (Enter visit) (model.Ready (target_name next) (view input.value) []) none is first same told (moves_on here visit next input begins given follows)
handed_on here (Ok p) before (Err x) visit i next input none is first same told begins given = absurd first
handed_on here (Err x) before made visit i next input none is first same told begins given = tt

-- so it does where it takes the error
pub caught_so : {E : Type 0} (here : Here) (r : Result Plan E) (error cause counts : List ℕ) (met : Trouble) (trouble : model.Trouble) (next : Target) → trouble_view met ≡ trouble → counts ≡ here.visit.now.counts.items
    → trouble_view met ≡ model.trouble_of (settings_view here.state.now.settings) (view here.visit.now.raw.value) counts error cause → (IsAt here → Leads (names_at here) next) → IfOk r (λ p. MayFollow here next → (e k : List ℕ) → Plans here p (by_trouble_at here e k trouble))
    → IfOk r (λ p. Plans here p (by_settings model.troubled here error cause))
caught_so {E = E} here (Ok p) error cause counts met trouble next seen same is follows plans = troubled_so {E = E} here (Ok p) error cause counts met trouble seen same is (plans (record { leads = follows }))
caught_so here (Err e) error cause counts met trouble next seen same is follows plans = tt

-- its output can't be placed
pub misfitted : {E F : Type 0} (here : Here) (r : Result Plan E) (before : Plan) (made : Result Entry F) (name : List ℕ) → name ≡ error_name ResultPathMatchFailure → Plans here before (model.ends_failing name (codes "Catch"))
    → IfOk r (λ p. IsOkAnd made (λ m. p.entries.items ≡ m ∷ before.entries.items)) → IfOk r (λ p. p.change ≡ before.change) → IfOk made (λ m. entry_view m ≡ told_at here.at.now (model.Raised here.name.now (record { error = ResultPathMatchFailure; field = codes "Catch" })))
    → IfOk r (λ p. (e k : List ℕ) → Plans here p (by_trouble_at here e k model.Misfits))
misfitted here (Ok p) before (Ok made) name is plans first same told = λ e k.
    preceded here p before made (model.Raised here.name.now (record { error = ResultPathMatchFailure; field = codes "Catch" })) (model.ends_failing (error_name ResultPathMatchFailure) (codes "Catch")) first same told
    (subst (λ n. Plans here before (model.ends_failing n (codes "Catch"))) is plans)
misfitted here (Ok p) before (Err x) name is plans first same told = absurd first
misfitted here (Err x) before made name is plans first same told = tt

-- a fault is raised
pub raised_so : {E F : Type 0} (here : Here) (r : Result Plan E) (before : Plan) (made : Result Entry F) (fault : Fault) (name : List ℕ) → name ≡ error_name (error_view fault.error) → Plans here before (by_settings model.troubled here name fault.field.now)
    → IfOk r (λ p. IsOkAnd made (λ m. p.entries.items ≡ m ∷ before.entries.items)) → IfOk r (λ p. p.change ≡ before.change) → IfOk made (λ m. entry_view m ≡ told_at here.at.now (model.Raised here.name.now (fault_view fault))) → IfOk r (λ p. Plans here p (by_settings model.faulted here (fault_view fault)))
raised_so here r before made fault name is plans first same told =
    preceded_so here r before made (model.Raised here.name.now (fault_view fault)) (by_settings model.troubled here (error_name (error_view fault.error)) fault.field.now) first same told
    (subst (λ n. Plans here before (by_settings model.troubled here n fault.field.now)) is plans)

-- ---- leaving

-- for the next state
pub left_on : {E F : Type 0} (here : Here) (r : Result Plan E) (before : Plan) (made : Result Entry F) (visit : Visit) (next : Target) (output : Rc code.Tree Global) → before.entries.items ≡ [] → before.change ≡ Enter visit
    → IfOk r (λ p. IsOkAnd made (λ m. p.entries.items ≡ m ∷ before.entries.items)) → IfOk r (λ p. p.change ≡ before.change) → IfOk made (λ m. entry_view m ≡ told_at here.at.now (model.Left here.name.now (view output.value)))
    → Begins next.number visit → visit.raw ≡ output → IfOk r (λ p. MayFollow here next → Plans here p (model.leaves_for here.name.now (Some (target_name next)) (view output.value)))
left_on here (Ok p) before (Ok made) visit next output none is first same told begins given = λ follows.
    told_once here p before made (model.Left here.name.now (view output.value)) (Enter visit) (model.Ready (target_name next) (view output.value) []) none is first same told (moves_on here visit next output begins given follows)
left_on here (Ok p) before (Err x) visit next output none is first same told begins given = absurd first
left_on here (Err e) before made visit next output none is first same told begins given = tt

-- for the end of its scope
pub left_last : (here : Here) (entries : Vec Entry Global) (output : Rc code.Tree Global) → map entry_view entries.items ≡ map (told_at here.at.now) (model.Left here.name.now (view output.value) ∷ model.Ended (model.Output (view output.value)) ∷ [])
    → Plans here (record { entries = entries; change = End (outcomes.Output output) }) (model.leaves_for here.name.now None (view output.value))
left_last here entries output told = record { told = told; left = λ stands. refl; rises = λ i e. absurd (cc) }

-- the two entries then
pub left_and_ended : {E F G : Type 0} (place : List ℕ) (r : Result (Vec Entry Global) E) (ended : Result Entry F) (left : Result Entry G) (none behind : List Entry) (last first : model.Entry) → none ≡ []
    → IsOkAnd ended (λ m. behind ≡ m ∷ none) → IfOk ended (λ m. entry_view m ≡ told_at place last) → IfOk r (λ all. IsOkAnd left (λ m. all.items ≡ m ∷ behind)) → IfOk left (λ m. entry_view m ≡ told_at place first)
    → IfOk r (λ all. map entry_view all.items ≡ map (told_at place) (first ∷ last ∷ []))
left_and_ended place (Ok all) (Ok ended) (Ok left) none behind last first empty ends told_last leaves told_first =
    ap (map entry_view) (leaves ∙ ap (λ es. left ∷ es) (ends ∙ ap (λ es. ended ∷ es) empty)) ∙ ap (λ x. x ∷ entry_view ended ∷ []) told_first ∙ ap (λ x. told_at place first ∷ x ∷ []) told_last
left_and_ended place (Ok all) (Ok ended) (Err e) none behind last first empty ends told_last leaves told_first = absurd leaves
left_and_ended place (Ok all) (Err e) left none behind last first empty ends told_last leaves told_first = absurd ends
left_and_ended place (Err e) ended left none behind last first empty ends told_last leaves told_first = tt

-- with an output
pub left_with : {E : Type 0} (here : Here) (r : Result Plan E) (follows : Type 0) (next : Option (List ℕ)) (t : Rc code.Tree Global) → IfOk r (λ p. follows → Plans here p (model.leaves_for here.name.now next (view t.value)))
    → IfOk r (λ p. (defined : Result Tree faults.Fault) → Flows datum_view (Ok t) defined → follows → Plans here p (by_settings model.leaves_with here next defined))
left_with here (Ok p) follows next t plans = λ defined flows may. let is : defined ≡ Ok (view t.value) = flows.gives in subst (λ d. Plans here p (by_settings model.leaves_with here next d)) (sym is) (plans may)
left_with here (Err e) follows next t plans = tt

-- with a fault in its place
pub left_raising : {E : Type 0} (here : Here) (r : Result Plan E) (follows : Type 0) (next : Option (List ℕ)) (output : Result (Rc code.Tree Global) Stop) (fault : Fault) → output ≡ Err (stops.Fault fault) → IfOk r (λ p. Plans here p (by_settings model.faulted here (fault_view fault)))
    → IfOk r (λ p. (defined : Result Tree faults.Fault) → Flows datum_view output defined → follows → Plans here p (by_settings model.leaves_with here next defined))
left_raising here (Ok p) follows next output fault met plans = λ defined flows may. let is : defined ≡ Err (fault_view fault) = flows.fails fault met in subst (λ d. Plans here p (by_settings model.leaves_with here next d)) (sym is) plans
left_raising here (Err e) follows next output fault met plans = tt

-- the name of a target that is lent
seen_lent : (next : Option (Bor Target)) → option_map (λ (t : Bor Target). target_name t.now) next ≡ option_map target_name (option_map (λ (t : Bor Target). t.now) next)
seen_lent None = refl
seen_lent (Some t) = refl

-- with what comes of its result
pub finished_so : {E : Type 0} (here : Here) (r : Result Plan E) (next : Option (Bor Target)) (output : Result (Rc code.Tree Global) Stop) (result : Tree) → option_map (λ (t : Bor Target). t.now) next ≡ here.state.now.settings.next
    → Flows datum_view output (output_of (settings_view here.state.now.settings) (view here.visit.now.raw.value) result)
    → IfOk r (λ p. (defined : Result Tree faults.Fault) → Flows datum_view output defined → IfSome next (λ t. MayFollow here t.now) → Plans here p (by_settings model.leaves_with here (option_map (λ (t : Bor Target). target_name t.now) next) defined))
    → IfOk r (λ p. Plans here p (by_settings model.finishes here result))
finished_so here (Ok p) next output result is flows plans =
    let defined = output_of (settings_view here.state.now.settings) (view here.visit.now.raw.value) result in
    subst (λ o. Plans here p (by_settings model.leaves_with here o defined)) (seen_lent next ∙ ap (option_map target_name) is) (plans defined flows (next_follows here next is))
finished_so here (Err e) next output result is flows plans = tt

-- ---- entering

-- its first move
pub entered_so : {E F : Type 0} (here : Here) (r : Result Plan E) (before : Plan) (made : Result Entry F) (work : flow.Work) → work ≡ flow.first_move (state_at here) (view here.visit.now.raw.value) → Plans here before (by_state model.by_work here work)
    → IfOk r (λ p. IsOkAnd made (λ m. p.entries.items ≡ m ∷ before.entries.items)) → IfOk r (λ p. p.change ≡ before.change) → IfOk made (λ m. entry_view m ≡ told_at here.at.now (model.Entered here.name.now (view here.visit.now.raw.value)))
    → IfOk r (λ p. Plans here p (by_state model.enters here))
entered_so here r before made work is plans first same told =
    preceded_so here r before made (model.Entered here.name.now (view here.visit.now.raw.value)) (by_state model.by_work here (flow.first_move (state_at here) (view here.visit.now.raw.value))) first same told
    (subst (λ w. Plans here before (by_state model.by_work here w)) is plans)

-- a first move that leaves for that target may follow
may_leave : (here : Here) (next : Option (Bor Target)) (input : _) → MayCome here (works.Leaves next input) → IfSome next (λ t. MayFollow here t.now)
may_leave here None input may = tt
may_leave here (Some t) input may = record { leads = may.leads }

-- it leaves so
pub carried_off : {E : Type 0} (here : Here) (r : Result Plan E) (next : Option (Bor Target)) (input : _) (output : Result (Rc code.Tree Global) Stop) (v : Tree) → Flows datum_view output (flow.at_output_path (settings_view here.state.now.settings) v)
    → IfOk r (λ p. (defined : Result Tree faults.Fault) → Flows datum_view output defined → IfSome next (λ t. MayFollow here t.now) → Plans here p (by_settings model.leaves_with here (option_map (λ (t : Bor Target). target_name t.now) next) defined))
    → IfOk r (λ p. MayCome here (works.Leaves next input) → Plans here p (by_state model.by_work here (flow.Leaves (option_map (λ (t : Bor Target). target_name t.now) next) v)))
carried_off here (Ok p) next input output v flows plans = λ may. plans (flow.at_output_path (settings_view here.state.now.settings) v) flows (may_leave here next input may)
carried_off here (Err e) next input output v flows plans = tt

-- it waits for the answer to its payload
pub waits_so : {E F : Type 0} (here : Here) (r : Result Plan E) (before : Plan) (made : Result Entry F) (payload : Rc code.Tree Global) → before.entries.items ≡ [] → before.change ≡ Ask payload
    → IfOk r (λ p. IsOkAnd made (λ m. p.entries.items ≡ m ∷ before.entries.items)) → IfOk r (λ p. p.change ≡ before.change) → IfOk made (λ m. entry_view m ≡ told_at here.at.now (model.Asked here.name.now (view payload.value)))
    → IfOk r (λ p. Plans here p (by_state model.by_work here (flow.Asks (view payload.value))))
waits_so here r before made payload none is first same told =
    told_so here r before made (model.Asked here.name.now (view payload.value)) (Ask payload) (model.Waiting here.name.now (view here.visit.now.raw.value) here.visit.now.counts.items (view payload.value)) none is first same told (record {
      left = λ stands. ap (λ n. model.Waiting n (view here.visit.now.raw.value) here.visit.now.counts.items (view payload.value)) (sym stands.named);
      rises = λ i e. absurd (cc);
    })

-- one that asks
pub asked_so : {E : Type 0} (here : Here) (r : Result Plan E) (t v : Tree) → t ≡ v → IfOk r (λ p. Plans here p (by_state model.by_work here (flow.Asks t))) → IfOk r (λ p. Plans here p (by_state model.by_work here (flow.Asks v)))
asked_so here (Ok p) t v is plans = subst (λ u. Plans here p (by_state model.by_work here (flow.Asks u))) is plans
asked_so here (Err e) t v is plans = tt

-- one that splits
pub split_so : (here : Here) (plan : Plan) (children : Vec Visit Global) → plan.entries.items ≡ [] → plan.change ≡ SplitInto children → (IsAt here → StartIn (names_at here) (child_scope (kind_view here.state.now.kind)) children.items)
    → Plans here plan (by_state model.by_work here (flow.Splits (inputs_of children.items)))
split_so here plan children none is starts =
    let inputs = inputs_of children.items in
    let scopes = child_scope (kind_view here.state.now.kind) in
    let raw = view here.visit.now.raw.value in
    let counts = here.visit.now.counts.items in
    begun here plan (SplitInto children) (model.Split here.name.now raw counts (model.started scopes inputs)) none is (record {
      left = λ stands. let start = starts stands in ap (λ n. model.Split n raw counts (ready_children (names_at here) children.items)) (sym stands.named) ∙ ap (model.Split here.name.now raw counts) start.started;
      rises = λ i e. absurd (cc);
    })
