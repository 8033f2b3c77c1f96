-- The step of an activity itself, from what is planned there.
use Rattle.std.proofs.Common.{◌≡◌, ◌≢◌, ◌↔◌, Bool, true, false, Bor, IsTrue, is_some, not, option_map, refl, sym, ap, ◌∙◌, subst, ℕ, List, [], map, slice_get, IfSome, Option, Some, None, option_and_then, Ok, Err, Vec, Global}
use Rattle.std.proofs.lemmas.Option.{get_or_from_slice_get, slice_get-map, slice_get_within}
use Rattle.asl_states.specs.Machine.{state_view}
use Rattle.asl_states.specs.Numbered.{AreNumbered}
use Rattle.asl_machine_table.specs.Table.{Shows, states_in, table_view}
use Rattle.asl_states.specs.declared.states.State as code
use Rattle.asl_machine_table.specs.declared.machine.Machine.{Machine}
use Rattle.asl_model.specs.Machine.{Scope, State, state_named}
use Rattle.asl_model.specs.Numbering.{HasNamed, IsScopeOf, Table, outline, table_of}
use Rattle.asl_model.specs.Run as model
use Rattle.asl_model.proofs.Outlines.{moves_ready_outlined, moves_waiting_outlined, moves_split_outlined}
use Rattle.asl_model.proofs.RunOptions.{some_inj, none_some, there_some}
use Rattle.asl_run.specs.Acting.{Acts, ActsSo, StandsAt, action_of, moves}
use Rattle.asl_run.specs.Changing.{changed, visit_in}
use Rattle.asl_run.specs.Enabling.{wanted_by}
use Rattle.asl_run.specs.Entries.{answer_view, entry_view}
use Rattle.asl_processing.specs.Leading.{LeadsOn}
use Rattle.asl_run.specs.Standing.{StandsIn, name_in}
use Rattle.asl_run.specs.Nodes.{shown_over}
use Rattle.asl_run.specs.Stepping.{RefusesThere, Steps}
use Rattle.asl_processing.specs.declared.activities.Visit.{Visit}
use Rattle.asl_run.specs.declared.entries.Answer.{Answer}
use Rattle.asl_run.specs.declared.entries.Answer.TheVariants as answers
use Rattle.asl_run.specs.declared.entries.Outcome.TheVariants as outcomes
use Rattle.asl_run.specs.declared.nodes.Node.{Node}
use Rattle.asl_run.specs.declared.nodes.Node.TheVariants as nodes
use Rattle.asl_run.specs.declared.planning.Plan.{Plan}
use Rattle.asl_run.specs.declared.stepping.StepRefusal.{StepRefusal}
use Rattle.asl_run.specs.declared.stepping.StepRefusal.TheVariants.{NotEnabled, OutOfMemory}
use Rattle.asl_run.proofs.Leading.{IsFound, NamesNumbered, is_found, leads_on}
use Rattle.asl_run.proofs.OpenPlaces.{acts_as_wanted}

-- ---- the state's execution that stands there

-- an activity is that of an execution of the state of that name
abbrev IsOf : List ℕ → model.Activity → Type 0
IsOf n (model.Ready m raw counts) = m ≡ n
IsOf n (model.Waiting m raw counts payload) = m ≡ n
IsOf n (model.Split m raw counts children) = m ≡ n
IsOf n (model.Done output) = ⊥
IsOf n (model.Failed error cause) = ⊥

-- an activity is that of no execution
abbrev IsOfNone : model.Activity → Type 0
IsOfNone (model.Ready m raw counts) = ⊥
IsOfNone (model.Waiting m raw counts payload) = ⊥
IsOfNone (model.Split m raw counts children) = ⊥
IsOfNone (model.Done output) = Unit {0}
IsOfNone (model.Failed error cause) = Unit {0}

is_of : (names : List (List ℕ)) (below : model.Activities) (node : Node) (visit : Visit) → visit_in node ≡ Some visit → IsOf (name_in names visit.state) (shown_over names below node)
is_of names below (nodes.Ready v) visit e = ap (λ (w : Visit). name_in names w.state) (some_inj e)
is_of names below (nodes.Waiting v payload) visit e = ap (λ (w : Visit). name_in names w.state) (some_inj e)
is_of names below (nodes.Split v children) visit e = ap (λ (w : Visit). name_in names w.state) (some_inj e)
is_of names below (nodes.Ended outcome) visit e = none_some e

is_of_none : (names : List (List ℕ)) (below : model.Activities) (node : Node) → visit_in node ≡ None → IsOfNone (shown_over names below node)
is_of_none names below (nodes.Ready v) e = none_some (sym e)
is_of_none names below (nodes.Waiting v payload) e = none_some (sym e)
is_of_none names below (nodes.Split v children) e = none_some (sym e)
is_of_none names below (nodes.Ended (outcomes.Output t)) e = tt
is_of_none names below (nodes.Ended (outcomes.Failed error cause)) e = tt

-- its state is one of the scope
has_named : (n : List ℕ) (a : model.Activity) (scope : Scope) → IsOf n a → StandsIn a scope → HasNamed scope n
has_named n (model.Ready m raw counts) scope is stands = subst (HasNamed scope) is stands
has_named n (model.Waiting m raw counts payload) scope is stands = subst (HasNamed scope) is stands
has_named n (model.Split m raw counts children) scope is stands = subst (HasNamed scope) is stands.0
has_named n (model.Done output) scope is stands = absurd is
has_named n (model.Failed error cause) scope is stands = absurd is

-- what it does is what its state makes it do
acts_by_state : (n : List ℕ) (a : model.Activity) (scope : Scope) (action : model.Action) (state : State) → IsOf n a → state_named n scope ≡ Some state → model.acts scope a action ≡ moves a action state
acts_by_state n (model.Ready m raw counts) scope action state is found = ap (option_and_then (model.moves_ready m raw counts action)) (ap (λ k. state_named k scope) is ∙ found)
acts_by_state n (model.Waiting m raw counts payload) scope action state is found = ap (option_and_then (model.moves_waiting m raw counts action)) (ap (λ k. state_named k scope) is ∙ found)
acts_by_state n (model.Split m raw counts children) scope action state is found = ap (option_and_then (model.moves_split m raw counts children action)) (ap (λ k. state_named k scope) is ∙ found)
acts_by_state n (model.Done output) scope action state is found = refl
acts_by_state n (model.Failed error cause) scope action state is found = refl

-- a scope that has ended does nothing
acts_never : (a : model.Activity) (scope : Scope) (action : model.Action) → IsOfNone a → model.acts scope a action ≡ None
acts_never (model.Ready m raw counts) scope action is = absurd is
acts_never (model.Waiting m raw counts payload) scope action is = absurd is
acts_never (model.Split m raw counts children) scope action is = absurd is
acts_never (model.Done output) scope action is = refl
acts_never (model.Failed error cause) scope action is = refl

-- nor do the states of its scopes matter
moves_outlined : (a : model.Activity) (action : model.Action) (state : State) → moves a action (outline state) ≡ moves a action state
moves_outlined (model.Ready m raw counts) action state = moves_ready_outlined m raw counts action state
moves_outlined (model.Waiting m raw counts payload) action state = moves_waiting_outlined m raw counts action state
moves_outlined (model.Split m raw counts children) action state = moves_split_outlined m raw counts children action state
moves_outlined (model.Done output) action state = refl
moves_outlined (model.Failed error cause) action state = refl

-- the state by its number in the machine's table, and what it makes the activity do
record ActsBy (machine : Machine) (scope : Scope) (a : model.Activity) (action : model.Action) (visit : Visit) : Type 0 where
  pub state : State
  pub stands : StandsAt machine visit state
  pub acts : model.acts scope a action ≡ moves a action state

acts_by : (machine : Machine) (m scope : Scope) (a : model.Activity) (action : model.Action) (visit : Visit) → Shows machine m → IsScopeOf m scope → IsOf (name_in (table_view machine).names visit.state) a → StandsIn a scope → ActsBy machine scope a action visit
acts_by machine m scope a action visit shown inside is stands = record {
  state = outline found.state;
  stands = record {
    name = subst (λ (t : Table). slice_get t.names i ≡ Some (name_in t.names i)) back found.name;
    shown = by_number;
    leads = λ stored at. lead_on stored at;
  };
  acts = acts_by_state (name_in (table_of m).names i) a scope action found.state is_there found.named ∙ sym (moves_outlined a action found.state);
}
  where
    i : ℕ
    i = visit.state

    back : table_of m ≡ table_view machine
    back = sym shown.table

    is_there : IsOf (name_in (table_of m).names i) a
    is_there = subst (λ (t : Table). IsOf (name_in t.names i) a) shown.table is

    found : IsFound m scope i
    found = is_found m scope shown.well_named inside i (has_named (name_in (table_of m).names i) a scope is_there stands)

    by_number : slice_get (table_view machine).states i ≡ Some (outline found.state)
    by_number = subst (λ (t : Table). slice_get t.states i ≡ Some (outline found.state)) back found.shown

    lead_on : (stored : code.State) → slice_get (states_in machine) i ≡ Some stored → LeadsOn (table_view machine).names stored
    lead_on stored at =
        let seen : outline found.state ≡ state_view stored = some_inj (sym by_number ∙ slice_get-map state_view (states_in machine) i ∙ ap (option_map state_view) at) in
        let numbered : AreNumbered (table_view machine).names stored =
        subst (AreNumbered (table_view machine).names) (get_or_from_slice_get (states_in machine) i stored stored at) (shown.numbered i stored (slice_get_within (states_in machine) i stored at)) in
        leads_on (table_view machine).names stored numbered (subst (NamesNumbered (table_view machine).names) seen (subst (λ (t : Table). NamesNumbered t.names (outline found.state)) back found.numbered))

-- ---- the answers

-- a plan that is carried out
pub taken_here : (machine : Machine) (at : List ℕ) (action : model.Action) (below : model.Activities) (node : Node) (after : model.Activity) (plan : Plan) (entries : Vec _ Global) → entries ≡ plan.entries → ActsSo machine at action below node plan
    → ((visit : Visit) → visit_in node ≡ Some visit → after ≡ changed machine.names visit plan.change) → Steps machine at [] (shown_over machine.names below node) after action (Ok entries)
taken_here machine at action below node after plan entries same acts now = record {
  steps = λ m scope shown inside stands.
      let names = machine.names in
      let by = acts_by machine m scope (shown_over machine.names below node) action acts.visit shown inside (is_of names below node acts.visit acts.stands) stands in
      let one = acts.does by.state by.stands in
      record {
        taken = record {
          step = one.that;
          is = by.acts ∙ one.is;
          tells = ap (λ (es : Vec _ Global). map entry_view es.items) same ∙ one.does.told;
          left = now acts.visit acts.stands ∙ one.does.left;
        };
        refused = tt;
        unchanged = tt;
      };
}

-- a plan that isn't carried out, for want of memory
pub refused_here : (machine : Machine) (at : List ℕ) (action : model.Action) (below : model.Activities) (node : Node) (plan : Plan) → ActsSo machine at action below node plan → RefusesThere machine (shown_over machine.names below node) action OutOfMemory
refused_here machine at action below node plan acts = record {
  refuses = λ m scope shown inside stands.
      let names = machine.names in
      let by = acts_by machine m scope (shown_over machine.names below node) action acts.visit shown inside (is_of names below node acts.visit acts.stands) stands in
      let one = acts.does by.state by.stands in
      there_some (model.acts scope (shown_over machine.names below node) action) (by.acts ∙ one.is);
}

-- no plan is made
pub not_here : (machine : Machine) (at : List ℕ) (action : model.Action) (below : model.Activities) (node : Node) → Acts machine at action below node None → RefusesThere machine (shown_over machine.names below node) action NotEnabled
not_here machine at action below node acts = record { refuses = λ m scope shown inside stands. (refl, none m scope shown inside stands (visit_in node) refl) }
  where
    names : List (List ℕ)
    names = machine.names

    none : (m scope : Scope) → Shows machine m → IsScopeOf m scope → StandsIn (shown_over machine.names below node) scope → (o : Option Visit) → visit_in node ≡ o → model.acts scope (shown_over machine.names below node) action ≡ None
    none m scope shown inside stands None e = acts_never (shown_over machine.names below node) scope action (is_of_none names below node e)
    none m scope shown inside stands (Some visit) e =
        let by = acts_by machine m scope (shown_over machine.names below node) action visit shown inside (is_of names below node visit e) stands in
        by.acts ∙ acts.nothing refl by.state (subst (λ o. IfSome o (λ v. StandsAt machine v by.state)) (sym e) by.stands)

-- the activity wants no such event
pub unwanted_here : (machine : Machine) (a : model.Activity) (action : model.Action) → wanted_by a ≢ Some (model.want_of action) → RefusesThere machine a action NotEnabled
unwanted_here machine a action unwanted = record {
  refuses = λ m scope shown inside stands. (refl, (acts_as_wanted scope a action stands).acts_nowhere_else unwanted);
}

-- it wants such an event, and memory is refused
pub no_memory_here : (machine : Machine) (a : model.Activity) (action : model.Action) → wanted_by a ≡ Some (model.want_of action) → RefusesThere machine a action OutOfMemory
no_memory_here machine a action wanted = record {
  refuses = λ m scope shown inside stands. (acts_as_wanted scope a action stands).acts_where_wanted wanted;
}

-- a refusal leaves the activity
pub refused_there : (machine : Machine) (at : List ℕ) (a : model.Activity) (action : model.Action) (refusal : StepRefusal) → RefusesThere machine a action refusal → Steps machine at [] a a action (Err refusal)
refused_there machine at a action refusal h = record {
  steps = λ m scope shown inside stands. record { taken = tt; refused = h.refuses m scope shown inside stands; unchanged = refl };
}

-- an answer is wanted where one is waited for
pub want_of_answer : (answer : Answer) → model.want_of (answer_view answer) ≡ model.WantsAnswer
want_of_answer (answers.Gives t) = refl
want_of_answer (answers.Fails error cause) = refl

-- the action is of the kind that the activity wants, a move
pub wants_move : (answer : Option (Bor Answer)) (own : Option model.Want) (result : Bool) → own ≡ Some model.WantsMove → is_some answer ≡ not result → IsTrue result ↔ (own ≡ Some (model.want_of (action_of answer)))
wants_move None own true e is = rw e (λ t. refl, λ g. refl)
wants_move None own false e is = absurd (cc)
wants_move (Some answer) own true e is = absurd (cc)
wants_move (Some answer) own false e is = rw (e, want_of_answer answer.now) (λ t. absurd (cc), λ g. absurd (cc))

-- or an answer
pub wants_answer : (answer : Option (Bor Answer)) (own : Option model.Want) (result : Bool) → own ≡ Some model.WantsAnswer → result ≡ is_some answer → IsTrue result ↔ (own ≡ Some (model.want_of (action_of answer)))
wants_answer None own result e is = rw (e, is) (λ t. absurd (cc), λ f. absurd (cc))
wants_answer (Some answer) own result e is = rw (e, is, want_of_answer answer.now) (λ t. refl, λ f. refl)

-- it wants none
pub wants_none : (answer : Option (Bor Answer)) (own : Option model.Want) → own ≡ None → IsTrue false ↔ (own ≡ Some (model.want_of (action_of answer)))
wants_none answer own e = (λ t. absurd (cc), λ f. none_some (sym e ∙ f))

-- as it was found, it does not want it, or does
pub so_unwanted : (wanted : Bool) (own : Option model.Want) (kind : model.Want) → (IsTrue wanted ↔ (own ≡ Some kind)) → wanted ≡ false → own ≢ Some kind
so_unwanted wanted own kind told is = λ e. absurd (true_false (sym (told.1 e) ∙ is))
  where
    true_false : true ≡ false → ⊥
    true_false f = absurd (cc)

pub so_wanted : (wanted : Bool) (own : Option model.Want) (kind : model.Want) → (IsTrue wanted ↔ (own ≡ Some kind)) → wanted ≡ true → own ≡ Some kind
so_wanted wanted own kind told is = told.0 is
