-- From a plan made where a state's execution was found to what is done at its place.
use Rattle.std.proofs.Common.{◌≡◌, refl, sym, ap, ◌∙◌, subst, ℕ, List, Option, Some, None, IfSome, Result, Ok, Err, IfOk}
use Rattle.asl_machine_table.specs.declared.machine.Machine.{Machine}
use Rattle.asl_model.specs.Machine.{State}
use Rattle.asl_model.specs.Run as model
use Rattle.asl_model.proofs.RunOptions.{some_inj}
use Rattle.asl_tree.specs.View.{view}
use Rattle.asl_run.specs.Acting.{Acts, DoesNothing, IsAt, IsFoundIn, IsVisitOf, Plans, PlansAs, StandsAt, moves, moves_as, moves_at, names_at, state_at}
use Rattle.asl_run.specs.Changing.{visit_in}
use Rattle.asl_run.specs.Nodes.{AreHeads, shown_over}
use Rattle.asl_run.specs.Standing.{children_of, name_in}
use Rattle.asl_processing.specs.Troubles.{CanRise}
use Rattle.asl_processing.specs.declared.activities.Visit.{Visit}
use Rattle.asl_run.specs.declared.nodes.Node.{Node}
use Rattle.asl_run.specs.declared.planning.Here.{Here}
use Rattle.asl_run.specs.declared.planning.Plan.{Plan}

-- a plan of a step is one
pub planned_as : (here : Here) (plan : Plan) (step : model.Step) → Plans here plan step → PlansAs here (Some plan) (Some step)
planned_as here plan step plans = record { planned = record { that = step; is = refl; plans = plans }; nothing = λ e. absurd (cc) }

pub none_as : (here : Here) (step : Option model.Step) → step ≡ None → PlansAs here None step
none_as here step none = record { planned = tt; nothing = λ e. none }

stands_there : (machine : Machine) (node : Node) (visit : Visit) (state : State) → IsVisitOf node visit → IfSome (visit_in node) (λ v. StandsAt machine v state) → StandsAt machine visit state
stands_there machine node visit state found there = subst (λ v. IfSome v (λ w. StandsAt machine w state)) found.stands there

-- where its state stands, as it was found
abbrev FoundAt : Here → State → Type 0
FoundAt here = StandsAt here.machine.now here.visit.now

found_name : (node : Node) (here : Here) (state : State) → IsFoundIn node here → FoundAt here state → here.name.now ≡ name_in (names_at here) here.visit.now.state
found_name node here state found stands = some_inj (sym found.name ∙ stands.name)

found_state : (node : Node) (here : Here) (state : State) → IsFoundIn node here → FoundAt here state → state_at here ≡ state
found_state node here state found stands = some_inj (sym found.state ∙ stands.shown)

found_at : (node : Node) (here : Here) (state : State) → IsFoundIn node here → FoundAt here state → IsAt here
found_at node here state found stands = record { named = found_name node here state found stands; leads = stands.leads here.state.now found.stored }

-- what an action does for the execution here is what it does at the node
same_step : (below : model.Activities) (node : Node) (action : model.Action) (here : Here) (state : State) → IsFoundIn node here → FoundAt here state
    → moves (shown_over (names_at here) below node) action state ≡ moves_at here below node action
same_step below node action here state found stands =
    let shown = shown_over (names_at here) below node in
    found.visit.does (names_at here) below action state
    ∙ ap (λ n. moves_as shown action n state (view here.visit.now.raw.value) here.visit.now.counts.items) (sym (found_name node here state found stands))
    ∙ ap (λ s. moves_as shown action here.name.now s (view here.visit.now.raw.value) here.visit.now.counts.items) (sym (found_state node here state found stands))

acts_as_planned : (action : model.Action) (below : model.Activities) (node : Node) (here : Here) (plan : Option Plan) → IsFoundIn node here → PlansAs here plan (moves_at here below node action) → Acts here.machine.now here.at.now action below node plan
acts_as_planned action below node here (Some plan) found plans =
    let one = plans.planned in
    record {
      planned = record {
        visit = here.visit.now;
        stands = found.visit.stands;
        rises = λ v i e f. subst (λ (w : Visit). CanRise w.counts.items i) (some_inj (sym found.visit.stands ∙ e)) (one.plans.rises i f);
        does = λ state there. record {
          that = one.that;
          is = same_step below node action here state found there ∙ one.is;
          does = record { told = one.plans.told; left = one.plans.left (found_at node here state found there) };
        };
      };
      nothing = λ e. absurd (cc);
    }
acts_as_planned action below node here None found plans = record {
  planned = tt;
  nothing = λ e state there. same_step below node action here state found (stands_there here.machine.now node here.visit.now state found.visit there) ∙ plans.nothing refl;
}

-- a plan that was made where the execution was found
pub acted : {E : Type 0} (machine : Machine) (at : List ℕ) (action : model.Action) (node : Node) (children : List Node) (here : Here) (r : Result (Option Plan) E) → here.machine.now ≡ machine → here.at.now ≡ at → IsFoundIn node here
    → IfOk r (λ plan. (below : List model.Activity) → AreHeads (names_at here) children below → PlansAs here plan (moves_at here (children_of below) node action))
    → IfOk r (λ plan. (below : List model.Activity) → AreHeads machine.names children below → Acts machine at action (children_of below) node plan)
acted machine at action node children here (Ok plan) same placed found plans = λ below heads.
    subst (λ (m : Machine). Acts m at action (children_of below) node plan) same
    (subst (λ p. Acts here.machine.now p action (children_of below) node plan) placed
    (acts_as_planned action (children_of below) node here plan found (plans below (subst (λ (m : Machine). AreHeads m.names children below) (sym same) heads))))
acted machine at action node children here (Err e) same placed found plans = tt

-- none where it isn't found
pub acts_not : (machine : Machine) (at : List ℕ) (action : model.Action) (below : model.Activities) (node : Node) → DoesNothing machine node → Acts machine at action below node None
acts_not machine at action below node none = record { planned = tt; nothing = λ e state there. none.nothing below action state there }
