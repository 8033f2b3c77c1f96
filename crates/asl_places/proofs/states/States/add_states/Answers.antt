use Rattle.std.proofs.Common.{sym, subst}
use Rattle.std.proofs.lemmas.Result.{IfOk-weaker}
use Rattle.asl_places.specs.Definition.{HasNestedMachine, HasState}
use Rattle.asl_places.specs.Named.{state_named}
use Rattle.asl_places.specs.Gathering.{Lists}
use Rattle.asl_places.proofs.Machines.{Adds-none, Lists-none, machines_listed, no_states, states_added}
use Rattle.asl_places.proofs.states.States.add_states.Goals as goal

pub returns-in-Some-clause-states : goal.returns-in-Some-clause-states
returns-in-Some-clause-states c =
    IfOk-weaker c.add_members.result _ _ (λ inner added j begins.
    let f = c.in-Some.ensures.value j begins in
    states_added c.args.outline.now.0 c.args.machine (state_named c.args.self.now) (state_named c.add_members.new.self) c.in-Some.states (c.in-Some.ensures.stands j begins) (added f.0 f.2))
    c.add_members.ensures.states

pub returns-in-Some-clause-machines : goal.returns-in-Some-clause-machines
returns-in-Some-clause-machines c =
    IfOk-weaker c.add_members.result _ _ (λ inner listed j begins.
    let f = c.in-Some.ensures.value j begins in
    machines_listed c.args.outline.now.0 c.args.machine inner.items c.in-Some.states (c.in-Some.ensures.stands j begins) (listed f.0 f.2))
    c.add_members.ensures.machines

pub returns-in-None-clause-states : goal.returns-in-None-clause-states
returns-in-None-clause-states c j begins =
    Adds-none (state_named c.args.self.now) (HasState c.args.outline.now.0 c.args.machine) (no_states c.args.outline.now.0 c.args.machine (c.in-None.ensures.stands j begins))

pub returns-in-None-clause-machines : goal.returns-in-None-clause-machines
returns-in-None-clause-machines c j begins =
    let are = HasNestedMachine c.args.outline.now.0 c.args.machine in
    subst (λ spots. Lists spots are) (sym c.new.ensures.items) (Lists-none are (λ s has. no_states c.args.outline.now.0 c.args.machine (c.in-None.ensures.stands j begins) has.0 has.1 has.2))
