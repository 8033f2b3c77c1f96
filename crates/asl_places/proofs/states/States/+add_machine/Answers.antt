use Rattle.std.proofs.Common.{◌<◌, get_or, take, length, sym, subst, arith}
use Rattle.std.proofs.lemmas.List.{take_all, take_more}
use Rattle.std.proofs.lemmas.List.Elements.{Contains-get_or}
use Rattle.asl_places.specs.Named.{state_named}
use Rattle.asl_places.specs.Definition.{HasNestedMachine, text_value}
use Rattle.asl_places.specs.Gathering.{Adds, Lists}
use Rattle.asl_places.proofs.Machines.{IsAmong, among_all, among_more, among_none, nested_begins}
use Rattle.asl_places.proofs.states.States.+add_machine.Goals as goal

pub loop-nested-init : goal.loop-nested-init
loop-nested-init t c j begins =
    among_none c.args.outline.now.0 c.args.machine (state_named c.args.self.now) (state_named c.add_states.new.self) (c.in_ok-inner.ensures.states j begins)

pub loop-nested-preserved : goal.loop-nested-preserved
loop-nested-preserved t c j begins =
    let tokens = c.args.outline.now.0 in
    let items = c.deref-nested-items.result.now in
    let index = c.loop-nested.nested-index in
    let inner = get_or items index text_value in
    let inside : index < length items = omega arith in
    let lists = subst (λ spots. Lists spots (HasNestedMachine tokens c.args.machine)) (sym c.deref-nested-items.ensures.value) (c.in_ok-inner.ensures.machines j begins) in
    let value = nested_begins tokens c.args.machine inner ((lists inner).0 (Contains-get_or items index text_value inside)) in
    subst (λ spots. Adds (state_named c.args.self.now) (state_named c.add_machine.new.self) (IsAmong tokens c.args.machine spots)) (sym (take_more items index text_value inside))
    (among_more tokens c.args.machine (state_named c.args.self.now) (state_named c.loop-nested.self) (state_named c.add_machine.new.self) (take index items) inner (c.loop-nested.invariant j begins) (c.in_ok-add_machine.ensures value.0 value.1))

pub returns : goal.returns
returns t c j begins =
    let tokens = c.args.outline.now.0 in
    let items = c.deref-nested-items.result.now in
    let lists = subst (λ spots. Lists spots (HasNestedMachine tokens c.args.machine)) (sym c.deref-nested-items.ensures.value) (c.in_ok-inner.ensures.machines j begins) in
    let all = take_all c.loop-nested.nested-index items (omega arith) in
    among_all tokens c.args.machine (state_named c.args.self.now) (state_named c.loop-nested.self) items lists
    (subst (λ spots. Adds (state_named c.args.self.now) (state_named c.loop-nested.self) (IsAmong tokens c.args.machine spots)) all (c.loop-nested.invariant j begins))
