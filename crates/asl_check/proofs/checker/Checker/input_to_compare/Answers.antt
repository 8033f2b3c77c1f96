use Rattle.std.proofs.Common.{Some, None, true, false, is_some, refl, ap, sym, ◌∙◌}
use Rattle.asl_machine_table.specs.Table.{table_view}
use Rattle.asl_check.proofs.Below.{entry_below}
use Rattle.asl_check.proofs.LookedUp.{input_looked_up}
use Rattle.asl_check.proofs.checker.Checker.input_to_compare.Goals as goal

pub returns-in-Some-clause-within : goal.returns-in-Some-clause-within
returns-in-Some-clause-within c = λ table within.
    (entry_below _ c.args.name.now c.args.self.now.states.now.entries c.in-Some.entry.now c.in-Some.ensures.value within.states).input

pub returns-in-Some-clause-seen : goal.returns-in-Some-clause-seen
returns-in-Some-clause-seen c = λ table within.
    input_looked_up table (table_view c.args.self.now.machine.now) c.args.self.now c.args.name.now _ (Some c.in-Some.entry.now) refl c.in-Some.ensures.value

pub returns-in-None-clause-seen : goal.returns-in-None-clause-seen
returns-in-None-clause-seen c = λ table within.
    input_looked_up table (table_view c.args.self.now.machine.now) c.args.self.now c.args.name.now true None (sym c.if-is_some.true ∙ (c.is_some.ensures ∙ ap is_some c.state_named.ensures.number)) c.in-None.ensures.value

pub returns-in-None-2-clause-seen : goal.returns-in-None-2-clause-seen
returns-in-None-2-clause-seen c = λ table within.
    ap Some within.no_tree ∙ input_looked_up table (table_view c.args.self.now.machine.now) c.args.self.now c.args.name.now false None (sym c.if-is_some.false ∙ (c.is_some.ensures ∙ ap is_some c.state_named.ensures.number)) c.in-None-2.ensures.value
