use Rattle.std.proofs.Common.{◌∙◌}
use Rattle.asl_records.proofs.Numberings.{numbers_begun, numbers_gone_on, numbers_done}
use Rattle.asl_records.proofs.numbering.number_states.Goals as goal

pub loop-name-init : goal.loop-name-init
loop-name-init c = numbers_begun _ c.args.states.now.entries c.into_iter-name-iterator.result c.new-numbered.result.entries (c.into_iter-name-iterator.ensures.into_iter_gives ∙ c.iter-name-items.ensures.rest) c.new-numbered.ensures.empty

pub loop-name-preserved : goal.loop-name-preserved
loop-name-preserved c =
    numbers_gone_on _ _ _ c.args.states.now.entries c.loop-name.name-iterator c.next.new.self c.loop-name.numbered.entries c.insert.new.self.entries (c.in-Some.name.now, c.in-Some.state.now) c.in_ok-key.key c.in_ok-number_state.field-0 c.loop-name.invariant c.in-Some.ensures.steps c.iter-name-items.ensures.ordered c.in_ok-number_state.ensures.keeps c.in_ok-key.ensures.cases c.in_ok-number_state.ensures.numbered c.in_ok-insert.ensures.entries

pub returns-clause-numbered : goal.returns-clause-numbered
returns-clause-numbered c = numbers_done _ _ c.args.states.now.entries c.loop-name.name-iterator c.loop-name.numbered.entries c.loop-name.invariant c.in-None.ensures.steps.0
