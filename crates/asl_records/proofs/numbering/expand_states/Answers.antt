use Rattle.std.proofs.Common.{◌∙◌, length}
use Rattle.asl_records.specs.Proper.{IsProperState}
use Rattle.asl_records.proofs.Properness.{none_proper, one_more_proper}
use Rattle.asl_records.proofs.Numberings.{next_below, expands_begun, expands_gone_on, expands_done}
use Rattle.asl_records.proofs.numbering.expand_states.Goals as goal

pub loop-name-init : goal.loop-name-init
loop-name-init c = record { expands = expands_begun c.args.shapes.now c.args.states.now.entries c.into_iter-name-iterator.result c.new-expanded.result.entries c.requires.below (c.into_iter-name-iterator.ensures.into_iter_gives ∙ c.iter-name-items.ensures.rest) c.new-expanded.ensures.empty; proper = none_proper IsProperState c.new-expanded.result.entries c.new-expanded.ensures.empty }

pub expand_state-requires : goal.expand_state-requires
expand_state-requires c =
    let next = next_below (length c.args.shapes.now) c.loop-name.name-iterator c.next.new.self (c.in-Some.name.now, c.in-Some.state.now) c.in-Some.ensures.steps c.loop-name.invariant.expands.below in
    record { below = next.0 }

pub loop-name-preserved : goal.loop-name-preserved
loop-name-preserved c = record {
  expands = expands_gone_on c.args.shapes.now c.args.states.now.entries c.loop-name.name-iterator c.next.new.self c.loop-name.expanded.entries c.insert.new.self.entries (c.in-Some.name.now, c.in-Some.state.now) c.in_ok-key.key c.in_ok-expand_state.field-0 c.loop-name.invariant.expands c.in-Some.ensures.steps c.iter-name-items.ensures.ordered c.in_ok-key.ensures.cases c.in_ok-expand_state.ensures.same c.in_ok-insert.ensures.entries;
  proper = one_more_proper IsProperState c.loop-name.expanded.entries c.insert.new.self.entries c.in_ok-key.key c.in_ok-expand_state.field-0 c.loop-name.invariant.proper c.in_ok-expand_state.ensures.proper c.in_ok-insert.ensures.entries;
}

pub returns : goal.returns
returns c = record { same = expands_done c.args.shapes.now c.args.states.now.entries c.loop-name.name-iterator c.loop-name.expanded.entries c.loop-name.invariant.expands c.in-None.ensures.steps.0; proper = c.loop-name.invariant.proper }
