use Rattle.std.proofs.Common.{◌∙◌, length}
use Rattle.asl_model.specs.Certificate.{StateShapes}
use Rattle.asl_model.specs.Written.{written_state}
use Rattle.asl_records.specs.Numbered.{numbers_view}
use Rattle.asl_records.specs.WritingNumbered.{referred, table_of}
use Rattle.asl_records.proofs.Numberings.{next_below}
use Rattle.asl_records.proofs.Writings.{begun, gone_on, all_written}
use Rattle.asl_records.proofs.writing_numbered.ShapeWriter.write_states.Goals as goal
use Rattle.std.specs.String.{string_bytes}

pub loop-name-init : goal.loop-name-init
loop-name-init c = record {
  writes = begun string_bytes (numbers_view (table_of c.args.self.now)) (written_state (referred c.args.self.now)) (λ (_ : StateShapes). Unit {0}) c.args.states.now.entries c.into_iter-name-iterator.result c.new-entries.result.entries (c.into_iter-name-iterator.ensures.into_iter_gives ∙ c.iter-name-items.ensures.rest) c.new-entries.ensures.empty;
  below = rw (c.into_iter-name-iterator.ensures.into_iter_gives ∙ c.iter-name-items.ensures.rest) c.requires.below;
}

pub write_state-requires-clause-below : goal.write_state-requires-clause-below
write_state-requires-clause-below c =
    (next_below (length c.args.self.now.shapes.now) c.loop-name.name-iterator c.next.new.self (c.in-Some.name.now, c.in-Some.state.now) c.in-Some.ensures.steps c.loop-name.invariant.below).0

pub loop-name-preserved : goal.loop-name-preserved
loop-name-preserved c =
    let l = c.loop-name in
    record {
      writes = gone_on string_bytes (numbers_view (table_of c.args.self.now)) (written_state (referred c.args.self.now)) (λ (_ : StateShapes). Unit {0}) c.args.states.now.entries l.name-iterator c.next.new.self l.entries.entries c.insert.new.self.entries (c.in-Some.name.now, c.in-Some.state.now) c.in_ok-key.key c.in_ok-write_state.field-0 l.invariant.writes c.in-Some.ensures.steps c.iter-name-items.ensures.ordered c.in_ok-key.ensures.cases c.in_ok-write_state.ensures.written tt c.in_ok-insert.ensures.entries;
      below = (next_below (length c.args.self.now.shapes.now) l.name-iterator c.next.new.self (c.in-Some.name.now, c.in-Some.state.now) c.in-Some.ensures.steps l.invariant.below).1;
    }

pub returns : goal.returns
returns c =
    let l = c.loop-name in
    record { written = all_written string_bytes (numbers_view (table_of c.args.self.now)) (written_state (referred c.args.self.now)) (λ (_ : StateShapes). Unit {0}) c.args.states.now.entries l.name-iterator l.entries.entries l.invariant.writes c.in-None.ensures.steps.0 }
