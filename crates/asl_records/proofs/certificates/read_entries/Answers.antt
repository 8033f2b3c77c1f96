use Rattle.std.proofs.Common.{rules}
use Rattle.asl_records.proofs.Entries.{Stated}
use Rattle.asl_records.proofs.Meant.{still_there}
use Rattle.asl_records.proofs.StateEntries.{begun, gone_on, next_told, none_wrong, all_read}
use Rattle.asl_records.proofs.Telling.{handed_on}
use Rattle.asl_records.proofs.certificates.read_entries.Goals as goal

pub loop-name-init : goal.loop-name-init
loop-name-init c = begun c.args.reader.several c.args.reader.listed c.args.shapes.now c.args.entries.now.entries _ c.new-states.result.entries (search rules) c.new-states.ensures.empty

pub returns-in_err-state-clause-refused : goal.returns-in_err-state-clause-refused
returns-in_err-state-clause-refused c =
    let e : Stated = (c.in-Some.name.now, c.in-Some.tree.now) in
    let f = c.in_err-state.field-0.0 in
    handed_on c.from_residual.result f _ c.from_residual.ensures.1
    (next_told c.args.reader.several c.args.reader.listed c.args.shapes.now c.loop-name.shapes c.args.entries.now.entries c.loop-name.name-iterator c.next.new.self c.loop-name.states.entries e c.deref.result.now f c.requires.listed c.loop-name.invariant c.in-Some.ensures.steps c.deref.ensures c.in_err-state.ensures.refused)

pub loop-name-preserved : goal.loop-name-preserved
loop-name-preserved c =
    let e : Stated = (c.in-Some.name.now, c.in-Some.tree.now) in
    gone_on c.args.reader.several c.args.reader.listed c.args.shapes.now c.loop-name.shapes c.read_entry.new.shapes c.args.entries.now.entries c.loop-name.name-iterator c.next.new.self c.loop-name.states.entries c.insert.new.self.entries e c.in_ok-key.key c.deref.result.now c.in_ok-state.state c.requires.listed c.loop-name.invariant c.in-Some.ensures.steps c.iter-name-items.ensures.ordered c.in_ok-state.ensures.keeps c.in_ok-key.ensures.cases c.deref.ensures c.in_ok-state.ensures.right c.in_ok-state.ensures.numbers c.in_ok-insert.ensures.entries

pub returns-clause-right : goal.returns-clause-right
returns-clause-right c = none_wrong c.args.reader.several c.args.reader.listed c.args.shapes.now _ c.args.entries.now.entries c.loop-name.name-iterator c.loop-name.states.entries c.loop-name.invariant c.in-None.ensures.steps.0

pub returns-clause-states : goal.returns-clause-states
returns-clause-states c = all_read c.args.reader.several c.args.reader.listed c.args.shapes.now _ c.args.entries.now.entries c.loop-name.name-iterator c.loop-name.states.entries c.loop-name.invariant c.in-None.ensures.steps.0

pub read_entry-requires : goal.read_entry-requires
read_entry-requires c = record { listed = still_there c.args.shapes.now c.loop-name.shapes c.loop-name.invariant.keeps c.args.reader.listed c.requires.listed }
