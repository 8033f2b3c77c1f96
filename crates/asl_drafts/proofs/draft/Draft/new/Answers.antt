use Rattle.std.proofs.Common.{ap₂}
use Rattle.asl_machine_table.specs.Table.{table_view}
use Rattle.asl_drafts.proofs.DraftViews.{are-new, draft_of, entries-new, never-new}
use Rattle.asl_drafts.proofs.Grown.{never_grown}
use Rattle.asl_drafts.proofs.draft.Draft.new.Goals as goal

pub invariant_of-result : goal.invariant_of-result
invariant_of-result c =
    let never = c.in_ok-never.ensures.number in
    record {
      output_grown = never_grown c.put.new.self c.new-2.result c.in_ok-never.never never c.new-2.ensures;
      entries_grown = record { each = are-new c.put.new.self c.new.result (table_view c.args.machine.now).states c.in_ok-entries.entries.items (never_grown c.put.new.self c.new.result c.in_ok-never.never never c.new.ensures) c.in_ok-entries.ensures };
    }

pub returns-clause-first : goal.returns-clause-first
returns-clause-first c =
    let table = c.put.new.self in
    let never = c.in_ok-never.ensures.number in
    ap₂ draft_of (never-new table c.new-2.result c.in_ok-never.never never c.new-2.ensures)
    (entries-new table c.new.result (table_view c.args.machine.now).states c.in_ok-entries.entries.items (never-new table c.new.result c.in_ok-never.never never c.new.ensures) c.in_ok-entries.ensures)
