use Rattle.std.proofs.Common.{sym, ◌∙◌}
use Rattle.asl_check.specs.Faults.{fault_view}
use Rattle.asl_check.specs.Listing.{listed_view}
use Rattle.asl_check.proofs.Notes.{note_new, note_old}
use Rattle.asl_check.proofs.noting.note.Goals as goal

pub returns-then-contains_key-clause-noted : goal.returns-then-contains_key-clause-noted
returns-then-contains_key-clause-noted c =
    note_old c.args.notes.now.entries (listed_view c.args.shapes.now c.args.rule.now) (sym c.contains_key.ensures ∙ c.if-contains_key.true)

pub returns-clause-noted : goal.returns-clause-noted
returns-clause-noted c =
    let rule = c.args.rule.now in
    rw c.in_ok-insert.ensures.entries (note_new c.args.notes.now.entries c.in_ok-name.name c.in_ok-noted.noted rule.name.now (fault_view c.args.shapes.now rule.fault) c.in_ok-name.ensures.ok c.in_ok-noted.ensures.seen (sym c.contains_key.ensures ∙ c.if-contains_key.false))
