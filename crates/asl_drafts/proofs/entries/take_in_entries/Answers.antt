use Rattle.std.proofs.Common.{length, sym}
use borrow.Author.Tests.{ltb-false}
use Rattle.std.proofs.lemmas.List.{length-map}
use Rattle.asl_draft_laws.specs.Drafts.{taken_in}
use Rattle.asl_numbered.specs.Expansion.{shape_at}
use Rattle.asl_drafts.specs.Entries.{entry_room, entry_view, made_part}
use Rattle.asl_drafts.proofs.EntryViews.{entries-same, makes-at, makes-past}
use Rattle.asl_drafts.proofs.Grown.{entries_changed}
use Rattle.asl_drafts.proofs.entries.take_in_entries.Goals as goal

pub returns-in-Some-clause-takes : goal.returns-in-Some-clause-takes
returns-in-Some-clause-takes c =
    let a = c.args.store.now in
    let b = c.take_in_entry.new.store in
    let entries = c.args.entries.now.items in
    let make = made_part c.args.part (taken_in (shape_at a c.args.flowing)) in
    makes-at (entry_view a) (entry_view b) make entry_room entries c.args.number c.in-Some.entry.now c.take_in_entry.new.entry c.take_in_entry.result c.in-Some.ensures.item.3.0 c.in-Some.ensures.item.1 (entries-same a b entries c.take_in_entry.ensures.keeps c.requires.grown) c.take_in_entry.ensures.takes

pub returns-in-Some-clause-grown : goal.returns-in-Some-clause-grown
returns-in-Some-clause-grown c = entries_changed c.args.store.now c.take_in_entry.new.store c.args.entries.now.items c.args.number c.take_in_entry.new.entry c.take_in_entry.ensures.keeps c.requires.grown c.take_in_entry.ensures.grown

pub returns-in-None-clause-takes : goal.returns-in-None-clause-takes
returns-in-None-clause-takes c =
    let table = c.args.store.now in
    let entries = c.args.entries.now.items in
    makes-past (entry_view table) (entry_view table) (made_part c.args.part (taken_in (shape_at table c.args.flowing))) entry_room entries c.args.number (rw (length-map entries (entry_view table)) (ltb-false c.args.number (length entries) (sym c.in-None.ensures.item.0)))
