use Rattle.asl_numbered.specs.Expansion.{shape_at}
use Rattle.asl_drafts.proofs.EntryViews.{end-made, input-made, output-made}
use Rattle.asl_drafts.proofs.Grown.{ends_kept, grown_kept}
use Rattle.asl_drafts.proofs.entries.take_in_entry.Goals as goal

pub returns-in-Input-clause-takes : goal.returns-in-Input-clause-takes
returns-in-Input-clause-takes c =
    rw c.in-Input.is (input-made (shape_at c.args.store.now c.args.flowing) c.args.store.now c.take.new.store c.args.entry.now c.take.ensures.keeps c.requires.grown c.take.result c.take.new.self c.take.ensures.takes)

pub returns-in-Input-clause-grown : goal.returns-in-Input-clause-grown
returns-in-Input-clause-grown c =
    let was = c.requires.grown in
    let keeps = c.take.ensures.keeps in
    record { input = c.take.ensures.grown; output = grown_kept c.args.store.now c.take.new.store c.args.entry.now.output keeps was.output; ends = ends_kept c.args.store.now c.take.new.store c.args.entry.now.ends keeps was.ends }

pub returns-in-Output-clause-takes : goal.returns-in-Output-clause-takes
returns-in-Output-clause-takes c =
    rw c.in-Output.is (output-made (shape_at c.args.store.now c.args.flowing) c.args.store.now c.take-in-Output.new.store c.args.entry.now c.take-in-Output.ensures.keeps c.requires.grown c.take-in-Output.result c.take-in-Output.new.self c.take-in-Output.ensures.takes)

pub returns-in-Output-clause-grown : goal.returns-in-Output-clause-grown
returns-in-Output-clause-grown c =
    let was = c.requires.grown in
    let keeps = c.take-in-Output.ensures.keeps in
    record { input = grown_kept c.args.store.now c.take-in-Output.new.store c.args.entry.now.input keeps was.input; output = c.take-in-Output.ensures.grown; ends = ends_kept c.args.store.now c.take-in-Output.new.store c.args.entry.now.ends keeps was.ends }

pub returns-in-End-clause-takes : goal.returns-in-End-clause-takes
returns-in-End-clause-takes c =
    rw c.in-End.is (end-made (shape_at c.args.store.now c.args.flowing) c.args.store.now c.take_in_ends.new.store c.args.entry.now c.take_in_ends.ensures.keeps c.requires.grown c.in-End.child c.take_in_ends.result c.take_in_ends.new.ends c.take_in_ends.ensures.takes)

pub returns-in-End-clause-grown : goal.returns-in-End-clause-grown
returns-in-End-clause-grown c =
    let was = c.requires.grown in
    let keeps = c.take_in_ends.ensures.keeps in
    record { input = grown_kept c.args.store.now c.take_in_ends.new.store c.args.entry.now.input keeps was.input; output = grown_kept c.args.store.now c.take_in_ends.new.store c.args.entry.now.output keeps was.output; ends = c.take_in_ends.ensures.grown }
