use Rattle.std.proofs.Common.{length, sym}
use borrow.Author.Tests.{ltb-false}
use Rattle.std.proofs.lemmas.List.{length-map}
use Rattle.asl_draft_laws.specs.Drafts.{taken_in}
use Rattle.asl_numbered.specs.Expansion.{shape_at}
use Rattle.asl_drafts.specs.Growing.{growth_view}
use Rattle.asl_drafts.proofs.EntryViews.{growths-kept, makes-at, makes-past, takes-made}
use Rattle.asl_drafts.proofs.Grown.{ends_changed}
use Rattle.asl_drafts.proofs.entries.take_in_ends.Goals as goal

pub returns-in-Some-clause-takes : goal.returns-in-Some-clause-takes
returns-in-Some-clause-takes c =
    let a = c.args.store.now in
    let b = c.take.new.store in
    let gs = c.args.ends.now.items in
    let s = shape_at a c.args.flowing in
    let old = growth_view a in
    let new = growth_view b in
    let g = c.in-Some.growing.now in
    let takes = takes-made s (old g) (new c.take.new.self) c.take.result c.take.ensures.takes in
    makes-at old new (taken_in s) (λ growth. growth.changes_left) gs c.args.child g c.take.new.self c.take.result c.in-Some.ensures.item.3.0 c.in-Some.ensures.item.1 (growths-kept a b gs c.take.ensures.keeps c.requires.grown) takes

pub returns-in-Some-clause-grown : goal.returns-in-Some-clause-grown
returns-in-Some-clause-grown c = ends_changed c.args.store.now c.take.new.store c.args.ends.now.items c.args.child c.take.new.self c.take.ensures.keeps c.requires.grown c.take.ensures.grown

pub returns-in-None-clause-takes : goal.returns-in-None-clause-takes
returns-in-None-clause-takes c =
    let table = c.args.store.now in
    let gs = c.args.ends.now.items in
    makes-past (growth_view table) (growth_view table) (taken_in (shape_at table c.args.flowing)) (λ growth. growth.changes_left) gs c.args.child (rw (length-map gs (growth_view table)) (ltb-false c.args.child (length gs) (sym c.in-None.ensures.item.0)))
