use Rattle.asl_numbered.specs.Expansion.{shape_at}
use Rattle.asl_drafts.specs.Entries.{entries_view}
use Rattle.asl_drafts.specs.Growing.{growth_view}
use Rattle.asl_drafts.proofs.DraftViews.{entry-told, output-told}
use Rattle.asl_drafts.proofs.EntryViews.{all-entries-same, growth-kept}
use Rattle.asl_drafts.proofs.Grown.{entries_kept, grown_kept}
use Rattle.asl_drafts.proofs.draft.Draft.take.Goals as goal

pub invariant_of-self : goal.invariant_of-self
invariant_of-self c =
    let before = c.args.self.now in
    record {
      output_grown = c.take.ensures.grown;
      entries_grown = entries_kept before.store c.take.new.store before.entries.items c.take.ensures.keeps before.entries_grown;
    }

pub invariant_of-self-in-Some : goal.invariant_of-self-in-Some
invariant_of-self-in-Some c =
    let before = c.args.self.now in
    record {
      output_grown = grown_kept before.store c.take_in_entries.new.store before.output c.take_in_entries.ensures.keeps before.output_grown;
      entries_grown = c.take_in_entries.ensures.grown;
    }

pub returns-in-None-clause-takes : goal.returns-in-None-clause-takes
returns-in-None-clause-takes c =
    let before = c.args.self.now in
    let a = before.store in
    let b = c.take.new.store in
    output-told c.args.target (shape_at a c.args.flowing) c.part.result c.part.ensures (growth_view a before.output) (growth_view b c.take.new.self) (entries_view a before.entries.items) (entries_view b before.entries.items) c.take.result c.in-None.is (all-entries-same a b before.entries.items c.take.ensures.keeps before.entries_grown) c.take.ensures.takes

pub returns-in-Some-clause-takes : goal.returns-in-Some-clause-takes
returns-in-Some-clause-takes c =
    let before = c.args.self.now in
    let a = before.store in
    let b = c.take_in_entries.new.store in
    entry-told c.args.target (shape_at a c.args.flowing) c.part.result c.part.ensures (c.in-Some.state, c.in-Some.part) (growth_view a before.output) (growth_view b before.output) (entries_view a before.entries.items) (entries_view b c.take_in_entries.new.entries.items) c.take_in_entries.result c.in-Some.is (growth-kept a b before.output c.take_in_entries.ensures.keeps before.output_grown) c.take_in_entries.ensures.takes
