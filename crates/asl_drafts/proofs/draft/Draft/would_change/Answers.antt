use Rattle.std.proofs.Common.{◌<◌, length}
use Rattle.asl_numbered.specs.Expansion.{shape_at}
use Rattle.asl_drafts.proofs.DraftViews.{changed-changes, draft-same, none-stays, unchanged-stays}
use Rattle.asl_drafts.proofs.Grown.{entries_kept, grown_kept}
use Rattle.asl_drafts.proofs.draft.Draft.would_change.Goals as goal

pub invariant_of-self : goal.invariant_of-self
invariant_of-self c =
    let before = c.args.self.now in
    record {
      output_grown = grown_kept before.store c.take.new.store before.output c.take.ensures.keeps before.output_grown;
      entries_grown = entries_kept before.store c.take.new.store before.entries.items c.take.ensures.keeps before.entries_grown;
    }

pub returns-in_default-clause-stays : goal.returns-in_default-clause-stays
returns-in_default-clause-stays c = λ e within.
    none-stays c.args.self.now c.args.target (shape_at c.args.self.now.store c.args.flowing) c.growing.result c.growing.ensures.there c.in_default.is

pub returns-clause-stays : goal.returns-clause-stays
returns-clause-stays c =
    unchanged-stays (c.args.flowing < length c.args.self.now.store) c.args.self.now c.args.target (shape_at c.args.self.now.store c.args.flowing) c.in-Some.growing c.take.new.self c.take.new.store c.growing.result c.take.result c.growing.ensures.there c.in-Some.is c.take.ensures.takes

pub returns-clause-changes : goal.returns-clause-changes
returns-clause-changes c =
    let draft = c.args.self.now in
    let within : c.args.flowing < length draft.store = c.has.ensures.0 c.if-not-has.false in
    changed-changes (c.args.flowing < length draft.store) draft c.args.target (shape_at draft.store c.args.flowing) c.in-Some.growing c.take.new.self c.take.new.store c.growing.result c.take.result within c.growing.ensures.there c.in-Some.is c.take.ensures.takes

pub returns-clause-same : goal.returns-clause-same
returns-clause-same c =
    let before = c.args.self.now in
    draft-same before.store c.take.new.store before.output before.entries.items c.take.ensures.keeps before.output_grown before.entries_grown
