use Rattle.asl_drafts.proofs.DraftViews.{draft-same}
use Rattle.asl_drafts.proofs.Grown.{entries_kept, grown_kept}
use Rattle.asl_drafts.proofs.draft.Draft.counterexample.Goals as goal

pub invariant_of-self : goal.invariant_of-self
invariant_of-self c =
    let before = c.args.self.now in
    record {
      output_grown = grown_kept before.store c.counterexample.new.self before.output c.counterexample.ensures.keeps before.output_grown;
      entries_grown = entries_kept before.store c.counterexample.new.self before.entries.items c.counterexample.ensures.keeps before.entries_grown;
    }

pub returns-clause-same : goal.returns-clause-same
returns-clause-same c =
    let before = c.args.self.now in
    draft-same before.store c.counterexample.new.self before.output before.entries.items c.counterexample.ensures.keeps before.output_grown before.entries_grown
