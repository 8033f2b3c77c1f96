use Rattle.std.proofs.Common.{◌++◌, sym, ap, subst, ◌∙◌}
use Rattle.std.proofs.lemmas.List.{append-nil}
use Rattle.asl_model.specs.Verdict.{AreInNameOrder}
use Rattle.asl_check.specs.Noting.{notes_view}
use Rattle.asl_check.specs.View.{findings_view}
use Rattle.asl_check.proofs.Notes.{in_order}
use Rattle.asl_check.proofs.noting.told.Goals as goal

pub returns : goal.returns
returns c =
    let findings = findings_view c.loop-state.findings.items in
    let all = c.loop-state.invariant ∙ ap (λ left. findings ++ notes_view left) c.in-None.ensures.steps.0 ∙ append-nil findings in
    record {
      same = sym all;
      in_order = subst AreInNameOrder all (in_order c.args.notes.entries c.into_iter-state-iterator.ensures.into_iter_gives.5);
    }
