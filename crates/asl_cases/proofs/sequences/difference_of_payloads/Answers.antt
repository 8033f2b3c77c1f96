use Rattle.std.proofs.Common.{sym, ap, ◌∙◌, map}
use Rattle.asl_run.specs.Entries.{entry_view}
use Rattle.asl_tree.specs.View.{view}
use Rattle.asl_cases.specs.Judging.{AreAsked, payloads_of}
use Rattle.asl_cases.proofs.sequences.difference_of_payloads.Goals as goal
use Rattle.asl_cases.proofs.Remainders.{all_with_next}

pub loop-of_state-preserved : goal.loop-of_state-preserved
loop-of_state-preserved c =
    let l = c.loop-of_state in
    let told = map entry_view c.args.trace.now in
    let right = ap (λ n. payloads_of n told) (sym c.as_str-name.ensures.value) ∙ c.in_ok-words.ensures.0 c.in_default.is ∙ ap (map view) c.deref.ensures.value in
    all_with_next (AreAsked told) c.args.expected.now l.of_state-index c.of_state-item.result l.invariant c.loop-of_state-test.true c.of_state-item.is right
