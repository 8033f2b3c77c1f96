use Rattle.std.proofs.Common.{◌≡◌, ◌-◌, ap, ◌∙◌, arith}
use Rattle.std.proofs.lemmas.List.{take_all}
use Rattle.asl_results.specs.Counted.{all_cases, counts_of}
use Rattle.asl_results.specs.declared.counting.Counts.{Counts}
use Rattle.asl_results.proofs.Counts.{others_passed}
use Rattle.asl_results.proofs.counting.Counts.of_all.Goals as goal

pub returns-clause-passed : goal.returns-clause-passed
returns-clause-passed c =
    let suites = c.args.suites.now in
    let whole : c.loop-suite.all ≡ counts_of (all_cases suites) = c.loop-suite.invariant ∙ ap (λ of. counts_of (all_cases of)) (take_all c.loop-suite.suite-index suites (omega arith)) in
    ap (λ (counts : Counts). counts.cases - counts.failed) whole ∙ others_passed (all_cases suites)
