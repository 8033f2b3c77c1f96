use Rattle.std.proofs.Common.{map, sym, ◌∙◌, rules}
use Rattle.asl_check.specs.View.{finding_view}
use Rattle.asl_check.specs.declared.verdicts.Located.{Located}
use Rattle.asl_problems.specs.Told.{of_finding, told_by}
use Rattle.asl_problems.proofs.Lists.{map_twice, none_left, one_more}
use Rattle.asl_problems.proofs.findings.problems_of_findings.Goals as goal

pub loop-located-preserved : goal.loop-located-preserved
loop-located-preserved c =
    let l = c.loop-located in
    one_more (λ f. of_finding (finding_view f.finding)) told_by (map (λ f. of_finding (finding_view f.finding)) c.args.findings.items) l.problems.items _ l.located-iterator.rest.items c.next.new.self.rest.items c.in-Some.located c.finding-problem.result
    l.invariant c.in-Some.ensures.steps.0 c.in_ok-push.ensures.items c.finding-problem.ensures

pub returns : goal.returns
returns c =
    let l = c.loop-located in
    none_left (λ f. of_finding (finding_view f.finding)) told_by (map (λ f. of_finding (finding_view f.finding)) c.args.findings.items) l.problems.items l.located-iterator.rest.items l.invariant (search rules)
    ∙ sym (map_twice (λ (f : Located). finding_view f.finding) of_finding c.args.findings.items)
