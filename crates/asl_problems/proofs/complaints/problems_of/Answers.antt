use Rattle.std.proofs.Common.{Some, option_map, sym, rules}
use Rattle.asl_fields.specs.View.{refusal_view}
use Rattle.asl_problems.specs.Told.{refusals_told}
use Rattle.asl_problems.specs.Told.{of_complaint, told_by}
use Rattle.asl_problems.proofs.Lists.{none_left, one_more}
use Rattle.asl_problems.proofs.complaints.problems_of.Goals as goal

pub loop-refusal-preserved : goal.loop-refusal-preserved
loop-refusal-preserved c =
    let l = c.loop-refusal in
    one_more (λ r. option_map of_complaint (refusal_view r)) (λ p. Some (told_by p)) (refusals_told c.args.refusals.items) l.problems.items _ l.refusal-iterator.rest.items c.next.new.self.rest.items c.in-Some.refusal c.in_ok-problem.problem
    l.invariant c.in-Some.ensures.steps.0 c.in_ok-push.ensures.items (sym c.in_ok-problem.ensures)

pub returns : goal.returns
returns c =
    let l = c.loop-refusal in
    none_left (λ r. option_map of_complaint (refusal_view r)) (λ p. Some (told_by p)) (refusals_told c.args.refusals.items) l.problems.items l.refusal-iterator.rest.items l.invariant (search rules)
