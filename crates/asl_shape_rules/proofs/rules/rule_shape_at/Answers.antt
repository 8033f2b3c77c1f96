use Rattle.std.proofs.Common.{ap, ◌∙◌}
use Rattle.asl_choice.specs.View as tests
use Rattle.asl_numbered.specs.Expansion.{shape_at}
use Rattle.asl_shape_paths.specs.Doubts.{doubtful_view, found_view}
use Rattle.asl_shape_rules.proofs.DoubtfulRules.{rule_refused, told_refused}
use Rattle.asl_shape_rules.proofs.rules.rule_shape_at.Goals as goal

pub counterexample_at-requires-clause-refused : goal.counterexample_at-requires-clause-refused
counterexample_at-requires-clause-refused c =
    let s = shape_at c.args.shapes.now c.args.number in
    let table = c.let_through_at.new.shapes in
    let told = c.in_ok-narrowed.ensures.as_defined ∙ ap (found_view table) c.in-Err.is in
    told_refused _ (doubtful_view table c.in-Err.doubtful) (rule_refused (tests.view c.args.test.now) s) told
