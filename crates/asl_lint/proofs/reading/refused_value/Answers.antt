use Rattle.std.proofs.Common.{sym, ◌∙◌}
use Rattle.serde_json.specs.View.{view}
use Rattle.asl_lint.proofs.Refusals.{refused_by, some_there}
use Rattle.asl_lint.proofs.reading.refused_value.Goals as goal

pub returns : goal.returns
returns c = λ text reads.
    refused_by text (view c.args.value.now) c.in_ok-problems.problems.items reads c.in_ok-problems.ensures
    (some_there c.in_ok-problems.problems.items _ c.in_ok-problems.problems.ok.0 (sym c.is_empty.ensures ∙ c.if-is_empty.false))
