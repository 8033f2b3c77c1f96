use Rattle.std.proofs.Common.{append_assoc}
use Rattle.asl_results.proofs.json_format.write_report.Goals as goal

pub returns-clause-tokens : goal.returns-clause-tokens
returns-clause-tokens c =
    rw (
      c.in_ok-end_object.ensures.ok,
      c.in_ok-write_suites.ensures.tokens,
      c.in_ok-key.ensures.ok,
      c.in_ok-write_number-2.ensures.tokens,
      c.in_ok-write_number.ensures.tokens,
      c.in_ok-begin_object.ensures.ok,
      c.passed-passed.ensures,
      c.in_ok-counts.ensures.passed,
      c.in_ok-counts.ensures.counts,
    )
    (simp append_assoc)
