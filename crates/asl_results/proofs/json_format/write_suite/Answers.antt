use Rattle.std.proofs.Common.{append_assoc}
use Rattle.asl_results.proofs.WrittenFields.{with_lacking-tokens}
use Rattle.asl_results.proofs.json_format.write_suite.Goals as goal

pub returns-clause-tokens : goal.returns-clause-tokens
returns-clause-tokens c =
    rw (
      with_lacking-tokens,
      c.in_ok-end_object.ensures.ok,
      c.in_ok-write_text.ensures.tokens,
      c.in_ok-write_lacking.ensures.tokens,
      c.in_ok-write_cases.ensures.tokens,
      c.in_ok-key.ensures.ok,
      c.in_ok-begin_object.ensures.ok,
      c.deref.ensures.value,
      c.deref-2.ensures,
    )
    (simp append_assoc)
