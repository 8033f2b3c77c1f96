use Rattle.std.proofs.Common.{append_assoc}
use Rattle.asl_results.proofs.WrittenFields.{with_difference-tokens}
use Rattle.asl_results.proofs.json_format.write_case.Goals as goal

pub returns-clause-tokens : goal.returns-clause-tokens
returns-clause-tokens c =
    rw (
      with_difference-tokens,
      c.in_ok-end_object.ensures.ok,
      c.in_ok-boolean.ensures.ok,
      c.in_ok-key.ensures.ok,
      c.in_ok-write_text.ensures.tokens,
      c.in_ok-write_difference.ensures.tokens,
      c.in_ok-begin_object.ensures.ok,
      c.is_failed.ensures,
      c.deref.ensures,
    )
    (simp append_assoc)
