use Rattle.std.proofs.Common.{append_assoc}
use Rattle.asl_diagnostics.proofs.sarif.write_rule.Goals as goal

pub returns-clause-tokens : goal.returns-clause-tokens
returns-clause-tokens c =
    simp (
      c.in_ok-end_object.ensures.ok,
      c.in_ok-write_one_text-4.ensures.tokens,
      c.in_ok-write_string.ensures.tokens,
      c.in_ok-write_one_text-3.ensures.tokens,
      c.in_ok-write_one_text-2.ensures.tokens,
      c.in_ok-write_one_text.ensures.tokens,
      c.in_ok-begin_object.ensures.ok,
      c.name.ensures,
      append_assoc,
    )
