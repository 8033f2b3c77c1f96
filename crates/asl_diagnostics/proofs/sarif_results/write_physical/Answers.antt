use Rattle.std.proofs.Common.{append_assoc}
use Rattle.asl_diagnostics.proofs.sarif_results.write_physical.Goals as goal

pub returns-clause-tokens : goal.returns-clause-tokens
returns-clause-tokens c =
    simp (
      c.in_ok-end_object-2.ensures.ok,
      c.in_ok-end_object.ensures.ok,
      c.in_ok-write_number-2.ensures.tokens,
      c.in_ok-write_number.ensures.tokens,
      c.in_ok-begin_object-2.ensures.ok,
      c.in_ok-key.ensures.ok,
      c.in_ok-write_one_text.ensures.tokens,
      c.in_ok-begin_object.ensures.ok,
      c.deref-2.ensures,
      c.in_ok-uri.ensures,
      c.deref.ensures,
      append_assoc,
    )
