use Rattle.std.proofs.Common.{append_assoc}
use Rattle.asl_diagnostics.proofs.sarif_results.write_location.Goals as goal

pub returns-clause-tokens : goal.returns-clause-tokens
returns-clause-tokens c =
    simp (
      c.in_ok-end_object.ensures.ok,
      c.in_ok-write_physical.ensures.tokens,
      c.in_ok-key-2.ensures.ok,
      c.in_ok-write_logical.ensures.tokens,
      c.in_ok-key.ensures.ok,
      c.in_ok-begin_object.ensures.ok,
      append_assoc,
    )
