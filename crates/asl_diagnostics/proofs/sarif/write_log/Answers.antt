use Rattle.std.proofs.Common.{append_assoc}
use Rattle.asl_diagnostics.proofs.sarif.write_log.Goals as goal

pub returns-clause-tokens : goal.returns-clause-tokens
returns-clause-tokens c =
    rw (
      c.in_ok-end_object.ensures.ok,
      c.in_ok-write_string-2.ensures.tokens,
      c.in_ok-write_runs.ensures.tokens,
      c.in_ok-key.ensures.ok,
      c.in_ok-write_string.ensures.tokens,
      c.in_ok-begin_object.ensures.ok,
      append_assoc,
      append_assoc,
      append_assoc,
      append_assoc,
      append_assoc,
    )
