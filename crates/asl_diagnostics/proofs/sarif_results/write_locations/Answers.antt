use Rattle.std.proofs.Common.{append_assoc}
use Rattle.asl_diagnostics.proofs.sarif_results.write_locations.Goals as goal

pub returns-clause-tokens : goal.returns-clause-tokens
returns-clause-tokens c =
    rw (
      c.in_ok-end_array.ensures.ok,
      c.in_ok-write_location.ensures.tokens,
      c.in_ok-begin_array.ensures.ok,
      append_assoc,
      append_assoc,
    )
