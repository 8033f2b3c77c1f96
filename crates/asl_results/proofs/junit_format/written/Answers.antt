use Rattle.std.proofs.Common.{append_assoc}
use Rattle.asl_results.proofs.junit_format.written.Goals as goal

pub returns : goal.returns
returns c =
    simp (
      c.in_ok-push_str.ensures.bytes,
      c.in_ok-push_suites.ensures,
      c.in_ok-write.ensures.bytes,
      c.in_ok-counts.ensures.counts,
      c.new-text.ensures.bytes,
      append_assoc,
    )
