use Rattle.std.proofs.Common.{append_assoc}
use Rattle.asl_results.specs.Junit.{suite_element}
use Rattle.asl_results.proofs.junit_format.push_suite.Goals as goal

pub returns : goal.returns
unfolding suite_element
returns c =
    simp (
      c.in_ok-push_str.ensures.bytes,
      c.in_ok-push_output.ensures,
      c.in_ok-push_cases.ensures,
      c.in_ok-write.ensures.bytes,
      c.of-cases.ensures,
      c.deref.ensures,
      c.deref-2.ensures.value,
      c.deref-3.ensures,
      c.deref-4.ensures.value,
      append_assoc,
    )
