use Rattle.std.proofs.Common.{append_assoc}
use Rattle.asl_results.specs.Junit.{case_element}
use Rattle.asl_results.proofs.junit_format.push_case.Goals as goal

pub returns-in_ok-push_str-in-None : goal.returns-in_ok-push_str-in-None
unfolding case_element
returns-in_ok-push_str-in-None c =
    simp (c.in_ok-push_str-in-None.ensures.bytes, c.in_ok-write.ensures.bytes, c.deref.ensures, c.in-None.is, append_assoc)

pub returns-in_ok-push_failure-in-Some : goal.returns-in_ok-push_failure-in-Some
unfolding case_element
returns-in_ok-push_failure-in-Some c =
    simp (
      c.in_ok-push_failure-in-Some.ensures,
      c.in_ok-write.ensures.bytes,
      c.deref.ensures,
      c.deref-in-Some.ensures,
      c.in-Some.is,
      append_assoc,
    )
