use Rattle.std.proofs.Common.{append_assoc}
use Rattle.asl_diagnostics.proofs.WrittenFields.{with_example-tokens, with_text-tokens}
use Rattle.asl_diagnostics.proofs.listing.write_diagnostic.Goals as goal

pub returns-clause-tokens : goal.returns-clause-tokens
returns-clause-tokens c =
    rw (
      with_example-tokens,
      with_text-tokens,
      with_text-tokens,
      c.in_ok-end_object.ensures.ok,
      c.in_ok-write_text-2.ensures.tokens,
      c.in_ok-write_string-4.ensures.tokens,
      c.in_ok-write_string-3.ensures.tokens,
      c.in_ok-write_string-2.ensures.tokens,
      c.in_ok-write_number-2.ensures.tokens,
      c.in_ok-write_string.ensures.tokens,
      c.in_ok-write_text.ensures.tokens,
      c.in_ok-write_example.ensures.tokens,
      c.in_ok-write_number.ensures.tokens,
      c.in_ok-begin_object.ensures.ok,
      c.deref.ensures,
      c.deref-2.ensures,
      c.name.ensures,
    )
    (simp append_assoc)
