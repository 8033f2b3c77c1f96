use Rattle.std.proofs.Common.{append_assoc}
use Rattle.asl_diagnostics.proofs.WrittenFields.{index_fields-tokens, with_properties-tokens}
use Rattle.asl_diagnostics.proofs.sarif_results.write_result.Goals as goal

pub returns-clause-tokens : goal.returns-clause-tokens
returns-clause-tokens c =
    rw (
      with_properties-tokens,
      index_fields-tokens,
      c.in_ok-end_object.ensures.ok,
      c.in_ok-write_index.ensures.tokens,
      c.in_ok-write_string-2.ensures.tokens,
      c.in_ok-write_properties.ensures.tokens,
      c.in_ok-write_one_text.ensures.tokens,
      c.in_ok-write_locations.ensures.tokens,
      c.in_ok-key.ensures.ok,
      c.in_ok-write_string.ensures.tokens,
      c.in_ok-begin_object.ensures.ok,
      c.name.ensures,
      c.deref-2.ensures,
      c.in_ok-message-2.ensures,
      c.deref.ensures,
      c.in_ok-message.ensures,
      c.index_of.ensures,
      append_assoc,
      append_assoc,
      append_assoc,
      append_assoc,
      append_assoc,
      append_assoc,
      append_assoc,
      append_assoc,
    )
