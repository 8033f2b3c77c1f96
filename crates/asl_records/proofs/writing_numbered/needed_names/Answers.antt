use Rattle.std.proofs.Common.{◌∙◌}
use Rattle.asl_records.proofs.References.{name_written, names_written}
use Rattle.asl_records.proofs.writing_numbered.needed_names.Goals as goal

pub returns : goal.returns
returns c = record { written = names_written c.loop-name.names.items c.args.fields.now.entries c.loop-name.name-iterator c.in-None.ensures.steps.0 c.loop-name.invariant }

pub loop-name-preserved-in_ok-push : goal.loop-name-preserved-in_ok-push
loop-name-preserved-in_ok-push c =
    name_written c.loop-name.names.items c.push.new.self.items (c.in-Some.name.now, c.in-Some.field.now) c.next.new.self c.loop-name.name-iterator c.in_ok-from_str.field-0 _ c.in_ok-push.ensures.items c.in-Some.ensures.steps c.if-field.true (c.in_ok-from_str.ensures.ok ∙ c.deref.ensures.value) c.loop-name.invariant
