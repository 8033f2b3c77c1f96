use Rattle.asl_shape.proofs.Lookups.{member_named_lookup}
use Rattle.asl_records.proofs.Values.{value_found}
use Rattle.asl_records.proofs.fields.stated.Goals as goal

pub returns : goal.returns
returns c = value_found c.args.field.now c.args.fields.now.entries c.get.result (member_named_lookup c.args.field.now c.args.fields.now.entries c.get.result c.get.ensures.value)
