use Rattle.asl_records.proofs.Shapes.{shape_told}
use Rattle.asl_records.proofs.fields.Reader.no_shape.Goals as goal

pub returns-in-NotAShape : goal.returns-in-NotAShape
returns-in-NotAShape c = λ wrong listed.
    shape_told c.args.refusal c.args.self.now.name.now c.args.field.now wrong c.refuse.result c.in-NotAShape.is c.refuse.ensures listed
