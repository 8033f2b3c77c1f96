use Rattle.std.proofs.Common.{refl}
use Rattle.asl_model.specs.Records.{BadNumber}
use Rattle.asl_records.specs.Parts.{complaint_of}
use Rattle.asl_records.proofs.Shapes.{spelling_told}
use Rattle.asl_records.proofs.Telling.{told_within}
use Rattle.asl_records.proofs.fields.Reader.no_number.Goals as goal

pub returns-in-Shape : goal.returns-in-Shape
returns-in-Shape c = λ wrong listed.
    c.no_shape.ensures wrong (spelling_told c.in-Shape.refusal c.args.self.now.name.now c.args.field.now wrong (rw c.in-Shape.is at listed))

pub returns-in-BadNumber : goal.returns-in-BadNumber
returns-in-BadNumber c = λ wrong listed.
    told_within c.refuse.result (complaint_of c.args.self.now.name.now c.args.field.now BadNumber) wrong (c.refuse.ensures BadNumber refl) (rw c.in-BadNumber.is at listed)
