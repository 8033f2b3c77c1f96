use Rattle.std.proofs.Common.{true}
use Rattle.asl_tree.specs.View.{view}
use Rattle.asl_model.specs.Records.{declared_reading}
use Rattle.asl_records.specs.Parts.{tree_complaints}
use Rattle.asl_records.proofs.Shapes.{refusal_listed, refusal_told}
use Rattle.asl_records.proofs.fields.Reader.read_shape.Goals as goal

pub returns-in-Err-clause-refused : goal.returns-in-Err-clause-refused
returns-in-Err-clause-refused c =
    let t = view c.args.tree.now in
    c.no_shape.ensures (tree_complaints declared_reading c.args.self.now.name.now c.args.field.now t) (refusal_listed true c.in-Err.refusal c.args.self.now.name.now c.args.field.now t (refusal_told t c.read.result c.in-Err.refusal c.in-Err.is c.read.ensures.not_a_shape c.read.ensures.keyword c.read.ensures.bad_type c.read.ensures.min_items))
