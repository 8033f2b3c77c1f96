use Rattle.asl_tree.specs.View.{view}
use Rattle.asl_records.specs.Parts.{tree_complaints}
use Rattle.asl_records.proofs.Shapes.{none_wrong_in, number_in, number_refusal_listed}
use Rattle.asl_records.proofs.fields.Reader.read_number.Goals as goal

pub returns-in-Ok-clause-right : goal.returns-in-Ok-clause-right
returns-in-Ok-clause-right c =
    record { each = λ reading means. none_wrong_in c.args.self.now.several c.args.shapes.now c.read_spelled.new.shapes c.args.self.now.listed reading c.args.self.now.name.now c.args.field.now (view c.args.tree.now) c.in-Ok.number means c.in-Ok.ensures.spelled }

pub returns-in-Ok-clause-number : goal.returns-in-Ok-clause-number
returns-in-Ok-clause-number c =
    record { each = λ reading means. number_in c.args.self.now.several c.args.shapes.now c.read_spelled.new.shapes c.args.self.now.listed reading (view c.args.tree.now) c.in-Ok.number means c.in-Ok.ensures.spelled c.in-Ok.ensures.number }

pub returns-in-Err-clause-refused : goal.returns-in-Err-clause-refused
returns-in-Err-clause-refused c =
    let t = view c.args.tree.now in
    let name = c.args.self.now.name.now in
    let field = c.args.field.now in
    record { each = λ reading means. c.no_number.ensures (tree_complaints reading name field t) (number_refusal_listed c.args.self.now.several c.args.shapes.now c.args.self.now.listed reading c.in-Err.refusal name field t means c.in-Err.ensures.refused) }
