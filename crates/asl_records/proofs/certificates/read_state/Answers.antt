use Rattle.std.proofs.lemmas.Result.{IfErr-weaker, IfOk-weaker, on_ok_weaker}
use Rattle.asl_model.specs.Records.{state_from, state_rows}
use Rattle.asl_tree.specs.View.{view}
use Rattle.asl_records.specs.Numbering.{AreStateOf}
use Rattle.asl_records.proofs.Alike.{state_from-signed}
use Rattle.asl_records.proofs.Standing.{object_right, object_told}
use Rattle.asl_records.proofs.Values.{gives_value}
use Rattle.asl_records.proofs.certificates.read_state.Goals as goal

pub returns-clause-right : goal.returns-clause-right
returns-clause-right c = on_ok_weaker c.read_entry.result (λ h. record { each = λ reading means. object_right reading c.args.name.now state_rows (view c.args.tree.now) (h.each reading means) }) c.read_entry.ensures.right

pub returns-clause-numbers : goal.returns-clause-numbers
returns-clause-numbers c =
    IfOk-weaker c.read_entry.result _ _ (λ state h. record { each = λ reading means. gives_value (state_from reading.listed) (state_from-signed reading.listed) (λ shapes. AreStateOf c.read_entry.new.shapes shapes state) (view c.args.tree.now) (h.each reading means) }) c.read_entry.ensures.numbers

pub returns-clause-refused : goal.returns-clause-refused
returns-clause-refused c =
    IfErr-weaker c.read_entry.result _ _ (λ f h. record { each = λ reading means. object_told reading c.args.name.now state_rows (view c.args.tree.now) f (h.each reading means) }) c.read_entry.ensures.refused
