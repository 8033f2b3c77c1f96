use Rattle.std.proofs.Common.{◌≡◌, map, Some, ap, ◌∙◌}
use Rattle.std.proofs.lemmas.Result.{IfOk-weaker}
use Rattle.asl_model.specs.Records.{declared_complaints}
use Rattle.asl_tree.specs.View.{view}
use Rattle.asl_records.specs.View.{complaint_view}
use Rattle.asl_records.proofs.Alike.{declared_complaints-signed}
use Rattle.asl_records.proofs.Values.{for_value}
use Rattle.asl_complaints.proofs.records.complaints.Goals as goal

pub returns : goal.returns
returns c =
    IfOk-weaker c.tell_all.result _ _ (λ told h.
    for_value (λ v. map complaint_view told.items ≡ map Some (declared_complaints v)) (λ v same. same ∙ ap (map Some) (declared_complaints-signed v)) (view c.args.tree.now) h)
    c.tell_all.ensures
