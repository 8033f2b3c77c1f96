use Rattle.serde_json.specs.View.{view}
use Rattle.asl_fields.proofs.Single.{single_misfit}
use Rattle.asl_fields.proofs.field_telling.tell_value.Goals as goal

pub returns-in_ok-tell_fault-in_default : goal.returns-in_ok-tell_fault-in_default
returns-in_ok-tell_fault-in_default c =
    c.in_ok-tell_fault-in_default.ensures _ c.find_misfit.ensures (single_misfit c.args.wanted (view c.args.value.now) c.in_default.not-Names c.in_default.not-Rules)
