use Rattle.std.proofs.Common.{subst}
use Rattle.serde_json.specs.View.{view}
use Rattle.asl_fields.specs.Verdicts.{IsMisfit}
use Rattle.asl_fields.proofs.Single.{unread}
use Rattle.asl_fields.proofs.field_telling.find_misfit.Goals as goal

pub returns-in_default : goal.returns-in_default
returns-in_default c =
    let d = c.in_default in
    subst (λ faults. IsMisfit faults c.check_value.result) (unread c.args.wanted (view c.args.value.now) d.not-Path d.not-PathOrNull d.not-Template d.not-ItemTemplate d.not-Rules) c.check_value.ensures
