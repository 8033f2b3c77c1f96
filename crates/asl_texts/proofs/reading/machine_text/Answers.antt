use Rattle.std.proofs.Common.{refl, sym, subst}
use Rattle.std.proofs.lemmas.Result.{err_from_is_err_and}
use Rattle.serde_json.specs.View.{view}
use Rattle.asl_model.specs.StandsFor.{StandsFor}
use Rattle.asl_fields.specs.View.{refusal_view}
use Rattle.asl_texts.specs.View.{text_fault_view}
use Rattle.asl_texts.specs.Verifying.{RefusesDefinition}
use Rattle.asl_texts.proofs.RefusedTexts.{unread-definition, refused-definition}
use Rattle.asl_texts.proofs.reading.machine_text.Goals as goal

pub returns-in_err-value-clause-refused : goal.returns-in_err-value-clause-refused
returns-in_err-value-clause-refused c =
    let p = err_from_is_err_and c.from_residual.result c.from_residual.ensures.1 in
    let refused = c.in_err-value.ensures.refused in
    rw (p.1, p.2) (refused.0, unread-definition c.args.text.now (text_fault_view c.in_err-value.field-0.0.fault) refused.1)

pub returns-in-Ok-clause-machine : goal.returns-in-Ok-clause-machine
returns-in-Ok-clause-machine c =
    let value = view c.in_ok-value.value in
    record { value = value; reads = c.in_ok-value.ensures.value; stands = subst (StandsFor value) (sym c.in-Ok.ensures.scope) c.in-Ok.ensures.machine }

pub returns-clause-refused : goal.returns-clause-refused
returns-clause-refused c = (refl, subst (RefusesDefinition c.args.text.now) (sym c.definition_fault.ensures) (refused-definition c.args.text.now (view c.in_ok-value.value) (refusal_view c.in-Err.refusal) c.in_ok-value.ensures.value c.in-Err.ensures.refused))
