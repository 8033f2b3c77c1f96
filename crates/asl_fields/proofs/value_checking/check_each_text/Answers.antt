use Rattle.asl_model.specs.DefinitionTable as model
use Rattle.asl_fields.proofs.Values.{each_told}
use Rattle.asl_fields.proofs.Checks.{handed_on}
use Rattle.asl_fields.proofs.value_checking.check_each_text.Goals as goal

pub returns-in_err-check_text : goal.returns-in_err-check_text
returns-in_err-check_text c =
    handed_on _ c.from_residual.result c.in_err-check_text.field-0.0 c.from_residual.ensures.1 (each_told model.text_misfits c.args.values.now c.loop-value.value-index c.value-item.result c.in_err-check_text.field-0.0 c.loop-value-test.true c.value-item.is c.loop-value.invariant c.in_err-check_text.ensures)
