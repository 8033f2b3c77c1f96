use Rattle.asl_machine.proofs.Checks.{handed_on, told_first, told_next}
use Rattle.asl_machine.proofs.settings.read_processing.Goals as goal

pub returns-in_err-result_selector-clause-told : goal.returns-in_err-result_selector-clause-told
returns-in_err-result_selector-clause-told c =
    handed_on _ c.from_residual.result c.in_err-result_selector.field-0.0 c.from_residual.ensures.1 (told_first _ _ c.in_err-result_selector.field-0.0 c.in_err-result_selector.ensures.told)

pub returns-in_err-result_path-clause-told : goal.returns-in_err-result_path-clause-told
returns-in_err-result_path-clause-told c =
    handed_on _ c.from_residual-in_err-result_path.result c.in_err-result_path.field-0.0 c.from_residual-in_err-result_path.ensures.1 (told_next _ _ _ c.in_ok-result_selector.ensures.told (told_first _ _ c.in_err-result_path.field-0.0 c.in_err-result_path.ensures.told))

pub returns-in_err-input_path-clause-told : goal.returns-in_err-input_path-clause-told
returns-in_err-input_path-clause-told c =
    handed_on _ c.from_residual-in_err-input_path.result c.in_err-input_path.field-0.0 c.from_residual-in_err-input_path.ensures.1 (told_next _ _ _ c.in_ok-result_selector.ensures.told (told_next _ _ _ c.in_ok-result_path.ensures.told (told_first _ _ c.in_err-input_path.field-0.0 c.in_err-input_path.ensures.told)))

pub returns-clause-told : goal.returns-clause-told
returns-clause-told c = told_next _ _ _ c.in_ok-result_selector.ensures.told (told_next _ _ _ c.in_ok-result_path.ensures.told (told_next _ _ _ c.in_ok-input_path.ensures.told (record { holds = c.in_ok-output_path.ensures.told.holds })))

pub returns-in_err-output_path-clause-told : goal.returns-in_err-output_path-clause-told
returns-in_err-output_path-clause-told c =
    handed_on _ c.from_residual-in_err-output_path.result c.in_err-output_path.field-0.0 c.from_residual-in_err-output_path.ensures.1 (told_next _ _ _ c.in_ok-result_selector.ensures.told (told_next _ _ _ c.in_ok-result_path.ensures.told (told_next _ _ _ c.in_ok-input_path.ensures.told (record { holds = c.in_err-output_path.ensures.told.holds }))))
