use Rattle.asl_machine.proofs.Checks.{handed_on, told_first, told_next}
use Rattle.asl_machine.proofs.kinds.read_map.Goals as goal

pub returns-in_err-items_path-clause-told : goal.returns-in_err-items_path-clause-told
returns-in_err-items_path-clause-told c =
    handed_on _ c.from_residual-in_err-items_path.result c.in_err-items_path.field-0.0 c.from_residual-in_err-items_path.ensures.1 (told_first _ _ c.in_err-items_path.field-0.0 c.in_err-items_path.ensures.told)

pub returns-in_err-item_selector-clause-told : goal.returns-in_err-item_selector-clause-told
returns-in_err-item_selector-clause-told c =
    handed_on _ c.from_residual-in_err-item_selector.result c.in_err-item_selector.field-0.0 c.from_residual-in_err-item_selector.ensures.1 (told_next _ _ _ c.in_ok-items_path.ensures.told (record { holds = c.in_err-item_selector.ensures.told.holds }))
