use Rattle.std.proofs.Common.{◌≡◌, drop}
use Rattle.serde_json.specs.View.{items_view}
use Rattle.asl_model.specs.DefinitionTable as model
use Rattle.asl_fields.proofs.value_checking.check_each_text.Given as goal

abbrev pub invariant-loop-value : goal.invariant-loop-value
invariant-loop-value l =
    model.wrong_with_each model.text_misfits (items_view l.values) ≡ model.wrong_with_each model.text_misfits (items_view (drop l.value-index l.values))
