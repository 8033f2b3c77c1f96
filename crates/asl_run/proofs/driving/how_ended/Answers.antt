use Rattle.std.proofs.Common.{ap, sym, ◌∙◌, option_map, Some}
use Rattle.asl_run.specs.Entries.{outcome_view}
use Rattle.asl_run.proofs.driving.how_ended.Goals as goal
use Rattle.asl_tree.specs.View.{view}

pub returns-in-Some-Output : goal.returns-in-Some-Output
returns-in-Some-Output c =
    let ended = c.in-Some-Output in
    (view ended.field-0-0.value, sym c.outcome.ensures ∙ ap (option_map (λ o. outcome_view o.now)) ended.is ∙ ap (λ o. Some (outcome_view o)) ended.field-0-is)
