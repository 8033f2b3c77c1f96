use Rattle.std.proofs.Common.{sym, ap, ◌∙◌, map, option_and_then, option_map}
use Rattle.std.specs.Option.{option_copied}
use Rattle.asl_run.specs.Entries.{entry_view}
use Rattle.asl_cases.specs.Asking.{last_of}
use Rattle.asl_cases.specs.Judging.{outcome_in}
use Rattle.asl_cases.proofs.Around.{last_entry}
use Rattle.asl_cases.proofs.playing.Played.outcome.Goals as goal

pub returns-in-Some : goal.returns-in-Some
returns-in-Some c =
    c.outcome_in.ensures
    ∙ ap (λ o. option_and_then outcome_in (option_map entry_view (option_copied o))) (sym c.in-Some.is)
    ∙ ap (option_and_then outcome_in) (sym (last_entry c.deref.result.now c.last.result c.last.ensures.value))
    ∙ ap (λ trace. option_and_then outcome_in (last_of (map entry_view trace))) c.deref.ensures.value
