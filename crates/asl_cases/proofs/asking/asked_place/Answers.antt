use Rattle.std.proofs.Common.{[], sym, ap, ◌∙◌, option_map}
use Rattle.std.specs.Option.{option_copied, unwrap_or}
use Rattle.asl_run.specs.Entries.{entry_view}
use Rattle.asl_cases.specs.Stepping.{place_in}
use Rattle.asl_cases.proofs.Around.{asked_of}
use Rattle.asl_cases.proofs.asking.asked_place.Goals as goal

pub returns-in-Some : goal.returns-in-Some
returns-in-Some c =
    c.place_in.ensures
    ∙ ap (λ o. unwrap_or (option_map (λ e. place_in (entry_view e)) (option_copied o)) []) (sym c.in-Some.is)
    ∙ sym (asked_of c.args.trace.now c.last.result c.last.ensures.value)
