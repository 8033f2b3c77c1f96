use Rattle.std.proofs.Common.{◌≡◌, Some, option_map, sym, ap, ◌∙◌, bytes_eq}
use Rattle.std.proofs.lemmas.Slice.Eq.{bytes_eq-Decides}
use Rattle.asl_machine_table.specs.Table.{scope_in}
use Rattle.asl_states.specs.Machine.{target_name}
use Rattle.asl_machine_table.proofs.Numbers.{number_at}
use Rattle.asl_machine_table.proofs.machine.Machine.state_of.Goals as goal

pub returns-in-Some : goal.returns-in-Some
returns-in-Some c =
    let m = c.args.self.now in
    let target = c.args.target.now in
    let same : c.in-Some.name.now ≡ target_name target = (bytes_eq-Decides c.in-Some.name.now (target_name target)).0 (ap (bytes_eq c.in-Some.name.now) (sym c.as_str.ensures.value) ∙ (sym c.eq.ensures ∙ c.if-eq.true)) in
    record { number = number_at m (scope_in m) c.is_shown.ensures.shown target.number (target_name target) (sym c.name.ensures.name ∙ ap (option_map (λ n. n.now)) c.in-Some.is ∙ ap Some same) }
