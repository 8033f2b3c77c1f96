use Rattle.std.proofs.Common.{sym, ap, ◌∙◌}
use Rattle.asl_model.specs.Edges.{stands_at}
use Rattle.asl_machine_table.specs.Table.{table_view}
use Rattle.asl_state_edges.specs.View.{destination_view}
use Rattle.asl_check.specs.Numbers.{certificate_of}
use Rattle.asl_check.specs.Rules.{inputs_in}
use Rattle.asl_check.specs.Standing.{standing_view}
use Rattle.asl_check.proofs.standing.Standing.number_at.Goals as goal

pub returns-in-Input-clause-seen : goal.returns-in-Input-clause-seen
returns-in-Input-clause-seen c = λ table standing.
    let s = c.args.self.now in
    c.input_to_compare.ensures.seen table standing.checker
    ∙ (ap (inputs_in (table_view s.checker.now.machine.now) (certificate_of table s.checker.now)) c.deref.ensures
    ∙ ap (λ d. stands_at (standing_view table s) (destination_view d)) (sym c.in-Input.is))
