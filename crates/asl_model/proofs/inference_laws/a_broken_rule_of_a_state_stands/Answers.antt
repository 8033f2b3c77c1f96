use Rattle.asl_model.proofs.BrokenStands.{stands_in_machine, stands_in_table, stands_for_some}
use Rattle.asl_model.proofs.inference_laws.a_broken_rule_of_a_state_stands.Goals as goal

pub returns : goal.returns
returns c = record { in_machine = stands_in_machine; in_table = stands_in_table; for_some = stands_for_some }
