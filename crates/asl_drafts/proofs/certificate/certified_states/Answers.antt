use Rattle.std.proofs.Common.{◌-◌, arith}
use Rattle.asl_machine_table.specs.Table.{table_view}
use Rattle.asl_drafts.proofs.Certified.{certified-none}
use Rattle.asl_drafts.proofs.certificate.certified_states.Goals as goal

pub loop-passed-init : goal.loop-passed-init
loop-passed-init c =
    certified-none (table_view c.args.machine.now) c.args.draft.now (c.states-count.result - 0) c.new-states.result.entries c.new-states.ensures.empty (omega (arith, c.states-count.ensures.number))
