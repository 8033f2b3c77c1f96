use Rattle.std.proofs.Common.{◌∙◌, sym, bytes_eq, string_bytes}
use Rattle.asl_states.proofs.Positions.{position-map}
use Rattle.asl_machine_table.proofs.machine.Machine.state_named.Goals as goal

pub returns : goal.returns
returns c =
    rw (← c.self.view_is) (record { number = c.get_index_of.ensures.index ∙ sym (position-map (bytes_eq c.args.name.now) string_bytes c.self.inside.names.keys) })
