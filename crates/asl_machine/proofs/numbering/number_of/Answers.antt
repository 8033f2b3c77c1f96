use Rattle.std.proofs.Common.{◌∙◌, sym, ap, bytes_eq, string_bytes}
use Rattle.std.specs.Option.{unwrap_or}
use Rattle.asl_states.proofs.Positions.{position-map}
use Rattle.asl_machine.proofs.numbering.number_of.Goals as goal

pub returns : goal.returns
returns c = c.unwrap_or.ensures ∙ ap (λ o. unwrap_or o 0) (c.get_index_of.ensures.index ∙ sym (position-map (bytes_eq c.args.name.now) string_bytes c.args.names.now.keys))
