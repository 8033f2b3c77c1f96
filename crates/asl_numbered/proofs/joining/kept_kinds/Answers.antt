use Rattle.asl_numbered.proofs.Parts.{kinds_within}
use Rattle.asl_numbered.proofs.joining.kept_kinds.Goals as goal

pub kept_arrays-requires : goal.kept_arrays-requires
kept_arrays-requires c = record { within = (kinds_within c.args.table.now c.args.number c.in_ok-kinds.kinds c.requires.within c.in_ok-kinds.ensures.within).arrays }

pub kept_objects-requires : goal.kept_objects-requires
kept_objects-requires c = record { within = (kinds_within c.args.table.now c.args.number c.in_ok-kinds.kinds c.requires.within c.in_ok-kinds.ensures.within).objects }
