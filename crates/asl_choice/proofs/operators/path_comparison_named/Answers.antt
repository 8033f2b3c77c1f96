use Rattle.std.proofs.Common.{sym}
use Rattle.asl_choice.proofs.Names.{no_path}
use Rattle.asl_choice.proofs.operators.path_comparison_named.Goals as goal

pub returns-in-None : goal.returns-in-None
returns-in-None c = sym (no_path c.args.name.now c.in-None.ensures.cases)
