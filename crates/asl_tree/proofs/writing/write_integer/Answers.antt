use Rattle.asl_tree.proofs.Tokens.{integer_back}
use Rattle.asl_tree.proofs.writing.write_integer.Goals as goal

pub returns-clause-reads_back : goal.returns-clause-reads_back
returns-clause-reads_back c = integer_back c.args.number c.ranges.number
