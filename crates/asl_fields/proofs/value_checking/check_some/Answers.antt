use Rattle.std.proofs.Common.{arith, tests}
use Rattle.asl_fields.proofs.Values.{some_there}
use Rattle.asl_fields.proofs.value_checking.check_some.Goals as goal

pub returns-else-is_empty : goal.returns-else-is_empty
returns-else-is_empty c = some_there c.args.elements.now (grind (arith, tests))
