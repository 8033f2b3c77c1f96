use Rattle.std.proofs.Common.{arith}
use Rattle.asl_machine.proofs.Starts.{starts_all}
use Rattle.asl_machine.proofs.scopes.build_starts.Goals as goal

pub returns : goal.returns
returns c =
    let l = c.loop-scope in
    starts_all l.starts.items c.args.scopes.now l.scope-index (omega arith) l.invariant
