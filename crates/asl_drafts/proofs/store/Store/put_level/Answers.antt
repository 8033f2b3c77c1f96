use Rattle.std.proofs.Common.{subst}
use Rattle.std.specs.Prelude.{IfSome}
use Rattle.asl_numbered.specs.Kinds.{IsProperNode}
use Rattle.asl_drafts.proofs.store.Store.put_level.Goals as goal

pub put-requires-clause-proper : goal.put-requires-clause-proper
put-requires-clause-proper c =
    let table = c.args.self.now in
    subst (λ level. IfSome level (IsProperNode table)) c.in-Some.is (c.requires.proper table)
