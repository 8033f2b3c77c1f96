use Rattle.std.proofs.Common.{Some, subst}
use Rattle.asl_numbered.specs.Joins.{joint, AreJoined}
use Rattle.asl_numbered.proofs.Parts.{objects_there, assembled}
use Rattle.asl_numbered.proofs.joining.assemble.Goals as goal

pub put_part-requires-in-Some : goal.put_part-requires-in-Some
put_part-requires-in-Some c =
    let table = c.args.table.now in
    let joined : AreJoined table (Some c.in-Some.kinds) (joint table c.args.pair) = subst (λ kinds. AreJoined table kinds (joint table c.args.pair)) c.in-Some.is c.in_ok-join_kinds.ensures.kinds in
    record { within = objects_there table c.put_part.new.table c.in-Some.kinds _ c.in_ok-put_part-in-Some.ensures.keeps joined }

pub returns-in_ok-put_part-in-Some-2-clause-number : goal.returns-in_ok-put_part-in-Some-2-clause-number
returns-in_ok-put_part-in-Some-2-clause-number c =
    let table = c.args.table.now in
    let joined : AreJoined table (Some c.in-Some.kinds) (joint table c.args.pair) = subst (λ kinds. AreJoined table kinds (joint table c.args.pair)) c.in-Some.is c.in_ok-join_kinds.ensures.kinds in
    assembled table c.put_part.new.table c.put_part-in-Some.new.table _ c.in-Some.kinds _ c.in_ok-put_part-in-Some.field-0 c.in_ok-put_part-in-Some-2.field-0 c.put_kinds.result joined c.in_ok-put_part-in-Some.ensures.keeps c.in_ok-put_part-in-Some.ensures.number c.in_ok-put_part-in-Some-2.ensures.keeps c.in_ok-put_part-in-Some-2.ensures.number c.put_kinds.ensures.number
