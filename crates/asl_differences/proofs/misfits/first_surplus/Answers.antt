use Rattle.std.proofs.Common.{refl}
use Rattle.asl_tree.proofs.Views.{Entry}
use Rattle.asl_differences.proofs.Fields.{next_of_both}
use Rattle.asl_differences.proofs.misfits.first_surplus.Goals as goal

pub loop-name-preserved : goal.loop-name-preserved
loop-name-preserved c =
    let l = c.loop-name in
    let all = c.args.members.now.entries in
    let e : Entry = (c.in-Some.name.now, c.in-Some.member.now) in
    next_of_both all all l.name-iterator c.next.new.self l.name-iterator c.next.new.self e e c.in-Some.ensures.steps c.in-Some.ensures.steps refl l.invariant
