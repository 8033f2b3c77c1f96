use Rattle.std.proofs.Common.{arith}
use Rattle.asl_run.proofs.Parents.{one_begun}
use Rattle.asl_run.proofs.standing.note_children.Goals as goal

pub loop-child-preserved : goal.loop-child-preserved
loop-child-preserved c =
    let l = c.loop-child in
    record {
      begun = one_begun c.args.progress.now.items l.progress.items c.push_reserved.new.self.items c.args.number.0 c.args.added l._child c.of_new-in-loop-child.result c.requires.within c.push_reserved.ensures.items l.invariant.begun;
      room = omega (arith, l.invariant.room, c.push_reserved.ensures.capacity);
    }
