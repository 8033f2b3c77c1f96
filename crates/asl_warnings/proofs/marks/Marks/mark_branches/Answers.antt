use Rattle.asl_warnings.specs.Led.{number_of}
use Rattle.asl_warnings.proofs.Added.{adds-item}
use Rattle.asl_warnings.proofs.marks.Marks.mark_branches.Goals as goal

pub loop-start-preserved : goal.loop-start-preserved
loop-start-preserved c =
    adds-item number_of c.args.self.now c.loop-start.self c.mark.new.self c.args.branches.now c.loop-start.start-index c.start-item.result c.loop-start-test.true c.start-item.is c.loop-start.invariant c.in_ok-mark.ensures
