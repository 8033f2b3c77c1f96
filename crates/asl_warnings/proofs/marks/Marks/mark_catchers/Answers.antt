use Rattle.asl_warnings.specs.Led.{caught_by}
use Rattle.asl_warnings.proofs.Added.{adds-item}
use Rattle.asl_warnings.proofs.marks.Marks.mark_catchers.Goals as goal

pub loop-catcher-preserved : goal.loop-catcher-preserved
loop-catcher-preserved c =
    adds-item caught_by c.args.self.now c.loop-catcher.self c.mark.new.self c.args.catchers.now c.loop-catcher.catcher-index c.catcher-item.result c.loop-catcher-test.true c.catcher-item.is c.loop-catcher.invariant c.in_ok-mark.ensures
