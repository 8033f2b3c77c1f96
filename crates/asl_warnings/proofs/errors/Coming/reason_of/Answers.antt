use Rattle.std.proofs.Common.{subst}
use Rattle.asl_warnings.specs.Coming.{DoesNotCome}
use Rattle.asl_warnings.proofs.TakenUp.{none-more, none-of-none}
use Rattle.asl_warnings.proofs.errors.Coming.reason_of.Goals as goal

pub loop-name-init : goal.loop-name-init
loop-name-init c = none-of-none c.args.self.now

pub loop-name-preserved : goal.loop-name-preserved
loop-name-preserved c =
    none-more c.args.self.now c.args.names.now c.loop-name.name-index c.name-item.result c.loop-name-test.true c.name-item.is c.loop-name.invariant
    (subst (DoesNotCome c.args.self.now) c.deref.ensures c.in_ok-other.ensures)
