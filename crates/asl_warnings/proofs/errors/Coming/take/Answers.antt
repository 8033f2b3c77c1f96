use Rattle.std.proofs.Common.{subst, ◌∷◌, []}
use Rattle.asl_warnings.specs.Coming.{TakesUp}
use Rattle.asl_warnings.proofs.TakenUp.{takes-item, takes-none}
use Rattle.asl_warnings.proofs.errors.Coming.take.Goals as goal

pub loop-name-init : goal.loop-name-init
loop-name-init c = takes-none c.args.self.now

pub loop-name-preserved : goal.loop-name-preserved
loop-name-preserved c =
    takes-item c.args.self.now c.loop-name.self c.take_one.new.self c.args.names.now c.loop-name.name-index c.name-item.result c.loop-name-test.true c.name-item.is c.loop-name.invariant
    (subst (λ n. TakesUp c.loop-name.self c.take_one.new.self (n ∷ [])) c.deref.ensures c.in_ok-take_one.ensures)
