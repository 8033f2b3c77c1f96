use Rattle.std.proofs.Common.{refl}
use Rattle.asl_shape.proofs.Naming.{has_next}
use Rattle.asl_warnings.proofs.TakenUp.{takes-one}
use Rattle.asl_warnings.proofs.errors.Coming.take_one.Goals as goal

pub returns-in_ok-insert : goal.returns-in_ok-insert
returns-in_ok-insert c =
    takes-one c.args.self.now _ c.args.name.now refl refl (has_next c.args.self.now.named.keys c.insert.new.self.keys c.args.name c.in_ok-insert.ensures.updates.0)
