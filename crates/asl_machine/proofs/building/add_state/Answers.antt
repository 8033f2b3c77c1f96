use Rattle.std.proofs.Common.{refl}
use Rattle.asl_machine.specs.Built.{stands_at}
use Rattle.asl_machine.proofs.Added.{adds_one}
use Rattle.asl_machine.proofs.building.add_state.Goals as goal

pub returns : goal.returns
returns c s is = adds_one c.args.built.now.items c.push.new.self.items _ (stands_at c.args.home c.args.name.now s) c.in_ok-push.ensures.items (rw (c.in_ok-from_str.ensures.ok, is) refl)
