use Rattle.std.proofs.Common.{Ok, ap}
use Rattle.asl_intrinsic.proofs.Calls.{pushed}
use Rattle.asl_intrinsic.proofs.meaning.and_argument.Goals as goal

pub returns-in_ok-push-in-Ok-argument : goal.returns-in_ok-push-in-Ok-argument
returns-in_ok-push-in-Ok-argument c = rw (c.in-Ok.is, c.in-Ok-argument.is) (ap Ok (pushed c.in-Ok.arguments.items c.push.new.self.items c.in-Ok-argument.argument c.in_ok-push-in-Ok-argument.ensures.items))
