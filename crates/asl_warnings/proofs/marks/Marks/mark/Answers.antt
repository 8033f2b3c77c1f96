use Rattle.std.proofs.Common.{arith}
use Rattle.std.proofs.lemmas.Grind.{common_steps}
use Rattle.std.proofs.lemmas.Option.{gets}
use Rattle.asl_warnings.proofs.Added.{adds-one, listed-more}
use Rattle.asl_warnings.proofs.marks.Marks.mark.Goals as goal

pub invariant_of-self-2 : goal.invariant_of-self-2
invariant_of-self-2 c =
    let before = c.args.self.now in
    record { listed = listed-more before.marks.items before.order.items c.push.new.self.items c.args.number before.listed (grind (arith, common_steps, gets)) (grind (arith, common_steps, gets)) (grind (arith, common_steps, gets)) }

pub returns : goal.returns
returns c =
    adds-one c.args.self.now _ c.args.number (grind (arith, common_steps, gets)) (grind (arith, common_steps, gets)) (grind (arith, common_steps, gets))
