use Rattle.std.proofs.Common.{◌≡◌, pos, length, to_z-of_z, arith}
use Rattle.asl_intrinsic.proofs.Answers.{length_answered}
use Rattle.asl_intrinsic.proofs.functions.length_of.Goals as goal

pub returns-in-List : goal.returns-in-List
returns-in-List c =
    let counts : c.count.result ≡ pos (length c.in-List.elements.items) = rw (← c.deref.ensures.value) c.count.ensures in
    length_answered c.args.tree.now c.in-List.elements c.count.result _ c.in-List.is counts (grind (arith, to_z-of_z))
