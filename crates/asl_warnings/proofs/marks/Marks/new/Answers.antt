use Rattle.std.proofs.Common.{◌≡◌, arith, sym, subst, replicate, false}
use Rattle.std.proofs.lemmas.Grind.{common_steps}
use Rattle.asl_warnings.specs.Marks.{AreListed}
use Rattle.asl_warnings.proofs.Added.{listed-none}
use Rattle.asl_warnings.proofs.marks.Marks.new.Goals as goal

pub invariant_of-result : goal.invariant_of-result
invariant_of-result c =
    let none : c.in_ok-vec.field-0.items ≡ replicate c.args.count false = grind (arith, common_steps) in
    record { listed = subst (λ ms. AreListed ms c.new.result.items) (sym none) (subst (AreListed (replicate c.args.count false)) (sym c.new.ensures.items) (listed-none c.args.count)) }
