use Rattle.std.proofs.Common.{◌≡◌, [], ◌∷◌, Some, None, false, string_bytes, nat_cmp, subst}
use Rattle.std.specs.Cmp.Lexicographic.{slice_cmp}
use Rattle.std.specs.Ordering.{is_lt}
use Rattle.asl_model.specs.Path.{Name}
use Rattle.asl_tree.specs.View.{view}
use Rattle.asl_differences.specs.Places.{TellsOf, IsAlone, found_alone}
use Rattle.asl_differences.proofs.Fields.{second_comes}
use Rattle.asl_differences.proofs.Places.{weaker}
use Rattle.asl_differences.proofs.trees.first_alone.Goals as goal

pub returns-else-lt-clause-there : goal.returns-else-lt-clause-there
returns-else-lt-clause-there c =
    let n = string_bytes c.args.expected.0.now in
    let m = string_bytes c.args.found.0.now in
    let x = view c.args.expected.1.now in
    let y = view c.args.found.1.now in
    let not_less : is_lt (slice_cmp nat_cmp n m) ≡ false = cc (c.if-lt.ensures) in
    let named : c.deref-else-lt.result.now ≡ m = cc (c.deref-else-lt.ensures) in
    weaker (TellsOf (Name c.deref-else-lt.result.now ∷ []) None (Some y)) (IsAlone n m x y) c.one_sided-else-lt.result
    (λ d tells. found_alone (second_comes n m not_less c.requires) (subst (λ k. TellsOf (Name k ∷ []) None (Some y) d) named tells))
    c.one_sided-else-lt.ensures.there
