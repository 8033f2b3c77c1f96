-- Cases that passed are those that didn't fail.
use Rattle.std.proofs.Common.{◌≡◌, ◌-◌, List, length, refl, arith}
use Rattle.std.proofs.lemmas.List.Filters.{length-filter_both}
use Rattle.std.proofs.lemmas.List.Sums.{length-filter}
use Rattle.asl_results.specs.Counted.{failed_in, is_failed, is_passed, passed_in}
use Rattle.asl_results.specs.declared.CaseResult.{CaseResult}

pub others_passed : (cases : List CaseResult) → length cases - failed_in cases ≡ passed_in cases
others_passed cases =
    omega (arith, length-filter_both is_failed is_passed (λ _. refl) cases, length-filter is_failed cases, length-filter is_passed cases)
