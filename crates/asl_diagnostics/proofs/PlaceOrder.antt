-- Diagnostics are in a total order by their places.
use Rattle.std.specs.Cmp.{IsTotalOrder, IsStrictWeakOrder}
use Rattle.std.specs.String.{string_cmp_total}
use Rattle.std.proofs.lemmas.Cmp.{nat_cmp_total, on_total, then_total}
use Rattle.std.proofs.lemmas.List.MinMax.{ranks_by}
use Rattle.asl_diagnostics.specs.Order.{place_cmp, stands_before}
use Rattle.asl_diagnostics.specs.declared.Diagnostic.{Diagnostic}

-- by file, line, column
pub place_cmp_total : IsTotalOrder place_cmp
place_cmp_total =
    then_total (on_total (λ (d : Diagnostic). d.file) string_cmp_total)
    (then_total (on_total (λ (d : Diagnostic). d.place.line) nat_cmp_total)
    (on_total (λ (d : Diagnostic). d.place.column) nat_cmp_total))

-- so by which stands in front
pub stands_before_ranks : IsStrictWeakOrder stands_before
stands_before_ranks = ranks_by place_cmp_total (λ (d : Diagnostic). d)
