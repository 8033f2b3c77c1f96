use Rattle.std.proofs.Common.{rules}
use Rattle.std.proofs.lemmas.List.Sorted.{answers_always}
use Rattle.asl_diagnostics.specs.Order.{stands_before}
use Rattle.asl_diagnostics.proofs.PlaceOrder.{stands_before_ranks}
use Rattle.asl_diagnostics.proofs.order.sort.Goals as goal

pub returns-clause-sorted : goal.returns-clause-sorted
returns-clause-sorted c =
    c.in_ok-sort_by.ensures.sorted stands_before stands_before_ranks (answers_always _ _ _ (λ f a r g k. search rules))

pub returns-clause-stable : goal.returns-clause-stable
returns-clause-stable c =
    c.in_ok-sort_by.ensures.stable stands_before stands_before_ranks (answers_always _ _ _ (λ f a r g k. search rules))
