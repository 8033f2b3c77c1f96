use Rattle.std.proofs.Common.{◌≡◌, ◌-◌, ℕ, List, ◌++◌, map, Bor}
use Rattle.asl_machine_table.specs.Table.{table_view}
use Rattle.asl_drafts.specs.Order.{IsPlaced, entry_seen, row_seen}
use Rattle.asl_drafts.proofs.order.order_of.Given as goal

abbrev pub invariant-loop-passed : goal.invariant-loop-passed
invariant-loop-passed l = IsPlaced entry_seen row_seen (table_view l.machine) (l.count - l.passed) l.named.entries

abbrev pub invariant-loop-number : goal.invariant-loop-number
invariant-loop-number l = record {
  done : List (Bor (List ℕ) × ℕ);
  whole : l.initial.number-iterator ≡ done ++ l.number-iterator;
  numbers : l.numbers.items ≡ map (λ (e : Bor (List ℕ) × ℕ). e.1) done;
}
