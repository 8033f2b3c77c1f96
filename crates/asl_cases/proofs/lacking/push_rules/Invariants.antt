use Rattle.std.proofs.Common.{◌≡◌, ◌+◌, Bool, length, map}
use Rattle.std.specs.List.{range_with_len}
use Rattle.asl_cases.specs.Coverage.{Part, RuleAt, by_number, untaken}
use Rattle.asl_cases.proofs.lacking.push_rules.Given as goal

-- those so far that weren't taken have their lines
abbrev pub invariant-loop-number : goal.invariant-loop-number
invariant-loop-number l =
    (t : Part → Bool) → l.taken ≡ by_number (λ i. t (RuleAt i)) l.rules
    → length l.lines.items ≡ length l.fn.lines.items + length (untaken t (map RuleAt (range_with_len 0 l.number)))
