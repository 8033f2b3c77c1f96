use Rattle.std.proofs.Common.{◌≡◌, ◌+◌, Bool, drop, length, map}
use Rattle.asl_states.specs.Machine.{retrier_view}
use Rattle.asl_cases.specs.Coverage.{Part, RetrierAt, by_number, retriers_in, untaken}
use Rattle.asl_cases.proofs.Lacks.{retriers_from}
use Rattle.asl_cases.proofs.lacking.push_retriers.Given as goal

-- with those that are left it is as many as all
abbrev pub invariant-loop-number : goal.invariant-loop-number
invariant-loop-number l =
    (t : Part → Bool) → l.taken ≡ by_number (λ i. t (RetrierAt i)) l.retriers
    → length l.lines.items + length (untaken t (retriers_from l.number (drop l.number (map retrier_view l.retriers))))
    ≡ length l.fn.lines.items + length (untaken t (retriers_in (map retrier_view l.retriers)))
