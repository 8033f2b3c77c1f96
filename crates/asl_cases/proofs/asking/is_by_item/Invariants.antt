use Rattle.std.proofs.Common.{◌≡◌}
use Rattle.asl_suites.specs.View.{states_view, told_view}
use Rattle.asl_cases.proofs.NamedKinds.{kind_among}
use Rattle.asl_cases.proofs.asking.is_by_item.Given as goal

-- those that are left tell it
abbrev pub invariant-loop-state : goal.invariant-loop-state
invariant-loop-state l = kind_among l.name (states_view l.answers) ≡ kind_among l.name (told_view l.state-iterator)
