-- When two verdicts agree.
use Rattle.std.specs.Prelude.{List, ℕ, ⊤, ◌↔◌}
use Rattle.asl_model.specs.Verdict.{Verdict, Accepted, Rejected, TellsOf}

-- two verdicts agree: both are yes, or both are no with findings of the same names
abbrev pub Agree : Verdict → Verdict → Type 0
Agree Accepted Accepted = ⊤
Agree Accepted (Rejected told) = ⊥
Agree (Rejected told) Accepted = ⊥
Agree (Rejected told) (Rejected others) =
    (n : List ℕ) → TellsOf told n ↔ TellsOf others n
