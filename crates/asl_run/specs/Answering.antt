-- What a source's reply leaves of its answers.
use Rattle.std.specs.Prelude.{◌≡◌, List, ◌∷◌, Option, Some, None, Result, Ok, Err}
use Rattle.asl_model.specs.Run.{Action}
use Rattle.asl_run.specs.Entries.{answer_view}
use Rattle.asl_run.specs.declared.entries.Answer.{Answer}

-- an answer is taken from the front of the list; without one the list stays
abbrev pub TakesFront : {E : Type 0} → Result (Option Answer) E → List Action → List Action → Type 0
TakesFront (Ok (Some answer)) before after = before ≡ answer_view answer ∷ after
TakesFront (Ok None) before after = after ≡ before
TakesFront (Err e) before after = after ≡ before
