-- What notices tell of states to which no way leads.
use Rattle.std.specs.Prelude.{◌≡◌, List, [], ◌∷◌, map, Bool, true, false}
use Rattle.std.specs.List.{filter}
use Rattle.asl_model.specs.Names.{StateName}
use Rattle.asl_diagnostics.specs.declared.warnings.Warning.{Warning}
use Rattle.asl_diagnostics.specs.declared.warnings.Warning.TheVariants as warnings
use Rattle.asl_warnings.specs.declared.notice.Notice.{Notice}

-- the warning is that no way leads to a state
abbrev pub is_of_unled : Warning → Bool
is_of_unled warnings.UnreachableState = true
is_of_unled warnings.NoDataReaches = false
is_of_unled warnings.CatcherNeverTaken = false
is_of_unled warnings.RetrierNeverTaken = false
is_of_unled warnings.RuleNeverTrue = false
is_of_unled warnings.DefaultNeverTaken = false

-- the notice tells that no way leads to its state
abbrev pub tells_unled : Notice → Bool
tells_unled notice = is_of_unled notice.warning

-- the names of the states of which notices tell it
abbrev pub unled_in : List Notice → List StateName
unled_in notices = map (λ notice. notice.state.now) (filter tells_unled notices)

-- the same states are told of after further notices
pub record KeepsUnled (before after : List Notice) : Type 0 where
  pub same : unled_in after ≡ unled_in before

-- the name, unless the state is led to
abbrev pub told_if : Bool → StateName → List StateName
told_if true name = []
told_if false name = name ∷ []
