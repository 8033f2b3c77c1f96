-- What holds of each state that a state's fields name.
use Rattle.std.specs.Prelude.{List, IfSome}
use Rattle.std.specs.List.{All}
use Rattle.asl_states.specs.declared.states.State.{State}
use Rattle.asl_states.specs.declared.states.Settings.{Settings}
use Rattle.asl_states.specs.declared.states.Catcher.{Catcher}
use Rattle.asl_states.specs.declared.states.ChoiceRule.{ChoiceRule}
use Rattle.asl_states.specs.declared.states.Kind.{Kind}
use Rattle.asl_states.specs.declared.states.Kind.TheVariants as kinds
use Rattle.asl_states.specs.declared.target.Target.{Target}

-- it holds of the target of each catcher
abbrev pub EachCatcherTarget : (Target → Type 0) → List Catcher → Type 0
EachCatcherTarget Holds = All (λ catcher. Holds catcher.next)

-- of the target of each rule of a Choice
abbrev pub EachChoiceTarget : (Target → Type 0) → List ChoiceRule → Type 0
EachChoiceTarget Holds = All (λ choice. Holds choice.next)

-- of each target that states of several types have
pub record EachSettingsTarget (Holds : Target → Type 0) (settings : Settings) : Type 0 where
  pub next : IfSome settings.next Holds
  pub catchers : EachCatcherTarget Holds settings.catchers.items

-- of each that a type adds: those of a Choice, and the starts of branches and of a processor
abbrev pub EachKindTarget : (Target → Type 0) → Kind → Type 0
EachKindTarget Holds (kinds.Pass result) = Unit {0}
EachKindTarget Holds (kinds.Task resource) = Unit {0}
EachKindTarget Holds (kinds.Choice choices default) =
    EachChoiceTarget Holds choices.items × IfSome default Holds
EachKindTarget Holds (kinds.Wait delay) = Unit {0}
EachKindTarget Holds kinds.Succeed = Unit {0}
EachKindTarget Holds (kinds.Fail error cause) = Unit {0}
EachKindTarget Holds (kinds.Parallel branches) = All Holds branches.items
EachKindTarget Holds (kinds.Map items_path item_selector processor) = Holds processor

-- of each that a state's fields name
pub record EachTarget (Holds : Target → Type 0) (state : State) : Type 0 where
  pub settings : EachSettingsTarget Holds state.settings
  pub kind : EachKindTarget Holds state.kind
