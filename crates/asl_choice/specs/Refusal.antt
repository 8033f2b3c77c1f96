-- What a refusal tells of the value that was to be read as a rule.
use Rattle.std.specs.Prelude.{List, [], ◌∷◌, Option, Some, None, IfSome}
use Rattle.std.specs.List.{Contains}
use Rattle.asl_model.specs.RuleSpelling as model
use Rattle.asl_choice.specs.declared.refusal.RuleRefusal.{RuleRefusal}
use Rattle.asl_choice.specs.declared.refusal.RuleRefusal.TheVariants.{NotARule, UnknownOperator, BadOperand, BadPath, BadPattern, EmptyList, NextInside, NotWhole, OutOfMemory}

-- the fault of a tree that the refusal names; a number that isn't whole and want of memory name none
abbrev pub fault_named : RuleRefusal → Option model.RuleFault
fault_named NotARule = Some model.NotARule
fault_named UnknownOperator = Some model.UnknownOperator
fault_named BadOperand = Some model.BadOperand
fault_named BadPath = Some model.BadPath
fault_named BadPattern = Some model.BadPattern
fault_named EmptyList = Some model.EmptyList
fault_named NextInside = Some model.NextInside
fault_named NotWhole = None
fault_named OutOfMemory = None

-- the refusal names one of the faults, or none
pub record Tells (refusal : RuleRefusal) (faults : List model.RuleFault) : Type 0 where
  pub listed : IfSome (fault_named refusal) (Contains faults)

-- the fault where there is nothing
abbrev pub missing : {A : Type 0} → model.RuleFault → Option A → List model.RuleFault
missing fault None = fault ∷ []
missing fault (Some a) = []
