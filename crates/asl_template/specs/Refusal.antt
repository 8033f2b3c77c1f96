-- What a refusal tells of the value that was to be read as a template.
use Rattle.std.specs.Prelude.{List, [], ◌∷◌, Option, Some, None, IfSome}
use Rattle.std.specs.List.{Contains}
use Rattle.asl_model.specs.TemplateSpelling as model
use Rattle.asl_template.specs.declared.refusal.SpellingRefusal.{SpellingRefusal}
use Rattle.asl_template.specs.declared.refusal.SpellingRefusal.TheVariants.{NotObject, NotText, BadPath, BadIntrinsic, DuplicateAfterStrip, LeftOutContext, NotWhole, OutOfMemory}

-- the fault of a tree that the refusal names; a number that isn't whole and want of memory name none
abbrev pub fault_named : SpellingRefusal → Option model.TemplateFault
fault_named NotObject = Some model.NotObject
fault_named NotText = Some model.NotText
fault_named BadPath = Some model.BadPath
fault_named BadIntrinsic = Some model.BadIntrinsic
fault_named DuplicateAfterStrip = Some model.DuplicateAfterStrip
fault_named LeftOutContext = Some model.LeftOutContext
fault_named NotWhole = None
fault_named OutOfMemory = None

-- the refusal names one of the faults, or none
pub record Tells (refusal : SpellingRefusal) (faults : List model.TemplateFault) : Type 0 where
  pub listed : IfSome (fault_named refusal) (Contains faults)

-- the fault where there is nothing
abbrev pub missing : {A : Type 0} → model.TemplateFault → Option A → List model.TemplateFault
missing fault None = fault ∷ []
missing fault (Some a) = []
