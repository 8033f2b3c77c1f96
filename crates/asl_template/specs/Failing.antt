-- What an answer to evaluating tells of the places that fail.
use Rattle.std.specs.Prelude.{◌≡◌, List, [], ◌∷◌, Option, Some, None, Result, Ok, Err, IfSome}
use Rattle.asl_model.specs.Faults as faults
use Rattle.asl_model.specs.Faults.{DataFlowError}
use Rattle.asl_model.specs.Intrinsic.{Item}
use Rattle.asl_model.specs.Path.{Segment}
use Rattle.asl_model.specs.Template.{Template, Failure, failures, FailsAt, IsLeastFailure}
use Rattle.asl_model.specs.Tree.{Tree}
use Rattle.asl_tree.specs.View as trees
use Rattle.asl_tree.specs.declared.Tree as code
use Rattle.asl_template.specs.declared.refusal.TemplateRefusal.{TemplateRefusal}
use Rattle.asl_template.specs.declared.refusal.TemplateRefusal.TheVariants.{ParameterPathFailure, IntrinsicFailure, OutOfMemory}

-- the error of the first failure
abbrev pub first_error : List Failure → Option DataFlowError
first_error [] = None
first_error (failure ∷ further) = Some failure.error

-- what an answer tells: the value, or an error; want of memory tells nothing
abbrev pub answer : Result code.Tree TemplateRefusal → Option (Result Tree DataFlowError)
answer (Ok t) = Some (Ok (trees.view t))
answer (Err ParameterPathFailure) = Some (Err faults.ParameterPathFailure)
answer (Err IntrinsicFailure) = Some (Err faults.IntrinsicFailure)
answer (Err OutOfMemory) = None

-- the error that an answer tells, none where it is a value; want of memory tells nothing
abbrev pub outcome : {A : Type 0} → Result A TemplateRefusal → Option (Option DataFlowError)
outcome (Ok a) = Some None
outcome (Err ParameterPathFailure) = Some (Some faults.ParameterPathFailure)
outcome (Err IntrinsicFailure) = Some (Some faults.IntrinsicFailure)
outcome (Err OutOfMemory) = None

-- no place fails, or the first of the failures is that of the least place
abbrev pub HasLeastFirst : Tree → Option Item → Template → List Failure → Type 0
HasLeastFirst input item t [] = (p : List Segment) (error : DataFlowError) → FailsAt input item t p error → ⊥
HasLeastFirst input item t (failure ∷ further) = IsLeastFailure input item t failure

-- the answer tells the first of a template's failures, which is that of the least place, or that there is none
pub record TellsFirst {A : Type 0} (r : Result A TemplateRefusal) (t : Template) (input : Tree) (item : Option Item) : Type 0 where
  pub first : IfSome (outcome r) (λ error. first_error (failures t input item) ≡ error)
  pub least : IfSome (outcome r) (λ error. HasLeastFirst input item t (failures t input item))
