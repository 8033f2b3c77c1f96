-- What an answer says of the value that is defined.
use Rattle.std.specs.Prelude.{◌≡◌, ◌++◌, ℕ, List, [], ◌∷◌, map, Option, Some, None, option_map, Result, Err, IfOk, OnOk}
use Rattle.asl_model.specs.Intrinsic.{Pieces, joined_by_holes, format_text}
use Rattle.asl_model.specs.Tree as model
use Rattle.asl_tree.specs.View as trees
use Rattle.asl_intrinsic.specs.declared.EvalRefusal.{EvalRefusal}
use Rattle.asl_intrinsic.specs.declared.EvalRefusal.TheVariants.{IntrinsicFailure}
use Rattle.asl_intrinsic.specs.declared.value.Value.{Value}
use Rattle.asl_intrinsic.specs.declared.value.Value.TheVariants.{Literal, Lent, Made}
use Rattle.asl_intrinsic.specs.View.{pieces_view}

-- an answer is the value, and a failure is told only where there is none; want of memory says nothing
pub record Answers {A B : Type 0} (seen : A → B) (r : Result A EvalRefusal) (value : Option B) : Type 0 where
  pub gives : IfOk r (λ a. value ≡ Some (seen a))
  pub fails : r ≡ Err IntrinsicFailure → value ≡ None

-- the value of an argument
abbrev pub value_view : Value → model.Tree
value_view (Literal pieces) = model.Text (joined_by_holes (pieces_view pieces.now).first (pieces_view pieces.now).after_holes)
value_view (Lent t) = trees.view t.now
value_view (Made t) = trees.view t

-- the values of the arguments, in order
abbrev pub values_view : List Value → model.Trees
values_view values = model.trees_of (map value_view values)

-- the pieces of a value that is a literal text
abbrev pub literal_of : Value → Option Pieces
literal_of (Literal pieces) = Some (pieces_view pieces.now)
literal_of (Lent t) = None
literal_of (Made t) = None

-- those of the first value
abbrev pub literal_in : List Value → Option Pieces
literal_in [] = None
literal_in (value ∷ others) = literal_of value

-- behind the text that was there stands the value's word; a failure is told only where the value has none
pub record WritesWord {A : Type 0} (old new : List ℕ) (r : Result A EvalRefusal) (value : model.Tree) : Type 0 where
  pub word : OnOk r (option_map (λ word. old ++ word) (format_text value) ≡ Some new)
  pub fails : r ≡ Err IntrinsicFailure → format_text value ≡ None
