-- The lines of a run's trace (the profile's own format): each entry is one line of compact JSON.
use Rattle.std.specs.Prelude.{◌≡◌, ℕ, pos, List, [], ◌∷◌, ◌++◌, codes}
use Rattle.asl_model.specs.Names.{StateName, FieldName, Bytes, PlaceInRun}
use Rattle.asl_model.specs.Tree.{Tree, Integer, Text, Array, Object, Trees}
use Rattle.asl_model.specs.Tree.{NoTrees, AndTree, Fields, NoFields, AndField}
use Rattle.asl_model.specs.Faults.{Fault, error_name}
use Rattle.asl_model.specs.Run.{Outcome, Output, FailedWith, Entry, Entered, Asked, Left}
use Rattle.asl_model.specs.Run.{Raised, TaskFailed, BranchFailed, Retried, Caught, Ended}
use Rattle.asl_model.specs.Json.{compact_text}
use Rattle.asl_model.specs.Printed.{line_break, first_line, further_lines}

-- a place: the numbers of the children on the way
abbrev pub numbers : PlaceInRun → Trees
numbers [] = NoTrees
numbers (i ∷ place) = AndTree (Integer (pos i)) (numbers place)

-- `at`: every entry begins with it
abbrev at_place : PlaceInRun → Fields → Tree
at_place place fs = Object (AndField (codes "at") (Array (numbers place)) fs)

-- the fields with a text in front
abbrev with_text : FieldName → Bytes → Fields → Fields
with_text field s fs = AndField field (Text s) fs

-- with a number in front
abbrev with_number : FieldName → ℕ → Fields → Fields
with_number field n fs = AndField field (Integer (pos n)) fs

-- `entry` and `state`
abbrev kind_of_entry : Bytes → Fields → Fields
kind_of_entry kind fs = with_text (codes "entry") kind fs

-- the field `state`
abbrev of_state : StateName → Fields
of_state n = with_text (codes "state") n NoFields

-- the entry for the end of a scope
abbrev pub outcome_tree : PlaceInRun → Outcome → Tree
outcome_tree place (Output output) =
    at_place place (kind_of_entry (codes "Ended") (AndField (codes "output") output NoFields))
outcome_tree place (FailedWith error cause) =
    at_place place (with_text (codes "cause") cause (kind_of_entry (codes "Ended") (with_text (codes "error") error
    NoFields)))

-- an entry as an object, its names in byte order
abbrev pub entry_tree : PlaceInRun → Entry → Tree
entry_tree place (Entered n input) =
    at_place place (kind_of_entry (codes "Enter") (AndField (codes "input") input (of_state n)))
entry_tree place (Asked n payload) =
    at_place place (kind_of_entry (codes "Task") (AndField (codes "payload") payload (of_state n)))
entry_tree place (Left n output) =
    at_place place (kind_of_entry (codes "Leave") (AndField (codes "output") output (of_state n)))
entry_tree place (Raised n fault) =
    at_place place (kind_of_entry (codes "Raise") (with_text (codes "error") (error_name fault.error) (with_text (codes
    "field") fault.field (of_state n))))
entry_tree place (TaskFailed n error cause) =
    at_place place (with_text (codes "cause") cause (kind_of_entry (codes "TaskFailed") (with_text (codes "error") error
    (of_state n))))
entry_tree place (BranchFailed n child error cause) =
    at_place place (with_text (codes "cause") cause (with_number (codes "child") child (kind_of_entry (codes
    "BranchFailed") (with_text (codes "error") error (of_state n)))))
entry_tree place (Retried n retrier) =
    at_place place (kind_of_entry (codes "Retried") (with_number (codes "retrier") retrier (of_state n)))
entry_tree place (Caught n catcher next) =
    at_place place (with_number (codes "catcher") catcher (kind_of_entry (codes "Caught") (with_text (codes "next") next
    (of_state n))))
entry_tree place (Ended outcome) = outcome_tree place outcome

-- the line of an entry
abbrev pub entry_line : PlaceInRun × Entry → Bytes
entry_line e = compact_text (entry_tree e.0 e.1) ++ line_break

-- the lines of a trace
abbrev pub trace_text : List (PlaceInRun × Entry) → Bytes
trace_text [] = []
trace_text (e ∷ es) = entry_line e ++ trace_text es

-- ---- lines of a text

-- a line of the text: what stands before its first line break, or a line of what stands behind that
pub data IsLineOf : Bytes → Bytes → Type 0 where
  is_first_line : {line text : Bytes} → line ≡ first_line text → IsLineOf line text
  is_later_line : {line text : Bytes} → IsLineOf line (further_lines text) → IsLineOf line text

-- the line tells a data-flow fault, at some place and of some state
pub record IsRaiseLine (line : Bytes) : Type 0 where
  pub place : PlaceInRun
  pub state : StateName
  pub fault : Fault
  pub same : line ≡ compact_text (entry_tree place (Raised state fault))

-- no line of the text tells a data-flow fault
pub record HasNoRaiseLine (text : Bytes) : Type 0 where
  pub none : (line : Bytes) → IsLineOf line text → IsRaiseLine line → ⊥
