-- What is wrong with the names of declared tasks. No public clause cites this module.
use Rattle.std.specs.Prelude.{◌≡◌, ℕ, List, [], ◌∷◌, true, Option, Some, None, option_map, slice_get, if◌then◌else◌, ⊤}
use Rattle.asl_model.specs.Certificate.{Declared, TaskShapes}
use Rattle.asl_model.specs.Finding as finding
use Rattle.asl_model.specs.Finding.{plain_breach}
use Rattle.asl_model.specs.Inference.{finding_of}
use Rattle.asl_model.specs.Numbering.{Table}
use Rattle.asl_model.specs.ShapeSpelling.{are_distinct}
use Rattle.asl_model.specs.Tree.{comes_before}
use Rattle.asl_draft_laws.specs.Drafts.{Row, misnamed, rows_of, undeclared, unknown}
use Rattle.asl_check.specs.View.{finding_view}
use Rattle.asl_state_edges.specs.View.{finding_fault_view}
use Rattle.asl_infer.specs.Rounds.{IsIn}
use Rattle.asl_infer.specs.declared.declarations.Misnamed.{Misnamed}
use Rattle.asl_infer.specs.declared.inferring.InferRefusal.{InferRefusal}
use Rattle.asl_infer.specs.declared.inferring.InferRefusal.TheVariants.{Finding, NotSettled, OutOfMemory}

-- as a finding
abbrev pub misnamed_view : Misnamed → finding.Finding
misnamed_view m = finding_of m.name.now (plain_breach m.field.now (finding_fault_view m.fault))

-- the finding whose name comes first in byte order
abbrev pub earlier : finding.Finding → Option finding.Finding → finding.Finding
earlier found None = found
earlier found (Some other) = if comes_before other.state found.state then other else found

abbrev pub first_by_name : List finding.Finding → Option finding.Finding
first_by_name [] = None
first_by_name (found ∷ others) = Some (earlier found (first_by_name others))

-- the one whose name comes first, where both may be there
abbrev pub first_of : Option finding.Finding → Option finding.Finding → Option finding.Finding
first_of None other = other
first_of (Some found) other = Some (earlier found other)

-- the first of the findings by name, in a table in which no name stands twice
pub record IsFirst (table : Table) (findings : List finding.Finding) (one : Option Misnamed) : Type 0 where
  pub first : are_distinct table.names ≡ true → option_map misnamed_view one ≡ first_by_name findings

-- that of the state of that number: it is a Task that isn't declared
pub record IsFirstAt (table : Table) (declared : Declared) (number : ℕ) (one : Option Misnamed) : Type 0 where
  pub first : (row : Row) → IsIn table row → row.number ≡ number
      → option_map misnamed_view one ≡ first_by_name (undeclared declared (row ∷ []))

-- that of a declared task of that name: no Task has it
pub record IsFirstOf (table : Table) (name : List ℕ) (one : Option Misnamed) : Type 0 where
  pub first : are_distinct table.names ≡ true → (task : List ℕ × TaskShapes) → task.0 ≡ name
      → option_map misnamed_view one ≡ first_by_name (unknown (rows_of table) (task ∷ []))

-- each Task is declared and no other, where no name stands twice
pub record AreNamed (table : Table) (declared : Declared) : Type 0 where
  pub named : are_distinct table.names ≡ true → misnamed table declared ≡ []

-- the finding is the first by name of what is wrong with them
abbrev pub IsFirstRefusal : Table → Declared → InferRefusal → Type 0
IsFirstRefusal table declared (Finding found) = slice_get (misnamed table declared) 0 ≡ Some (finding_view found)
IsFirstRefusal table declared NotSettled = ⊥
IsFirstRefusal table declared OutOfMemory = ⊤

pub record NamesTell (table : Table) (declared : Declared) (refusal : InferRefusal) : Type 0 where
  pub tells : are_distinct table.names ≡ true → IsFirstRefusal table declared refusal
