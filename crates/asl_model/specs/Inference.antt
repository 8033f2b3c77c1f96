-- What an inferrer of certificates stands on (the profile's own): the faults that are no certificate's, the widest
-- certificate of a machine, and rules that are broken whatever is certified elsewhere.
use Rattle.std.specs.Prelude.{◌≡◌, ℕ, Bool, true, false, IsTrue, Option, Some, None}
use Rattle.std.specs.Prelude.{is_some, if◌then◌else◌, replicate, slice_get, Contains}
use Rattle.asl_model.specs.Names.{StateName}
use Rattle.asl_model.specs.Machine.{Scope, State, Kind, settings_of, kind_of}
use Rattle.asl_model.specs.Shape.{Shape, Any}
use Rattle.asl_model.specs.Certificate.{Declared, StateShapes, Certificate, certified, branches_in, is_map}
use Rattle.asl_model.specs.Finding.{FindingFault, NotCertified, NotAState, TaskUndeclared, TaskUnknown, StartInput}
use Rattle.asl_model.specs.Finding.{PathMayBeMissing, WrongKind, ResultMayNotFit, IntrinsicMayFail, NoDefault}
use Rattle.asl_model.specs.Finding.{PayloadNotTaken, OutputNotCertified, NextInput, ScopeOutput, BranchInput}
use Rattle.asl_model.specs.Finding.{CatchInput, Breach, Finding, surrounded_by, flow_breaches, Stands}
use Rattle.asl_model.specs.Numbering.{Table}

-- A fault of the machine, or of what is declared. The others are the certificate's own: an entry that isn't there, has
-- another form or names no state, and what flows to where less is certified.
abbrev pub is_of_machine : FindingFault → Bool
is_of_machine NotCertified = false
is_of_machine NotAState = false
is_of_machine TaskUndeclared = true
is_of_machine TaskUnknown = true
is_of_machine StartInput = false
is_of_machine PathMayBeMissing = true
is_of_machine WrongKind = true
is_of_machine ResultMayNotFit = true
is_of_machine IntrinsicMayFail = true
is_of_machine NoDefault = true
is_of_machine PayloadNotTaken = true
is_of_machine OutputNotCertified = false
is_of_machine NextInput = false
is_of_machine ScopeOutput = false
is_of_machine BranchInput = false
is_of_machine CatchInput = false

-- ---- the widest certificate

-- the widest entry of a state of that type: Any throughout, for each branch of a Parallel and for the items of a Map
-- too
abbrev pub widest_entry : Kind → StateShapes
widest_entry kind =
    record {
      input = Any;
      output = Any;
      branches = replicate (branches_in kind) Any;
      item = if is_map kind then Some Any else None;
    }

-- the widest certificate of a machine with that table: the widest entry of each of its states, and no other entry
pub record IsWidest (table : Table) (certificate : Certificate) : Type 0 where
  pub output : certificate.output ≡ Any
  pub entries : (i : ℕ) (n : StateName) (state : State) → slice_get table.names i ≡ Some n
      → slice_get table.states i ≡ Some state → certified certificate n ≡ Some (widest_entry (kind_of state))
  pub no_other_entry : (n : StateName) → IsTrue (is_some (certified certificate n))
      → (i : ℕ) × (slice_get table.names i ≡ Some n)

-- ---- broken rules

-- a broken rule of the state of that name, as a finding
abbrev pub finding_of : StateName → Breach → Finding
finding_of n breach =
    record { state = n; field = breach.field; fault = breach.fault; example = breach.example }

-- the rule is broken in a state of that name with that entry, whatever is certified of the states that follow, of its
-- children's start states and of its scope's end
abbrev pub IsBrokenAnyway : Declared → StateName → State → StateShapes → Breach → Type 0
IsBrokenAnyway declared n state entry breach = (inputs : StateName → Option Shape) (end : Option Shape)
    → Contains (flow_breaches (surrounded_by declared inputs end n entry) (settings_of state) (kind_of state)) breach

-- the finding stands for some certificate
abbrev pub StandsForSome : Scope → Declared → Finding → Type 0
StandsForSome machine declared finding = (certificate : Certificate) × Stands machine declared certificate finding
