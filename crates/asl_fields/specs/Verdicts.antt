-- What a check of a definition answers.
use Rattle.std.specs.Prelude.{◌≡◌, ℕ, if◌then◌else◌, List, [], ◌∷◌, Bool, Option, Some, None, option_map, Result, Ok, Err, ⊤}
use Rattle.std.specs.List.{Contains}
use Rattle.asl_model.specs.DefinitionTable as model
use Rattle.asl_model.specs.StandsFor.{Complaint, Place, complaint_at}
use Rattle.asl_fields.specs.View.{def_fault_view}
use Rattle.asl_fields.specs.declared.places.Complaint.{Complaint as Objection}
use Rattle.asl_fields.specs.declared.places.Place.{Place as Standing}
use Rattle.asl_fields.specs.declared.refusals.DefFault.{DefFault}

-- what is told; None is want of memory
abbrev pub complaint_view : Objection → Option Complaint
complaint_view c = option_map (λ f. record { fault = f; state = c.state.now; field = c.field.now }) (def_fault_view c.fault)

-- the value, where there is one, stands in the list
abbrev pub IsAmong : {F : Type 0} → List F → Option F → Type 0
IsAmong wrong None = ⊤
IsAmong wrong (Some f) = Contains wrong f

abbrev pub Judges : {A E F : Type 0} → (E → Option F) → List F → Result A E → Type 0
Judges shown wrong (Ok read) = wrong ≡ []
Judges shown wrong (Err e) = IsAmong wrong (shown e)

-- the answer of a check or a reading for what can be wrong: nothing is, or what is told is among it
pub record IsAnswer {A E F : Type 0} (shown : E → Option F) (wrong : List F) (result : Result A E) : Type 0 where
  pub holds : Judges shown wrong result

-- the answer for a definition
abbrev pub IsVerdict : {A : Type 0} → List Complaint → Result A Objection → Type 0
IsVerdict wrong result = IsAnswer complaint_view wrong result

-- the answer for a value
abbrev pub IsMisfit : {A : Type 0} → List model.DefFault → Result A DefFault → Type 0
IsMisfit wrong result = IsAnswer def_fault_view wrong result

-- where an object stands
abbrev pub place_view : Standing → Place
place_view p = record { state = p.state.now; within = option_map (λ own. own.now) p.within }

-- that fault of a field, unless the test holds; of want of memory nothing is told
abbrev pub told_unless : Bool → Place → List ℕ → Option model.DefFault → List Complaint
told_unless right place field None = []
told_unless right place field (Some fault) = if right then [] else complaint_at place field fault ∷ []
