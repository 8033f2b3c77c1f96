-- What the faults and refusals of a definition stand for in the definitions.
use Rattle.std.specs.Prelude.{ℕ, List, Option, Some, None, option_map, string_bytes}
use Rattle.asl_model.specs.DefinitionTable as definition
use Rattle.asl_model.specs.StandsFor.{Complaint}
use Rattle.asl_fields.specs.declared.refusals.DefRefusal.{DefRefusal}
use Rattle.asl_fields.specs.declared.refusals.DefFault.{DefFault}
use Rattle.asl_fields.specs.declared.refusals.DefFault.TheVariants as def

-- the fault of a definition; none is want of memory
abbrev pub def_fault_view : DefFault → Option definition.DefFault
def_fault_view def.NotObject = Some definition.NotObject
def_fault_view def.MissingField = Some definition.MissingField
def_fault_view def.WrongKind = Some definition.WrongKind
def_fault_view def.UnknownField = Some definition.UnknownField
def_fault_view def.LeftOut = Some definition.LeftOut
def_fault_view def.UnknownType = Some definition.UnknownType
def_fault_view def.NameTooLong = Some definition.NameTooLong
def_fault_view def.DuplicateName = Some definition.DuplicateName
def_fault_view def.NoSuchState = Some definition.NoSuchState
def_fault_view def.NextOrEnd = Some definition.NextOrEnd
def_fault_view def.BadPath = Some definition.BadPath
def_fault_view def.BadTemplate = Some definition.BadTemplate
def_fault_view def.BadRule = Some definition.BadRule
def_fault_view def.BadErrorEquals = Some definition.BadErrorEquals
def_fault_view def.EmptyList = Some definition.EmptyList
def_fault_view def.HeartbeatNotSmaller = Some definition.HeartbeatNotSmaller
def_fault_view def.TooLarge = Some definition.TooLarge
def_fault_view def.OutOfMemory = None
def_fault_view def.NotWhole = Some definition.NotWhole

-- a fault of that field of that state
abbrev pub complaint_of : List ℕ → List ℕ → definition.DefFault → Complaint
complaint_of state field fault = record { fault = fault; state = state; field = field }

-- what a refusal tells; none is want of memory
abbrev pub refusal_view : DefRefusal → Option Complaint
refusal_view r = option_map (complaint_of (string_bytes r.state) (string_bytes r.field)) (def_fault_view r.fault)
