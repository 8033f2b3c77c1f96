-- What declared shapes, certificates and their refusals stand for in the definitions.
use Rattle.std.specs.Prelude.{ℕ, List, map, Option, Some, None, option_map, String, string_bytes}
use Rattle.std.specs.declared.alloc.Global.{Global}
use Rattle.asl_model.specs.Certificate as model
use Rattle.asl_model.specs.Records as records
use Rattle.asl_shape.specs.Refusal.{fault_named}
use Rattle.asl_shape.specs.View.{view}
use Rattle.asl_records.specs.declared.records.Declared.{Declared}
use Rattle.asl_records.specs.declared.records.TaskShapes.{TaskShapes}
use Rattle.asl_records.specs.declared.records.Certificate.{Certificate}
use Rattle.asl_records.specs.declared.records.StateShapes.{StateShapes}
use Rattle.asl_records.specs.declared.refusals.RecordFault.{RecordFault}
use Rattle.asl_records.specs.declared.refusals.RecordFault.TheVariants as kept
use Rattle.asl_records.specs.declared.refusals.RecordRefusal.{RecordRefusal}

-- the shapes of a task
abbrev pub task_view : TaskShapes → model.TaskShapes
task_view task = record { takes = view task.takes; gives = view task.gives }

-- the tasks of a map, in the order of their names
abbrev pub tasks_view : List (String Global × TaskShapes) → List (List ℕ × model.TaskShapes)
tasks_view entries = map (λ entry. (string_bytes entry.0, task_view entry.1)) entries

-- what is declared
abbrev pub declared_view : Declared → model.Declared
declared_view declared = record { input = view declared.input; tasks = tasks_view declared.tasks.entries }

-- what is certified of a state
abbrev pub entry_view : StateShapes → model.StateShapes
entry_view entry = record { input = view entry.input; output = view entry.output; branches = map view entry.branches.items; item = option_map view entry.item }

-- the entries of a map, in the order of their names
abbrev pub entries_view : List (String Global × StateShapes) → List (List ℕ × model.StateShapes)
entries_view entries = map (λ entry. (string_bytes entry.0, entry_view entry.1)) entries

-- a certificate
abbrev pub certificate_view : Certificate → model.Certificate
certificate_view certificate = record { output = view certificate.output; states = entries_view certificate.states.entries }

-- the fault of a record; out of memory is none
abbrev pub record_fault_view : RecordFault → Option records.RecordFault
record_fault_view kept.NotObject = Some records.NotObject
record_fault_view kept.MissingField = Some records.MissingField
record_fault_view kept.UnknownField = Some records.UnknownField
record_fault_view kept.WrongKind = Some records.WrongKind
record_fault_view (kept.BadShape refusal) = option_map records.BadShape (fault_named refusal)
record_fault_view kept.BadVersion = Some records.BadVersion
record_fault_view kept.BadNumber = Some records.BadNumber
record_fault_view kept.OutOfMemory = None

-- the complaint that a refusal tells; out of memory is none
abbrev pub complaint_view : RecordRefusal → Option records.RecordComplaint
complaint_view refusal = option_map (λ fault. record { fault = fault; name = string_bytes refusal.name; field = string_bytes refusal.field }) (record_fault_view refusal.fault)
