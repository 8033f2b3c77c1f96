-- What is told, without its place and its sentence.
use Rattle.std.specs.Prelude.{List, [], ◌∷◌, map, Bool, true, false, Option, Some, None, option_map, codes, string_bytes}
use Rattle.std.specs.List.{filter, list_any}
use Rattle.asl_model.specs.Finding.{Finding}
use Rattle.asl_model.specs.Names.{Bytes}
use Rattle.asl_model.specs.Printed.{definition_fault_name, finding_name, record_fault_name}
use Rattle.asl_model.specs.Records.{RecordComplaint}
use Rattle.asl_model.specs.StandsFor.{Complaint}
use Rattle.asl_model.specs.Tree.{Tree}
use Rattle.asl_tree.specs.View.{view}
use Rattle.asl_fields.specs.View.{refusal_view}
use Rattle.asl_records.specs.View.{complaint_view}
use Rattle.asl_records.specs.declared.refusals.RecordRefusal.{RecordRefusal}
use Rattle.asl_fields.specs.declared.refusals.DefRefusal.{DefRefusal}
use Rattle.asl_diagnostics.specs.Rules.{not_settled_name}
use Rattle.asl_diagnostics.specs.declared.Diagnostic.{Diagnostic}
use Rattle.asl_diagnostics.specs.declared.Severity.{Severity}
use Rattle.asl_diagnostics.specs.declared.Severity.TheVariants as severity
use Rattle.asl_problems.specs.declared.problems.Problem.{Problem}

-- what is told: how much it weighs, the name of its rule, the state, the field, and a value that shows it
pub record Told : Type 0 where
  pub severity : Severity
  pub rule : Bytes
  pub state : Option Bytes
  pub field : Option Bytes
  pub example : Option Tree

-- an error
abbrev pub error : Bytes → Option Bytes → Option Bytes → Option Tree → Told
error rule state field example =
    record { severity = severity.Error; rule = rule; state = state; field = field; example = example }

-- a broken rule of a machine
abbrev pub of_finding : Finding → Told
of_finding f = error (finding_name f.fault) (Some f.state) (Some f.field) f.example

-- a name, unless it is empty
abbrev pub unless_empty : Bytes → Option Bytes
unless_empty [] = None
unless_empty (b ∷ bs) = Some (b ∷ bs)

-- a complaint of a definition, of declared shapes
abbrev pub of_complaint : Complaint → Told
of_complaint c = error (definition_fault_name c.fault) (unless_empty c.state) (unless_empty c.field) None

abbrev pub of_record : RecordComplaint → Told
of_record c = error (record_fault_name c.fault) (unless_empty c.name) (unless_empty c.field) None

-- of a whole text: it is no JSON, it has a number that isn't whole; of a whole machine: the rounds don't settle
abbrev pub not_json : Told
not_json = error (codes "NotJson") None None None

abbrev pub not_whole : Told
not_whole = error (codes "NotWhole") None None None

abbrev pub not_settled : Told
not_settled = error not_settled_name None None None

-- what a diagnostic tells
abbrev pub told_of : Diagnostic → Told
told_of d = record {
  severity = d.severity;
  rule = d.rule.now.id.now;
  state = option_map string_bytes d.state;
  field = option_map string_bytes d.field;
  example = option_map view d.example;
}

-- it is an error
abbrev pub is_error : Severity → Bool
is_error severity.Error = true
is_error severity.Warning = false

-- the errors among what is told
abbrev pub errors_in : List Told → List Told
errors_in = filter (λ t. is_error t.severity)

-- an error is among the diagnostics
abbrev pub has_error : List Diagnostic → Bool
has_error ds = list_any (λ d. is_error d.severity) ds

-- ---- before it has a place

-- what a problem tells
abbrev pub told_by : Problem → Told
told_by p = record {
  severity = p.severity;
  rule = p.rule.now.id.now;
  state = option_map string_bytes p.state;
  field = option_map string_bytes p.field;
  example = option_map view p.example;
}

-- the errors among problems
abbrev pub errors_of : List Problem → List Told
errors_of ps = errors_in (map told_by ps)

-- what is told of each refusal of a definition, and of declared shapes; of one for want of memory, nothing
abbrev pub refusals_told : List DefRefusal → List (Option Told)
refusals_told refusals = map (λ refusal. option_map of_complaint (refusal_view refusal)) refusals

abbrev pub records_told : List RecordRefusal → List (Option Told)
records_told refusals = map (λ refusal. option_map of_record (complaint_view refusal)) refusals
