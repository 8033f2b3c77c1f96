-- What the program prints, with what status it ends, and which lines it reads (the profile's own formats).
use Rattle.std.specs.Prelude.{ℕ, List, [], ◌∷◌, ◌++◌, length, ◌==◌, nat_lt, Bool, if◌then◌else◌, codes, decimal}
use Rattle.std.specs.Prelude.{Option, Some, None}
use Rattle.std.specs.List.{list_any}
use Rattle.asl_model.specs.Names.{StateName, FieldName, Bytes}
use Rattle.asl_model.specs.Tree.{Tree, Text}
use Rattle.asl_model.specs.Json.{compact_text}
use Rattle.asl_model.specs.Finding as finding
use Rattle.asl_model.specs.Finding.{Finding, FindingFault}
use Rattle.asl_model.specs.Verdict.{Verdict, Accepted, Rejected}
use Rattle.asl_model.specs.Records as records
use Rattle.asl_model.specs.Records.{RecordFault, RecordComplaint}
use Rattle.asl_model.specs.DefinitionTable as definition
use Rattle.asl_model.specs.DefinitionTable.{DefFault}
use Rattle.asl_model.specs.Texts.{Which, DefinitionText, DeclaredText, CertificateText, InputText, AnswersText}
use Rattle.asl_model.specs.Texts.{TextFault, NotJson, NotWhole, BadDefinition, BadRecord, BadAnswer, NoMemory}

-- a line break
abbrev pub line_break : Bytes
line_break = codes "\n"

-- a name as a JSON text
abbrev pub quoted_name : Bytes → Bytes
quoted_name n = compact_text (Text n)

-- a control character of ASCII but U+007F, as a line break or a tab
abbrev pub is_control : ℕ → Bool
is_control byte = nat_lt byte 32

-- the text as it stands, or as a JSON text where it has a control character, by which it might break its line
abbrev pub in_line : Bytes → Bytes
in_line text = if list_any is_control text then quoted_name text else text

-- ---- verdicts

-- the printed name of a finding
abbrev pub finding_name : FindingFault → Bytes
finding_name finding.NotCertified = codes "NotCertified"
finding_name finding.NotAState = codes "NotAState"
finding_name finding.TaskUndeclared = codes "TaskUndeclared"
finding_name finding.TaskUnknown = codes "TaskUnknown"
finding_name finding.StartInput = codes "StartInput"
finding_name finding.PathMayBeMissing = codes "PathMayBeMissing"
finding_name finding.WrongKind = codes "WrongKind"
finding_name finding.ResultMayNotFit = codes "ResultMayNotFit"
finding_name finding.IntrinsicMayFail = codes "IntrinsicMayFail"
finding_name finding.NoDefault = codes "NoDefault"
finding_name finding.PayloadNotTaken = codes "PayloadNotTaken"
finding_name finding.OutputNotCertified = codes "OutputNotCertified"
finding_name finding.NextInput = codes "NextInput"
finding_name finding.ScopeOutput = codes "ScopeOutput"
finding_name finding.BranchInput = codes "BranchInput"
finding_name finding.CatchInput = codes "CatchInput"

-- a space and the example as a JSON text; nothing where there is none
abbrev pub example_text : Option Tree → Bytes
example_text None = []
example_text (Some t) = codes " " ++ compact_text t

-- `no STATE FIELD FAULT EXAMPLE`, the state's name and the example as JSON texts
abbrev pub finding_line : Finding → Bytes
finding_line f =
    codes "no "
    ++ (quoted_name f.state ++ (codes " " ++ (f.field ++ (codes " " ++ (finding_name f.fault
    ++ (example_text f.example ++ line_break))))))

-- a line for each finding
abbrev pub finding_lines : List Finding → Bytes
finding_lines [] = []
finding_lines (f ∷ fs) = finding_line f ++ finding_lines fs

-- `yes`, or a line a finding
abbrev pub verdict_text : Verdict → Bytes
verdict_text Accepted = codes "yes" ++ line_break
verdict_text (Rejected fs) = finding_lines fs

-- ---- refused texts

-- the printed name of a text
abbrev pub which_name : Which → Bytes
which_name DefinitionText = codes "definition"
which_name DeclaredText = codes "declared"
which_name CertificateText = codes "certificate"
which_name InputText = codes "input"
which_name AnswersText = codes "answers"

-- the printed name of a fault of a definition
abbrev pub definition_fault_name : DefFault → Bytes
definition_fault_name definition.NotObject = codes "NotObject"
definition_fault_name definition.MissingField = codes "MissingField"
definition_fault_name definition.WrongKind = codes "WrongKind"
definition_fault_name definition.UnknownField = codes "UnknownField"
definition_fault_name definition.LeftOut = codes "LeftOut"
definition_fault_name definition.UnknownType = codes "UnknownType"
definition_fault_name definition.NameTooLong = codes "NameTooLong"
definition_fault_name definition.DuplicateName = codes "DuplicateName"
definition_fault_name definition.NoSuchState = codes "NoSuchState"
definition_fault_name definition.NextOrEnd = codes "NextOrEnd"
definition_fault_name definition.BadPath = codes "BadPath"
definition_fault_name definition.BadTemplate = codes "BadTemplate"
definition_fault_name definition.BadRule = codes "BadRule"
definition_fault_name definition.BadErrorEquals = codes "BadErrorEquals"
definition_fault_name definition.EmptyList = codes "EmptyList"
definition_fault_name definition.HeartbeatNotSmaller = codes "HeartbeatNotSmaller"
definition_fault_name definition.TooLarge = codes "TooLarge"
definition_fault_name definition.NotWhole = codes "NotWhole"

-- of one of a record
abbrev pub record_fault_name : RecordFault → Bytes
record_fault_name records.NotObject = codes "NotObject"
record_fault_name records.MissingField = codes "MissingField"
record_fault_name records.UnknownField = codes "UnknownField"
record_fault_name records.WrongKind = codes "WrongKind"
record_fault_name (records.BadShape f) = codes "BadShape"
record_fault_name records.BadVersion = codes "BadVersion"
record_fault_name records.BadNumber = codes "BadNumber"

-- the field behind a space, nothing where it is empty
abbrev pub field_text : FieldName → Bytes
field_text [] = []
field_text (x ∷ rest) = codes " " ++ in_line (x ∷ rest)

-- a name as a JSON text, and the field
abbrev pub place_text : StateName → FieldName → Bytes
place_text n field = codes " " ++ (quoted_name n ++ field_text field)

-- `refused WHICH FAULT`, where it stands, and the line break
abbrev pub refusal_text : Which → Bytes → Bytes → Bytes
refusal_text which fault place =
    codes "refused " ++ (which_name which ++ (codes " " ++ (fault ++ (place ++ line_break))))

-- the line where memory was refused
abbrev pub out_of_memory : Bytes
out_of_memory = codes "out of memory\n"

-- the line for a refused text
abbrev pub refusal_line : Which → TextFault → Bytes
refusal_line which NotJson = refusal_text which (codes "NotJson") []
refusal_line which NotWhole = refusal_text which (codes "NotWhole") []
refusal_line which (BadDefinition c) = refusal_text which (definition_fault_name c.fault) (place_text c.state c.field)
refusal_line which (BadRecord c) = refusal_text which (record_fault_name c.fault) (place_text c.name c.field)
refusal_line which (BadAnswer n) = refusal_text which (codes "BadAnswer") (codes " " ++ decimal n)
refusal_line which NoMemory = out_of_memory

-- want of memory is status 5, a refused text 2
abbrev pub refusal_status : TextFault → ℕ
refusal_status NotJson = 2
refusal_status NotWhole = 2
refusal_status (BadDefinition c) = 2
refusal_status (BadRecord c) = 2
refusal_status (BadAnswer n) = 2
refusal_status NoMemory = 5

-- ---- ends of the program

-- how a call over a reader and a writer fails
pub data CommandFault : Type 0 where
  RefusedText : Which → TextFault → CommandFault
  TooLong : CommandFault
  ReadFailed : CommandFault
  WriteFailed : CommandFault
  OutOfMemory : CommandFault

-- how a run ends
pub data RunEnd : Type 0 where
  RunOutput : RunEnd
  RunFailed : RunEnd
  NoAnswer : RunEnd
  StepsSpent : RunEnd
  -- the input isn't of its shape; nor an answer to the state of that name
  InputShape : RunEnd
  AnswerShape : StateName → RunEnd

-- what a command ends with
pub data Closing : Type 0 where
  ClosingVerdict : Verdict → Closing
  ClosingRun : RunEnd → Closing
  ClosingCertificate : Closing
  ClosingNotSettled : Closing
  ClosingFault : CommandFault → Closing

-- the exit status with a verdict
abbrev pub verdict_status : Verdict → ℕ
verdict_status Accepted = 0
verdict_status (Rejected fs) = 1

-- the exit status where a call fails
abbrev pub fault_status : CommandFault → ℕ
fault_status (RefusedText which f) = refusal_status f
fault_status TooLong = 2
fault_status ReadFailed = 5
fault_status WriteFailed = 5
fault_status OutOfMemory = 5

-- the line on standard error then
abbrev pub fault_line : CommandFault → Bytes
fault_line (RefusedText which f) = refusal_line which f
fault_line TooLong = codes "text too long\n"
fault_line ReadFailed = codes "read failed\n"
fault_line WriteFailed = codes "write failed\n"
fault_line OutOfMemory = out_of_memory

-- the exit status behind a run
abbrev pub run_status : RunEnd → ℕ
run_status RunOutput = 0
run_status RunFailed = 1
run_status NoAnswer = 4
run_status StepsSpent = 4
run_status InputShape = 3
run_status (AnswerShape n) = 3

-- the line on standard error behind it
abbrev pub run_line : RunEnd → Bytes
run_line RunOutput = []
run_line RunFailed = []
run_line NoAnswer = codes "no answer\n"
run_line StepsSpent = codes "steps spent\n"
run_line InputShape = codes "input not of its shape\n"
run_line (AnswerShape n) = codes "answer not of its shape " ++ (quoted_name n ++ line_break)

-- the exit status: 0 a yes, a certificate, an output; 1 a no, not settled, a failed run; 2 a text refused or too long;
-- 3 an input or answer not of its shape; 4 no answer or no steps left; 5 want of memory, a reader or writer that failed
abbrev pub closing_status : Closing → ℕ
closing_status (ClosingVerdict verdict) = verdict_status verdict
closing_status (ClosingRun end) = run_status end
closing_status ClosingCertificate = 0
closing_status ClosingNotSettled = 1
closing_status (ClosingFault fault) = fault_status fault

-- the line on standard error, with its break; empty where there is none
abbrev pub closing_line : Closing → Bytes
closing_line (ClosingVerdict verdict) = []
closing_line (ClosingRun end) = run_line end
closing_line ClosingCertificate = []
closing_line ClosingNotSettled = codes "not settled\n"
closing_line (ClosingFault fault) = fault_line fault

-- ---- lines

-- the bytes before the first line break (U+000A), and those behind it; without one, all and none
abbrev pub first_line : Bytes → Bytes
first_line [] = []
first_line (x ∷ rest) = if x == 10 then [] else x ∷ first_line rest

-- what stands behind the first line break
abbrev pub further_lines : Bytes → Bytes
further_lines [] = []
further_lines (x ∷ rest) = if x == 10 then rest else further_lines rest

-- the first three lines; a missing one is empty
abbrev pub definition_line : Bytes → Bytes
definition_line text = first_line text

-- the second line
abbrev pub declared_line : Bytes → Bytes
declared_line text = first_line (further_lines text)

-- the third line
abbrev pub certificate_line : Bytes → Bytes
certificate_line text = first_line (further_lines (further_lines text))

-- a line of more than 16777216 bytes, its break not counted, isn't read
abbrev pub is_too_long : Bytes → Bool
is_too_long line = nat_lt 16777216 (length line)
