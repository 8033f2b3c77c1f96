-- What the faults and closings of the code stand for in the definitions.
use Rattle.std.specs.Prelude.{option_map, string_bytes}
use Rattle.std.specs.Option.{unwrap_or}
use Rattle.asl_model.specs.Texts as texts
use Rattle.asl_model.specs.Printed as printed
use Rattle.asl_tree.specs.declared.TreeRefusal.{TreeRefusal}
use Rattle.asl_tree.specs.declared.TreeRefusal.TheVariants as tree
use Rattle.asl_fields.specs.declared.refusals.DefRefusal.{DefRefusal}
use Rattle.asl_fields.specs.View.{refusal_view}
use Rattle.asl_records.specs.declared.refusals.RecordRefusal.{RecordRefusal}
use Rattle.asl_records.specs.View.{complaint_view}
use Rattle.asl_check.specs.View.{verdict_view}
use Rattle.asl_texts.specs.declared.refusals.Which.{Which}
use Rattle.asl_texts.specs.declared.refusals.Which.TheVariants as which
use Rattle.asl_texts.specs.declared.refusals.TextFault.{TextFault}
use Rattle.asl_texts.specs.declared.refusals.TextFault.TheVariants as text
use Rattle.asl_texts.specs.declared.refusals.RunFault.{RunFault}
use Rattle.asl_texts.specs.declared.refusals.RunFault.TheVariants as run
use Rattle.asl_texts.specs.declared.runs.RunEnd.{RunEnd}
use Rattle.asl_texts.specs.declared.runs.RunEnd.TheVariants as ends
use Rattle.asl_texts.specs.declared.endings.Closing.{Closing}
use Rattle.asl_texts.specs.declared.endings.Closing.TheVariants as closing

-- one of the texts
abbrev pub which_view : Which → texts.Which
which_view which.Definition = texts.DefinitionText
which_view which.Declared = texts.DeclaredText
which_view which.Certificate = texts.CertificateText
which_view which.Input = texts.InputText
which_view which.Answers = texts.AnswersText

-- why a definition is refused
abbrev pub def_refusal_view : DefRefusal → texts.TextFault
def_refusal_view r = unwrap_or (option_map texts.BadDefinition (refusal_view r)) texts.NoMemory

-- why a record is refused
abbrev pub record_refusal_view : RecordRefusal → texts.TextFault
record_refusal_view r = unwrap_or (option_map texts.BadRecord (complaint_view r)) texts.NoMemory

-- what keeps a text from being a tree
abbrev pub tree_refusal_view : TreeRefusal → texts.TextFault
tree_refusal_view tree.NotJson = texts.NotJson
tree_refusal_view tree.NotWhole = texts.NotWhole
tree_refusal_view tree.OutOfMemory = texts.NoMemory

-- what is wrong with a text
abbrev pub text_fault_view : TextFault → texts.TextFault
text_fault_view (text.Tree refusal) = tree_refusal_view refusal
text_fault_view (text.Def refusal) = def_refusal_view refusal
text_fault_view (text.Record refusal) = record_refusal_view refusal
text_fault_view (text.BadAnswer n) = texts.BadAnswer n
text_fault_view text.OutOfMemory = texts.NoMemory

-- how a call over a reader and a writer fails
abbrev pub run_fault_view : RunFault → printed.CommandFault
run_fault_view (run.Text refusal) =
    printed.RefusedText (which_view refusal.which) (text_fault_view refusal.fault)
run_fault_view run.TooLong = printed.TooLong
run_fault_view run.Read = printed.ReadFailed
run_fault_view run.Write = printed.WriteFailed
run_fault_view run.OutOfMemory = printed.OutOfMemory

-- what a run ends with
abbrev pub run_end_view : RunEnd → printed.RunEnd
run_end_view ends.Output = printed.RunOutput
run_end_view ends.Failed = printed.RunFailed
run_end_view ends.NoAnswer = printed.NoAnswer
run_end_view ends.StepsSpent = printed.StepsSpent
run_end_view ends.InputShape = printed.InputShape
run_end_view (ends.AnswerShape state) = printed.AnswerShape (string_bytes state)

-- what a run of the program ends with
abbrev pub closing_view : Closing → printed.Closing
closing_view (closing.Verdict v) = printed.ClosingVerdict (verdict_view v)
closing_view (closing.Run end) = printed.ClosingRun (run_end_view end)
closing_view closing.Certificate = printed.ClosingCertificate
closing_view closing.NotSettled = printed.ClosingNotSettled
closing_view (closing.Fault fault) = printed.ClosingFault (run_fault_view fault)
