-- Worked examples of what is printed.
use Rattle.std.specs.Prelude.{◌≡◌, ℕ, List, [], ◌∷◌, map, Some, None, codes, refl}
use Rattle.std.specs.Fmt.{digits}
use Rattle.serde_json.proofs.OnLiterals.{serde_json_on_literals}
use Rattle.asl_model.specs.Finding as finding
use Rattle.asl_model.specs.Records as records
use Rattle.asl_model.specs.DefinitionTable as definition
use Rattle.asl_model.specs.ShapeSpelling.{BadType}
use Rattle.asl_model.specs.Texts.{DefinitionText, DeclaredText, CertificateText, AnswersText, NotJson, BadDefinition, BadRecord, BadAnswer, NoMemory}
use Rattle.asl_model.specs.Faults.{ResultPathMatchFailure}
use Rattle.asl_model.specs.Tree.{Null, Text, Object, NoFields, AndField}
use Rattle.asl_model.specs.Run.{Entry, Entered, Raised}
use Rattle.asl_model.specs.TracePrinted.{trace_text, HasNoRaiseLine, is_first_line, is_later_line}
use Rattle.asl_model.specs.Verdict.{Accepted, Rejected}
use Rattle.asl_model.specs.Printed.{verdict_text, finding_line, refusal_line, refusal_status, ClosingVerdict, ClosingRun, ClosingCertificate, ClosingNotSettled, ClosingFault, RefusedText, TooLong, ReadFailed, WriteFailed, OutOfMemory, RunOutput, RunFailed, NoAnswer, StepsSpent, InputShape, AnswerShape, closing_line, closing_status, definition_line, declared_line, certificate_line}

yes_line : verdict_text Accepted ≡ codes "yes\n"
yes_line = refl

no_lines : verdict_text (Rejected (record { state = codes "A"; field = codes "StartAt"; fault = finding.StartInput; example = None } ∷ record { state = codes "\"B\""; field = codes "states"; fault = finding.NotCertified; example = None } ∷ [])) ≡ codes "no \"A\" StartAt StartInput\nno \"\\\"B\\\"\" states NotCertified\n"
unfolding serde_json_on_literals
no_lines = refl

-- a line ends with the example, where there is one
line_with_example : finding_line (record { state = codes "A"; field = codes "Choices"; fault = finding.PathMayBeMissing; example = Some (Object NoFields) }) ≡ codes "no \"A\" Choices PathMayBeMissing {}\n"
unfolding serde_json_on_literals
line_with_example = refl

line_with_text : finding_line (record { state = codes "A"; field = codes "Next"; fault = finding.NextInput; example = Some (Object (AndField (codes "k") (Text []) NoFields)) }) ≡ codes "no \"A\" Next NextInput {\"k\":\"\"}\n"
unfolding serde_json_on_literals
line_with_text = refl

refused_as_json : refusal_line DefinitionText NotJson ≡ codes "refused definition NotJson\n"
refused_as_json = refl

refused_definition : refusal_line DefinitionText (BadDefinition (record { fault = definition.UnknownType; state = codes "A"; field = codes "Type" })) ≡ codes "refused definition UnknownType \"A\" Type\n"
unfolding serde_json_on_literals
refused_definition = refl

refused_machine_object : refusal_line DefinitionText (BadDefinition (record { fault = definition.NotObject; state = []; field = [] })) ≡ codes "refused definition NotObject \"\"\n"
unfolding serde_json_on_literals
refused_machine_object = refl

refused_certificate : refusal_line CertificateText (BadRecord (record { fault = records.BadShape BadType; name = []; field = codes "output" })) ≡ codes "refused certificate BadShape \"\" output\n"
unfolding serde_json_on_literals
refused_certificate = refl

refused_answers : refusal_line AnswersText (BadAnswer 12) ≡ codes "refused answers BadAnswer 12\n"
unfolding digits
refused_answers = refl

no_memory : (refusal_line DeclaredText NoMemory ≡ codes "out of memory\n") × (refusal_status NoMemory ≡ 5)
no_memory = (refl, refl)

answer_not_of_its_shape : (closing_line (ClosingRun (AnswerShape (codes "A"))) ≡ codes "answer not of its shape \"A\"\n") × (closing_status (ClosingRun (AnswerShape (codes "A"))) ≡ 3)
unfolding serde_json_on_literals
answer_not_of_its_shape = (refl, refl)

-- a Raise line is seen among the lines of a trace, wherever it stands
abbrev misfit : List ℕ × Entry
misfit = ([], Raised (codes "A") (record { error = ResultPathMatchFailure; field = codes "ResultPath" }))

abbrev with_a_fault : List ℕ
with_a_fault = trace_text (([], Entered (codes "A") Null) ∷ misfit ∷ [])

raise_line_is_seen : HasNoRaiseLine with_a_fault → ⊥
unfolding serde_json_on_literals
raise_line_is_seen h = h.none (codes "{\"at\":[],\"entry\":\"Raise\",\"error\":\"States.ResultPathMatchFailure\",\"field\":\"ResultPath\",\"state\":\"A\"}") (is_later_line (is_first_line refl)) (record { place = []; state = codes "A"; fault = record { error = ResultPathMatchFailure; field = codes "ResultPath" }; same = refl })

-- the first three lines, the rest isn't looked at; and where lines are missing
three_lines : (definition_line (codes "a\nb\nc\nd") ≡ codes "a") × (declared_line (codes "a\nb\nc\nd") ≡ codes "b") × (certificate_line (codes "a\nb\nc\nd") ≡ codes "c")
three_lines = (refl, refl, refl)

missing_lines : (definition_line (codes "a") ≡ codes "a") × (declared_line (codes "a") ≡ []) × (certificate_line (codes "a\n") ≡ [])
missing_lines = (refl, refl, refl)

carriage_return_belongs_to_the_line : definition_line (codes "a\r\nb") ≡ codes "a\r"
carriage_return_belongs_to_the_line = refl

-- the exit status of each end
statuses : map closing_status (ClosingVerdict Accepted ∷ ClosingVerdict (Rejected []) ∷ ClosingCertificate ∷ ClosingNotSettled ∷ ClosingRun RunOutput ∷ ClosingRun RunFailed ∷ ClosingRun NoAnswer ∷ ClosingRun StepsSpent ∷ ClosingRun InputShape ∷ ClosingFault TooLong ∷ ClosingFault ReadFailed ∷ ClosingFault WriteFailed ∷ ClosingFault OutOfMemory ∷ ClosingFault (RefusedText DefinitionText NotJson) ∷ ClosingFault (RefusedText DefinitionText NoMemory) ∷ [])
    ≡ 0 ∷ 1 ∷ 0 ∷ 1 ∷ 0 ∷ 1 ∷ 4 ∷ 4 ∷ 3 ∷ 2 ∷ 5 ∷ 5 ∷ 5 ∷ 2 ∷ 5 ∷ []
statuses = refl
