-- Worked examples of answers and of the lines of a trace.
use Rattle.std.specs.Prelude.{◌≡◌, ℕ, pos, List, [], ◌∷◌, Option, Some, option_map, option_and_then, codes, refl}
use Rattle.std.specs.Fmt.{digits}
use Rattle.serde_json.specs.Read.{read}
use Rattle.serde_json.proofs.OnLiterals.{serde_json_on_literals}
use Rattle.asl_model.specs.Tree.{Integer}
use Rattle.asl_model.specs.Faults.{ResultPathMatchFailure}
use Rattle.asl_model.specs.Run.{Action, Gives, FailsTask, Output, FailedWith, Entered, Left, Raised, BranchFailed, Caught, Ended}
use Rattle.asl_model.specs.Json.{tree_of}
use Rattle.asl_model.specs.AnswersSpelling.{answers_from, answer_faults}
use Rattle.asl_model.specs.TracePrinted.{trace_text}

answers_in : List ℕ → Option (List Action × List ℕ)
answers_in text = option_map (λ t. (answers_from t, answer_faults t)) (option_and_then tree_of (read text))

faults_in : List ℕ → Option (List ℕ)
faults_in text = option_map answer_faults (option_and_then tree_of (read text))

both_kinds : answers_in (codes "[{\"Gives\":1},{\"Fails\":{\"Error\":\"A\",\"Cause\":\"c1\"}},{\"Fails\":{\"Error\":\"B\"}}]") ≡ Some (Gives (Integer (pos 1)) ∷ FailsTask (codes "A") (codes "c1") ∷ FailsTask (codes "B") [] ∷ [], [])
unfolding serde_json_on_literals answers_in
both_kinds = refl

no_answers : answers_in (codes "[]") ≡ Some ([], [])
unfolding serde_json_on_literals answers_in
no_answers = refl

no_list : faults_in (codes "{}") ≡ Some (0 ∷ [])
unfolding serde_json_on_literals faults_in
no_list = refl

second_is_none : faults_in (codes "[{\"Gives\":1},{\"Gives\":1,\"Fails\":{}}]") ≡ Some (1 ∷ [])
unfolding serde_json_on_literals faults_in
second_is_none = refl

no_error : faults_in (codes "[{\"Fails\":{\"Cause\":\"c\"}}]") ≡ Some (0 ∷ [])
unfolding serde_json_on_literals faults_in
no_error = refl

field_too_many : faults_in (codes "[{\"Fails\":{\"Error\":\"A\",\"Colour\":1}}]") ≡ Some (0 ∷ [])
unfolding serde_json_on_literals faults_in
field_too_many = refl

-- the run of the first worked example
three_lines : trace_text (([], Entered (codes "A") (Integer (pos 7))) ∷ ([], Left (codes "A") (Integer (pos 7))) ∷ ([], Ended (Output (Integer (pos 7)))) ∷ [])
    ≡ codes "{\"at\":[],\"entry\":\"Enter\",\"input\":7,\"state\":\"A\"}\n{\"at\":[],\"entry\":\"Leave\",\"output\":7,\"state\":\"A\"}\n{\"at\":[],\"entry\":\"Ended\",\"output\":7}\n"
unfolding serde_json_on_literals digits
three_lines = refl

other_lines : trace_text ((1 ∷ 0 ∷ [], Raised (codes "A") (record { error = ResultPathMatchFailure; field = codes "ResultPath" })) ∷ ([], BranchFailed (codes "P") 1 (codes "E") (codes "c")) ∷ ([], Caught (codes "P") 0 (codes "N")) ∷ ([], Ended (FailedWith (codes "E") (codes "c"))) ∷ [])
    ≡ codes "{\"at\":[1,0],\"entry\":\"Raise\",\"error\":\"States.ResultPathMatchFailure\",\"field\":\"ResultPath\",\"state\":\"A\"}\n{\"at\":[],\"cause\":\"c\",\"child\":1,\"entry\":\"BranchFailed\",\"error\":\"E\",\"state\":\"P\"}\n{\"at\":[],\"catcher\":0,\"entry\":\"Caught\",\"next\":\"N\",\"state\":\"P\"}\n{\"at\":[],\"cause\":\"c\",\"entry\":\"Ended\",\"error\":\"E\"}\n"
unfolding serde_json_on_literals digits
other_lines = refl
