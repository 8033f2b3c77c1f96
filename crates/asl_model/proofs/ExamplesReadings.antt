-- The first worked example: what its three texts read as. And a machine with too many states.
use Rattle.std.specs.Prelude.{◌≡◌, ℕ, List, [], ◌∷◌, None, codes, refl, replicate}
use Rattle.serde_json.proofs.OnLiterals.{serde_json_on_literals}
use Rattle.asl_model.specs.Shape.{IntegerShape}
use Rattle.asl_model.specs.Machine.{Scope, ScopeOf, NoStates, AndState, StateOf, Pass}
use Rattle.asl_model.specs.Certificate.{Declared, Certificate}
use Rattle.asl_model.specs.DefinitionTable.{TooLarge}
use Rattle.asl_model.specs.StandsFor.{number_complaints}
use Rattle.asl_model.specs.Texts.{ReadsAsMachine, ReadsAsDeclared, ReadsAsCertificate}
use Rattle.asl_model.proofs.ExamplesSettings.{bare}

abbrev definition_text : List ℕ
definition_text = codes "{\"StartAt\":\"A\",\"States\":{\"A\":{\"Type\":\"Pass\",\"End\":true}}}"

abbrev declared_text : List ℕ
declared_text = codes "{\"input\":{\"type\":\"integer\"},\"tasks\":{}}"

abbrev certificate_text : List ℕ
certificate_text = codes "{\"version\":1,\"output\":{\"type\":\"integer\"},\"states\":{\"A\":{\"input\":{\"type\":\"integer\"},\"output\":{\"type\":\"integer\"}}}}"

abbrev machine : Scope
machine = ScopeOf (codes "A") (AndState (codes "A") (StateOf (bare None) (Pass None)) NoStates)

abbrev declared : Declared
declared = record { input = IntegerShape; tasks = [] }

abbrev certificate : Certificate
certificate = record { output = IntegerShape; states = (codes "A", record { input = IntegerShape; output = IntegerShape; branches = []; item = None }) ∷ [] }

first_text_reads : ReadsAsMachine definition_text machine
unfolding serde_json_on_literals
first_text_reads = record { value = _; reads = ((definition_text, (refl, refl)), refl); stands = record { none_wrong = refl; same = refl } }

second_text_reads : ReadsAsDeclared declared_text declared
unfolding serde_json_on_literals
second_text_reads = record { value = _; reads = ((declared_text, (refl, refl)), refl); stands = record { whole = refl; none_wrong = refl; same = refl } }

third_text_reads : ReadsAsCertificate certificate_text certificate
unfolding serde_json_on_literals
third_text_reads = record { value = _; reads = ((certificate_text, (refl, refl)), refl); stands = record { whole = refl; none_wrong = refl; same = refl } }

-- 10,000 states are allowed, 10,001 aren't
most_states : number_complaints (replicate 10000 []) ≡ []
most_states = refl

too_many_states : number_complaints (replicate 10001 []) ≡ record { fault = TooLarge; state = []; field = codes "States" } ∷ []
too_many_states = refl
