-- Worked examples of declared shapes and certificates.
use Rattle.std.specs.Prelude.{◌≡◌, ℕ, List, [], ◌∷◌, true, Option, Some, None, option_map, codes, refl}
use Rattle.serde_json.specs.Read.{read}
use Rattle.serde_json.proofs.OnLiterals.{serde_json_on_literals}
use Rattle.asl_model.specs.Shape.{Shape, Any, OfKinds, no_simple, WithoutArrays, WithoutObjects, IntegerShape, BooleanShape, ArrayShape, NoShapes}
use Rattle.asl_model.specs.Certificate.{Declared, Certificate}
use Rattle.asl_model.specs.ShapeSpelling.{NotAShape, BadType, MinItems}
use Rattle.asl_model.specs.Records.{RecordFault, NotObject, MissingField, UnknownField, WrongKind, BadShape, BadVersion, BadNumber, RecordComplaint, declared_from, declared_complaints, certificate_from, certificate_complaints}

declared_in : List ℕ → Option (Declared × List RecordComplaint)
declared_in text = option_map (λ v. (declared_from v, declared_complaints v)) (read text)

certificate_in : List ℕ → Option (Certificate × List RecordComplaint)
certificate_in text = option_map (λ v. (certificate_from v, certificate_complaints v)) (read text)

declared_faults_in : List ℕ → Option (List RecordComplaint)
declared_faults_in text = option_map declared_complaints (read text)

certificate_faults_in : List ℕ → Option (List RecordComplaint)
certificate_faults_in text = option_map certificate_complaints (read text)

-- that fault alone, at that entry and field
only : RecordFault → List ℕ → List ℕ → Option (List RecordComplaint)
only fault name field = Some (record { fault = fault; name = name; field = field } ∷ [])

-- ---- what is read

declared_input_alone : declared_in (codes "{\"input\":{\"type\":\"integer\"},\"tasks\":{}}") ≡ Some (record { input = IntegerShape; tasks = [] }, [])
unfolding serde_json_on_literals declared_in
declared_input_alone = refl

declared_tasks : declared_in (codes "{\"input\":true,\"tasks\":{\"A\":{\"gives\":{\"type\":\"integer\"}},\"B\":{\"takes\":{\"type\":\"boolean\"},\"gives\":true}}}")
    ≡ Some (record { input = Any; tasks = (codes "A", record { takes = Any; gives = IntegerShape }) ∷ (codes "B", record { takes = BooleanShape; gives = Any }) ∷ [] }, [])
unfolding serde_json_on_literals declared_in
declared_tasks = refl

certificate_of_one_state : certificate_in (codes "{\"version\":1,\"output\":{\"type\":\"integer\"},\"states\":{\"A\":{\"input\":{\"type\":\"integer\"},\"output\":{\"type\":\"integer\"}}}}")
    ≡ Some (record { output = IntegerShape; states = (codes "A", record { input = IntegerShape; output = IntegerShape; branches = []; item = None }) ∷ [] }, [])
unfolding serde_json_on_literals certificate_in
certificate_of_one_state = refl

certificate_of_branches : certificate_in (codes "{\"version\":1,\"output\":true,\"states\":{\"P\":{\"input\":true,\"output\":true,\"branches\":[{\"type\":\"integer\"},true],\"item\":{\"type\":\"boolean\"}}}}")
    ≡ Some (record { output = Any; states = (codes "P", record { input = Any; output = Any; branches = IntegerShape ∷ Any ∷ []; item = Some BooleanShape }) ∷ [] }, [])
unfolding serde_json_on_literals certificate_in
certificate_of_branches = refl

-- ---- each fault

declared_no_object : declared_faults_in (codes "[]") ≡ only NotObject [] []
unfolding serde_json_on_literals declared_faults_in only
declared_no_object = refl

task_no_object : declared_faults_in (codes "{\"input\":true,\"tasks\":{\"A\":7}}") ≡ only NotObject (codes "A") []
unfolding serde_json_on_literals declared_faults_in only
task_no_object = refl

input_missing : declared_faults_in (codes "{}") ≡ only MissingField [] (codes "input")
unfolding serde_json_on_literals declared_faults_in only
input_missing = refl

gives_missing : declared_faults_in (codes "{\"input\":true,\"tasks\":{\"A\":{}}}") ≡ only MissingField (codes "A") (codes "gives")
unfolding serde_json_on_literals declared_faults_in only
gives_missing = refl

declared_unknown : declared_faults_in (codes "{\"input\":true,\"colour\":1}") ≡ only UnknownField [] (codes "colour")
unfolding serde_json_on_literals declared_faults_in only
declared_unknown = refl

tasks_no_object : declared_faults_in (codes "{\"input\":true,\"tasks\":[]}") ≡ only WrongKind [] (codes "tasks")
unfolding serde_json_on_literals declared_faults_in only
tasks_no_object = refl

input_no_shape : declared_faults_in (codes "{\"input\":7}") ≡ only (BadShape NotAShape) [] (codes "input")
unfolding serde_json_on_literals declared_faults_in only
input_no_shape = refl

takes_no_shape : declared_faults_in (codes "{\"input\":true,\"tasks\":{\"A\":{\"takes\":{\"type\":\"array\",\"minItems\":1},\"gives\":true}}}") ≡ only (BadShape MinItems) (codes "A") (codes "takes")
unfolding serde_json_on_literals declared_faults_in only
takes_no_shape = refl

state_no_object : certificate_faults_in (codes "{\"version\":1,\"output\":true,\"states\":{\"A\":7}}") ≡ only NotObject (codes "A") []
unfolding serde_json_on_literals certificate_faults_in only
state_no_object = refl

output_no_shape : certificate_faults_in (codes "{\"version\":1,\"output\":7,\"states\":{}}") ≡ only (BadShape NotAShape) [] (codes "output")
unfolding serde_json_on_literals certificate_faults_in only
output_no_shape = refl

version_no_number : certificate_faults_in (codes "{\"version\":\"1\",\"output\":true,\"states\":{}}") ≡ only WrongKind [] (codes "version")
unfolding serde_json_on_literals certificate_faults_in only
version_no_number = refl

other_version : certificate_faults_in (codes "{\"version\":3,\"output\":true,\"states\":{}}") ≡ only BadVersion [] (codes "version")
unfolding serde_json_on_literals certificate_faults_in only
other_version = refl

branches_no_list : certificate_faults_in (codes "{\"version\":1,\"output\":true,\"states\":{\"P\":{\"input\":true,\"output\":true,\"branches\":true}}}") ≡ only WrongKind (codes "P") (codes "branches")
unfolding serde_json_on_literals certificate_faults_in only
branches_no_list = refl

branch_no_shape : certificate_faults_in (codes "{\"version\":1,\"output\":true,\"states\":{\"P\":{\"input\":true,\"output\":true,\"branches\":[true,7]}}}") ≡ only (BadShape NotAShape) (codes "P") (codes "branches")
unfolding serde_json_on_literals certificate_faults_in only
branch_no_shape = refl

-- ---- listed shapes

listed_shapes : certificate_in (codes "{\"version\":1,\"shapes\":[{\"type\":\"integer\"},{\"type\":\"array\",\"items\":{\"shape\":0}}],\"output\":{\"shape\":1},\"states\":{\"A\":{\"input\":{\"shape\":0},\"output\":{\"shape\":1}}}}")
    ≡ Some (record { output = ArrayShape NoShapes IntegerShape; states = (codes "A", record { input = IntegerShape; output = ArrayShape NoShapes IntegerShape; branches = []; item = None }) ∷ [] }, [])
unfolding serde_json_on_literals certificate_in
listed_shapes = refl

reference_inside_itself : certificate_faults_in (codes "{\"version\":1,\"shapes\":[{\"shape\":0}],\"output\":true,\"states\":{}}") ≡ only BadNumber [] (codes "shapes")
unfolding serde_json_on_literals certificate_faults_in only
reference_inside_itself = refl

reference_ahead : certificate_faults_in (codes "{\"version\":1,\"shapes\":[{\"shape\":1},true],\"output\":true,\"states\":{}}") ≡ only BadNumber [] (codes "shapes")
unfolding serde_json_on_literals certificate_faults_in only
reference_ahead = refl

reference_behind_all : certificate_faults_in (codes "{\"version\":1,\"shapes\":[true],\"output\":{\"shape\":1},\"states\":{}}") ≡ only BadNumber [] (codes "output")
unfolding serde_json_on_literals certificate_faults_in only
reference_behind_all = refl

negative_reference : certificate_faults_in (codes "{\"version\":1,\"shapes\":[true],\"output\":{\"shape\":-1},\"states\":{}}") ≡ only BadNumber [] (codes "output")
unfolding serde_json_on_literals certificate_faults_in only
negative_reference = refl

reference_by_name : certificate_faults_in (codes "{\"version\":1,\"shapes\":[true],\"output\":true,\"states\":{\"A\":{\"input\":true,\"output\":{\"shape\":\"0\"}}}}") ≡ only BadNumber (codes "A") (codes "output")
unfolding serde_json_on_literals certificate_faults_in only
reference_by_name = refl

reference_not_alone : certificate_faults_in (codes "{\"version\":1,\"shapes\":[true],\"output\":{\"shape\":0,\"title\":\"x\"},\"states\":{}}") ≡ only (BadShape BadType) [] (codes "output")
unfolding serde_json_on_literals certificate_faults_in only
reference_not_alone = refl

reference_to_none_listed : certificate_faults_in (codes "{\"version\":1,\"output\":{\"shape\":0},\"states\":{}}") ≡ only (BadShape BadType) [] (codes "output")
unfolding serde_json_on_literals certificate_faults_in only
reference_to_none_listed = refl

shapes_no_list : certificate_faults_in (codes "{\"version\":1,\"shapes\":true,\"output\":true,\"states\":{}}") ≡ only WrongKind [] (codes "shapes")
unfolding serde_json_on_literals certificate_faults_in only
shapes_no_list = refl

-- ---- shapes of several kinds

-- null or an integer
null_or_integer : Shape
null_or_integer = OfKinds (record no_simple { null = true; integer = true }) WithoutArrays WithoutObjects

declared_of_two_kinds : declared_in (codes "{\"input\":{\"type\":[\"null\",\"integer\"]},\"tasks\":{\"A\":{\"gives\":{\"type\":[\"integer\",\"null\"]}}}}")
    ≡ Some (record { input = null_or_integer; tasks = (codes "A", record { takes = Any; gives = null_or_integer }) ∷ [] }, [])
unfolding serde_json_on_literals declared_in null_or_integer
declared_of_two_kinds = refl

second_version : certificate_in (codes "{\"version\":2,\"output\":{\"type\":[\"null\",\"integer\"]},\"states\":{}}") ≡ Some (record { output = null_or_integer; states = [] }, [])
unfolding serde_json_on_literals certificate_in null_or_integer
second_version = refl

-- the second version may be without such a shape
second_version_of_one_kind : certificate_in (codes "{\"version\":2,\"output\":{\"type\":\"integer\"},\"states\":{}}") ≡ Some (record { output = IntegerShape; states = [] }, [])
unfolding serde_json_on_literals certificate_in
second_version_of_one_kind = refl

second_version_listed : certificate_in (codes "{\"version\":2,\"shapes\":[{\"type\":[\"null\",\"integer\"]}],\"output\":{\"shape\":0},\"states\":{}}") ≡ Some (record { output = null_or_integer; states = [] }, [])
unfolding serde_json_on_literals certificate_in null_or_integer
second_version_listed = refl

first_version_output : certificate_faults_in (codes "{\"version\":1,\"output\":{\"type\":[\"null\",\"integer\"]},\"states\":{}}") ≡ only (BadShape BadType) [] (codes "output")
unfolding serde_json_on_literals certificate_faults_in only
first_version_output = refl

-- in the first version no list of types may stand in a listed shape, though nothing refers to it
first_version_listed : certificate_faults_in (codes "{\"version\":1,\"shapes\":[{\"type\":[\"null\",\"integer\"]}],\"output\":true,\"states\":{}}") ≡ only (BadShape BadType) [] (codes "shapes")
unfolding serde_json_on_literals certificate_faults_in only
first_version_listed = refl
