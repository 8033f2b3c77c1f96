-- Worked examples of what is written for shapes, declared shapes and certificates.
use Rattle.std.specs.Prelude.{◌≡◌, [], ◌∷◌, true, false, Some, None, codes, refl}
use Rattle.std.specs.Fmt.{digits}
use Rattle.serde_json.proofs.OnLiterals.{serde_json_on_literals}
use Rattle.asl_model.specs.Certificate.{Certificate}
use Rattle.asl_model.specs.WrittenNumbered.{written_numbered}
use Rattle.asl_model.specs.Shape.{Shape, Any, OfKinds, no_simple, WithoutArrays, ArraysOf, WithoutObjects, ObjectsOf, Never, IntegerShape, StringShape, ArrayShape, ObjectShape, NoShapes, AndShape, NoFieldShapes, AndFieldShape}
use Rattle.asl_model.specs.Json.{compact_text}
use Rattle.asl_model.specs.Written.{written_shape, written_declared, written_certificate}

closed_object : compact_text (written_shape (ObjectShape (AndFieldShape (codes "a") false IntegerShape NoFieldShapes) false)) ≡ codes "{\"additionalProperties\":false,\"properties\":{\"a\":{\"type\":\"integer\"}},\"type\":\"object\"}"
unfolding serde_json_on_literals
closed_object = refl

open_object : compact_text (written_shape (ObjectShape (AndFieldShape (codes "a") true Any (AndFieldShape (codes "b") true StringShape NoFieldShapes)) true)) ≡ codes "{\"properties\":{\"a\":true,\"b\":{\"type\":\"string\"}},\"required\":[\"a\",\"b\"],\"type\":\"object\"}"
unfolding serde_json_on_literals
open_object = refl

any_object : compact_text (written_shape (ObjectShape NoFieldShapes true)) ≡ codes "{\"type\":\"object\"}"
unfolding serde_json_on_literals
any_object = refl

a_pair : compact_text (written_shape (ArrayShape (AndShape Any (AndShape IntegerShape NoShapes)) Never)) ≡ codes "{\"items\":false,\"minItems\":2,\"prefixItems\":[true,{\"type\":\"integer\"}],\"type\":\"array\"}"
unfolding serde_json_on_literals digits
a_pair = refl

any_list : compact_text (written_shape (ArrayShape NoShapes Any)) ≡ codes "{\"type\":\"array\"}"
unfolding serde_json_on_literals
any_list = refl

-- of three kinds: the names of the types in byte order, and the keywords of arrays among those of objects
three_kinds : compact_text (written_shape (OfKinds (record no_simple { null = true }) (ArraysOf NoShapes IntegerShape) (ObjectsOf (AndFieldShape (codes "a") true Any NoFieldShapes) false))) ≡ codes "{\"additionalProperties\":false,\"items\":{\"type\":\"integer\"},\"properties\":{\"a\":true},\"required\":[\"a\"],\"type\":[\"array\",\"null\",\"object\"]}"
unfolding serde_json_on_literals
three_kinds = refl

two_simple_kinds : compact_text (written_shape (OfKinds (record no_simple { null = true; text = true }) WithoutArrays WithoutObjects)) ≡ codes "{\"type\":[\"null\",\"string\"]}"
unfolding serde_json_on_literals
two_simple_kinds = refl

-- `tasks` and `takes` are always written
declared : compact_text (written_declared (record { input = IntegerShape; tasks = (codes "T", record { takes = Any; gives = StringShape }) ∷ [] })) ≡ codes "{\"input\":{\"type\":\"integer\"},\"tasks\":{\"T\":{\"gives\":{\"type\":\"string\"},\"takes\":true}}}"
unfolding serde_json_on_literals
declared = refl

-- the certificate that is found for a state that wraps its input without end
certificate : compact_text (written_certificate (record { output = Never; states = (codes "A", record { input = Any; output = Any; branches = []; item = None }) ∷ [] })) ≡ codes "{\"output\":false,\"states\":{\"A\":{\"input\":true,\"output\":true}},\"version\":1}"
unfolding serde_json_on_literals digits
certificate = refl

with_branches_and_item : compact_text (written_certificate (record { output = Any; states = (codes "P", record { input = Any; output = Any; branches = Never ∷ Any ∷ []; item = Some Never }) ∷ [] })) ≡ codes "{\"output\":true,\"states\":{\"P\":{\"branches\":[false,true],\"input\":true,\"item\":false,\"output\":true}},\"version\":1}"
unfolding serde_json_on_literals digits
with_branches_and_item = refl

-- ---- certificates that list their shapes

-- of a Parallel of two tasks, its output is listed
one_list : Shape
one_list = ArrayShape (AndShape IntegerShape (AndShape StringShape NoShapes)) Never

two_tasks : Certificate
two_tasks = record {
  output = one_list;
  states =
      (codes "P", record { input = IntegerShape; output = one_list; branches = IntegerShape ∷ StringShape ∷ []; item = None })
      ∷ (codes "T0", record { input = IntegerShape; output = IntegerShape; branches = []; item = None }) ∷ [];
}

listed_once : compact_text (written_numbered two_tasks) ≡ codes "{\"output\":{\"shape\":0},\"shapes\":[{\"items\":false,\"minItems\":2,\"prefixItems\":[{\"type\":\"integer\"},{\"type\":\"string\"}],\"type\":\"array\"}],\"states\":{\"P\":{\"branches\":[{\"type\":\"integer\"},{\"type\":\"string\"}],\"input\":{\"type\":\"integer\"},\"output\":{\"shape\":0}},\"T0\":{\"input\":{\"type\":\"integer\"},\"output\":{\"type\":\"integer\"}}},\"version\":1}"
unfolding serde_json_on_literals digits two_tasks one_list
listed_once = refl

-- a part is listed before the whole, and one that was there isn't listed again
parts_first : compact_text (written_numbered (record { output = ArrayShape NoShapes (ArrayShape NoShapes IntegerShape); states = (codes "A", record { input = ArrayShape NoShapes IntegerShape; output = Any; branches = []; item = None }) ∷ [] })) ≡ codes "{\"output\":{\"shape\":1},\"shapes\":[{\"items\":{\"type\":\"integer\"},\"type\":\"array\"},{\"items\":{\"shape\":0},\"type\":\"array\"}],\"states\":{\"A\":{\"input\":{\"shape\":0},\"output\":true}},\"version\":1}"
unfolding serde_json_on_literals digits
parts_first = refl

-- where none is of arrays, of objects or of several kinds, none is listed
none_listed : compact_text (written_numbered (record { output = Never; states = [] })) ≡ codes "{\"output\":false,\"states\":{},\"version\":1}"
unfolding serde_json_on_literals digits
none_listed = refl

-- ---- certificates with shapes of several kinds

-- their version is the second
second_version : compact_text (written_certificate (record { output = ArrayShape NoShapes (OfKinds (record no_simple { null = true; text = true }) WithoutArrays WithoutObjects); states = [] })) ≡ codes "{\"output\":{\"items\":{\"type\":[\"null\",\"string\"]},\"type\":\"array\"},\"states\":{},\"version\":2}"
unfolding serde_json_on_literals digits
second_version = refl

-- one of several simple kinds is listed too, and one of a single kind isn't
several_listed : compact_text (written_numbered (record { output = IntegerShape; states = (codes "A", record { input = OfKinds (record no_simple { null = true; text = true }) WithoutArrays WithoutObjects; output = IntegerShape; branches = []; item = None }) ∷ [] })) ≡ codes "{\"output\":{\"type\":\"integer\"},\"shapes\":[{\"type\":[\"null\",\"string\"]}],\"states\":{\"A\":{\"input\":{\"shape\":0},\"output\":{\"type\":\"integer\"}}},\"version\":2}"
unfolding serde_json_on_literals digits
several_listed = refl
