-- Worked examples of the spelling of templates.
use Rattle.std.specs.Prelude.{◌≡◌, ℕ, pos, List, [], ◌∷◌, Bool, true, false, Option, Some, option_map, option_and_then, codes, refl}
use Rattle.serde_json.specs.Read.{read}
use Rattle.serde_json.proofs.OnLiterals.{serde_json_on_literals}
use Rattle.asl_model.specs.Tree.{Text, Integer}
use Rattle.asl_model.specs.Path.{Name}
use Rattle.asl_model.specs.Intrinsic.{InInput, ItemIndex, InItem, StatesArrayLength, CallOf, IntegerArgument, NoArguments, AndArgument}
use Rattle.asl_model.specs.Template.{Template, Literal, FromPath, FromCall, ArrayTemplate, ObjectTemplate, NoTemplates, AndTemplate, NoFieldTemplates, AndFieldTemplate}
use Rattle.asl_model.specs.Json.{tree_of}
use Rattle.asl_model.specs.TemplateSpelling.{template_of, template_faults, TemplateFault, NotObject, NotText, BadPath, BadIntrinsic, DuplicateAfterStrip, LeftOutContext}

template_in : Bool → List ℕ → Option Template
template_in item text = option_and_then (template_of item) (option_and_then tree_of (read text))

faults_in : Bool → List ℕ → Option (List TemplateFault)
faults_in item text = option_map (template_faults item) (option_and_then tree_of (read text))

paths_at_any_depth : template_in false (codes "{\"a\":[{\"b.$\":\"$.x\"}],\"c\":\"$.x\"}") ≡ Some (ObjectTemplate (AndFieldTemplate (codes "a") (ArrayTemplate (AndTemplate (ObjectTemplate (AndFieldTemplate (codes "b") (FromPath (InInput (Name (codes "x") ∷ []))) NoFieldTemplates)) NoTemplates)) (AndFieldTemplate (codes "c") (Literal (Text (codes "$.x"))) NoFieldTemplates)))
unfolding serde_json_on_literals template_in
paths_at_any_depth = refl

-- `a!` stands before `a.$`, and `a` before `a!`
sorted_by_new_names : template_in false (codes "{\"a!\":1,\"a.$\":\"States.ArrayLength(1)\"}") ≡ Some (ObjectTemplate (AndFieldTemplate (codes "a") (FromCall (CallOf StatesArrayLength (AndArgument (IntegerArgument (pos 1)) NoArguments))) (AndFieldTemplate (codes "a!") (Literal (Integer (pos 1))) NoFieldTemplates)))
unfolding serde_json_on_literals template_in
sorted_by_new_names = refl

paths_to_the_item : template_in true (codes "{\"i.$\":\"$$.Map.Item.Index\",\"v.$\":\"$$.Map.Item.Value.a\"}") ≡ Some (ObjectTemplate (AndFieldTemplate (codes "i") (FromPath ItemIndex) (AndFieldTemplate (codes "v") (FromPath (InItem (Name (codes "a") ∷ []))) NoFieldTemplates)))
unfolding serde_json_on_literals template_in
paths_to_the_item = refl

-- one suffix is lost, and the name may become empty
suffix_alone : template_in false (codes "{\".$\":\"$\",\"a.$.$\":\"$\"}") ≡ Some (ObjectTemplate (AndFieldTemplate [] (FromPath (InInput [])) (AndFieldTemplate (codes "a.$") (FromPath (InInput [])) NoFieldTemplates)))
unfolding serde_json_on_literals template_in
suffix_alone = refl

no_object : faults_in false (codes "[]") ≡ Some (NotObject ∷ [])
unfolding serde_json_on_literals faults_in
no_object = refl

no_text : faults_in false (codes "{\"x.$\":1}") ≡ Some (NotText ∷ [])
unfolding serde_json_on_literals faults_in
no_text = refl

context_left_out : faults_in true (codes "{\"x.$\":\"$$.Execution.Id\"}") ≡ Some (LeftOutContext ∷ [])
unfolding serde_json_on_literals faults_in
context_left_out = refl

item_left_out : faults_in false (codes "{\"x.$\":\"$$.Map.Item.Index\"}") ≡ Some (LeftOutContext ∷ [])
unfolding serde_json_on_literals faults_in
item_left_out = refl

into_index : faults_in true (codes "{\"x.$\":\"$$.Map.Item.Index.x\"}") ≡ Some (LeftOutContext ∷ [])
unfolding serde_json_on_literals faults_in
into_index = refl

value_and_more : faults_in true (codes "{\"x.$\":\"$$.Map.Item.Valuex\"}") ≡ Some (LeftOutContext ∷ [])
unfolding serde_json_on_literals faults_in
value_and_more = refl

no_call : faults_in false (codes "{\"x.$\":\"hello\"}") ≡ Some (BadIntrinsic ∷ [])
unfolding serde_json_on_literals faults_in
no_call = refl

no_path : faults_in false (codes "{\"x.$\":\"$.a..b\"}") ≡ Some (BadPath ∷ [])
unfolding serde_json_on_literals faults_in
no_path = refl

twice : faults_in false (codes "{\"x.$\":\"$.n\",\"x\":1}") ≡ Some (DuplicateAfterStrip ∷ [])
unfolding serde_json_on_literals faults_in
twice = refl

deep_twice : faults_in false (codes "{\"y\":[{\"x.$\":\"$.n\",\"x\":1}]}") ≡ Some (DuplicateAfterStrip ∷ [])
unfolding serde_json_on_literals faults_in
deep_twice = refl
