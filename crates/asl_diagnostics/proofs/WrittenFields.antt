-- The tokens of members and elements that may be absent.
use Rattle.std.proofs.Common.{◌≡◌, ℕ, List, [], ◌∷◌, ◌++◌, Option, Some, None, String, Global, refl}
use Rattle.json.specs.Token.{Token, end_object}
use Rattle.json.specs.Tree.{members_tokens}
use Rattle.serde_json.specs.Written.{members_outline}
use Rattle.asl_model.specs.Json.{members_for}
use Rattle.asl_model.specs.Names.{Bytes}
use Rattle.asl_model.specs.Tree.{Fields}
use Rattle.asl_tree.specs.declared.Tree.{Tree}
use Rattle.asl_diagnostics.specs.Listed.{with_example, with_text, example_tokens, text_tokens}
use Rattle.asl_diagnostics.specs.Sarif.{index_fields, index_tokens, properties_tokens, with_properties}

-- the tokens of these fields, with the end of the object
abbrev pub fields_tokens : Fields → List Token
fields_tokens members = members_tokens (members_outline (members_for members))

pub with_text-tokens : (name : Bytes) (text : Option (String Global)) (members : Fields) → fields_tokens (with_text name text members) ≡ text_tokens name text ++ fields_tokens members
with_text-tokens name None members = refl
with_text-tokens name (Some text) members = refl

pub with_example-tokens : (example : Option Tree) (members : Fields) → fields_tokens (with_example example members) ≡ example_tokens example ++ fields_tokens members
with_example-tokens None members = refl
with_example-tokens (Some tree) members = refl

pub with_properties-tokens : (example : Option Tree) (members : Fields) → fields_tokens (with_properties example members) ≡ properties_tokens example ++ fields_tokens members
with_properties-tokens None members = refl
with_properties-tokens (Some tree) members = refl

pub index_fields-tokens : (index : Option ℕ) → fields_tokens (index_fields index) ≡ index_tokens index ++ end_object ∷ []
index_fields-tokens None = refl
index_fields-tokens (Some n) = refl
