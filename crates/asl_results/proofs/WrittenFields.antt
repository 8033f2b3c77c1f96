-- The tokens of members that may be absent.
use Rattle.std.proofs.Common.{◌≡◌, List, ◌++◌, Option, Some, None, String, Vec, Global, refl}
use Rattle.json.specs.Token.{Token}
use Rattle.json.specs.Tree.{members_tokens}
use Rattle.serde_json.specs.Written.{members_outline}
use Rattle.asl_model.specs.Json.{members_for}
use Rattle.asl_model.specs.Tree.{Fields}
use Rattle.asl_results.specs.Json.{difference_tokens, lacking_tokens, with_difference, with_lacking}

-- the tokens of these fields, with the end of the object
abbrev pub fields_tokens : Fields → List Token
fields_tokens members = members_tokens (members_outline (members_for members))

pub with_difference-tokens : (difference : Option (String Global)) (members : Fields) → fields_tokens (with_difference difference members) ≡ difference_tokens difference ++ fields_tokens members
with_difference-tokens None members = refl
with_difference-tokens (Some difference) members = refl

pub with_lacking-tokens : (lacking : Option (Vec (String Global) Global)) (members : Fields) → fields_tokens (with_lacking lacking members) ≡ lacking_tokens lacking ++ fields_tokens members
with_lacking-tokens None members = refl
with_lacking-tokens (Some lacking) members = refl
