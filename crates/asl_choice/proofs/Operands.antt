-- What a value is, and what the tree is by which it is read.
use Rattle.std.proofs.Common.{◌≡◌, false, not, ◌&&◌, option_map, unwrap_or, is_some, refl}
use Rattle.serde_json.specs.Data as json
use Rattle.serde_json.specs.Data.{Data, unsigned, negative, float}
use Rattle.serde_json.specs.Find.{as_str, as_bool, as_number, is_float}
use Rattle.asl_model.specs.Test.{as_text, as_integer, as_boolean}
use Rattle.asl_tree.specs.Values.{whole}

-- the text that it is
pub text_read : (v : Data) → as_str v ≡ as_text (whole v)
text_read json.null = refl
text_read (json.boolean b) = refl
text_read (json.number (unsigned n)) = refl
text_read (json.number (negative z)) = refl
text_read (json.number (float x)) = refl
text_read (json.string s) = refl
text_read (json.array vs) = refl
text_read (json.object ms) = refl

-- the truth value
pub boolean_read : (v : Data) → as_bool v ≡ as_boolean (whole v)
boolean_read json.null = refl
boolean_read (json.boolean b) = refl
boolean_read (json.number (unsigned n)) = refl
boolean_read (json.number (negative z)) = refl
boolean_read (json.number (float x)) = refl
boolean_read (json.string s) = refl
boolean_read (json.array vs) = refl
boolean_read (json.object ms) = refl

-- whether it is an integer
pub integer_read : (v : Data) → (is_some (as_number v) && not (unwrap_or (option_map is_float (as_number v)) false)) ≡ is_some (as_integer (whole v))
integer_read json.null = refl
integer_read (json.boolean b) = refl
integer_read (json.number (unsigned n)) = refl
integer_read (json.number (negative z)) = refl
integer_read (json.number (float x)) = refl
integer_read (json.string s) = refl
integer_read (json.array vs) = refl
integer_read (json.object ms) = refl
