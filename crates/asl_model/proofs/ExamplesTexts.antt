-- Worked examples of what texts mean.
use Rattle.std.specs.Prelude.{◌≡◌, pos, negsuc, true, Some, None, option_and_then, codes, refl}
use Rattle.std.specs.Fmt.{digits}
use Rattle.serde_json.specs.Read.{read}
use Rattle.serde_json.proofs.OnLiterals.{serde_json_on_literals}
use Rattle.asl_model.specs.Tree.{Null, Boolean, Integer, Array, Object, NoTrees, AndTree, NoFields, AndField}
use Rattle.asl_model.specs.Json.{tree_of, compact_text}

-- the largest whole number of a tree is read, the next isn't, nor is a fraction
largest : option_and_then tree_of (read (codes "9223372036854775807")) ≡ Some (Integer (pos 9223372036854775807))
unfolding serde_json_on_literals
largest = refl

least : option_and_then tree_of (read (codes "-9223372036854775808")) ≡ Some (Integer (negsuc 9223372036854775807))
unfolding serde_json_on_literals
least = refl

too_large : option_and_then tree_of (read (codes "9223372036854775808")) ≡ None
unfolding serde_json_on_literals
too_large = refl

a_fraction : option_and_then tree_of (read (codes "[1.0]")) ≡ None
unfolding serde_json_on_literals
a_fraction = refl

-- the names of an object come in byte order, whatever the text's order
fields_in_order : option_and_then tree_of (read (codes "{\"b\": [1, null], \"a\": true}")) ≡ Some (Object (AndField (codes "a") (Boolean true) (AndField (codes "b") (Array (AndTree (Integer (pos 1)) (AndTree Null NoTrees))) NoFields)))
unfolding serde_json_on_literals
fields_in_order = refl

written_compactly : compact_text (Object (AndField (codes "a") (Boolean true) (AndField (codes "b") (Array (AndTree (Integer (negsuc 11)) (AndTree Null NoTrees))) NoFields))) ≡ codes "{\"a\":true,\"b\":[-12,null]}"
unfolding serde_json_on_literals digits
written_compactly = refl
