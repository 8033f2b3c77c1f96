-- The trees that a reading of tokens spells.
use Rattle.std.specs.Prelude.{Option, option_and_then}
use Rattle.json.specs.Json as json
use Rattle.serde_json.specs.Data.{no_members}
use Rattle.serde_json.specs.Read.{of_json, of_items, of_members}
use Rattle.asl_model.specs.Json.{tree_of, elements_of, members_of}
use Rattle.asl_model.specs.Tree.{Tree, Trees, Fields}

-- the tree that the JSON value of a reading is
abbrev pub spelled : json.Json → Option Tree
spelled j = option_and_then tree_of (of_json j)

-- so for the elements of an array
abbrev pub spelled_elements : json.Items → Option Trees
spelled_elements js = option_and_then elements_of (of_items js)

-- so for the members of an object
abbrev pub spelled_fields : json.Members → Option Fields
spelled_fields ms = option_and_then members_of (of_members ms no_members)
