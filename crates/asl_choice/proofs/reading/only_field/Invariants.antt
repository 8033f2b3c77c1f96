use Rattle.std.proofs.Common.{◌≡◌, [], ◌∷◌, ◌++◌, ℕ, List, Option, Some, None, IfSome, string_bytes, String, Bor}
use Rattle.std.specs.declared.alloc.Global.{Global}
use Rattle.std.specs.List.{Contains}
use Rattle.asl_model.specs.RuleSpelling.{main_fields}
use Rattle.asl_model.specs.Tree as model
use Rattle.serde_json.specs.declared.value.Value.{Value}
use Rattle.asl_tree.specs.Values.{tree_in, fields_in}
use Rattle.asl_choice.proofs.reading.only_field.Given as goal

-- the field that was found, if there is one
abbrev pub found : Option (Bor (String Global) × Bor Value) → List (List ℕ × model.Tree)
found None = []
found (Some f) = (string_bytes f.0.now, tree_in f.1.now) ∷ []

abbrev pub invariant-loop-name : goal.invariant-loop-name
invariant-loop-name l =
    (main_fields (fields_in l.members.entries) ≡ found l.only ++ main_fields (fields_in l.name-iterator))
    × IfSome l.only (λ f. Contains l.members.entries (f.0.now, f.1.now))
    × ((done : List (String Global × Value)) × (l.members.entries ≡ done ++ l.name-iterator))
