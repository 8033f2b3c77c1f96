use Rattle.std.proofs.Common.{◌≡◌, List, ◌++◌, take, map, Some}
use Rattle.serde_json.specs.View.{view as json_view}
use Rattle.serde_json.specs.View.{members_view}
use Rattle.asl_model.specs.Json.{tree_of, members_of}
use Rattle.asl_tree.specs.View.{view, entries_view}
use Rattle.asl_tree.proofs.Texts.{Member}
use Rattle.asl_tree.proofs.reading.+build.Given as goal

abbrev pub invariant-elements_from-loop-item : goal.invariant-elements_from-loop-item
invariant-elements_from-loop-item l = map (λ v. tree_of (json_view v)) (take l.item-index l.item-items) ≡ map (λ t. Some (view t)) l.elements.items

abbrev pub invariant-fields_from-loop-name : goal.invariant-fields_from-loop-name
invariant-fields_from-loop-name l =
    (done : List Member) × (l.members.entries ≡ done ++ l.name-iterator) × (members_of (members_view done) ≡ Some (entries_view l.fields.entries))
