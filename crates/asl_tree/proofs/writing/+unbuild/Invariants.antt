use Rattle.std.proofs.Common.{◌≡◌, List, ◌++◌, take, drop, map}
use Rattle.serde_json.specs.View.{view as json_view}
use Rattle.serde_json.specs.View.{members_view}
use Rattle.asl_model.specs.Json.{value_of, members_for}
use Rattle.asl_tree.specs.View.{view, entries_view}
use Rattle.asl_tree.specs.Whole.{AreWhole, HaveWholeValues}
use Rattle.asl_tree.proofs.Views.{Entry}
use Rattle.asl_tree.proofs.writing.+unbuild.Given as goal

abbrev pub invariant-items_for-loop-element : goal.invariant-items_for-loop-element
invariant-items_for-loop-element l =
    (map json_view l.items.items ≡ map (λ t. value_of (view t)) (take l.element-index l.element-items))
    × (AreWhole (drop l.element-index l.element-items) → AreWhole l.element-items)

abbrev pub invariant-members_for-loop-name : goal.invariant-members_for-loop-name
invariant-members_for-loop-name l =
    ((done : List Entry) × (l.fields.entries ≡ done ++ l.name-iterator) × (members_view l.members.entries ≡ members_for (entries_view done)))
    × (HaveWholeValues l.name-iterator → HaveWholeValues l.fields.entries)
