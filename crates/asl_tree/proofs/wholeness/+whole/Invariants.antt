use Rattle.std.proofs.Common.{◌≡◌, drop, is_some}
use Rattle.serde_json.specs.View.{items_view, members_view}
use Rattle.asl_model.specs.Json.{elements_of, members_of}
use Rattle.asl_tree.proofs.wholeness.+whole.Given as goal

abbrev pub invariant-are_elements_whole-loop-item : goal.invariant-are_elements_whole-loop-item
invariant-are_elements_whole-loop-item l = is_some (elements_of (items_view l.items)) ≡ is_some (elements_of (items_view (drop l.item-index l.items)))

abbrev pub invariant-are_members_whole-loop-member : goal.invariant-are_members_whole-loop-member
invariant-are_members_whole-loop-member l = is_some (members_of (members_view l.members.entries)) ≡ is_some (members_of (members_view l.member-iterator))
