use Rattle.std.proofs.Common.{◌≡◌, drop}
use Rattle.serde_json.specs.View.{view, items_view, members_view}
use Rattle.asl_model.specs.StandsFor.{members_in, state_names, each_scope, each_state, processor_under, each_state_complaints, each_branch_complaints, processor_complaints_under, all_names, names_among, names_of_scopes}
use Rattle.asl_machine.proofs.Told.{WalksOf}
use Rattle.asl_machine.proofs.scope_telling.+tell.Given as goal

abbrev pub invariant-tell_each_state-loop-name : goal.invariant-tell_each_state-loop-name
invariant-tell_each_state-loop-name l =
    WalksOf l.initial.telling l.telling
    (each_state_complaints (state_names (members_in (view l.scope))) (members_view l.members.entries)) (each_state_complaints (state_names (members_in (view l.scope))) (members_view l.name-iterator))
    (names_among (each_state (members_view l.members.entries))) (names_among (each_state (members_view l.name-iterator)))

abbrev pub invariant-tell_each_branch-loop-element : goal.invariant-tell_each_branch-loop-element
invariant-tell_each_branch-loop-element l =
    WalksOf l.initial.telling l.telling
    (each_branch_complaints l.name (items_view l.elements)) (each_branch_complaints l.name (items_view (drop l.element-index l.elements)))
    (names_of_scopes (each_scope (items_view l.elements))) (names_of_scopes (each_scope (items_view (drop l.element-index l.elements))))

abbrev pub invariant-tell_first_processor-loop-field : goal.invariant-tell_first_processor-loop-field
invariant-tell_first_processor-loop-field l = record {
  rules : processor_complaints_under l.name (members_view l.members.entries) ≡ processor_complaints_under l.name (members_view l.field-iterator);
  scope : all_names (processor_under (members_view l.members.entries)) ≡ all_names (processor_under (members_view l.field-iterator));
  same : l.telling ≡ l.initial.telling;
}
