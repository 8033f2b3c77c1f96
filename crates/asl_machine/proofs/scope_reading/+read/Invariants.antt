use Rattle.std.proofs.Common.{◌≡◌, map, drop}
use Rattle.serde_json.specs.View.{view, items_view, members_view}
use Rattle.asl_model.specs.Numbering.{standing_each}
use Rattle.asl_model.specs.StandsFor.{members_in, state_names, each_scope, processor_under, each_state_complaints, each_branch_complaints, processor_complaints_under}
use Rattle.asl_machine.specs.Built.{built_view}
use Rattle.asl_machine.proofs.Added.{AddsBefore}
use Rattle.asl_machine.proofs.Nested.{members_standing}
use Rattle.asl_machine.proofs.scope_reading.+read.Given as goal

abbrev pub invariant-read_each_state-loop-name : goal.invariant-read_each_state-loop-name
invariant-read_each_state-loop-name l = record {
  rules : each_state_complaints (state_names (members_in (view l.scope))) (members_view l.members.entries) ≡ each_state_complaints (state_names (members_in (view l.scope))) (members_view l.name-iterator);
  added : AddsBefore (map built_view l.initial.built.items) (map built_view l.built.items) (members_standing l.home l.members.entries) (members_standing l.home l.name-iterator);
}

abbrev pub invariant-read_each_branch-loop-number : goal.invariant-read_each_branch-loop-number
invariant-read_each_branch-loop-number l = record {
  rules : each_branch_complaints l.name (items_view l.elements) ≡ each_branch_complaints l.name (items_view (drop l.number l.elements));
  added : AddsBefore (map built_view l.initial.built.items) (map built_view l.built.items) (standing_each l.name 0 (each_scope (items_view l.elements))) (standing_each l.name l.number (each_scope (items_view (drop l.number l.elements))));
}

abbrev pub invariant-read_first_processor-loop-field : goal.invariant-read_first_processor-loop-field
invariant-read_first_processor-loop-field l = record {
  rules : processor_complaints_under l.name (members_view l.members.entries) ≡ processor_complaints_under l.name (members_view l.field-iterator);
  scope : processor_under (members_view l.members.entries) ≡ processor_under (members_view l.field-iterator);
  same : map built_view l.built.items ≡ map built_view l.initial.built.items;
}
