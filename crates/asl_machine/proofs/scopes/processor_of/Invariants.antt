use Rattle.std.proofs.Common.{◌≡◌}
use Rattle.serde_json.specs.View.{members_view}
use Rattle.asl_model.specs.StandsFor.{processor_under}
use Rattle.asl_machine.proofs.scopes.processor_of.Given as goal

abbrev pub invariant-loop-name : goal.invariant-loop-name
invariant-loop-name l = processor_under (members_view l.members.entries) ≡ processor_under (members_view l.name-iterator)
