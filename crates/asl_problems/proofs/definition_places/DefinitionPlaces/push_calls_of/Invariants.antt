use Rattle.std.proofs.Common.{◌-◌, length}
use Rattle.asl_problems.proofs.definition_places.DefinitionPlaces.push_calls_of.Given as goal

abbrev pub decreases-loop-name : goal.decreases-loop-name
decreases-loop-name l = length l.members.0 - l.members.1
