use Rattle.std.proofs.Common.{◌-◌, length, take}
use Rattle.json.specs.Json.{Json}
use Rattle.asl_places.specs.Found.{BeginsAt}
use Rattle.asl_places.specs.Named.{state_named}
use Rattle.asl_places.specs.Gathering.{Adds}
use Rattle.asl_places.proofs.Machines.{IsAmong}
use Rattle.asl_places.proofs.states.States.+add_machine.Given as goal

abbrev pub decreases-add_machine : goal.decreases-add_machine
decreases-add_machine l = length l.outline.now.0 - l.machine.token

abbrev pub invariant-loop-nested : goal.invariant-loop-nested
invariant-loop-nested l = (j : Json) → BeginsAt l.outline.0 l.fn.machine j → Adds (state_named l.fn.self) (state_named l.self) (IsAmong l.outline.0 l.fn.machine (take l.nested-index l.nested-items))
