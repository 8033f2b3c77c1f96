-- The exits of a state for others, along the walk through it.
use Rattle.std.specs.Prelude.{◌+◌, codes, bytes_eq, if◌then◌else◌}
use Rattle.asl_model.specs.Edges.{Destination, ToInput, ToOutput, ToEnd, ToTask, Walked, Flows, Breaks}
use Rattle.asl_model.specs.Names.{FieldName}
use Rattle.asl_ways.specs.declared.exits.Exit.{Exit}
use Rattle.asl_ways.specs.declared.exits.Exit.TheVariants.{Next, Rule, Default, Catcher, Branch, Items}
use Rattle.asl_ways.specs.declared.exits.Passed.{Passed}

-- the exit by which a shape flows into a state, for the field and what was passed
abbrev pub exit_at : Passed → FieldName → Exit
exit_at passed field =
    if bytes_eq field (codes "Next") then Next else
    (if bytes_eq field (codes "Choices") then Rule passed.turns else
    (if bytes_eq field (codes "Default") then Default else
    (if bytes_eq field (codes "Catch") then Catcher passed.catchers else
    (if bytes_eq field (codes "Branches") then Branch passed.branches else Items))))

-- nothing was passed
abbrev pub none_passed : Passed
none_passed = record { turns = 0; catchers = 0; branches = 0 }

-- a turn at that field is passed, too: at a field of several exits, that of the next one
abbrev pub turned : Passed → FieldName → Passed
turned passed field = record {
  turns = passed.turns + 1;
  catchers = (if bytes_eq field (codes "Catch") then passed.catchers + 1 else passed.catchers);
  branches = (if bytes_eq field (codes "Branches") then passed.branches + 1 else passed.branches);
}

-- an edge is passed: a turn, where it leads into a state
abbrev pub passed_to : Passed → FieldName → Destination → Passed
passed_to passed field (ToInput n) = turned passed field
passed_to passed field ToOutput = passed
passed_to passed field ToEnd = passed
passed_to passed field ToTask = passed

-- a step is passed: a broken rule is the turn of the exit that it bars
abbrev pub passed_on : Passed → Walked → Passed
passed_on passed (Flows edge) = passed_to passed edge.field edge.destination
passed_on passed (Breaks breach) = turned passed breach.field
