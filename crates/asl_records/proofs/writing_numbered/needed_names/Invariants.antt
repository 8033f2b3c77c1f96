use Rattle.std.proofs.Common.{◌≡◌, ◌++◌, map}
use Rattle.asl_tree.specs.View as trees
use Rattle.asl_records.proofs.References.{needed_texts}
use Rattle.asl_records.proofs.writing_numbered.needed_names.Given as goal

abbrev pub invariant-loop-name : goal.invariant-loop-name
invariant-loop-name l = map trees.view l.names.items ++ needed_texts l.name-iterator ≡ needed_texts l.fields.entries
