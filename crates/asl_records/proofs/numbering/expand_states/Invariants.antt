use Rattle.asl_records.specs.Proper.{AreProperStates}
use Rattle.asl_records.proofs.Numberings.{Expands}
use Rattle.asl_records.proofs.numbering.expand_states.Given as goal

abbrev pub invariant-loop-name : goal.invariant-loop-name
invariant-loop-name l = record {
  expands : Expands l.shapes l.states.entries l.name-iterator l.expanded.entries;
  proper : AreProperStates l.expanded.entries;
}
