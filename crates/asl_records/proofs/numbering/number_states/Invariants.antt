use Rattle.asl_records.proofs.Numberings.{Numbers}
use Rattle.asl_records.proofs.numbering.number_states.Given as goal

abbrev pub invariant-loop-name : goal.invariant-loop-name
invariant-loop-name l = Numbers l.initial.shapes l.shapes l.states.entries l.name-iterator l.numbered.entries
