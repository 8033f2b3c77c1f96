use Rattle.asl_records.proofs.StateEntries.{StatesFor}
use Rattle.asl_records.proofs.certificates.read_entries.Given as goal

abbrev pub invariant-loop-name : goal.invariant-loop-name
invariant-loop-name l = StatesFor l.reader.several l.reader.listed l.initial.shapes l.shapes l.entries.entries l.name-iterator l.states.entries
