use Rattle.std.proofs.Common.{drop}
use Rattle.asl_records.proofs.Lists.{ReadsFor}
use Rattle.asl_records.proofs.fields.Reader.read_numbers.Given as goal

abbrev pub invariant-loop-element : goal.invariant-loop-element
invariant-loop-element l = ReadsFor l.self.several l.self.listed l.initial.shapes l.shapes l.elements (drop l.element-index l.elements) l.numbers.items
