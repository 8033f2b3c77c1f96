use Rattle.std.proofs.Common.{drop}
use Rattle.asl_records.proofs.Trees.{ReadsListed}
use Rattle.asl_records.proofs.listed.read_elements.Given as goal

abbrev pub invariant-loop-element : goal.invariant-loop-element
invariant-loop-element l = ReadsListed l.several l.shapes l.elements (drop l.element-index l.elements) l.numbers.items
