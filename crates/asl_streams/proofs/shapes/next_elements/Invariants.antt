use Rattle.std.proofs.Common.{length}
use Rattle.asl_streams.proofs.SpelledShapes.{Elements}
use Rattle.asl_streams.proofs.shapes.next_elements.Given as goal

abbrev pub invariant-elements : goal.invariant-elements
invariant-elements l = Elements l.reader.several l.reader.listed l.levels l.initial.tokens l.initial.shapes l.shapes l.tokens l.numbers.items

abbrev pub decreases-elements : goal.decreases-elements
decreases-elements l = length l.tokens
