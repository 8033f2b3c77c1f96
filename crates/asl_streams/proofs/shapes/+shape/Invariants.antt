use Rattle.std.proofs.Common.{◌+◌, ◌*◌, length}
use Rattle.asl_streams.proofs.SpelledShapes.{Keywords, Mentions}
use Rattle.asl_streams.proofs.shapes.+shape.Given as goal

abbrev pub decreases-next_shape : goal.decreases-next_shape
decreases-next_shape l = 4 * l.levels

abbrev pub decreases-next_spelling : goal.decreases-next_spelling
decreases-next_spelling l = 4 * l.levels + 3

abbrev pub decreases-next_properties : goal.decreases-next_properties
decreases-next_properties l = 4 * l.levels + 2

abbrev pub decreases-next_mentions : goal.decreases-next_mentions
decreases-next_mentions l = 4 * l.levels + 1

abbrev pub invariant-next_spelling-keywords : goal.invariant-next_spelling-keywords
invariant-next_spelling-keywords l = Keywords l.reader.several l.reader.listed l.levels l.initial.tokens l.initial.shapes l.shapes l.tokens l.spelling

abbrev pub decreases-next_spelling-keywords : goal.decreases-next_spelling-keywords
decreases-next_spelling-keywords l = length l.tokens

abbrev pub invariant-next_mentions-mentions : goal.invariant-next_mentions-mentions
invariant-next_mentions-mentions l = Mentions l.reader.several l.reader.listed l.levels l.initial.tokens l.initial.shapes l.shapes l.tokens l.mentions.entries

abbrev pub decreases-next_mentions-mentions : goal.decreases-next_mentions-mentions
decreases-next_mentions-mentions l = length l.tokens
