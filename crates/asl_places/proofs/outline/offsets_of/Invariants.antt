use Rattle.std.proofs.Common.{◌≡◌, ◌+◌, length}
use Rattle.json.specs.Lex.{tokens}
use Rattle.asl_places.proofs.outline.offsets_of.Given as goal

abbrev pub invariant-loop-offsets : goal.invariant-loop-offsets
invariant-loop-offsets l = length l.offsets.items + length l.reader ≡ length (tokens l.text)

abbrev pub decreases-loop-offsets : goal.decreases-loop-offsets
decreases-loop-offsets l = length l.reader
