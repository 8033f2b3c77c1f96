use Rattle.std.proofs.Common.{◌≡◌, ◌∷◌, ◌++◌, drop}
use Rattle.json.specs.Token.{begin_array, begin_object}
use Rattle.asl_tree.specs.Written.{elements_tokens, entries_tokens, AllReadBack, ValuesReadBack}
use Rattle.asl_tree.proofs.writing.+write.Given as goal

-- what is written, and then the tokens of what is left, are all of them
abbrev pub invariant-write_elements-loop-element : goal.invariant-write_elements-loop-element
invariant-write_elements-loop-element l =
    (l.writer.before ≡ l.fn.writer.before)
    × (l.writer.tokens ++ elements_tokens (drop l.element-index l.element-items) ≡ l.fn.writer.tokens ++ begin_array ∷ elements_tokens l.element-items)
    × (AllReadBack (drop l.element-index l.element-items) → AllReadBack l.element-items)

abbrev pub invariant-write_fields-loop-key : goal.invariant-write_fields-loop-key
invariant-write_fields-loop-key l =
    (l.writer.before ≡ l.fn.writer.before)
    × (l.writer.tokens ++ entries_tokens l.key-iterator ≡ l.fn.writer.tokens ++ begin_object ∷ entries_tokens l.fields.entries)
    × (ValuesReadBack l.key-iterator → ValuesReadBack l.fields.entries)
