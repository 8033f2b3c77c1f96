use Rattle.std.proofs.Common.{◌≡◌, ◌∷◌, ◌++◌, drop, length}
use Rattle.json.specs.Token.{begin_array}
use Rattle.asl_numbered.specs.Expansion.{AreBelow}
use Rattle.asl_records.specs.WritingNumbered.{spelled_over}
use Rattle.asl_texts.specs.CertificateTokens.{list_tokens, listed_numbers, NumbersReadBack}
use Rattle.asl_texts.proofs.certificate_text.write_listed.Given as goal

-- what is written, and then the tokens of what is left, are all of them
abbrev pub invariant-loop-number : goal.invariant-loop-number
invariant-loop-number l =
    let shapes = l.fn.shapes in
    let numbers = listed_numbers shapes in
    record {
      before : l.writer.before ≡ l.fn.writer.before;
      tokens : l.writer.tokens ++ list_tokens (spelled_over shapes) shapes (drop l.number-index numbers) ≡ l.fn.writer.tokens ++ begin_array ∷ list_tokens (spelled_over shapes) shapes numbers;
      back : NumbersReadBack (spelled_over shapes) shapes (drop l.number-index numbers) → NumbersReadBack (spelled_over shapes) shapes numbers;
      below : AreBelow (length shapes.shapes.now) (drop l.number-index numbers);
    }
