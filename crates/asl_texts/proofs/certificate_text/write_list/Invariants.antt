use Rattle.std.proofs.Common.{◌≡◌, ◌∷◌, ◌++◌, drop, length}
use Rattle.json.specs.Token.{begin_array}
use Rattle.asl_numbered.specs.Expansion.{AreBelow}
use Rattle.asl_texts.specs.CertificateTokens.{list_tokens, stands_for, NumbersReadBack, StaysKept}
use Rattle.asl_texts.proofs.certificate_text.write_list.Given as goal

-- what is written, and then the tokens of what is left, are all of them
abbrev pub invariant-loop-number : goal.invariant-loop-number
invariant-loop-number l =
    let shapes = l.fn.spellings.shapes in
    record {
      before : l.writer.before ≡ l.fn.writer.before;
      tokens : l.writer.tokens ++ list_tokens (stands_for shapes) shapes (drop l.number-index l.numbers) ≡ l.fn.writer.tokens ++ begin_array ∷ list_tokens (stands_for shapes) shapes l.numbers;
      kept : StaysKept l.fn.spellings l.spellings;
      back : NumbersReadBack (stands_for shapes) shapes (drop l.number-index l.numbers) → NumbersReadBack (stands_for shapes) shapes l.numbers;
      below : AreBelow (length l.fn.spellings.shapes.shapes.now) (drop l.number-index l.numbers);
    }
