use Rattle.std.proofs.Common.{◌≡◌, ◌∷◌, ◌++◌, length}
use Rattle.json.specs.Token.{begin_object}
use Rattle.asl_records.specs.Numbered.{AreEntriesBelow}
use Rattle.asl_texts.specs.CertificateTokens.{states_tokens, StatesReadBack, StaysKept}
use Rattle.asl_texts.proofs.certificate_text.write_states.Given as goal

-- what is written, and then the tokens of what is left, are all of them
abbrev pub invariant-loop-name : goal.invariant-loop-name
invariant-loop-name l =
    let shapes = l.fn.spellings.shapes in
    record {
      before : l.writer.before ≡ l.fn.writer.before;
      tokens : l.writer.tokens ++ states_tokens shapes l.name-iterator ≡ l.fn.writer.tokens ++ begin_object ∷ states_tokens shapes l.states.entries;
      kept : StaysKept l.fn.spellings l.spellings;
      back : StatesReadBack shapes l.name-iterator → StatesReadBack shapes l.states.entries;
      below : AreEntriesBelow (length shapes.shapes.now) l.name-iterator;
    }
