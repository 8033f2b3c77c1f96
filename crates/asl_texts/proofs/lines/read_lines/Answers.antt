use Rattle.std.proofs.Common.{List, ℕ, subst}
use Rattle.asl_texts.specs.Chunk.{pending}
use Rattle.asl_texts.specs.Fronts.{TakesFrontLine}
use Rattle.asl_texts.proofs.Fronts.{three_taken}
use Rattle.asl_texts.proofs.lines.read_lines.Goals as goal

pub returns-clause-endless : goal.returns-clause-endless
returns-clause-endless g c =
    let begins = g.S.Source.begins in
    let first = c.next_line.new in
    let second = c.next_line-2.new in
    let third = c.next_line-3.new in
    let P : List ℕ → Type 0 = λ p. TakesFrontLine (begins c.args.source.now) (begins first.source) p (pending first.chunk) in
    three_taken (begins c.args.source.now) (begins first.source) (begins second.source) (begins third.source)
    (pending first.chunk) (pending second.chunk) (pending third.chunk)
    (subst P c.new-chunk.ensures c.in_ok-definition.ensures.fronts) c.in_ok-declared.ensures.fronts c.in_ok-certificate.ensures.fronts
