use Rattle.std.proofs.Common.{drop}
use Rattle.asl_intrinsic.proofs.Literals.{brace_shown, plain_shown}
use Rattle.asl_intrinsic.proofs.literal.next_in.Goals as goal

pub returns-then-not-is_empty-clause-cut : goal.returns-then-not-is_empty-clause-cut
returns-then-not-is_empty-clause-cut c = rw (c.cut.ensures.part, c.cut.ensures.rest) (plain_shown c.args.text.now)

pub returns-then-starts_with-clause-cut : goal.returns-then-starts_with-clause-cut
returns-then-starts_with-clause-cut c =
    let prefix = c.if-starts_with.ensures.cases in
    brace_shown c.args.text.now c.split_at.result.0.now c.split_at.result.1.now (drop prefix.0 c.args.text.now) prefix.1.1 c.in_default-strip_prefix.ensures.cases c.split_at.ensures.front c.split_at.ensures.back
