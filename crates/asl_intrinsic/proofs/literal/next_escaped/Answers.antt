use Rattle.std.proofs.Common.{◌∙◌, sym}
use Rattle.asl_intrinsic.proofs.Literals.{behind_escaped, escaped_shown, first_of}
use Rattle.asl_intrinsic.proofs.literal.next_escaped.Goals as goal

pub split_at-requires : goal.split_at-requires
split_at-requires c = behind_escaped c.args.text.now c.as_bytes.result.now c.utf8.text c.as_bytes.ensures.value c.in-len1-up.len_at_least (sym c.may_be_escaped.ensures ∙ c.if-may_be_escaped.true)

pub returns-in-len1-up-clause-cut : goal.returns-in-len1-up-clause-cut
returns-in-len1-up-clause-cut c =
    let first = first_of c.as_bytes.result.now c.in-len1-up.len_at_least in
    escaped_shown c.args.text.now c.split_at.result.0.now c.split_at.result.1.now _ first.0 (sym c.as_bytes.ensures.value ∙ first.1) (sym c.may_be_escaped.ensures ∙ c.if-may_be_escaped.true) c.split_at.ensures.front c.split_at.ensures.back
