use Rattle.std.proofs.Common.{sym, ◌∙◌}
use Rattle.asl_choice.proofs.Walks.{text_over, bytes_differ, byte_walked, at_end, rest_over}
use Rattle.asl_choice.proofs.matching.walk.Goals as goal

pub returns-in_default : goal.returns-in_default
returns-in_default c =
    text_over c.args.pattern.now c.args.text.now c.loop-place.rest.now c.loop-place.place c.in-Byte.byte c.loop-place.invariant c.loop-place-test.true c.in-Byte.is c.in_default.ensures.cases

pub returns-then-first-byte : goal.returns-then-first-byte
returns-then-first-byte c =
    bytes_differ c.args.pattern.now c.args.text.now c.loop-place.rest.now c.in-Some.further.now c.loop-place.place c.in-Byte.byte c.in-Some.first.now c.loop-place.invariant c.loop-place-test.true c.in-Byte.is c.in-Some.ensures.cases.0 c.if-first-byte.true

pub loop-place-preserved : goal.loop-place-preserved
loop-place-preserved c =
    byte_walked c.args.pattern.now c.args.text.now c.loop-place.rest.now c.in-Some.further.now c.loop-place.place c.in-Byte.byte c.in-Some.first.now c.loop-place.invariant c.loop-place-test.true c.in-Byte.is c.in-Some.ensures.cases.0 c.if-first-byte.false

pub returns-then-is_empty : goal.returns-then-is_empty
returns-then-is_empty c =
    let end = at_end c.args.pattern.now c.args.text.now c.loop-place.rest.now c.loop-place.place c.loop-place.invariant c.loop-place-test.false in
    end ∙ rest_over c.loop-place.rest.now ∙ sym c.if-is_empty.ensures

pub returns-else-is_empty : goal.returns-else-is_empty
returns-else-is_empty c =
    let end = at_end c.args.pattern.now c.args.text.now c.loop-place.rest.now c.loop-place.place c.loop-place.invariant c.loop-place-test.false in
    end ∙ rest_over c.loop-place.rest.now ∙ sym c.if-is_empty.ensures
