use Rattle.std.proofs.Common.{◌+◌, ◌∙◌, Err, ap, refl, string_bytes, arith, rules}
use Rattle.asl_intrinsic.proofs.Filling.{hole_is_missing, piece_filled, piece_unfilled, rest_is_filled, text_answered, text_refused, value_is_missing}
use Rattle.asl_intrinsic.specs.declared.EvalRefusal.TheVariants.{IntrinsicFailure}
use Rattle.asl_intrinsic.proofs.functions.fill_text.Goals as goal

pub returns-in_default : goal.returns-in_default
returns-in_default c =
    let l = c.loop-value in
    text_refused _ _ IntrinsicFailure refl λ failure.
    hole_is_missing _ (string_bytes l.filled) l.rest.now c.args.values.now l.value-index c.value-item.result l.invariant.1 c.in_default.ensures.cases c.loop-value-test.true

pub returns-in_err-push_word : goal.returns-in_err-push_word
returns-in_err-push_word c =
    let l = c.loop-value in
    text_refused _ _ c.in_err-push_word.field-0.0 (search rules) λ failure.
    piece_unfilled _ (string_bytes l.filled) l.rest.now c.in-Some.piece.now c.in-Some.behind.now c.args.values.now l.value-index c.value-item.result l.invariant.1 c.in-Some.ensures.cases c.loop-value-test.true c.value-item.is (c.push_word.ensures.fails (c.in_err-push_word.was ∙ ap Err failure))

pub loop-value-preserved : goal.loop-value-preserved
loop-value-preserved c =
    let l = c.loop-value in (
      search rules,
      piece_filled _ (string_bytes l.filled) (string_bytes c.push_str.new.self) (string_bytes c.push_word.new.text) l.rest.now c.in-Some.piece.now c.in-Some.behind.now c.args.values.now l.value-index (l.value-index + 1) c.value-item.result l.invariant.1 c.in-Some.ensures.cases c.loop-value-test.true (omega arith) c.value-item.is (search rules) c.in_ok-push_word.ensures.word,
    )

pub returns-then-contains : goal.returns-then-contains
returns-then-contains c =
    let l = c.loop-value in
    text_refused _ _ IntrinsicFailure refl λ failure.
    value_is_missing _ (string_bytes l.filled) l.rest.now c.args.values.now l.value-index l.invariant.1 c.if-contains.ensures.cases c.loop-value-test.false

pub returns : goal.returns
returns c =
    let l = c.loop-value in
    text_answered _ c.push_str-2.new.self (rest_is_filled _ (string_bytes l.filled) l.rest.now (string_bytes c.push_str-2.new.self) c.args.values.now l.value-index l.invariant.1 c.if-contains.ensures.cases c.loop-value-test.false (search rules))
