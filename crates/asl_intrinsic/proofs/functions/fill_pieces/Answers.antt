use Rattle.std.proofs.Common.{◌≡◌, ◌+◌, ◌∙◌, Err, ap, length, string_bytes, arith, rules}
use Rattle.asl_intrinsic.proofs.Answers.{as_many_as_holes}
use Rattle.asl_intrinsic.proofs.Filling.{hole_filled, hole_unfilled, holes_are_filled, text_answered, text_refused}
use Rattle.asl_intrinsic.proofs.functions.fill_pieces.Goals as goal

pub returns-then-values-len : goal.returns-then-values-len
returns-then-values-len c =
    as_many_as_holes (string_bytes c.args.pieces.now.first) c.args.pieces.now.after_holes.items c.args.values.now (λ e. absurd (grind (arith, c.args.pieces.now.after_holes.ok.0, c.if-values-len.true)))

pub returns-in_err-push_word : goal.returns-in_err-push_word
returns-in_err-push_word c =
    let l = c.loop-hole in
    let pieces = c.args.pieces.now.after_holes.items in
    let same : length c.args.values.now ≡ length pieces = grind (arith, c.args.pieces.now.after_holes.ok.0, c.if-values-len.false) in
    text_refused _ _ c.in_err-push_word.field-0.0 (search rules) λ failure.
    hole_unfilled _ (string_bytes l.text) pieces c.args.values.now l.hole c.index-values-hole.result l.invariant c.loop-hole-test.true same c.index-values-hole.is (c.push_word.ensures.fails (c.in_err-push_word.was ∙ ap Err failure))

pub loop-hole-preserved : goal.loop-hole-preserved
loop-hole-preserved c =
    let l = c.loop-hole in
    let pieces = c.args.pieces.now.after_holes.items in
    let same : length c.args.values.now ≡ length pieces = grind (arith, c.args.pieces.now.after_holes.ok.0, c.if-values-len.false) in
    hole_filled _ (string_bytes l.text) (string_bytes c.push_word.new.text) (string_bytes c.push_str.new.self) pieces c.args.values.now l.hole (l.hole + 1) c.index.result.now c.index-values-hole.result l.invariant c.loop-hole-test.true same (omega arith) c.index-values-hole.is c.index.ensures c.in_ok-push_word.ensures.word (search rules)

pub returns : goal.returns
returns c =
    let l = c.loop-hole in
    let pieces = c.args.pieces.now.after_holes.items in
    let same : length c.args.values.now ≡ length pieces = grind (arith, c.args.pieces.now.after_holes.ok.0, c.if-values-len.false) in
    text_answered _ l.text (holes_are_filled _ (string_bytes l.text) pieces c.args.values.now l.hole l.invariant c.loop-hole-test.false same)
