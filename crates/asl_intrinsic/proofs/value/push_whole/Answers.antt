use Rattle.std.proofs.Common.{◌+◌, string_bytes, arith, rules}
use Rattle.asl_intrinsic.proofs.Holes.{first_piece, one_piece_more}
use Rattle.asl_intrinsic.proofs.value.push_whole.Goals as goal

pub loop-piece-init : goal.loop-piece-init
loop-piece-init c =
    first_piece (string_bytes c.args.text.now) (string_bytes c.args.pieces.now.first) c.deref.result.now (string_bytes c.push_str.new.self) c.args.pieces.now.after_holes.items c.deref-piece-items.result.now c.deref-piece-items.ensures.value c.deref.ensures (search rules)

pub loop-piece-preserved : goal.loop-piece-preserved
loop-piece-preserved c =
    let l = c.loop-piece in
    one_piece_more _ (string_bytes l.text) c.deref-piece-items.result.now l.piece-index (l.piece-index + 1) c.piece-item.result (string_bytes c.push_str-in-loop-piece.new.self) (string_bytes c.push_str-in-loop-piece-2.new.self) l.invariant c.loop-piece-test.true (omega arith) c.piece-item.is (search rules) (search rules)
