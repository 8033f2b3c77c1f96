use Rattle.std.proofs.Common.{◌∷◌, ◌∙◌, [], ap, map, string_bytes, rules}
use Rattle.std.proofs.lemmas.List.{map-append}
use Rattle.asl_intrinsic.proofs.Literals.{one_piece_more}
use Rattle.asl_intrinsic.proofs.literal.cut_text.Goals as goal

pub loop-end-preserved : goal.loop-end-preserved
loop-end-preserved c =
    let l = c.loop-end in
    let so_far = rw c.in-Hole.is at l.invariant.1 in
    let pushed = ap (map string_bytes) c.in_ok-push.ensures.items ∙ map-append string_bytes l.after_holes.items (c.in_ok-piece.piece ∷ []) in (
      search rules,
      one_piece_more c.args.text.now (string_bytes c.in_ok-first.first) (map string_bytes l.after_holes.items) (map string_bytes c.push.new.self.items) (string_bytes c.in_ok-piece.piece) l.rest.now c.in_ok-piece.behind.now c.in_ok-piece.next_end so_far c.in_ok-piece.ensures.piece.gives pushed,
    )
