use Rattle.std.proofs.Common.{string_bytes, arith, rules}
use Rattle.asl_model.specs.CallSpelling.{cut_pieces}
use Rattle.asl_intrinsic.proofs.Literals.{ended_by_hole, in_front-none, more_shown}
use Rattle.asl_intrinsic.proofs.literal.cut_piece.Goals as goal

pub loop-shown-init : goal.loop-shown-init
loop-shown-init c = (c.utf8.text, rw c.new-piece.ensures.bytes (in_front-none (cut_pieces c.args.text.now)), omega arith)

pub loop-shown-preserved : goal.loop-shown-preserved
loop-shown-preserved c =
    let l = c.loop-shown in (
      search rules,
      more_shown c.args.text.now (string_bytes l.piece) (string_bytes c.push_str.new.self) c.in-Shown.shown.now l.rest.now c.in-Shown.behind.now l.invariant.1 c.in-Shown.ensures.cut (search rules),
      omega (arith, l.invariant.2, c.in-Shown.ensures.shorter),
    )

pub returns-in-Hole-clause-piece : goal.returns-in-Hole-clause-piece
returns-in-Hole-clause-piece c =
    let l = c.loop-shown in
    record { gives = ended_by_hole c.args.text.now (string_bytes l.piece) l.rest.now c.in-Hole.behind.now l.invariant.1 c.in-Hole.ensures.cut; fails = λ e. absurd (cc) }
