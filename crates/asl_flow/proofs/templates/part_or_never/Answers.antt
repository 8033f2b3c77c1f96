use Rattle.asl_shape_paths.proofs.Shown.{shows_equal}
use Rattle.asl_flow.proofs.PutDoubts.{part_shown, part_undoubted, never_for, part_doubted, on_ok}
use Rattle.asl_flow.proofs.templates.part_or_never.Goals as goal

pub returns-in-Ok-clause-filled : goal.returns-in-Ok-clause-filled
returns-in-Ok-clause-filled c = λ whole is. part_shown c.args.shapes.now whole c.in-Ok.number (rw c.in-Ok.is at is)

pub returns-in-Ok-clause-doubted : goal.returns-in-Ok-clause-doubted
returns-in-Ok-clause-doubted c = λ whole is.
    part_undoubted c.args.shapes.now whole c.args.place.field.now c.args.place.name.now c.in-Ok.number c.args.doubts.now.items (rw c.in-Ok.is at is)

pub returns-in_ok-push-in-Err-clause-filled : goal.returns-in_ok-push-in-Err-clause-filled
returns-in_ok-push-in-Err-clause-filled c = λ whole is.
    shows_equal c.put_never.new.shapes _ _ c.put_never.result (never_for c.args.shapes.now whole c.in-Err.cause (rw c.in-Err.is at is)) c.put_never.ensures.shown

pub returns-in_ok-push-in-Err-clause-doubted : goal.returns-in_ok-push-in-Err-clause-doubted
returns-in_ok-push-in-Err-clause-doubted c = λ whole is.
    on_ok c.put_never.result (part_doubted c.args.shapes.now whole c.put_never.new.shapes c.put_never.ensures.keeps _ c.args.doubts.now.items _ (rw c.in-Err.is at is) c.in_ok-push-in-Err.ensures.items)
