use Rattle.asl_warnings.proofs.Told.{keeps-both, keeps-same}
use Rattle.asl_warnings.proofs.noting.note_retriers.Goals as goal

pub loop-index-init : goal.loop-index-init
loop-index-init c = keeps-same c.args.notices.now.items

pub loop-index-preserved : goal.loop-index-preserved
loop-index-preserved c =
    keeps-both c.args.notices.now.items c.loop-index.notices.items c.note.new.notices.items c.loop-index.invariant c.in_ok-note.ensures
