use Rattle.asl_draft_laws.proofs.SettledClosed.{settled-closed}
use Rattle.asl_draft_laws.proofs.settled_drafts_are_closed.Goals as goal

pub returns : goal.returns
returns c = record { closed = λ machine declared rounds draft w settles. settled-closed machine declared settles.before draft w settles.comes settles.stays }
