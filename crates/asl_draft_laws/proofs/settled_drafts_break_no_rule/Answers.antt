use Rattle.asl_draft_laws.proofs.SettledRules.{settled-breaks-none}
use Rattle.asl_draft_laws.proofs.settled_drafts_break_no_rule.Goals as goal

pub returns : goal.returns
returns c = record { none = λ machine declared rounds draft w settles known sure. settled-breaks-none machine declared settles.before draft w settles.comes settles.stays known sure }
