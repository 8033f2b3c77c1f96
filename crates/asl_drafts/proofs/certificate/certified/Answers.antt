use Rattle.asl_states.specs.Machine.{kind_view}
use Rattle.asl_drafts.specs.Drafted.{draft_view, entry_at}
use Rattle.asl_drafts.proofs.Certified.{all-certified}
use Rattle.asl_drafts.proofs.DraftViews.{state-below, state-shown}
use Rattle.asl_drafts.proofs.certificate.certified.Goals as goal

pub returns : goal.returns
returns c =
    let draft = c.args.draft.now in
    let shown = state-shown draft c.args.never c.requires c.in_ok-numbers.numbers c.args.number c.in_ok-numbers.ensures in
    let below = state-below draft c.args.never c.requires c.in_ok-numbers.numbers c.args.number c.in_ok-numbers.ensures in
    all-certified c.numbers_of_entry.result draft c.args.number (kind_view c.args.kind.now) c.entry_in-entry.result (c.entry_in-entry.ensures.shown draft.store (entry_at (draft_view draft) c.args.number) shown) (c.entry_in-entry.ensures.below _ below) c.numbers_of_entry.ensures
