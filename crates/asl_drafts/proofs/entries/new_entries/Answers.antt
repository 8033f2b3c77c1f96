use Rattle.asl_model.specs.Machine.{State, kind_of}
use Rattle.asl_draft_laws.specs.Drafts.{children_in}
use Rattle.asl_states.specs.Machine.{state_view}
use Rattle.asl_machine_table.specs.Table.{table_view}
use Rattle.asl_drafts.specs.Entries.{filled_with, growths_in}
use Rattle.asl_drafts.proofs.EntryViews.{entries-next, state_found}
use Rattle.asl_drafts.proofs.entries.new_entries.Goals as goal

pub loop-number-preserved : goal.loop-number-preserved
loop-number-preserved c =
    let l = c.loop-number in
    let all = (table_view c.args.machine.now).states in
    let state = state_view c.unwrap-state.result.now in
    let here = state_found c.state.result c.unwrap-state.result all l.number c.unwrap-state.ensures c.state.ensures.state in
    entries-next growths_in (λ (s : State). filled_with c.args.never (children_in (kind_of s))) all l.number state l.entries.items c.push.new.self.items c.in_ok-new_entry.field-0 l.invariant here c.in_ok-new_entry.ensures c.in_ok-push.ensures.items
