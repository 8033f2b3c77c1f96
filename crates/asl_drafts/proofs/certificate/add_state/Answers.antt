use Rattle.asl_states.specs.Machine.{state_view}
use Rattle.asl_machine_table.specs.Table.{table_view}
use Rattle.asl_drafts.proofs.Certified.{certified-more, certified-nameless}
use Rattle.asl_drafts.proofs.EntryViews.{state_found}
use Rattle.asl_drafts.proofs.certificate.add_state.Goals as goal

pub returns-in_ok-insert : goal.returns-in_ok-insert
returns-in_ok-insert c = λ are.
    let table = table_view c.args.machine.now in
    let state = c.unwrap-state.result in
    certified-more table c.args.draft.now c.args.number c.args.states.now.entries c.insert.new.self.entries c.name.result c.in-Some.name (state_view state.now) c.in_ok-name.name c.in_ok-numbers.numbers c.requires.within c.name.ensures.name c.in-Some.is
    (state_found c.state.result state table.states c.args.number c.unwrap-state.ensures c.state.ensures.state) c.in_ok-name.ensures.ok c.in_ok-numbers.ensures c.in_ok-insert.ensures.entries are

pub returns-in_default : goal.returns-in_default
returns-in_default c = λ are.
    certified-nameless (table_view c.args.machine.now) c.args.draft.now c.args.number c.args.states.now.entries c.name.result c.requires.within c.name.ensures.name c.in_default.not-Some are
