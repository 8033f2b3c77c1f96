use Rattle.asl_records.specs.View.{entry_view}
use Rattle.asl_records.proofs.Numberings.{state_numbered}
use Rattle.asl_records.proofs.numbering.number_state.Goals as goal

pub returns-clause-numbered : goal.returns-clause-numbered
returns-clause-numbered c =
    let branches = c.in_ok-number_branches in
    let item = c.in_ok-number_item in
    state_numbered c.add.new.self c.add-2.new.self c.number_branches.new.shapes c.number_item.new.shapes (entry_view c.args.state.now) (record { input = c.in_ok-add.field-0; output = c.in_ok-add-2.field-0; branches = branches.field-0; item = item.field-0 }) c.in_ok-add.ensures.number c.in_ok-add-2.ensures.keeps c.in_ok-add-2.ensures.number branches.ensures.keeps (rw c.deref.ensures.value at branches.ensures.numbered) item.ensures.keeps item.ensures.numbered
