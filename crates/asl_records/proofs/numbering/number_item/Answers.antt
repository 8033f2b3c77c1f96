use Rattle.asl_shape.specs.View.{view}
use Rattle.asl_records.proofs.Numberings.{item_numbered}
use Rattle.asl_records.proofs.numbering.number_item.Goals as goal

pub returns-in_ok-add-in-Some-clause-numbered : goal.returns-in_ok-add-in-Some-clause-numbered
returns-in_ok-add-in-Some-clause-numbered c =
    let n = c.in_ok-add-in-Some.field-0 in
    rw c.in-Some.is (item_numbered c.add.new.self (view c.in-Some.item) n c.in_ok-add-in-Some.ensures.number)
