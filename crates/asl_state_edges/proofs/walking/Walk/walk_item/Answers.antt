use Rattle.std.proofs.Common.{codes}
use Rattle.std.proofs.lemmas.Result.{on_ok_weaker}
use Rattle.asl_flow.specs.Doubts.{flow_view}
use Rattle.asl_flow.specs.Elements.{elements_view}
use Rattle.asl_model.specs.Edges.{to_child}
use Rattle.asl_numbered.specs.Laws.{kept_within}
use Rattle.asl_state_edges.specs.Items.{processor_of}
use Rattle.asl_state_edges.proofs.Flows.{flow_doubted, flow_pushed}
use Rattle.asl_state_edges.proofs.ItemWalks.{item_made}
use Rattle.asl_state_edges.proofs.walking.Walk.walk_item.Goals as goal

pub item_input_at-requires-clause-effective : goal.item_input_at-requires-clause-effective
item_input_at-requires-clause-effective c = kept_within _ _ _ c.in_ok-element.ensures.keeps c.requires.effective

pub item_input_at-requires-clause-element : goal.item_input_at-requires-clause-element
item_input_at-requires-clause-element c = c.in_ok-element.ensures.number.within

pub returns-in-Ok-clause-adds : goal.returns-in-Ok-clause-adds
returns-in-Ok-clause-adds c =
    let a = c.args.shapes.now in
    let flow = c.in_ok-input in
    let same = item_made a c.element_at.new.shapes c.args.children (elements_view a c.args.elements.now) c.in_ok-element.element (flow_view c.item_input_at.new.shapes flow.field-0) c.in_ok-element.ensures.keeps c.requires.effective c.in_ok-element.ensures.number flow.ensures.as_defined in
    on_ok_weaker _ (flow_pushed _ _ flow.field-0 same flow.ensures.within _ _ (to_child (codes "ItemProcessor") (processor_of c.args.children)) _ c.in-Ok.is) c.push_child.ensures

pub returns-in-Err-clause-adds : goal.returns-in-Err-clause-adds
returns-in-Err-clause-adds c =
    let a = c.args.shapes.now in
    let flow = c.in_ok-input in
    let same = item_made a c.element_at.new.shapes c.args.children (elements_view a c.args.elements.now) c.in_ok-element.element (flow_view c.item_input_at.new.shapes flow.field-0) c.in_ok-element.ensures.keeps c.requires.effective c.in_ok-element.ensures.number flow.ensures.as_defined in
    on_ok_weaker _ (flow_doubted _ _ flow.field-0 same flow.ensures.within _ _ (to_child (codes "ItemProcessor") (processor_of c.args.children)) c.in-Err.doubts c.in-Err.is) (rw c.deref.ensures.value at c.push_doubts.ensures)
