use Rattle.std.proofs.Common.{option_map}
use Rattle.asl_model.specs.ShapeFlow.{template_shape}
use Rattle.asl_numbered.specs.Expansion.{shape_at}
use Rattle.asl_numbered.specs.Laws.{own_number}
use Rattle.asl_template.specs.View.{view}
use Rattle.asl_flow.proofs.DoubtfulTemplates.{template_refused}
use Rattle.asl_flow.proofs.Refusals.{template_cause, template_told}
use Rattle.asl_flow.proofs.templates.template_shape_at.Goals as goal

pub refusal_of-requires : goal.refusal_of-requires
refusal_of-requires c =
    let table = c.args.shapes.now in
    let input = shape_at table c.args.input in
    let item = option_map (shape_at table) c.args.item in
    let filled = rw c.in-Err.is at c.in_ok-filled.ensures.filled in
    let within = rw c.in-Err.is at c.in_ok-filled.ensures.within in
    record { cause = template_cause c.fill_at.new.shapes _ (template_shape (view c.args.template.now) input item) c.in-Err.doubts c.index.result.now filled within c.index.ensures (template_refused input item (view c.args.template.now)) }

pub returns-in-Ok-clause-number : goal.returns-in-Ok-clause-number
returns-in-Ok-clause-number c =
    let within = rw c.in-Ok.is at c.in_ok-filled.ensures.within in
    own_number c.fill_at.new.shapes c.in-Ok.number c.are_distinct.ensures.distinct within.within

pub returns-in_ok-refusal_of-in-Err-clause-refused :
    goal.returns-in_ok-refusal_of-in-Err-clause-refused
returns-in_ok-refusal_of-in-Err-clause-refused c =
    let table = c.args.shapes.now in
    let input = shape_at table c.args.input in
    let item = option_map (shape_at table) c.args.item in
    let filled = rw c.in-Err.is at c.in_ok-filled.ensures.filled in
    let within = rw c.in-Err.is at c.in_ok-filled.ensures.within in
    template_told c.fill_at.new.shapes _ (template_shape (view c.args.template.now) input item) c.in-Err.doubts c.index.result.now filled within c.index.ensures c.in_ok-refusal_of-in-Err.field-0 c.in_ok-refusal_of-in-Err.ensures.told
