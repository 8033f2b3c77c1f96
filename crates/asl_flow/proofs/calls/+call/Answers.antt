use Rattle.std.proofs.Common.{◌≡◌, ◌+◌, [], ◌∷◌, ◌++◌, Some, None, option_map, take, ap, ◌∙◌, arith}
use Rattle.std.proofs.lemmas.Grind.{common_steps}
use Rattle.asl_intrinsic.specs.View.{argument_view}
use Rattle.asl_model.specs.Intrinsic.{InInput, ItemIndex, InItem}
use Rattle.asl_model.specs.ShapeFlow.{argument_shape, reference_shape}
use Rattle.asl_numbered.specs.Expansion.{shape_at}
use Rattle.asl_numbered.specs.Laws.{keeps_trans}
use Rattle.asl_flow.specs.Sources.{input_of, item_of}
use Rattle.asl_flow.proofs.ArgumentShapes.{argument_more, arguments_end, arguments_fail, path_argument, index_argument, item_argument}
use Rattle.asl_flow.proofs.PutDoubts.{part_answers}
use Rattle.asl_flow.proofs.SourcesKept.{sources_kept, as_before}
use Rattle.asl_flow.proofs.calls.+call.Goals as goal

pub argument_shapes-loop-argument-preserved : goal.argument_shapes-loop-argument-preserved
argument_shapes-loop-argument-preserved t c =
    let l = c.loop-argument in
    let i = l.argument-index in
    let arguments = c.args.arguments.now in
    let argument = c.argument-item.result in
    let grown = c.argument_shape.new.shapes in
    let one = c.in_ok-number.ensures in
    let number = c.in-Some.number in
    let more : take (i + 1) arguments ≡ take i arguments ++ argument ∷ [] = grind (arith, common_steps) in
    let there = rw c.in-Some.is at one.answers in
    let own = as_before c.args.shapes.now l.shapes l.invariant.keeps c.args.sources c.requires.within (λ input item. argument_shape (argument_view argument) input item ≡ Some (shape_at grown number)) there.same in
    record {
      keeps = keeps_trans _ _ _ l.invariant.keeps one.keeps;
      within = sources_kept l.shapes grown one.keeps c.args.sources l.invariant.within;
      shown = argument_more (input_of c.args.shapes.now c.args.sources) (item_of c.args.shapes.now c.args.sources) l.shapes grown (take i arguments) (take (i + 1) arguments) argument l.numbers.items c.push.new.self.items number one.keeps l.invariant.shown own there.within more c.in_ok-push.ensures.items;
    }

pub argument_shapes-returns-in_default-clause-answers : goal.argument_shapes-returns-in_default-clause-answers
argument_shapes-returns-in_default-clause-answers t c =
    let l = c.loop-argument in
    let argument = c.argument-item.result in
    let one = c.in_ok-number.ensures in
    let none = as_before c.args.shapes.now l.shapes l.invariant.keeps c.args.sources c.requires.within (λ input item. argument_shape (argument_view argument) input item ≡ None) (one.answers.same ∙ ap (option_map (shape_at c.argument_shape.new.shapes)) c.in_default.is) in
    arguments_fail (input_of c.args.shapes.now c.args.sources) (item_of c.args.shapes.now c.args.sources) c.argument_shape.new.shapes c.args.arguments.now l.argument-index argument c.loop-argument-test.true c.argument-item.is none

pub argument_shapes-returns-in_err-push-clause-keeps : goal.argument_shapes-returns-in_err-push-clause-keeps
argument_shapes-returns-in_err-push-clause-keeps t c = keeps_trans _ _ _ c.loop-argument.invariant.keeps c.in_ok-number.ensures.keeps

pub argument_shapes-returns-clause-answers : goal.argument_shapes-returns-clause-answers
argument_shapes-returns-clause-answers t c =
    arguments_end (input_of c.args.shapes.now c.args.sources) (item_of c.args.shapes.now c.args.sources) c.loop-argument.shapes c.args.arguments.now c.loop-argument.argument-index _ c.loop-argument-test.false c.loop-argument.invariant.shown

pub argument_shape-returns-in_ok-in_input-in-Path-clause-answers :
    goal.argument_shape-returns-in_ok-in_input-in-Path-clause-answers
argument_shape-returns-in_ok-in_input-in-Path-clause-answers t c =
    let table = c.args.shapes.now in
    part_answers c.in_input.new.shapes (reference_shape (InInput c.in-Path.path) (input_of table c.args.sources) (item_of table c.args.sources)) c.in_ok-in_input-in-Path.field-0 c.ok.result _ (path_argument (input_of table c.args.sources) (item_of table c.args.sources) c.args.argument.now c.in-Path.path c.in-Path.is) c.in_ok-in_input-in-Path.ensures.part c.ok.ensures.value

pub argument_shape-returns-in_ok-item_index-in-ItemIndex-clause-answers :
    goal.argument_shape-returns-in_ok-item_index-in-ItemIndex-clause-answers
argument_shape-returns-in_ok-item_index-in-ItemIndex-clause-answers t c =
    let table = c.args.shapes.now in
    part_answers c.item_index.new.shapes (reference_shape ItemIndex (input_of table c.args.sources) (item_of table c.args.sources)) c.in_ok-item_index-in-ItemIndex.field-0 c.ok-in-ItemIndex.result _ (index_argument (input_of table c.args.sources) (item_of table c.args.sources) c.args.argument.now c.in-ItemIndex.is) c.in_ok-item_index-in-ItemIndex.ensures.part c.ok-in-ItemIndex.ensures.value

pub argument_shape-returns-in_ok-in_item-in-ItemValue-clause-answers :
    goal.argument_shape-returns-in_ok-in_item-in-ItemValue-clause-answers
argument_shape-returns-in_ok-in_item-in-ItemValue-clause-answers t c =
    let table = c.args.shapes.now in
    part_answers c.in_item.new.shapes (reference_shape (InItem c.in-ItemValue.path) (input_of table c.args.sources) (item_of table c.args.sources)) c.in_ok-in_item-in-ItemValue.field-0 c.ok-in-ItemValue.result _ (item_argument (input_of table c.args.sources) (item_of table c.args.sources) c.args.argument.now c.in-ItemValue.path c.in-ItemValue.is) c.in_ok-in_item-in-ItemValue.ensures.part c.ok-in-ItemValue.ensures.value
