use Rattle.asl_model.specs.Tree.{Array}
use Rattle.asl_tree.specs.View.{elements_view}
use Rattle.asl_differences.specs.declared.paths.Step.TheVariants.{Index}
use Rattle.asl_differences.proofs.Places.{element_next, left_next, part_there}
use Rattle.asl_differences.proofs.misfits.first_element.Goals as goal

pub returns-then-not-is_some_and-clause-place : goal.returns-then-not-is_some_and-clause-place
returns-then-not-is_some_and-clause-place c =
    let es = c.args.elements.now in
    let l = c.loop-index in
    let found = c.next-found.result in
    part_there (Array (elements_view es)) (Index l.index) found c.part_at.result
    (element_next es l.index l.left c.next-found.new.self found l.invariant c.next-found.ensures.steps) c.part_at.ensures.place

pub loop-index-preserved : goal.loop-index-preserved
loop-index-preserved c =
    let l = c.loop-index in
    left_next c.args.elements.now l.index l.left c.next-found.new.self c.next-found.result l.invariant c.next-found.ensures.steps
