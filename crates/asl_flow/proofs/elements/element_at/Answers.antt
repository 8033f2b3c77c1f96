use Rattle.asl_numbered.specs.Laws.{its_number, keeps_trans, kept_shape, kept_within}
use Rattle.asl_flow.proofs.ElementNumbers.{all_joined, one_joined}
use Rattle.asl_shape_paths.proofs.NumberedParts.{below_at}
use Rattle.asl_flow.proofs.elements.element_at.Goals as goal

pub put_join-requires-clause-second : goal.put_join-requires-clause-second
put_join-requires-clause-second c =
    let whole = c.deref-place-items.ensures.value in
    rw whole (kept_within c.args.shapes.now c.loop-place.shapes _ c.loop-place.invariant.0
    (below_at _ c.args.elements.now.first.items c.loop-place.place-index 0 (rw whole at c.loop-place-test.true)
    c.requires.elements.first))

pub loop-place-preserved : goal.loop-place-preserved
loop-place-preserved c =
    let l = c.loop-place in
    let a = c.args.shapes.now in
    let whole = c.deref-place-items.ensures.value in
    let within = rw whole at c.loop-place-test.true in
    let below = below_at _ c.args.elements.now.first.items l.place-index 0 within c.requires.elements.first in (
      keeps_trans _ _ _ l.invariant.0 c.in_ok-element-2.ensures.keeps,
      c.in_ok-element-2.ensures.shown.within,
      one_joined _ a l.shapes c.put_join.new.shapes
          c.args.elements.now.first.items l.place-index 0 l.element c.in_ok-element-2.element within
          (kept_shape a l.shapes _ l.invariant.0 below) (rw whole at c.in_ok-element-2.ensures.shown.same)
          l.invariant.2,
    )

pub put_join-requires-2-clause-second : goal.put_join-requires-2-clause-second
put_join-requires-2-clause-second c = kept_within c.args.shapes.now c.loop-place.shapes c.args.elements.now.rest
    c.loop-place.invariant.0 c.requires.elements.rest

pub returns-clause-number : goal.returns-clause-number
returns-clause-number c =
    let l = c.loop-place in
    let a = c.args.shapes.now in
    let rest = c.args.elements.now.rest in
    let shows = c.in_ok-number.ensures.shown in
    let end = rw c.deref-place-items.ensures.value at c.loop-place-test.false in
    let same = all_joined a l.shapes c.put_join-2.new.shapes
    c.args.elements.now.first.items l.place-index l.element rest c.in_ok-number.number end l.invariant.2
    (kept_shape a l.shapes rest l.invariant.0 c.requires.elements.rest) shows.same in
    its_number c.put_join-2.new.shapes _ c.in_ok-number.number c.are_distinct.ensures.distinct shows.within same
