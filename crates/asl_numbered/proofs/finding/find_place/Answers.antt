use Rattle.std.proofs.Common.{◌≡◌, ◌≤◌, ◌+◌, ◌∷◌, [], ◌++◌, length, take, drop, get_or, refl, sym, ◌∙◌, subst, arith}
use Rattle.std.proofs.lemmas.Grind.{common_steps}
use Rattle.std.specs.Slice.Iter.{iter_rest}
use Rattle.asl_numbered.specs.Expansion.{shape_at, AreBelow}
use Rattle.asl_numbered.specs.Outside.{first_shape, found_elements}
use Rattle.asl_numbered.proofs.Parts.{taken_next, part-below}
use Rattle.asl_numbered.proofs.Seeking.{places_begun, place_found, place_passed, further_end, part_found, nothing_found, inside_none, bounds-fall}
use Rattle.asl_numbered.proofs.finding.find_place.Goals as goal
use Rattle.asl_numbered.specs.Laws.{below-append, below-drop, below-take, below-wider, below_next}

pub loop-index-init : goal.loop-index-init
loop-index-init c =
    let outer = c.args.outer in
    let bounds : iter_rest c.iter-left.result ≡ outer.first.now = c.iter-left.ensures.rest in (
      places_begun c.args.table.now c.args.inner outer (iter_rest c.iter-left.result) bounds,
      subst (AreBelow c.args.bound) (sym bounds) (below-wider outer.number c.args.bound outer.first.now c.requires.outer.within c.requires.outer.first),
      subst (λ bs. length bs ≤ length c.args.inner.places.now) (sym bounds) c.requires.enough,
      c.requires.right,
    )

pub is_inside-requires-clause-sought : goal.is_inside-requires-clause-sought
is_inside-requires-clause-sought c =
    let l = c.loop-index in
    let i = l.index in
    let places = c.args.inner.places.now in
    let n = get_or places i 0 in
    let split : drop i places ≡ n ∷ drop (i + 1) places = grind (arith, common_steps) in
    let below = below_next (length c.args.table.now) (drop i places) (drop (i + 1) places) n split (below-drop _ i places c.requires.inner.places) in
    let next = taken_next l.left c.next.new.self c.next.result _ c.unwrap_or-second.result c.next.ensures.steps c.unwrap_or-second.ensures in
    let bound = part-below c.args.bound (iter_rest l.left) (iter_rest c.next.new.self) c.args.outer.rest c.unwrap_or-second.result.now next (omega (arith, c.requires.outer.rest, c.requires.outer.within)) l.invariant.1 in
    record { first = below.0; second = omega (arith, bound.0, c.requires.bound) }

pub returns-then-not-branch-clause-found : goal.returns-then-not-branch-clause-found
returns-then-not-branch-clause-found c =
    let l = c.loop-index in
    let i = l.index in
    let table = c.args.table.now in
    let places = c.args.inner.places.now in
    let n = get_or places i 0 in
    let split : drop i places ≡ n ∷ drop (i + 1) places = grind (arith, common_steps) in
    let below = below_next (length table) (drop i places) (drop (i + 1) places) n split (below-drop _ i places c.requires.inner.places) in
    let next = taken_next l.left c.next.new.self c.next.result _ c.unwrap_or-second.result c.next.ensures.steps c.unwrap_or-second.ensures in
    let bound = part-below c.args.bound (iter_rest l.left) (iter_rest c.next.new.self) c.args.outer.rest c.unwrap_or-second.result.now next (omega (arith, c.requires.outer.rest, c.requires.outer.within)) l.invariant.1 in
    place_found table c.args.bound (take i places) (drop i places) (drop (i + 1) places) n (first_shape table c.args.inner.further) (iter_rest l.left) (iter_rest c.next.new.self) c.args.outer.rest (found_elements table c.args.inner c.args.outer) _ _ c.in_ok-is_inside.field-0 next l.invariant.0 split (λ t. rw (c.split_at.ensures.front, c.split_at-then-not-branch.ensures.back) refl) refl c.in_ok-is_inside.ensures.as_defined c.if-not-branch.true (rw (c.split_at.ensures.front, c.split_at-then-not-branch.ensures.back) (below-append (length table) (take i places) (drop (i + 1) places) (below-take (length table) i places c.requires.inner.places) below.1)) (record { first = below.0; second = bound.0 })

pub loop-index-preserved : goal.loop-index-preserved
loop-index-preserved c =
    let l = c.loop-index in
    let i = l.index in
    let table = c.args.table.now in
    let places = c.args.inner.places.now in
    let n = get_or places i 0 in
    let split : drop i places ≡ n ∷ drop (i + 1) places = grind (arith, common_steps) in
    let more : take (i + 1) places ≡ take i places ++ n ∷ [] = grind (arith, common_steps) in
    let next = taken_next l.left c.next.new.self c.next.result _ c.unwrap_or-second.result c.next.ensures.steps c.unwrap_or-second.ensures in
    let bound = part-below c.args.bound (iter_rest l.left) (iter_rest c.next.new.self) c.args.outer.rest c.unwrap_or-second.result.now next (omega (arith, c.requires.outer.rest, c.requires.outer.within)) l.invariant.1 in (
      place_passed table (take i places) (take (i + 1) places) (drop i places) (drop (i + 1) places) n (first_shape table c.args.inner.further) (iter_rest l.left) (iter_rest c.next.new.self) c.args.outer.rest c.unwrap_or-second.result.now (found_elements table c.args.inner c.args.outer) c.in_ok-is_inside.field-0 next l.invariant.0 split c.in_ok-is_inside.ensures.as_defined c.if-not-branch.false more,
      bound.1,
      bounds-fall (iter_rest l.left) (iter_rest c.next.new.self) c.args.outer.rest c.unwrap_or-second.result.now (length (drop (i + 1) places)) next (subst (λ ns. length (iter_rest l.left) ≤ length ns) split l.invariant.2),
      c.in_ok-is_inside.ensures.right,
    )

pub returns-then-branch-clause-found : goal.returns-then-branch-clause-found
returns-then-branch-clause-found c =
    let l = c.loop-index in
    let table = c.args.table.now in
    let end = further_end table c.args.inner.places.now l.index (first_shape table c.args.inner.further) (iter_rest l.left) c.args.outer.rest (found_elements table c.args.inner c.args.outer) (omega (arith, c.loop-index-test.false)) l.invariant.2 l.invariant.0 in
    let none = inside_none (first_shape table c.args.inner.further) (shape_at table c.args.outer.rest) c.in_ok-is_inside-2.field-0 c.in_ok-is_inside-2.ensures.as_defined c.if-branch.true in
    nothing_found table c.args.bound _ (end ∙ rw none refl)

pub returns-clause-found : goal.returns-clause-found
returns-clause-found c =
    let l = c.loop-index in
    let table = c.args.table.now in
    let places = c.args.inner.places.now in
    let end = further_end table places l.index (first_shape table c.args.inner.further) (iter_rest l.left) c.args.outer.rest (found_elements table c.args.inner c.args.outer) (omega (arith, c.loop-index-test.false)) l.invariant.2 l.invariant.0 in
    part_found table c.args.bound _ _ _ c.in_ok-is_inside-2.field-0 c.in_ok-is_inside-2.ensures.as_defined c.if-branch.false (λ there. end) (below-append (length table) places [] c.requires.inner.places tt) (record { first = c.requires.inner.further; second = omega (arith, c.requires.outer.rest, c.requires.outer.within) })
