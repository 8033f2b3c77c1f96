use Rattle.std.proofs.Common.{◌≡◌, ◌∷◌, [], ◌∙◌, ap, arith, length, sym}
use Rattle.std.specs.Vec.Iter.{into_iter_items}
use Rattle.std.proofs.lemmas.List.{nil_from_length}
use Rattle.asl_run.proofs.WrittenTables.{added_all, added_one}
use Rattle.asl_run.proofs.nodes.add.Goals as goal

pub push_reserved-requires : goal.push_reserved-requires
push_reserved-requires c =
    let at = c.loop-visit in
    let short = ap length c.in-Some.ensures.steps.0 in
    let room = at.invariant.room in
    omega arith

pub loop-visit-preserved : goal.loop-visit-preserved
loop-visit-preserved c =
    let at = c.loop-visit in
    let x = c.in-Some.visit in
    let steps : into_iter_items at.visit-iterator ≡ x ∷ into_iter_items c.next.new.self = c.in-Some.ensures.steps.0 in
    let was = at.invariant.left in
    let gone = c.in-Some.ensures.steps.1 in
    let short = ap length steps in
    let room = at.invariant.room in
    let longer = c.push_reserved.ensures.len in
    let same = c.push_reserved.ensures.capacity in
    record {
      whole = added_one at.nodes.items c.push_reserved.new.self.items x (into_iter_items at.visit-iterator) (into_iter_items c.next.new.self) _ steps c.push_reserved.ensures.items at.invariant.whole;
      left = omega arith;
      room = omega arith;
    }

pub returns-clause-added : goal.returns-clause-added
returns-clause-added c =
    let at = c.loop-visit in
    let none = c.in-None.ensures.steps in
    let empty : into_iter_items at.visit-iterator ≡ [] = nil_from_length _ (sym at.invariant.left ∙ none.0) in
    added_all at.nodes.items _ c.args.nodes.now.items (into_iter_items at.visit-iterator) _ c.args.visits.items empty c.into_iter-visit-iterator.ensures.into_iter_gives.0 c.reserve.ensures.items at.invariant.whole
