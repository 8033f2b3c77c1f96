use Rattle.std.proofs.Common.{◌≡◌, [], ◌∷◌, ◌+◌, ◌<◌, ◌≤◌, Some, None, IfSome, false, not, bytes_eq, length, drop, string_bytes, ap, subst, ◌∙◌, arith}
use Rattle.std.proofs.lemmas.List.{drop_all, nil_from_length}
use Rattle.std.specs.Slice.Iter.{iter_rest}
use Rattle.asl_model.specs.Path.{Index}
use Rattle.asl_model.specs.Tree.{Array, Object}
use Rattle.asl_tree.proofs.Views.{Entry}
use Rattle.asl_tree.specs.View.{view, elements_view, entries_view}
use Rattle.asl_differences.specs.Places.{IsAlone, IsDifference, TellsOf}
use Rattle.asl_differences.proofs.Fields.{alone, names_same, next_of_both}
use Rattle.asl_differences.proofs.Places.{differ_alone, differ_below, drop_at, drop_next, element_first, element_none, same_fields_behind, same_trees_behind, weaker}
use Rattle.asl_differences.proofs.trees.+first_difference.Goals as goal

pub in_elements-returns-in_default-clause-there : goal.in_elements-returns-in_default-clause-there
in_elements-returns-in_default-clause-there t c =
    let l = c.loop-index in
    let es = c.args.expected.now.items in
    let fs = c.args.found.now.items in
    let items = c.deref-element-items.result.now in
    let x = c.element-item.result in
    let within : l.index < length items = omega arith in
    let gone : drop l.index fs ≡ [] = l.invariant.others ∙ nil_from_length (iter_rest l.others) c.in_default.ensures.steps.0 in
    let there = element_first es (drop (l.index + 1) es) l.index x (drop_at es items l.index x c.deref-element-items.ensures.value within c.element-item.is) in
    weaker (TellsOf (Index l.index ∷ []) (Some (view x)) None) (IsDifference (Array (elements_view es)) (Array (elements_view fs))) c.one_sided.result
    (λ d tells. differ_alone (Array (elements_view es)) (Array (elements_view fs)) (Index l.index) (Some (view x)) None d tells there (element_none fs l.index gone) (λ e. absurd (cc)))
    c.one_sided.ensures.there

pub in_elements-returns-in-Some-2-clause-there : goal.in_elements-returns-in-Some-2-clause-there
in_elements-returns-in-Some-2-clause-there t c =
    let l = c.loop-index in
    let es = c.args.expected.now.items in
    let fs = c.args.found.now.items in
    let items = c.deref-element-items.result.now in
    let x = c.element-item.result in
    let y = c.in-Some.other.now in
    let within : l.index < length items = omega arith in
    let there = element_first es (drop (l.index + 1) es) l.index x (drop_at es items l.index x c.deref-element-items.ensures.value within c.element-item.is) in
    let there_too = element_first fs (iter_rest c.next.new.self) l.index y (l.invariant.others ∙ c.in-Some.ensures.steps) in
    let below = subst (λ o. IfSome o (IsDifference (view x) (view y))) c.in-Some-2.is c.in_ok-difference.ensures.there in
    differ_below (Array (elements_view es)) (Array (elements_view fs)) (view x) (view y) (Index l.index) c.in-Some-2.difference c.in_ok-below.field-0 c.in_ok-below.ensures there there_too below

pub in_elements-loop-index-preserved : goal.in_elements-loop-index-preserved
in_elements-loop-index-preserved t c =
    let l = c.loop-index in
    let es = c.args.expected.now.items in
    let fs = c.args.found.now.items in
    let items = c.deref-element-items.result.now in
    let x = c.element-item.result in
    let y = c.in-Some.other.now in
    let rest = iter_rest c.next.new.self in
    let within : l.index < length items = omega arith in
    let first = drop_at es items l.index x c.deref-element-items.ensures.value within c.element-item.is in
    record {
      rest = same_trees_behind (elements_view es ≡ elements_view fs) (elements_view (drop (l.index + 1) es)) (elements_view rest) (elements_view (drop l.index es)) (elements_view (iter_rest l.others)) (view x) (view y) (ap elements_view first) (ap elements_view c.in-Some.ensures.steps) (c.in_ok-difference.ensures.exactly.0 c.in_default-2.is) l.invariant.rest;
      others = drop_next fs rest l.index y (l.invariant.others ∙ c.in-Some.ensures.steps);
    }

pub in_elements-returns-in-Some-next-clause-there : goal.in_elements-returns-in-Some-next-clause-there
in_elements-returns-in-Some-next-clause-there t c =
    let l = c.loop-index in
    let es = c.args.expected.now.items in
    let fs = c.args.found.now.items in
    let y = c.in-Some-next.other.now in
    let i = c.len.result in
    let lengths = ap length c.deref-element-items.ensures.value in
    let past : length es ≤ c.len.result = omega (arith, c.len.ensures, c.args.expected.now.ok.0) in
    let at : c.len.result ≡ l.index = omega (arith, lengths, c.len.ensures, c.args.expected.now.ok.0) in
    let there = element_first fs (iter_rest c.next-2.new.self) i y (ap (λ k. drop k fs) at ∙ l.invariant.others ∙ c.in-Some-next.ensures.steps) in
    weaker (TellsOf (Index i ∷ []) None (Some (view y))) (IsDifference (Array (elements_view es)) (Array (elements_view fs))) c.one_sided-in-Some-next.result
    (λ d tells. differ_alone (Array (elements_view es)) (Array (elements_view fs)) (Index i) None (Some (view y)) d tells (element_none es i (drop_all i es past)) there (λ e. absurd (cc)))
    c.one_sided-in-Some-next.ensures.there

pub in_fields-returns-then-ne-clause-there : goal.in_fields-returns-then-ne-clause-there
in_fields-returns-then-ne-clause-there t c =
    let l = c.loop-name in
    let es = c.args.expected.now.entries in
    let fs = c.args.found.now.entries in
    let e = c.in-Some in
    let f = c.in-Some-next in
    weaker (IsAlone (string_bytes e.name.now) (string_bytes f.other_name.now) (view e.field.now) (view f.other.now)) (IsDifference (Object (entries_view es)) (Object (entries_view fs))) c.first_alone.result
    (alone es fs l.name-iterator c.next.new.self l.others c.next-in-loop-name.new.self e.name f.other_name e.field f.other e.ensures.steps f.ensures.steps l.invariant.names)
    c.first_alone.ensures.there

pub in_fields-loop-name-preserved : goal.in_fields-loop-name-preserved
in_fields-loop-name-preserved t c =
    let l = c.loop-name in
    let es = c.args.expected.now.entries in
    let fs = c.args.found.now.entries in
    let left = c.next.new.self in
    let others = c.next-in-loop-name.new.self in
    let n = string_bytes c.in-Some.name.now in
    let m = string_bytes c.in-Some-next.other_name.now in
    let not_other : not (bytes_eq n m) ≡ false = cc (c.if-ne.ensures) in
    let named = names_same n m not_other in
    let e : Entry = (c.in-Some.name.now, c.in-Some.field.now) in
    let f : Entry = (c.in-Some-next.other_name.now, c.in-Some-next.other.now) in
    record {
      rest = same_fields_behind (entries_view es ≡ entries_view fs) (entries_view left) (entries_view others) (entries_view l.name-iterator) (entries_view l.others) n m (view c.in-Some.field.now) (view c.in-Some-next.other.now) (ap entries_view c.in-Some.ensures.steps) (ap entries_view c.in-Some-next.ensures.steps) named (c.in_ok-difference.ensures.exactly.0 c.in_default-2.is) l.invariant.rest;
      names = next_of_both es fs l.name-iterator left l.others others e f c.in-Some.ensures.steps c.in-Some-next.ensures.steps named l.invariant.names;
    }
