use Rattle.std.proofs.Common.{◌≡◌, ◌+◌, [], ◌∷◌, ◌++◌, take, String, Global, refl, string_cmp, sym, ap, ◌∙◌, subst, append_assoc, arith}
use Rattle.std.proofs.lemmas.Grind.{common_steps}
use Rattle.std.specs.List.Sorted.{IsStrictlySortedBy}
use Rattle.std.specs.Map.{keys_of}
use Rattle.asl_tree.specs.declared.Tree.{Tree}
use Rattle.asl_numbered.specs.Laws.{keeps_trans}
use Rattle.asl_flow.proofs.Composed.{number_more, field_more}
use Rattle.asl_flow.proofs.LiteralFields.{of_itself, elements_end, fields_end}
use Rattle.asl_flow.proofs.literals.+literal.Goals as goal

pub element_shapes-loop-element-preserved : goal.element_shapes-loop-element-preserved
element_shapes-loop-element-preserved t c =
    let l = c.loop-element in
    let i = l.element-index in
    let elements = c.args.elements.now in
    let element = c.element-item.result in
    let more : take (i + 1) elements ≡ take i elements ++ element ∷ [] = grind (arith, common_steps) in
    record {
      keeps = keeps_trans _ _ _ l.invariant.keeps c.in_ok-number.ensures.keeps;
      shown = number_more of_itself l.shapes c.own_shape.new.shapes (take i elements) (take (i + 1) elements) element l.numbers.items c.push.new.self.items c.in_ok-number.number c.in_ok-number.ensures.keeps l.invariant.shown c.in_ok-number.ensures.shown more c.in_ok-push.ensures.items;
    }

pub element_shapes-returns : goal.element_shapes-returns
element_shapes-returns t c = record {
  numbers = elements_end _ c.args.elements.now c.loop-element.element-index _ c.loop-element-test.false c.loop-element.invariant.shown;
  keeps = c.loop-element.invariant.keeps;
}

pub field_shapes-loop-name-preserved : goal.field_shapes-loop-name-preserved
field_shapes-loop-name-preserved t c =
    let l = c.loop-name in
    let done = l.invariant.done in
    let e : String Global × Tree = (c.in-Some.name.now, c.in-Some.field.now) in
    let left = c.next.new.self in
    let all : c.args.fields.now.entries ≡ done ++ e ∷ left = l.invariant.whole ∙ ap (λ es. done ++ es) c.in-Some.ensures.steps in
    let sorted = subst (λ es. IsStrictlySortedBy string_cmp (keys_of es)) all c.iter-name-items.ensures.ordered in
    record {
      done = done ++ e ∷ [];
      whole = all ∙ sym (append_assoc done (e ∷ []) left);
      keeps = keeps_trans _ _ _ l.invariant.keeps c.in_ok-own_shape.ensures.keeps;
      shown = field_more of_itself l.shapes c.own_shape.new.shapes done left e l.mentions.entries c.set_field.new.fields.entries c.in_ok-set_field.ensures.0 _ sorted c.in_ok-own_shape.ensures.keeps l.invariant.shown c.in_ok-set_field.ensures.1 refl c.in_ok-own_shape.ensures.shown c.in_ok-set_field.ensures.2;
    }

pub field_shapes-returns : goal.field_shapes-returns
field_shapes-returns t c = record {
  numbers = fields_end _ c.args.fields.now.entries c.loop-name.invariant.done _ _ c.loop-name.invariant.whole c.in-None.ensures.steps.0 c.iter-name-items.ensures.ordered c.loop-name.invariant.shown;
  keeps = c.loop-name.invariant.keeps;
}

pub own_shape-closed_list-requires : goal.own_shape-closed_list-requires
own_shape-closed_list-requires t c =
    record { first = c.in_ok-first-in-List.ensures.numbers.within }

pub own_shape-closed_object-requires : goal.own_shape-closed_object-requires
own_shape-closed_object-requires t c =
    record { fields = c.in_ok-mentions-in-Object.ensures.numbers.within }
