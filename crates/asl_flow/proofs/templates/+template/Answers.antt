use Rattle.std.proofs.Common.{◌≡◌, ◌+◌, [], ◌∷◌, ◌++◌, take, refl, string_cmp, sym, ap, ◌∙◌, subst, append_assoc, length, rules, arith}
use Rattle.std.proofs.lemmas.Grind.{common_steps}
use Rattle.std.specs.List.Sorted.{IsStrictlySortedBy}
use Rattle.std.specs.Map.{keys_of}
use Rattle.asl_model.specs.ShapeFlow.{doubts, element_doubts, field_doubts}
use Rattle.asl_numbered.specs.Laws.{keeps_trans}
use Rattle.asl_template.specs.View.{view, elements_view, entries_view}
use Rattle.asl_numbered.specs.Expansion.{Shows}
use Rattle.asl_flow.specs.Sources.{input_of, item_of, IsWithin}
use Rattle.asl_flow.specs.TemplateAnswer.{ArePutDown}
use Rattle.asl_flow.proofs.Composed.{number_more, field_more}
use Rattle.asl_flow.proofs.Filled.{Entry, of_value, element_put, elements_put, elements_end, field_put, fields_put, fields_end, list_doubts, object_doubts}
use Rattle.asl_flow.proofs.PutDoubts.{put_kept, on_ok}
use Rattle.asl_flow.proofs.SourcesKept.{sources_kept, as_before}
use Rattle.asl_flow.proofs.templates.+template.Goals as goal

pub element_shapes-loop-element-preserved : goal.element_shapes-loop-element-preserved
element_shapes-loop-element-preserved t c =
    let l = c.loop-element in
    let within : IsWithin (length c.args.shapes.now) c.args.sources = search rules in
    let i = l.element-index in
    let elements = c.args.elements.now in
    let element = c.element-item.result in
    let field = c.args.place.field.now in
    let name = c.args.place.name.now in
    let input = input_of c.args.shapes.now c.args.sources in
    let item = item_of c.args.shapes.now c.args.sources in
    let grown = c.filled_shape.new.shapes in
    let added = c.filled_shape.new.doubts.items in
    let number = c.in_ok-number.number in
    let one = c.in_ok-number.ensures in
    let more : take (i + 1) elements ≡ take i elements ++ element ∷ [] = grind (arith, common_steps) in
    let own = as_before c.args.shapes.now l.shapes l.invariant.keeps c.args.sources within (λ x y. Shows grown (of_value x y element) number) one.filled in
    let put = as_before c.args.shapes.now l.shapes l.invariant.keeps c.args.sources within (λ x y. ArePutDown grown field (doubts (view element) name x y) l.doubts.items added) one.doubted in
    record {
      keeps = keeps_trans _ _ _ l.invariant.keeps one.keeps;
      within = sources_kept l.shapes grown one.keeps c.args.sources l.invariant.within;
      shown = number_more (of_value input item) l.shapes grown (take i elements) (take (i + 1) elements) element l.numbers.items c.push.new.self.items number one.keeps l.invariant.shown own more c.in_ok-push.ensures.items;
      put = element_put input item l.shapes grown one.keeps field name (take i elements) (take (i + 1) elements) element c.args.doubts.now.items l.doubts.items added more l.invariant.put put;
    }

pub element_shapes-returns : goal.element_shapes-returns
element_shapes-returns t c =
    let l = c.loop-element in
    let input = input_of c.args.shapes.now c.args.sources in
    let item = item_of c.args.shapes.now c.args.sources in
    record {
      filled = elements_end input item l.shapes c.args.elements.now l.element-index l.numbers.items c.loop-element-test.false l.invariant.shown;
      doubted = elements_put input item l.shapes c.args.place.field.now c.args.place.name.now c.args.elements.now l.element-index c.args.doubts.now.items l.doubts.items c.loop-element-test.false l.invariant.put;
      keeps = l.invariant.keeps;
    }

pub field_shapes-loop-name-preserved : goal.field_shapes-loop-name-preserved
field_shapes-loop-name-preserved t c =
    let l = c.loop-name in
    let within : IsWithin (length c.args.shapes.now) c.args.sources = search rules in
    let input = input_of c.args.shapes.now c.args.sources in
    let item = item_of c.args.shapes.now c.args.sources in
    let field = c.args.field.now in
    let done = l.invariant.done in
    let e : Entry = (c.in-Some.name.now, c.in-Some.template.now) in
    let left = c.next.new.self in
    let named = c.deref.result.now in
    let grown = c.filled_shape.new.shapes in
    let added = c.filled_shape.new.doubts.items in
    let number = c.in_ok-filled_shape.field-0 in
    let one = c.in_ok-filled_shape.ensures in
    let all : c.args.fields.now.entries ≡ done ++ e ∷ left = l.invariant.whole ∙ ap (λ es. done ++ es) c.in-Some.ensures.steps in
    let sorted = subst (λ es. IsStrictlySortedBy string_cmp (keys_of es)) all c.iter-name-items.ensures.ordered in
    let own = as_before c.args.shapes.now l.shapes l.invariant.keeps c.args.sources within (λ x y. Shows grown (of_value x y e.1) number) one.filled in
    let put = as_before c.args.shapes.now l.shapes l.invariant.keeps c.args.sources within (λ x y. ArePutDown grown field (doubts (view e.1) named x y) l.doubts.items added) one.doubted in
    record {
      done = done ++ e ∷ [];
      whole = all ∙ sym (append_assoc done (e ∷ []) left);
      keeps = keeps_trans _ _ _ l.invariant.keeps one.keeps;
      within = sources_kept l.shapes grown one.keeps c.args.sources l.invariant.within;
      shown = field_more (of_value input item) l.shapes grown done left e l.mentions.entries c.set_field.new.fields.entries c.in_ok-set_field.ensures.0 _ sorted one.keeps l.invariant.shown c.in_ok-set_field.ensures.1 refl own c.in_ok-set_field.ensures.2;
      put = field_put input item l.shapes grown one.keeps field named done e c.args.doubts.now.items l.doubts.items added c.deref.ensures l.invariant.put put;
    }

pub field_shapes-returns : goal.field_shapes-returns
field_shapes-returns t c =
    let l = c.loop-name in
    let input = input_of c.args.shapes.now c.args.sources in
    let item = item_of c.args.shapes.now c.args.sources in
    record {
      filled = fields_end input item l.shapes c.args.fields.now.entries l.invariant.done l.name-iterator l.mentions.entries l.invariant.whole c.in-None.ensures.steps.0 c.iter-name-items.ensures.ordered l.invariant.shown;
      doubted = fields_put input item l.shapes c.args.field.now c.args.fields.now.entries l.invariant.done l.name-iterator c.args.doubts.now.items l.doubts.items l.invariant.whole c.in-None.ensures.steps.0 l.invariant.put;
      keeps = l.invariant.keeps;
    }

pub element_shapes-returns-in_err-push-clause-keeps : goal.element_shapes-returns-in_err-push-clause-keeps
element_shapes-returns-in_err-push-clause-keeps t c = keeps_trans _ _ _ c.loop-element.invariant.keeps c.in_ok-number.ensures.keeps

pub filled_shape-closed_list-requires : goal.filled_shape-closed_list-requires
filled_shape-closed_list-requires t c =
    record { first = c.in_ok-first-in-List.ensures.filled.within }

pub filled_shape-closed_object-requires : goal.filled_shape-closed_object-requires
filled_shape-closed_object-requires t c =
    record { fields = c.in_ok-mentions-in-Object.ensures.filled.within }

pub filled_shape-returns-in_ok-first-in-List-clause-doubted :
    goal.filled_shape-returns-in_ok-first-in-List-clause-doubted
filled_shape-returns-in_ok-first-in-List-clause-doubted t c =
    let input = input_of c.args.shapes.now c.args.sources in
    let item = item_of c.args.shapes.now c.args.sources in
    let field = c.args.place.field.now in
    let name = c.args.place.name.now in
    let listed = sym (list_doubts input item c.args.template.now c.in-List.elements name c.in-List.is) in
    let put = put_kept c.element_shapes.new.shapes c.closed_list.new.shapes c.closed_list.ensures.keeps field (element_doubts (elements_view c.in-List.elements.items) name input item) c.args.doubts.now.items c.element_shapes.new.doubts.items (rw c.deref.ensures.value at c.in_ok-first-in-List.ensures.doubted) in
    on_ok c.closed_list.result (subst (λ told. ArePutDown c.closed_list.new.shapes field told c.args.doubts.now.items c.element_shapes.new.doubts.items) listed put)

pub filled_shape-returns-in_ok-mentions-in-Object-clause-doubted :
    goal.filled_shape-returns-in_ok-mentions-in-Object-clause-doubted
filled_shape-returns-in_ok-mentions-in-Object-clause-doubted t c =
    let input = input_of c.args.shapes.now c.args.sources in
    let item = item_of c.args.shapes.now c.args.sources in
    let field = c.args.place.field.now in
    let name = c.args.place.name.now in
    let listed = sym (object_doubts input item c.args.template.now c.in-Object.fields name c.in-Object.is) in
    let put = put_kept c.field_shapes.new.shapes c.closed_object.new.shapes c.closed_object.ensures.keeps field (field_doubts (entries_view c.in-Object.fields.entries) input item) c.args.doubts.now.items c.field_shapes.new.doubts.items c.in_ok-mentions-in-Object.ensures.doubted in
    on_ok c.closed_object.result (subst (λ told. ArePutDown c.closed_object.new.shapes field told c.args.doubts.now.items c.field_shapes.new.doubts.items) listed put)
