use Rattle.std.proofs.Common.{◌≡◌, ◌+◌, [], ◌∷◌, ◌++◌, map, drop, true, codes, sym, ap, ◌∙◌, append_assoc, String, arith}
use Rattle.std.specs.declared.alloc.Global.{Global}
use Rattle.std.proofs.lemmas.Grind.{common_steps}
use Rattle.asl_model.specs.ShapeSpelling as model
use Rattle.asl_model.specs.Tree.{Object, field_named}
use Rattle.asl_shape.specs.Refusal.{fault_named}
use Rattle.asl_shape.specs.Spelled.{elements_view, entries_view, tree_there, view}
use Rattle.asl_shape.proofs.Sizes.{element_smaller, member_smaller}
use Rattle.asl_tree.specs.declared.Tree.{Tree}
use Rattle.asl_complaints.specs.Parts.{array_faults, first_faults, object_faults, property_faults, rest_faults}
use Rattle.asl_complaints.proofs.Faults.{single_count, single_extra, single_required, single_type, told_first, told_of}
use Rattle.asl_complaints.proofs.Keywords.{arrays_are, found_smaller, objects_are, type_right, type_wrong}
use Rattle.asl_complaints.proofs.Telling.{less_left, tells_behind, tells_on}
use Rattle.asl_complaints.proofs.shapes.+tell.Goals as goal

pub tell_elements-tell_spelling-requires : goal.tell_elements-tell_spelling-requires
tell_elements-tell_spelling-requires t c =
    let i = c.loop-spelling.spelling-index in
    let spellings = c.args.spellings.now in
    let item = c.spelling-item.result in
    let split : drop i spellings ≡ item ∷ drop (i + 1) spellings = grind (arith, common_steps) in
    (omega (arith, element_smaller i spellings (drop (i + 1) spellings) item split), tt)

pub tell_members-tell_spelling-requires : goal.tell_members-tell_spelling-requires
tell_members-tell_spelling-requires t c =
    let e : String Global × Tree = (c.in-Some.field-0-0.now, c.in-Some.spelling.now) in
    let l = c.loop-spelling in
    (omega (arith, member_smaller c.args.spellings.now.entries l.invariant.1.0 l.spelling-iterator c.next.new.self e l.invariant.1.1 c.in-Some.ensures.steps), tt)

pub tell_members-loop-spelling-preserved : goal.tell_members-loop-spelling-preserved
tell_members-loop-spelling-preserved t c =
    let e : String Global × Tree = (c.in-Some.field-0-0.now, c.in-Some.spelling.now) in
    let l = c.loop-spelling in
    let done = l.invariant.1.0 in
    let left = c.next.new.self in (
      less_left l.invariant.0 (ap (λ es. model.field_faults true (entries_view es)) c.in-Some.ensures.steps) c.in_ok-tell_spelling.ensures,
      (done ++ e ∷ [], l.invariant.1.1 ∙ ap (λ es. done ++ es) c.in-Some.ensures.steps ∙ sym (append_assoc done (e ∷ []) left)),
    )

pub tell_object-returns-in-Ok : goal.tell_object-returns-in-Ok
tell_object-returns-in-Ok t c =
    let fs = entries_view c.args.keywords.now.entries in
    let names = c.in-Ok.names.now in
    tells_on c.tell_keywords.result (map fault_named c.args.told.now.items) (map fault_named c.tell_keywords.new.told.items) _ (model.shape_faults true (Object fs))
    (type_right fs (view c.in-Some.types.now) (model.texts_among (elements_view names)) c.says-array.result c.says-object.result (sym c.in-Some.ensures) c.in-Ok.ensures.right c.in-Ok.ensures.names c.says-array.ensures c.says-object.ensures)
    c.tell_keywords.ensures

pub tell_object-returns-in-Err : goal.tell_object-returns-in-Err
tell_object-returns-in-Err t c =
    let fs = entries_view c.args.keywords.now.entries in
    let type = view c.in-Some.types.now in
    tells_on c.tell.result (map fault_named c.args.told.now.items) (map fault_named c.tell.new.told.items) _ (model.shape_faults true (Object fs))
    (type_wrong fs type (sym c.in-Some.ensures))
    (told_first c.tell.result c.args.told.now.items c.tell.new.told.items c.in-Err.refusal (model.type_faults true type) _ c.tell.ensures c.in-Err.ensures.refused (single_type type))

-- ---- what stands under keywords

pub tell_for_arrays-tell_first-requires : goal.tell_for_arrays-tell_first-requires
tell_for_arrays-tell_first-requires t c =
    (omega (arith, found_smaller (codes "prefixItems") (entries_view c.args.keywords.now.entries) _ c.member-first.ensures), tt)

pub tell_for_arrays-tell_rest-requires : goal.tell_for_arrays-tell_rest-requires
tell_for_arrays-tell_rest-requires t c =
    (omega (arith, found_smaller (codes "items") (entries_view c.args.keywords.now.entries) _ c.member.ensures), tt)

pub tell_for_arrays-returns : goal.tell_for_arrays-returns
tell_for_arrays-returns t c =
    let fs = entries_view c.args.keywords.now.entries in
    let first = tree_there c.member-first.result in
    let rest = tree_there c.member.result in
    let count = c.count_of.result in
    let counts = model.min_items_faults (field_named (codes "minItems") fs) count in
    let result = c.tell_refused.result in
    let a = map fault_named c.args.told.now.items in
    let b = map fault_named c.tell_first.new.told.items in
    let d = map fault_named c.tell_rest.new.told.items in
    let e = map fault_named c.tell_refused.new.told.items in
    tells_on result a e _ (array_faults fs) (arrays_are fs first rest count c.member-first.ensures c.member.ensures c.count_of.ensures)
    (tells_behind result a b e (first_faults first) (rest_faults rest ++ counts) c.in_ok-tell_first.ensures
    (tells_behind result b d e (rest_faults rest) counts c.in_ok-tell_rest.ensures
    (told_of result c.tell_rest.new.told.items c.tell_refused.new.told.items c.check_min_items.result counts c.tell_refused.ensures c.check_min_items.ensures.right c.check_min_items.ensures.refused (single_count (field_named (codes "minItems") fs) count))))

pub tell_for_objects-tell_properties-requires : goal.tell_for_objects-tell_properties-requires
tell_for_objects-tell_properties-requires t c =
    (omega (arith, found_smaller (codes "properties") (entries_view c.args.keywords.now.entries) _ c.member.ensures), tt)

pub tell_for_objects-returns : goal.tell_for_objects-returns
tell_for_objects-returns t c =
    let fs = entries_view c.args.keywords.now.entries in
    let properties = tree_there c.member.result in
    let names = field_named (codes "required") fs in
    let extra = field_named (codes "additionalProperties") fs in
    let result = c.tell_refused-2.result in
    let a = map fault_named c.args.told.now.items in
    let b = map fault_named c.tell_properties.new.told.items in
    let d = map fault_named c.tell_refused.new.told.items in
    let e = map fault_named c.tell_refused-2.new.told.items in
    tells_on result a e _ (object_faults fs) (objects_are fs properties c.member.ensures)
    (tells_behind result a b e (property_faults properties) (model.required_faults names ++ model.extra_faults extra) c.in_ok-tell_properties.ensures
    (tells_behind result b d e (model.required_faults names) (model.extra_faults extra) (c.in_ok-tell_refused.ensures (model.required_faults names) c.read_required.ensures.right c.read_required.ensures.refused (single_required names))
    (told_of result c.tell_refused.new.told.items c.tell_refused-2.new.told.items c.read_additional.result (model.extra_faults extra) c.tell_refused-2.ensures c.read_additional.ensures.right c.read_additional.ensures.refused (single_extra extra))))
