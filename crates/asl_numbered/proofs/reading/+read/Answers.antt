use Rattle.std.proofs.Common.{◌≡◌, ◌∷◌, ◌++◌, [], ◌+◌, Some, ap, drop, take, refl, sym, subst, ◌∙◌, append_assoc, String, Global, false, option_map, arith, rules}
use Rattle.std.specs.Prelude.{option_to_list}
use Rattle.std.proofs.lemmas.Grind.{common_steps}
use Rattle.std.proofs.lemmas.Result.{err_from_is_err_and}
use Rattle.std.specs.List.Sorted.{IsStrictlySortedBy}
use Rattle.std.specs.Map.{keys_of}
use Rattle.std.specs.String.{string_cmp}
use Rattle.asl_tree.specs.declared.Tree.{Tree}
use Rattle.asl_model.specs.Shape as shape
use Rattle.asl_shape.specs.LevelView.{level_view, list_view, object_view, texts}
use Rattle.asl_shape.specs.Spelled as trees
use Rattle.asl_shape.proofs.Sizes.{level_size, list_size, smaller, element_smaller, member_smaller}
use Rattle.asl_numbered.specs.Expansion.{fields_at, IsNumberOf}
use Rattle.asl_model.specs.ShapeSpelling.{with_all_needed}
use Rattle.asl_numbered.specs.declared.kinds.KindNumbers.{KindNumbers}
use Rattle.asl_numbered.specs.declared.node.NodeField.{NodeField}
use Rattle.asl_numbered.proofs.Appending.{shared_names}
use Rattle.asl_numbered.specs.Reading.{IsRead, IsReadRest, AreObjectsRead, TellsOneOf}
use Rattle.asl_numbered.specs.References.{shapes_given, numbers_given, list_inside, object_inside, each_of, values_of, TellsOf}
use Rattle.asl_numbered.proofs.Readings.{given_kept, given_same, reference_read, reference_told, level_told, over_answer, over_refusal, one_told, one_left, one_right, element_there, none_read, number_read, list_refers, list_read, kinds_read, no_list_read, no_object_read, no_rest_read, rest_answer, member_there, no_fields_read, field_read, object_read}
use Rattle.asl_numbered.proofs.reading.+read.Goals as goal
use Rattle.asl_numbered.specs.Laws.{keeps_same, keeps_trans}

pub read-returns-in-Some-Some-clause-number : goal.read-returns-in-Some-Some-clause-number
read-returns-in-Some-Some-clause-number t c =
    let table = c.args.table.now in
    let given = c.args.given in
    let tree = trees.view c.args.tree.now in
    let is = sym c.referred.ensures ∙ c.in-Some-Some.is ∙ ap Some c.in-Some-Some.field-0-is in
    subst (IsRead c.args.several (shapes_given table given) tree table) (sym c.in-Some-Some.number-is) (reference_read c.args.several table given tree c.in-Some-Some.number c.requires is)

pub read-returns-in-Some-None-clause-refused : goal.read-returns-in-Some-None-clause-refused
read-returns-in-Some-None-clause-refused t c =
    reference_told c.args.several c.args.table.now c.args.given (trees.view c.args.tree.now) (sym c.referred.ensures ∙ c.in-Some-None.is ∙ ap Some c.in-Some-None.field-0-is)

-- ---- the level of a spelling

pub read_spelling-returns-in_err-level-clause-refused : goal.read_spelling-returns-in_err-level-clause-refused
read_spelling-returns-in_err-level-clause-refused t c =
    let p = err_from_is_err_and c.from_residual.result c.from_residual.ensures.1 in
    rw (p.1, p.2) (level_told c.args.several c.args.table.now c.args.given (trees.view c.args.tree.now) c.in_err-level.field-0.0 c.requires.spelled c.in_err-level.ensures.refused)

pub read_spelling-read_over-requires : goal.read_spelling-read_over-requires
read_spelling-read_over-requires t c = (omega (arith, smaller _ _ _ c.in_ok-level.ensures.level), c.requires.given)

pub read_spelling-returns-clause-number : goal.read_spelling-returns-clause-number
read_spelling-returns-clause-number t c = over_answer c.args.several _ _ _ _ c.read_over.result c.in_ok-level.ensures.level c.read_over.ensures.number

pub read_spelling-returns-clause-refused : goal.read_spelling-returns-clause-refused
read_spelling-returns-clause-refused t c = over_refusal c.args.several _ _ _ c.read_over.result c.in_ok-level.ensures.level c.read_over.ensures.refused

-- ---- kinds

pub read_over-read_list-requires : goal.read_over-read_list-requires
read_over-read_list-requires t c = (omega (arith, ap level_size (ap level_view c.in-Kinds.is)), c.requires)

pub read_over-read_object-requires : goal.read_over-read_object-requires
read_over-read_object-requires t c =
    (omega (arith, ap level_size (ap level_view c.in-Kinds.is)), given_kept _ _ (numbers_given c.args.given) c.in_ok-arrays-in-Kinds.ensures.keeps c.requires)

pub read_over-returns-in_err-arrays-in-Kinds-clause-refused : goal.read_over-returns-in_err-arrays-in-Kinds-clause-refused
read_over-returns-in_err-arrays-in-Kinds-clause-refused t c =
    let list = list_inside (option_map list_view c.in-Kinds.list) in
    let object = object_inside (option_map object_view c.in-Kinds.object) in
    let e = c.in_err-arrays-in-Kinds.field-0.0 in
    let p = err_from_is_err_and c.from_residual-in_err-arrays-in-Kinds.result c.from_residual-in_err-arrays-in-Kinds.ensures.1 in
    rw (p.1, p.2, c.in-Kinds.is) (one_left c.args.several (shapes_given c.args.table.now c.args.given) list object e c.in_err-arrays-in-Kinds.ensures.refused)

pub read_over-returns-in_err-objects-in-Kinds-clause-refused : goal.read_over-returns-in_err-objects-in-Kinds-clause-refused
read_over-returns-in_err-objects-in-Kinds-clause-refused t c =
    let list = list_inside (option_map list_view c.in-Kinds.list) in
    let object = object_inside (option_map object_view c.in-Kinds.object) in
    let e = c.in_err-objects-in-Kinds.field-0.0 in
    let same = given_same c.args.table.now c.read_list.new.table c.args.given c.in_ok-arrays-in-Kinds.ensures.keeps c.requires in
    let p = err_from_is_err_and c.from_residual-in_err-objects-in-Kinds.result c.from_residual-in_err-objects-in-Kinds.ensures.1 in
    rw (p.1, p.2, c.in-Kinds.is) (one_right c.args.several (shapes_given c.args.table.now c.args.given) list object e (subst (λ given. TellsOneOf c.args.several given object e) same c.in_err-objects-in-Kinds.ensures.refused))

pub read_over-returns-in_ok-put_kinds-in-Kinds-clause-number : goal.read_over-returns-in_ok-put_kinds-in-Kinds-clause-number
read_over-returns-in_ok-put_kinds-in-Kinds-clause-number t c =
    let level = c.in-Kinds in
    let arrays = c.in_ok-arrays-in-Kinds in
    let objects = c.in_ok-objects-in-Kinds in
    let kinds : KindNumbers = record { null = level.null; boolean = level.boolean; integer = level.integer; text = level.text; arrays = arrays.arrays; objects = objects.objects } in
    let object = option_map object_view level.object in
    let now = c.read_object.new.table in
    let same = given_same c.args.table.now c.read_list.new.table c.args.given arrays.ensures.keeps c.requires in
    let others = subst (λ given. AreObjectsRead c.args.several given object now objects.objects) same objects.ensures.number in
    rw level.is (kinds_read c.args.several (shapes_given c.args.table.now c.args.given) (option_map list_view level.list) object c.read_list.new.table now _ kinds _ objects.ensures.keeps arrays.ensures.number others c.in_ok-put_kinds-in-Kinds.ensures.number)

-- ---- lists

pub read_list-returns-in_default-clause-number : goal.read_list-returns-in_default-clause-number
read_list-returns-in_default-clause-number t c = no_list_read _ _ c.args.list _ c.in_default.is

pub read_list-read_rest-requires : goal.read_list-read_rest-requires
read_list-read_rest-requires t c =
    (omega (arith, ap (λ list. list_size (option_map list_view list)) c.in-Some.is), given_kept _ _ (numbers_given c.args.given) c.in_ok-first.ensures.keeps c.requires)

pub read_list-returns-in_err-rest-clause-refused : goal.read_list-returns-in_err-rest-clause-refused
read_list-returns-in_err-rest-clause-refused t c =
    let first = each_of (trees.elements_view c.in-Some.list.first.now) in
    let rest = option_to_list (trees.tree_there c.in-Some.list.rest) in
    let e = c.in_err-rest.field-0.0 in
    let same = given_same c.args.table.now c.read_elements.new.table c.args.given c.in_ok-first.ensures.keeps c.requires in
    let p = err_from_is_err_and c.from_residual-in_err-rest.result c.from_residual-in_err-rest.ensures.1 in
    rw (p.1, p.2, c.in-Some.is) (one_right c.args.several (shapes_given c.args.table.now c.args.given) first rest e (subst (λ given. TellsOneOf c.args.several given rest e) same c.in_err-rest.ensures.refused))

pub read_list-put-requires-clause-refers : goal.read_list-put-requires-clause-refers
read_list-put-requires-clause-refers t c =
    let same = given_same c.args.table.now c.read_elements.new.table c.args.given c.in_ok-first.ensures.keeps c.requires in
    let rest = subst (λ given. IsReadRest c.args.several given (trees.tree_there c.in-Some.list.rest) c.read_rest.new.table c.in_ok-rest.rest) same c.in_ok-rest.ensures.number in
    list_refers c.args.several (shapes_given c.args.table.now c.args.given) (trees.elements_view c.in-Some.list.first.now) (trees.tree_there c.in-Some.list.rest) c.read_elements.new.table c.read_rest.new.table c.in_ok-first.first c.in_ok-rest.rest c.in_ok-rest.ensures.keeps c.in_ok-first.ensures.numbers rest

pub read_list-returns-clause-number : goal.read_list-returns-clause-number
read_list-returns-clause-number t c =
    let same = given_same c.args.table.now c.read_elements.new.table c.args.given c.in_ok-first.ensures.keeps c.requires in
    let rest = subst (λ given. IsReadRest c.args.several given (trees.tree_there c.in-Some.list.rest) c.read_rest.new.table c.in_ok-rest.rest) same c.in_ok-rest.ensures.number in
    rw c.in-Some.is (list_read c.args.several (shapes_given c.args.table.now c.args.given) (list_view c.in-Some.list) _ _ _ c.in_ok-first.first c.in_ok-rest.rest _ c.in_ok-rest.ensures.keeps c.in_ok-first.ensures.numbers rest c.in_ok-put.ensures.number)

pub read_rest-returns-in_ok-put-in-None-clause-number : goal.read_rest-returns-in_ok-put-in-None-clause-number
read_rest-returns-in_ok-put-in-None-clause-number t c =
    rw c.in-None.is (no_rest_read c.args.several _ _ c.in_ok-put-in-None.field-0 c.in_ok-put-in-None.ensures.number)

pub read_rest-returns-in-Some-clause-number : goal.read_rest-returns-in-Some-clause-number
read_rest-returns-in-Some-clause-number t c =
    rw c.in-Some.is (rest_answer c.args.several _ (trees.view c.in-Some.tree.now) _ c.read.result c.read.ensures.number)

pub read_elements-loop-element-init : goal.read_elements-loop-element-init
read_elements-loop-element-init t c =
    (keeps_same _, rw c.in_ok-numbers.ensures.items (none_read c.args.several _ _))

pub read_elements-read-requires : goal.read_elements-read-requires
read_elements-read-requires t c =
    let i = c.loop-element.element-index in
    let elements = c.args.elements.now in
    let item = c.element-item.result in
    let split : drop i elements ≡ item ∷ drop (i + 1) elements = grind (arith, common_steps) in
    (omega (arith, element_smaller i elements (drop (i + 1) elements) item split), given_kept _ _ (numbers_given c.args.given) c.loop-element.invariant.0 c.requires)

pub read_elements-returns-in_err-number-clause-refused : goal.read_elements-returns-in_err-number-clause-refused
read_elements-returns-in_err-number-clause-refused t c =
    let i = c.loop-element.element-index in
    let elements = c.args.elements.now in
    let item = c.element-item.result in
    let e = c.in_err-number.field-0.0 in
    let split : drop i elements ≡ item ∷ drop (i + 1) elements = grind (arith, common_steps) in
    let same = given_same c.args.table.now c.loop-element.table c.args.given c.loop-element.invariant.0 c.requires in
    let p = err_from_is_err_and c.from_residual-in_err-number.result c.from_residual-in_err-number.ensures.1 in
    rw (p.1, p.2) (one_told c.args.several (shapes_given c.args.table.now c.args.given) (each_of (trees.elements_view elements)) (trees.view item) e (element_there i elements (drop (i + 1) elements) item split) (subst (λ given. TellsOf c.args.several given (trees.view item) e) same c.in_err-number.ensures.refused))

pub read_elements-loop-element-preserved : goal.read_elements-loop-element-preserved
read_elements-loop-element-preserved t c =
    let l = c.loop-element in
    let i = l.element-index in
    let elements = c.args.elements.now in
    let item = c.element-item.result in
    let more : take (i + 1) elements ≡ take i elements ++ item ∷ [] = grind (arith, common_steps) in
    let same = given_same c.args.table.now l.table c.args.given l.invariant.0 c.requires in
    let read = subst (λ given. IsRead c.args.several given (trees.view item) c.read.new.table c.in_ok-number.number) same c.in_ok-number.ensures.number in (
      keeps_trans _ _ _ l.invariant.0 c.in_ok-number.ensures.keeps,
      number_read c.args.several (shapes_given c.args.table.now c.args.given) l.table c.read.new.table (take i elements) (take (i + 1) elements) item l.numbers.items c.push.new.self.items c.in_ok-number.number c.in_ok-number.ensures.keeps l.invariant.1 read more c.in_ok-push.ensures.items,
    )

-- ---- objects

pub read_object-returns-in_default-clause-number : goal.read_object-returns-in_default-clause-number
read_object-returns-in_default-clause-number t c = no_object_read _ _ c.args.object _ c.in_default.is

pub read_members-loop-name-init : goal.read_members-loop-name-init
read_members-loop-name-init t c =
    ([], search rules, keeps_same _, ap shared_names c.new-fields.ensures.empty, rw c.new-fields.ensures.empty (no_fields_read c.args.several _ _))

pub read_members-read-requires : goal.read_members-read-requires
read_members-read-requires t c =
    let e : String Global × Tree = (c.in-Some.name.now, c.in-Some.member.now) in
    let l = c.loop-name in
    (omega (arith, member_smaller c.args.members.now.entries l.invariant.0 l.name-iterator c.next.new.self e l.invariant.1 c.in-Some.ensures.steps), given_kept _ _ (numbers_given c.args.given) l.invariant.2 c.requires)

pub read_members-returns-in_err-shape-clause-refused :
    goal.read_members-returns-in_err-shape-clause-refused
read_members-returns-in_err-shape-clause-refused t c =
    let m : String Global × Tree = (c.in-Some.name.now, c.in-Some.member.now) in
    let l = c.loop-name in
    let members = c.args.members.now.entries in
    let e = c.in_err-shape.field-0.0 in
    let same = given_same c.args.table.now l.table c.args.given l.invariant.2 c.requires in
    let p = err_from_is_err_and c.from_residual-in_err-shape.result c.from_residual-in_err-shape.ensures.1 in
    rw (p.1, p.2) (one_told c.args.several (shapes_given c.args.table.now c.args.given) (values_of (trees.entries_view members)) (trees.view m.1) e (member_there members l.invariant.0 l.name-iterator c.next.new.self m l.invariant.1 c.in-Some.ensures.steps) (subst (λ given. TellsOf c.args.several given (trees.view m.1) e) same c.in_err-shape.ensures.refused))

pub read_members-loop-name-preserved : goal.read_members-loop-name-preserved
read_members-loop-name-preserved t c =
    let l = c.loop-name in
    let done = l.invariant.0 in
    let m : String Global × Tree = (c.in-Some.name.now, c.in-Some.member.now) in
    let left = c.next.new.self in
    let all : c.args.members.now.entries ≡ done ++ m ∷ left = l.invariant.1 ∙ ap (λ ms. done ++ ms) c.in-Some.ensures.steps in
    let sorted = subst (λ ms. IsStrictlySortedBy string_cmp (keys_of ms)) all c.iter-name-items.ensures.ordered in
    let same = given_same c.args.table.now l.table c.args.given l.invariant.2 c.requires in
    let read = subst (λ given. IsRead c.args.several given (trees.view m.1) c.read.new.table c.in_ok-shape.shape) same c.in_ok-shape.ensures.number in
    let field : NodeField = record { needed = false; shape = c.in_ok-shape.shape } in
    let step = field_read c.args.several (shapes_given c.args.table.now c.args.given) l.table c.read.new.table done left m l.fields.entries c.insert.new.self.entries c.in_ok-key.key field sorted c.in_ok-shape.ensures.keeps l.invariant.3 l.invariant.4 (c.in_ok-key.ensures.ok ∙ c.deref.ensures) refl read c.in_ok-insert.ensures.entries in (
      done ++ m ∷ [],
      all ∙ sym (append_assoc done (m ∷ []) left),
      keeps_trans _ _ _ l.invariant.2 c.in_ok-shape.ensures.keeps,
      step.0,
      step.1,
    )

pub read_object-put_object-requires : goal.read_object-put_object-requires
read_object-put_object-requires t c = c.in_ok-fields.ensures.fields.within

pub read_object-returns-clause-number : goal.read_object-returns-clause-number
read_object-returns-clause-number t c =
    let object = c.in-Some.object in
    let middle = c.read_properties.new.table in
    let fields = c.in_ok-fields.fields.entries in
    let is = subst (λ ns. IsNumberOf c.put_object.new.table (shape.ObjectShape (with_all_needed object.extra (texts ns) (fields_at middle fields)) object.extra) c.in_ok-put_object.field-0) c.deref.ensures.value c.in_ok-put_object.ensures.number in
    rw c.in-Some.is (object_read c.args.several (shapes_given c.args.table.now c.args.given) (object_view object) middle _ fields _ c.in_ok-fields.ensures.fields is)

pub read_properties-returns-in-None-clause-fields :
    goal.read_properties-returns-in-None-clause-fields
read_properties-returns-in-None-clause-fields t c = rw (c.in-None.is, c.new.ensures.empty) (no_fields_read c.args.several _ _)
