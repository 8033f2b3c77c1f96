use Rattle.std.proofs.Common.{◌≡◌, false, ap, sym, refl, subst, ◌∙◌, ◌+◌, [], ◌∷◌, ◌++◌, append_assoc, map, option_map, drop, take, String, arith}
use Rattle.std.specs.declared.alloc.Global.{Global}
use Rattle.std.specs.List.Sorted.{IsStrictlySortedBy}
use Rattle.std.specs.Map.{keys_of}
use Rattle.std.specs.String.{string_cmp}
use Rattle.std.proofs.lemmas.Grind.{common_steps}
use Rattle.std.proofs.lemmas.List.{take_all}
use Rattle.std.proofs.lemmas.Result.{err_from_is_err_and}
use Rattle.asl_tree.specs.declared.Tree.{Tree}
use Rattle.asl_shape.specs.declared.shape.Shape.TheViews.{roll-Field}
use Rattle.asl_shape.specs.Level.{SpelledOver, list_inner_faults, object_inner_faults}
use Rattle.asl_shape.specs.LevelView.{level_view, list_view, object_view}
use Rattle.asl_shape.specs.View.{fields_view}
use Rattle.asl_shape.proofs.Sizes.{smaller, element_smaller, member_smaller}
use Rattle.asl_shape.proofs.Sights.{inserted_proper, pushed_proper}
use Rattle.asl_shape.proofs.Spellings.{shapes_read, elements_step, pushed_read, element_told, member_told, member_read, faults_step}
use Rattle.asl_shape.proofs.Telling.{told_left, told_same}
use Rattle.asl_model.specs.ShapeSpelling as model
use Rattle.asl_shape.specs.Spelled as trees
use Rattle.asl_shape.proofs.reading.+read.Goals as goal

pub read_elements-returns-clause-shapes : goal.read_elements-returns-clause-shapes
read_elements-returns-clause-shapes t c =
    shapes_read c.loop-element.shapes.items c.args.elements.now (c.loop-element.invariant.1 ∙ ap (map (λ x. model.shape_of (trees.view x))) (take_all c.loop-element.element-index c.args.elements.now c.loop-element-test.false))

pub read_elements-loop-element-preserved : goal.read_elements-loop-element-preserved
read_elements-loop-element-preserved t c =
    let l = c.loop-element in
    let i = l.element-index in
    let elements = c.args.elements.now in
    let item = c.element-item.result in
    let read = c.in_ok-read_spelling.ensures in
    let split : drop i elements ≡ item ∷ drop (i + 1) elements = grind (arith, common_steps) in
    let more : take (i + 1) elements ≡ take i elements ++ item ∷ [] = grind (arith, common_steps) in (
      l.invariant.0 ∙ elements_step c.args.several (drop i elements) (drop (i + 1) elements) item split read.spelled.none_wrong,
      pushed_read l.shapes.items c.push.new.self.items (take i elements) (take (i + 1) elements) c.in_ok-read_spelling.field-0 item l.invariant.1 read.spelled.same more c.in_ok-push.ensures.items,
      pushed_proper l.shapes.items c.push.new.self.items c.in_ok-read_spelling.field-0 l.invariant.2 read.proper c.in_ok-push.ensures.items,
    )

pub read_elements-returns-in_err-read_spelling-clause-refused : goal.read_elements-returns-in_err-read_spelling-clause-refused
read_elements-returns-in_err-read_spelling-clause-refused t c =
    let i = c.loop-element.element-index in
    let elements = c.args.elements.now in
    let item = c.element-item.result in
    let split : drop i elements ≡ item ∷ drop (i + 1) elements = grind (arith, common_steps) in
    let p = err_from_is_err_and c.from_residual-in_err-read_spelling.result c.from_residual-in_err-read_spelling.ensures.1 in
    rw (p.1, p.2) (element_told c.args.several c.in_err-read_spelling.field-0.0 elements (drop i elements) (drop (i + 1) elements) item c.loop-element.invariant.0 split c.in_err-read_spelling.ensures.refused)

pub read_members-returns-in_err-shape-clause-refused : goal.read_members-returns-in_err-shape-clause-refused
read_members-returns-in_err-shape-clause-refused t c =
    let e : String Global × Tree = (c.in-Some.name.now, c.in-Some.member.now) in
    let p = err_from_is_err_and c.from_residual-in_err-shape.result c.from_residual-in_err-shape.ensures.1 in
    rw (p.1, p.2) (member_told c.args.several c.in_err-shape.field-0.0 c.args.members.now.entries c.loop-name.name-iterator c.next.new.self e c.loop-name.invariant.0 c.in-Some.ensures.steps c.in_err-shape.ensures.refused)

pub read_members-loop-name-preserved : goal.read_members-loop-name-preserved
read_members-loop-name-preserved t c =
    let l = c.loop-name in
    let done = l.invariant.1.0 in
    let e : String Global × Tree = (c.in-Some.name.now, c.in-Some.member.now) in
    let left = c.next.new.self in
    let all : c.args.members.now.entries ≡ done ++ e ∷ left = l.invariant.1.1 ∙ ap (λ es. done ++ es) c.in-Some.ensures.steps in
    let sorted = subst (λ es. IsStrictlySortedBy string_cmp (keys_of es)) all c.iter-name-items.ensures.ordered in
    let field = roll-Field (record { needed = false; shape = c.in_ok-shape.shape }) in
    let spelled = c.in_ok-shape.ensures.spelled in (
      l.invariant.0 ∙ faults_step c.args.several e left l.name-iterator c.in-Some.ensures.steps spelled.none_wrong,
      (
        done ++ e ∷ [],
        all ∙ sym (append_assoc done (e ∷ []) left),
        ap fields_view c.in_ok-insert.ensures.entries ∙ member_read done e left l.fields.entries c.in_ok-name.name field sorted l.invariant.1.2 c.in_ok-name.ensures.cases refl (sym spelled.same),
      ),
      inserted_proper l.fields.entries _ c.in_ok-name.name field l.invariant.2 c.in_ok-shape.ensures.proper c.in_ok-insert.ensures.entries,
    )

pub read_spelling-returns-in_err-arrays-in-Kinds-clause-refused :
    goal.read_spelling-returns-in_err-arrays-in-Kinds-clause-refused
read_spelling-returns-in_err-arrays-in-Kinds-clause-refused t c =
    let over = subst (λ level. SpelledOver c.args.several (trees.view c.args.tree.now) (level_view level)) c.in-Kinds.is c.in_ok-read_level.ensures.level in
    let p = err_from_is_err_and c.from_residual-in_err-arrays-in-Kinds.result c.from_residual-in_err-arrays-in-Kinds.ensures.1 in
    let e = c.in_err-arrays-in-Kinds.field-0.0 in
    rw (p.1, p.2) (told_same e _ _ (told_left e (list_inner_faults c.args.several (option_map list_view c.in-Kinds.list)) (object_inner_faults c.args.several (option_map object_view c.in-Kinds.object)) c.in_err-arrays-in-Kinds.ensures.refused) (sym over.faults))

-- what is read is smaller

pub read_spelling-read_list-requires : goal.read_spelling-read_list-requires
read_spelling-read_list-requires t c =
    let over = subst (λ level. SpelledOver c.args.several (trees.view c.args.tree.now) (level_view level)) c.in-Kinds.is c.in_ok-read_level.ensures.level in
    (omega (arith, smaller _ _ _ over), tt)

pub read_spelling-read_object-requires : goal.read_spelling-read_object-requires
read_spelling-read_object-requires t c =
    let over = subst (λ level. SpelledOver c.args.several (trees.view c.args.tree.now) (level_view level)) c.in-Kinds.is c.in_ok-read_level.ensures.level in
    (omega (arith, smaller _ _ _ over), tt)

pub read_elements-read_spelling-requires : goal.read_elements-read_spelling-requires
read_elements-read_spelling-requires t c =
    let i = c.loop-element.element-index in
    let elements = c.args.elements.now in
    let item = c.element-item.result in
    let split : drop i elements ≡ item ∷ drop (i + 1) elements = grind (arith, common_steps) in
    (omega (arith, element_smaller i elements (drop (i + 1) elements) item split), tt)

pub read_members-read_spelling-requires : goal.read_members-read_spelling-requires
read_members-read_spelling-requires t c =
    let e : String Global × Tree = (c.in-Some.name.now, c.in-Some.member.now) in
    let l = c.loop-name in
    (omega (arith, member_smaller c.args.members.now.entries l.invariant.1.0 l.name-iterator c.next.new.self e l.invariant.1.1 c.in-Some.ensures.steps), tt)
