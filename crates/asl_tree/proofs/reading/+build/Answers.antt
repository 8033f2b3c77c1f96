use Rattle.std.proofs.Common.{◌≡◌, [], ◌∷◌, ◌++◌, string_bytes, sym, ap, ◌∙◌, subst, append_assoc, Some, Err, arith}
use Rattle.std.specs.List.Sorted.{IsStrictlySortedBy}
use Rattle.std.specs.Map.{keys_of}
use Rattle.std.specs.String.{string_cmp}
use Rattle.asl_tree.specs.View.{view, entries_view}
use Rattle.asl_tree.proofs.Views.{entries_view-insert_entry}
use Rattle.asl_tree.proofs.Texts.{Member, elements_gone_through, elements_none, members_more, members_none}
use Rattle.asl_tree.proofs.reading.+build.Goals as goal

pub elements_from-returns-in_err-from_value-clause-no_elements :
    goal.elements_from-returns-in_err-from_value-clause-no_elements
elements_from-returns-in_err-from_value-clause-no_elements t c = λ h.
    let given = rw h at c.from_residual-in_err-from_value.ensures.1 in
    let none = c.in_err-from_value.ensures.no_tree (ap Err (sym given)) in
    elements_none _ c.deref-item-items.result.now c.loop-item.item-index c.item-item.result c.deref-item-items.ensures.value (omega arith) c.item-item.is none

pub elements_from-returns-clause-elements : goal.elements_from-returns-clause-elements
elements_from-returns-clause-elements t c =
    elements_gone_through _ c.deref-item-items.result.now c.loop-item.item-index c.loop-item.elements.items c.deref-item-items.ensures.value (omega arith) c.loop-item.invariant

pub fields_from-returns-in_err-from_value-clause-no_fields :
    goal.fields_from-returns-in_err-from_value-clause-no_fields
fields_from-returns-in_err-from_value-clause-no_fields t c = λ h.
    let l = c.loop-name in
    let e : Member = (c.in-Some.name.now, c.in-Some.member.now) in
    let given = rw h at c.from_residual-in_err-from_value.ensures.1 in
    let none = c.in_err-from_value.ensures.no_tree (ap Err (sym given)) in
    let all : c.args.members.now.entries ≡ l.invariant.0 ++ e ∷ c.next.new.self = l.invariant.1 ∙ ap (λ es. l.invariant.0 ++ es) c.in-Some.ensures.steps in
    rw all (members_none l.invariant.0 e c.next.new.self none)

pub fields_from-loop-name-preserved : goal.fields_from-loop-name-preserved
fields_from-loop-name-preserved t c =
    let l = c.loop-name in
    let done = l.invariant.0 in
    let e : Member = (c.in-Some.name.now, c.in-Some.member.now) in
    let left = c.next.new.self in
    let all : c.args.members.now.entries ≡ done ++ e ∷ left = l.invariant.1 ∙ ap (λ es. done ++ es) c.in-Some.ensures.steps in
    let sorted = subst (λ es. IsStrictlySortedBy string_cmp (keys_of es)) all c.iter-name-items.ensures.ordered in
    let named : string_bytes c.in_ok-key.key ≡ string_bytes e.0 = c.in_ok-key.ensures.cases in
    let inserted = ap entries_view c.in_ok-insert.ensures.entries ∙ entries_view-insert_entry l.fields.entries c.in_ok-key.key c.in_ok-from_value.field-0 in (
      done ++ e ∷ [],
      all ∙ sym (append_assoc done (e ∷ []) left),
      members_more done e left (view c.in_ok-from_value.field-0) (entries_view l.fields.entries) sorted c.in_ok-from_value.ensures.tree l.invariant.2 ∙ sym (ap Some (rw named at inserted)),
    )
