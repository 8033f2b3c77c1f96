use Rattle.std.proofs.Common.{◌≡◌, [], ◌∷◌, ◌++◌, string_bytes, sym, ap, ◌∙◌, subst, append_assoc, arith}
use Rattle.std.specs.List.Sorted.{IsStrictlySortedBy}
use Rattle.std.specs.Map.{keys_of}
use Rattle.std.specs.String.{string_cmp}
use Rattle.serde_json.specs.View.{members_view}
use Rattle.serde_json.proofs.Views.{members_view-insert_entry}
use Rattle.asl_tree.proofs.Views.{Entry}
use Rattle.asl_tree.specs.View.{view}
use Rattle.asl_tree.proofs.Texts.{items_gone_through, put_last_for}
use Rattle.asl_tree.proofs.Wholes.{whole_value, and_whole, list_back, object_back}
use Rattle.asl_tree.proofs.writing.+unbuild.Goals as goal

pub items_for-returns-clause-items : goal.items_for-returns-clause-items
items_for-returns-clause-items t c =
    items_gone_through _ c.deref-element-items.result.now c.loop-element.element-index c.loop-element.items.items c.deref-element-items.ensures.value (omega arith) c.loop-element.invariant.0

pub members_for-loop-name-preserved : goal.members_for-loop-name-preserved
members_for-loop-name-preserved t c =
    let l = c.loop-name in
    let done = l.invariant.0.0 in
    let e : Entry = (c.in-Some.name.now, c.in-Some.field.now) in
    let left = c.next.new.self in
    let all : c.args.fields.now.entries ≡ done ++ e ∷ left = l.invariant.0.1 ∙ ap (λ es. done ++ es) c.in-Some.ensures.steps in
    let last = put_last_for done e left (subst (λ es. IsStrictlySortedBy string_cmp (keys_of es)) all c.iter-name-items.ensures.ordered) in
    let named : string_bytes c.in_ok-key.key ≡ string_bytes e.0 = c.in_ok-key.ensures.cases in (
      (
        done ++ e ∷ [],
        all ∙ sym (append_assoc done (e ∷ []) left),
        ap members_view c.in_ok-insert.ensures.entries ∙ members_view-insert_entry l.members.entries c.in_ok-key.key c.in_ok-to_value.field-0 ∙ rw (named, c.in_ok-to_value.ensures.value, l.invariant.0.2) last,
      ),
      (λ h. l.invariant.1 (and_whole e left l.name-iterator c.in-Some.ensures.steps (whole_value (view e.1) c.in_ok-to_value.field-0 c.in_ok-to_value.ensures.value c.in_ok-to_value.ensures.reads_back) h)),
    )

pub to_value-returns-in_ok-items_for-in-List-clause-reads_back :
    goal.to_value-returns-in_ok-items_for-in-List-clause-reads_back
to_value-returns-in_ok-items_for-in-List-clause-reads_back t c =
    let items = c.in_ok-items_for-in-List in
    rw c.in-List.is (list_back items.field-0 c.in-List.elements items.ensures.items items.ensures.whole)

pub to_value-returns-in_ok-members_for-in-Object-clause-reads_back :
    goal.to_value-returns-in_ok-members_for-in-Object-clause-reads_back
to_value-returns-in_ok-members_for-in-Object-clause-reads_back t c =
    let members = c.in_ok-members_for-in-Object in
    rw c.in-Object.is (object_back members.field-0 c.in-Object.fields members.ensures.members members.ensures.whole)
