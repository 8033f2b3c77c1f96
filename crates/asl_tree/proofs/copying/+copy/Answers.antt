use Rattle.std.proofs.Common.{◌≡◌, [], ◌∷◌, ◌++◌, string_bytes, sym, ap, ◌∙◌, subst, append_assoc}
use Rattle.std.specs.List.Sorted.{IsStrictlySortedBy}
use Rattle.std.specs.Map.{keys_of}
use Rattle.std.specs.String.{string_cmp}
use Rattle.asl_tree.specs.View.{entries_view}
use Rattle.asl_tree.proofs.Views.{Entry, entries_view-insert_entry, put_last}
use Rattle.asl_tree.proofs.copying.+copy.Goals as goal

pub copy_fields-loop-name-preserved : goal.copy_fields-loop-name-preserved
copy_fields-loop-name-preserved t c =
    let l = c.loop-name in
    let done = l.invariant.0 in
    let e : Entry = (c.in-Some.name.now, c.in-Some.field.now) in
    let left = c.next.new.self in
    let all : c.args.fields.now.entries ≡ done ++ e ∷ left = l.invariant.1 ∙ ap (λ es. done ++ es) c.in-Some.ensures.steps in
    let last = put_last done e left (subst (λ es. IsStrictlySortedBy string_cmp (keys_of es)) all c.iter-name-items.ensures.ordered) in
    let named : string_bytes c.in_ok-key.key ≡ string_bytes e.0 = c.in_ok-key.ensures.cases in (
      done ++ e ∷ [],
      all ∙ sym (append_assoc done (e ∷ []) left),
      ap entries_view c.in_ok-insert.ensures.entries ∙ entries_view-insert_entry l.copies.entries c.in_ok-key.key c.in_ok-copy.field-0 ∙ rw (named, c.in_ok-copy.ensures, l.invariant.2) last,
    )
