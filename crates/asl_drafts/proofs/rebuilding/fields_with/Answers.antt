use Rattle.std.proofs.Common.{◌≡◌, ◌<◌, ◌+◌, [], ◌∷◌, ◌++◌, length, String, Global, refl, sym, ap, ◌∙◌, subst, append_assoc}
use Rattle.std.proofs.lemmas.List.{length_push}
use Rattle.std.specs.List.Sorted.{IsStrictlySortedBy}
use Rattle.std.specs.Map.{keys_of}
use Rattle.asl_numbered.specs.declared.node.NodeField.{NodeField}
use Rattle.asl_drafts.proofs.Rebuilt.{field_with, place_within}
use Rattle.asl_drafts.proofs.rebuilding.fields_with.Goals as goal
use Rattle.asl_numbered.specs.Names.{Name, name_cmp}

pub loop-name-preserved : goal.loop-name-preserved
loop-name-preserved c =
    let l = c.loop-name in
    let done = l.invariant.0 in
    let fields = c.args.fields.now.entries in
    let numbers = c.args.numbers.now in
    let m : Name × NodeField = (c.in-Some.name.now, c.in-Some.field.now) in
    let left = c.next.new.self in
    let all : fields ≡ done ++ m ∷ left = l.invariant.1 ∙ ap (λ ms. done ++ ms) c.in-Some.ensures.steps in
    let sorted = subst (λ ms. IsStrictlySortedBy name_cmp (keys_of ms)) all c.iter-name-items.ensures.ordered in
    let within : l.place < length numbers = place_within fields done l.name-iterator m left numbers l.place l.invariant.1 c.in-Some.ensures.steps c.requires l.invariant.2 in (
      done ++ m ∷ [],
      all ∙ sym (append_assoc done (m ∷ []) left),
      ap (λ n. n + 1) l.invariant.2 ∙ sym (length_push done m),
      field_with done left m numbers l.place l.new.entries c.insert.new.self.entries c.in_ok-key.key _ sorted l.invariant.3 within c.in_ok-key.ensures.cases refl refl c.in_ok-insert.ensures.entries,
    )
