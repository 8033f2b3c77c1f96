use Rattle.std.proofs.Common.{◌∷◌, [], ◌++◌, sym, ap, ◌∙◌, append_assoc}
use Rattle.std.specs.Iterator.Adapters.{rev_source}
use Rattle.asl_numbered.specs.declared.node.NodeField.{NodeField}
use Rattle.asl_numbered.proofs.Joins.{field_skipped}
use Rattle.asl_numbered.proofs.joining.put_fields.Goals as goal
use Rattle.asl_numbered.specs.Names.{Name}

pub loop-name-preserved : goal.loop-name-preserved
loop-name-preserved c =
    let l = c.loop-name in
    let done = l.invariant.0 in
    let e : Name × NodeField = (c.in-Some.name.now, c.in-Some.field.now) in
    let left = rev_source c.next.new.self in (
      e ∷ done,
      l.invariant.1 ∙ ap (λ fs. fs ++ done) c.in-Some.ensures.steps ∙ append_assoc left (e ∷ []) done,
      field_skipped l.tasks.items c.args.tasks.now.items e done c.args.others.now.entries l.invariant.2 (sym c.in_default.ensures.value),
    )
