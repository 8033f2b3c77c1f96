use Rattle.std.proofs.Common.{true, refl, sym, ap, ◌∙◌}
use Rattle.std.specs.BTreeMap.{insert_entry}
use Rattle.asl_numbered.specs.declared.node.NodeField.{NodeField}
use Rattle.asl_numbered.proofs.Marking.{mark_found, mark_new}
use Rattle.asl_numbered.proofs.reading.require.Goals as goal
use Rattle.asl_numbered.specs.Names.{name_cmp}

pub returns-in-Some-clause-needed : goal.returns-in-Some-clause-needed
returns-in-Some-clause-needed c =
    let g : NodeField = record { needed = true; shape = c.in-Some.field.now.shape } in
    mark_found c.args.table.now c.args.extra c.args.name.now c.in-Some.field.now g c.args.fields.now.entries _ c.requires refl refl (sym c.in-Some.ensures.value) (c.get_mut.follows.holds g).0

pub put-requires-clause-refers : goal.put-requires-clause-refers
put-requires-clause-refers c = c.unmentioned.ensures.refers _

pub put-requires-clause-proper : goal.put-requires-clause-proper
put-requires-clause-proper c = c.unmentioned.ensures.proper _

pub returns-clause-needed : goal.returns-clause-needed
returns-clause-needed c =
    let f : NodeField = record { needed = true; shape = c.in_ok-shape.shape } in
    let inserted = c.in_ok-insert.ensures.entries ∙ ap (λ m. insert_entry name_cmp m.entries c.in_ok-key.key f) c.get_mut.follows.holds-at-none in
    mark_new c.args.table.now c.put.new.self c.args.extra c.args.name.now c.in_ok-key.key f c.args.fields.now.entries _ _ c.in_ok-shape.ensures.keeps c.requires c.in_ok-key.ensures.ok refl c.in_ok-shape.ensures.number (c.unmentioned.ensures.shape _) (sym c.in_default.ensures.value) inserted
