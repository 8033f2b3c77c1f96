use Rattle.std.proofs.Common.{◌∙◌, sym, refl}
use Rattle.asl_model.specs.Examples.{unmentioned_shape}
use Rattle.asl_numbered.specs.declared.node.NodeField.{NodeField}
use Rattle.asl_numbered.specs.Expansion.{shape_at, fields_at}
use Rattle.asl_numbered.specs.Outside.{needed_of, unmentioned_fields}
use Rattle.asl_numbered.proofs.Comparisons.{any_sub}
use Rattle.asl_numbered.proofs.Seeking.{field_found, field_passed, unmentioned_any, unmentioned_shut, unmentioned_not, unmentioned_full}
use Rattle.asl_numbered.proofs.finding.find_unmentioned.Goals as goal
use Rattle.asl_numbered.proofs.finding.find_unmentioned.Goals.{else-inner-via-then-inner+then-not-contains_key+else-not-takes_all, else-inner-via-then-inner+else-not-contains_key, else-inner-via-else-inner}
use Rattle.asl_numbered.specs.Laws.{below_next_field}
use Rattle.asl_numbered.specs.Names.{Name}

pub returns-then-not-takes_all : goal.returns-then-not-takes_all
returns-then-not-takes_all c =
    let l = c.loop-name in
    let table = c.args.table.now in
    let inner = c.args.inner.fields.now.entries in
    let f : Name × NodeField = (c.in-Some.name.now, c.in-Some.field.now) in
    let below = below_next_field c.args.bound l.name-iterator c.next.new.self f c.in-Some.ensures.steps l.invariant.1 in
    field_found table c.args.bound (unmentioned_shape (fields_at table inner) c.args.inner.more) inner c.next.new.self f l.name-iterator (unmentioned_fields table c.args.inner c.args.outer.now.entries) _ _ c.takes_all.result l.invariant.0 c.in-Some.ensures.steps (unmentioned_any table f.0 inner c.args.inner.more c.contains_key.result c.if-inner.true c.contains_key.ensures c.if-not-contains_key.true) refl (λ t. refl) (c.takes_all.ensures ∙ sym (any_sub (shape_at table f.1.shape))) c.if-not-takes_all.true c.requires.inner (record { first = tt; second = below.0 })

pub loop-name-preserved : goal.loop-name-preserved
loop-name-preserved c =
    let l = c.loop-name in
    let table = c.args.table.now in
    let inner = c.args.inner.fields.now.entries in
    let f : Name × NodeField = (c.in-Some.name.now, c.in-Some.field.now) in
    let below = below_next_field c.args.bound l.name-iterator c.next.new.self f c.in-Some.ensures.steps l.invariant.1 in (
      field_passed table (unmentioned_shape (fields_at table inner) c.args.inner.more) (needed_of table inner) c.next.new.self f l.name-iterator (unmentioned_fields table c.args.inner c.args.outer.now.entries) l.invariant.0 c.in-Some.ensures.steps (elim c.else-inner.branch [
        | else-inner-via-then-inner+then-not-contains_key+else-not-takes_all w ↦ unmentioned_full table f.0 inner c.args.inner.more w.takes_all.result (shape_at table f.1.shape) w.takes_all.ensures w.if-not-takes_all.false
        | else-inner-via-then-inner+else-not-contains_key w ↦ unmentioned_not table f.0 inner c.args.inner.more w.contains_key.result (shape_at table f.1.shape) w.contains_key.ensures w.if-not-contains_key.false
        | else-inner-via-else-inner w ↦ unmentioned_shut table f.0 inner c.args.inner.more (shape_at table f.1.shape) w.if-inner.false
      ]),
      below.1,
    )
