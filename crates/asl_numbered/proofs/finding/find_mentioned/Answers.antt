use Rattle.std.proofs.Common.{sym, refl, arith}
use Rattle.std.specs.BTreeMap.{is_at}
use Rattle.asl_model.specs.Examples.{mentioned_shape}
use Rattle.asl_numbered.specs.declared.node.NodeField.{NodeField}
use Rattle.asl_numbered.specs.Expansion.{shape_at, fields_at}
use Rattle.asl_numbered.specs.Outside.{needed_of, mentioned_fields}
use Rattle.asl_numbered.proofs.Comparisons.{found-below}
use Rattle.asl_numbered.proofs.Seeking.{field_found, field_passed, mentioned_number, mentioned_none, mentioned_inside}
use Rattle.asl_numbered.proofs.finding.find_mentioned.Goals as goal
use Rattle.asl_numbered.specs.Laws.{below_next_field}
use Rattle.asl_numbered.specs.Names.{Name, name_cmp}

pub is_inside-requires-clause-sought : goal.is_inside-requires-clause-sought
is_inside-requires-clause-sought c =
    let l = c.loop-name in
    let f : Name × NodeField = (c.in-Some.name.now, c.in-Some.field.now) in
    let below = below_next_field c.args.bound l.name-iterator c.next.new.self f c.in-Some.ensures.steps l.invariant.1 in
    record { first = found-below _ (is_at (name_cmp f.0)) c.args.inner.now.entries c.in-Some-get.other.now c.requires.inner (sym c.in-Some-get.ensures.value); second = omega (arith, below.0, c.requires.bound) }

pub returns-then-not-branch-clause-found : goal.returns-then-not-branch-clause-found
returns-then-not-branch-clause-found c =
    let l = c.loop-name in
    let table = c.args.table.now in
    let inner = c.args.inner.now.entries in
    let f : Name × NodeField = (c.in-Some.name.now, c.in-Some.field.now) in
    let below = below_next_field c.args.bound l.name-iterator c.next.new.self f c.in-Some.ensures.steps l.invariant.1 in
    field_found table c.args.bound (mentioned_shape (fields_at table inner)) inner c.next.new.self f l.name-iterator (mentioned_fields table inner c.args.outer.now.entries) _ _ c.in_ok-is_inside.field-0 l.invariant.0 c.in-Some.ensures.steps (mentioned_number table f.0 inner c.in-Some-get.other.now (sym c.in-Some-get.ensures.value)) refl (λ t. refl) c.in_ok-is_inside.ensures.as_defined c.if-not-branch.true c.requires.inner (record { first = found-below _ (is_at (name_cmp f.0)) inner c.in-Some-get.other.now c.requires.inner (sym c.in-Some-get.ensures.value); second = below.0 })

pub loop-name-preserved-else-not-branch : goal.loop-name-preserved-else-not-branch
loop-name-preserved-else-not-branch c =
    let l = c.loop-name in
    let table = c.args.table.now in
    let inner = c.args.inner.now.entries in
    let f : Name × NodeField = (c.in-Some.name.now, c.in-Some.field.now) in
    let below = below_next_field c.args.bound l.name-iterator c.next.new.self f c.in-Some.ensures.steps l.invariant.1 in (
      field_passed table (mentioned_shape (fields_at table inner)) (needed_of table inner) c.next.new.self f l.name-iterator (mentioned_fields table inner c.args.outer.now.entries) l.invariant.0 c.in-Some.ensures.steps (mentioned_inside table f.0 inner c.in-Some-get.other.now (shape_at table f.1.shape) c.in_ok-is_inside.field-0 (sym c.in-Some-get.ensures.value) c.in_ok-is_inside.ensures.as_defined c.if-not-branch.false),
      below.1,
      c.in_ok-is_inside.ensures.right,
    )

pub loop-name-preserved : goal.loop-name-preserved
loop-name-preserved c =
    let l = c.loop-name in
    let table = c.args.table.now in
    let inner = c.args.inner.now.entries in
    let f : Name × NodeField = (c.in-Some.name.now, c.in-Some.field.now) in
    let below = below_next_field c.args.bound l.name-iterator c.next.new.self f c.in-Some.ensures.steps l.invariant.1 in (
      field_passed table (mentioned_shape (fields_at table inner)) (needed_of table inner) c.next.new.self f l.name-iterator (mentioned_fields table inner c.args.outer.now.entries) l.invariant.0 c.in-Some.ensures.steps (mentioned_none table f.0 inner (shape_at table f.1.shape) (sym c.in_default.ensures.value)),
      below.1,
      l.invariant.2,
    )
