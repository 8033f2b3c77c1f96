use Rattle.std.proofs.Common.{refl}
use Rattle.asl_numbered.specs.declared.node.NodeField.{NodeField}
use Rattle.asl_numbered.specs.Expansion.{fields_at}
use Rattle.asl_numbered.specs.Outside.{needed_of}
use Rattle.asl_numbered.proofs.Seeking.{alone_found, alone_passed, alone_shared, alone_never}
use Rattle.asl_numbered.proofs.finding.find_forbidden.Goals as goal
use Rattle.asl_numbered.proofs.finding.find_forbidden.Goals.{else-not-contains_key-via-then-not-contains_key+else-is_inhabited, else-not-contains_key-via-else-not-contains_key}
use Rattle.asl_numbered.specs.Laws.{below_next_field}
use Rattle.asl_numbered.specs.Names.{Name}

pub returns-then-is_inhabited : goal.returns-then-is_inhabited
returns-then-is_inhabited c =
    let l = c.loop-name in
    let f : Name × NodeField = (c.in-Some.name.now, c.in-Some.field.now) in
    let below = below_next_field _ l.name-iterator c.next.new.self f c.in-Some.ensures.steps l.invariant.1 in
    λ bound. alone_found c.args.table.now bound c.args.inner c.args.outer.now.entries c.next.new.self f l.name-iterator _ c.contains_key.result c.is_inhabited.result l.invariant.0 c.in-Some.ensures.steps c.contains_key.ensures c.if-not-contains_key.true c.is_inhabited.ensures c.if-is_inhabited.true refl (below.0, c.requires.inner)

pub loop-name-preserved : goal.loop-name-preserved
loop-name-preserved c =
    let l = c.loop-name in
    let f : Name × NodeField = (c.in-Some.name.now, c.in-Some.field.now) in
    let below = below_next_field _ l.name-iterator c.next.new.self f c.in-Some.ensures.steps l.invariant.1 in (
      alone_passed c.args.table.now (needed_of c.args.table.now c.args.inner.fields.now.entries) (fields_at c.args.table.now c.args.inner.fields.now.entries) c.args.outer.now.entries c.next.new.self f l.name-iterator l.invariant.0 c.in-Some.ensures.steps (elim c.else-not-contains_key.branch [
        | else-not-contains_key-via-then-not-contains_key+else-is_inhabited w ↦ alone_never c.args.table.now c.args.outer.now.entries f w.is_inhabited.result w.is_inhabited.ensures w.if-is_inhabited.false
        | else-not-contains_key-via-else-not-contains_key w ↦ alone_shared c.args.table.now c.args.outer.now.entries f c.contains_key.result c.contains_key.ensures w.if-not-contains_key.false
      ]),
      below.1,
    )
