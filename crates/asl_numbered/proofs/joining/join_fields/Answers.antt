use Rattle.std.proofs.Common.{◌≡◌, ◌&&◌, ◌∙◌, sym, refl}
use Rattle.std.specs.Slice.Iter.{iter_rest}
use Rattle.asl_numbered.specs.declared.node.NodeField.{NodeField}
use Rattle.asl_numbered.proofs.Parts.{Entry, taken_next, both_joined, one_joined, one_dropped, all_joined}
use Rattle.asl_numbered.proofs.joining.join_fields.Goals as goal
use Rattle.asl_numbered.proofs.joining.join_fields.Goals.{then-field, else-field}

pub loop-name-preserved-in-Some-get : goal.loop-name-preserved-in-Some-get
loop-name-preserved-in-Some-get c =
    let l = c.loop-name in
    let e : Entry = (c.in-Some.name.now, c.in-Some.field.now) in
    let o = c.in-Some-get.other.now in
    let both : NodeField = record { needed = c.if-field.both; shape = c.unwrap_or.result.now } in
    let needed : both.needed ≡ (e.1.needed && o.needed) = elim c.if-field.branch [ then-field w ↦ w.both-is ∙ rw w.if-field.true refl | else-field w ↦ w.both-is ∙ rw w.if-field.false refl ] in
    let part = taken_next l.left c.next-in-Some-get.new.self c.next-in-Some-get.result _ c.unwrap_or.result c.next-in-Some-get.ensures.steps c.unwrap_or.ensures in
    both_joined c.args.fields.now.entries c.args.others.now.entries c.args.more c.args.parts.now l.name-iterator c.next.new.self e (iter_rest l.left) l.joined.entries c.in-Some.ensures.steps l.invariant o both c.in_ok-key-in-Some-get.key c.insert.new.self.entries (iter_rest c.next-in-Some-get.new.self) c.iter-name-items.ensures.ordered (sym c.in-Some-get.ensures.value) c.in_ok-key-in-Some-get.ensures.cases needed part c.in_ok-insert-in-Some-get.ensures.entries

pub loop-name-preserved-then-more : goal.loop-name-preserved-then-more
loop-name-preserved-then-more c =
    let l = c.loop-name in
    let e : Entry = (c.in-Some.name.now, c.in-Some.field.now) in
    one_dropped c.args.fields.now.entries c.args.others.now.entries c.args.more c.args.parts.now l.name-iterator c.next.new.self e (iter_rest l.left) l.joined.entries c.in-Some.ensures.steps l.invariant (sym c.in-None-get.ensures.value) c.if-more.true

pub loop-name-preserved : goal.loop-name-preserved
loop-name-preserved c =
    let l = c.loop-name in
    let e : Entry = (c.in-Some.name.now, c.in-Some.field.now) in
    one_joined c.args.fields.now.entries c.args.others.now.entries c.args.more c.args.parts.now l.name-iterator c.next.new.self e (iter_rest l.left) l.joined.entries c.in-Some.ensures.steps l.invariant c.optional.result c.in_ok-key-in-None-2.key c.insert-in-None-2.new.self.entries c.iter-name-items.ensures.ordered (sym c.in-None-2.ensures.value) c.in_ok-key-in-None-2.ensures.cases c.if-more.false c.optional.ensures.needed c.optional.ensures.same c.in_ok-insert-in-None-2.ensures.entries

pub returns : goal.returns
returns c = record {
  joined = all_joined c.args.fields.now.entries c.args.others.now.entries c.args.more c.args.parts.now c.loop-name.name-iterator (iter_rest c.loop-name.left) c.loop-name.joined.entries c.in-None.ensures.steps.0 c.loop-name.invariant;
}
