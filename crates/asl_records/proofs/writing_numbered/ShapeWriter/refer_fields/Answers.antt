use Rattle.std.proofs.Common.{◌∙◌, length}
use Rattle.asl_model.specs.Shape.{Shape}
use Rattle.asl_numbered.specs.Expansion.{shape_at}
use Rattle.asl_numbered.specs.declared.node.NodeField.{NodeField}
use Rattle.asl_numbered.specs.Laws.{below_next_field}
use Rattle.asl_records.specs.WritingNumbered.{referred, table_of}
use Rattle.asl_records.proofs.References.{Mention, fields_referred}
use Rattle.asl_records.proofs.Writings.{begun, gone_on, all_written}
use Rattle.asl_records.proofs.writing_numbered.ShapeWriter.refer_fields.Goals as goal
use Rattle.std.specs.Rc.{rc_str_bytes}

pub loop-name-init : goal.loop-name-init
loop-name-init c =
    let table = table_of c.args.self.now in
    record {
      writes = begun rc_str_bytes (λ (f : NodeField). shape_at table f.shape) (referred c.args.self.now) (λ (_ : Shape). Unit {0}) c.args.fields.now.entries c.into_iter-name-iterator.result c.new-properties.result.entries (c.into_iter-name-iterator.ensures.into_iter_gives ∙ c.iter-name-items.ensures.rest) c.new-properties.ensures.empty;
      below = rw (c.into_iter-name-iterator.ensures.into_iter_gives ∙ c.iter-name-items.ensures.rest) c.requires.below;
    }

pub refer-requires-clause-below : goal.refer-requires-clause-below
refer-requires-clause-below c =
    let f : Mention = (c.in-Some.name.now, c.in-Some.field.now) in
    (below_next_field (length c.args.self.now.shapes.now) c.loop-name.name-iterator c.next.new.self f c.in-Some.ensures.steps c.loop-name.invariant.below).0

pub loop-name-preserved : goal.loop-name-preserved
loop-name-preserved c =
    let l = c.loop-name in
    let f : Mention = (c.in-Some.name.now, c.in-Some.field.now) in
    record {
      writes = gone_on rc_str_bytes (λ (f : NodeField). shape_at (table_of c.args.self.now) f.shape) (referred c.args.self.now) (λ (_ : Shape). Unit {0}) c.args.fields.now.entries l.name-iterator c.next.new.self l.properties.entries c.insert.new.self.entries f c.in_ok-key.key c.in_ok-refer.field-0 l.invariant.writes c.in-Some.ensures.steps c.iter-name-items.ensures.ordered (c.in_ok-key.ensures.ok ∙ c.deref.ensures.value) c.in_ok-refer.ensures.written tt c.in_ok-insert.ensures.entries;
      below = (below_next_field (length c.args.self.now.shapes.now) l.name-iterator c.next.new.self f c.in-Some.ensures.steps l.invariant.below).1;
    }

pub returns : goal.returns
returns c =
    let l = c.loop-name in
    record { written = all_written rc_str_bytes (λ (f : NodeField). shape_at (table_of c.args.self.now) f.shape) (referred c.args.self.now) (λ (_ : Shape). Unit {0}) c.args.fields.now.entries l.name-iterator l.properties.entries l.invariant.writes c.in-None.ensures.steps.0 ∙ fields_referred _ (table_of c.args.self.now) c.args.fields.now.entries }
