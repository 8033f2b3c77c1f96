use Rattle.std.proofs.Common.{length, get_or, String, Global}
use Rattle.asl_numbered.specs.declared.node.NodeField.{NodeField}
use Rattle.asl_drafts.specs.Depths.{told_depth_of_fields}
use Rattle.asl_numbered.specs.Expansion.{fields_at}
use Rattle.asl_numbered.specs.Laws.{below_next_field}
use Rattle.asl_drafts.proofs.Measured.{depth_at, field_deeper, greater}
use Rattle.asl_drafts.proofs.depths.deepest_field.Goals as goal
use Rattle.asl_numbered.specs.Names.{Name}

pub loop-field-preserved : goal.loop-field-preserved
loop-field-preserved c =
    let l = c.loop-field in
    let depths = c.args.depths.now in
    let f : Name × NodeField = (c.in-Some.field-0-0.now, c.in-Some.field.now) in
    let below = below_next_field (length depths) l.field-iterator c.next.new.self f c.in-Some.ensures.steps l.invariant.0 in (
      below.1,
      λ table are. rw (c.max-deepest.ensures, greater) (field_deeper table l.field-iterator c.next.new.self f l.deepest (get_or depths f.1.shape 0) (told_depth_of_fields (fields_at table c.args.fields.now.entries)) c.in-Some.ensures.steps (depth_at table depths f.1.shape are below.0) (l.invariant.1 table are)),
    )
