use Rattle.asl_records.proofs.Writings.{shapes_written}
use Rattle.asl_records.proofs.writing.write_shapes.Goals as goal

pub returns-clause-written : goal.returns-clause-written
returns-clause-written c =
    shapes_written c.loop-shape.elements.items c.args.shapes.now.items c.deref-shape-items.result.now c.loop-shape.shape-index c.deref-shape-items.ensures.value c.loop-shape-test.false c.loop-shape.invariant.0
