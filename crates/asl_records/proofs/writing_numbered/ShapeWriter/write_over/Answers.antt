use Rattle.std.proofs.Common.{length}
use Rattle.asl_records.specs.WritingNumbered.{table_of}
use Rattle.asl_records.proofs.References.{arrays_within, objects_within}
use Rattle.asl_records.proofs.writing_numbered.ShapeWriter.write_over.Goals as goal

pub refer_arrays-requires-clause-below : goal.refer_arrays-requires-clause-below
refer_arrays-requires-clause-below c =
    let w = c.args.self.now in
    arrays_within (table_of w) (length w.shapes.now) c.args.number c.in-Some.kinds.arrays c.requires.below c.in-Some.ensures.within.arrays

pub refer_objects-requires-clause-below : goal.refer_objects-requires-clause-below
refer_objects-requires-clause-below c =
    let w = c.args.self.now in
    objects_within (table_of w) (length w.shapes.now) c.args.number c.in-Some.kinds.objects c.requires.below c.in-Some.ensures.within.objects
