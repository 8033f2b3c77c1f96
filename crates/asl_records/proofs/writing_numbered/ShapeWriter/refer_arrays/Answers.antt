use Rattle.asl_records.specs.WritingNumbered.{listed_by, table_of}
use Rattle.asl_records.proofs.References.{arrays_written}
use Rattle.asl_records.proofs.writing_numbered.ShapeWriter.refer_arrays.Goals as goal

pub returns-clause-written : goal.returns-clause-written
returns-clause-written c = λ others.
    let w = c.args.self.now in
    let arrays = c.in-Some.arrays in
    let prefix = c.in_ok-prefix_items in
    let items = c.in_ok-items in
    rw c.in-Some.is (arrays_written (listed_by w) (table_of w) arrays.first.now arrays.rest prefix.prefix_items.items items.items prefix.ensures.written items.ensures.some items.ensures.written others)
