use Rattle.asl_records.specs.WritingNumbered.{referred, table_of}
use Rattle.asl_records.proofs.References.{numbers_written}
use Rattle.asl_records.proofs.writing_numbered.ShapeWriter.refer_all.Goals as goal

pub returns : goal.returns
returns c =
    let l = c.loop-number in
    record { written = numbers_written (referred c.args.self.now) (table_of c.args.self.now) l.elements.items c.args.numbers.now l.number-index c.loop-number-test.false l.invariant.written }
