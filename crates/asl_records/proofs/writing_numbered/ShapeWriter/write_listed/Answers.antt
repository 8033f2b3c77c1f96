use Rattle.std.proofs.Common.{◌≤◌, length, subst}
use Rattle.asl_records.specs.WritingNumbered.{spelled_over, table_of}
use Rattle.asl_records.proofs.References.{numbers_written}
use Rattle.asl_records.proofs.writing_numbered.ShapeWriter.write_listed.Goals as goal

pub returns : goal.returns
returns c =
    let l = c.loop-number in
    let end = subst (λ ns. length ns ≤ l.number-index) c.deref-number-items.ensures.value c.loop-number-test.false in
    record { written = numbers_written (spelled_over c.args.self.now) (table_of c.args.self.now) l.elements.items c.args.self.now.listing.now.order.items l.number-index end l.invariant.written }
