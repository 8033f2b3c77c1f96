use Rattle.asl_records.proofs.References.{place_fits}
use Rattle.asl_records.proofs.writing_numbered.ShapeWriter.refer.Goals as goal

pub write_reference-requires : goal.write_reference-requires
write_reference-requires c =
    record { place = place_fits c.args.self.now.shapes.now c.args.self.now.listing.now c.requires.ready.placed c.args.number c.requires.below c.index.result.now c.index.ensures c.in-Some.place c.in-Some.is }
