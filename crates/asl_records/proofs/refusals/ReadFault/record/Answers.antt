use Rattle.asl_records.proofs.Telling.{recorded}
use Rattle.asl_records.proofs.refusals.ReadFault.record.Goals as goal

pub returns-in-Ok-Ok : goal.returns-in-Ok-Ok
returns-in-Ok-Ok c = λ f shown.
    recorded c.args.fault f c.in-Ok-Ok.name c.in-Ok-Ok.field c.args.name.now c.args.field.now shown c.in-Ok-Ok.ensures.ok c.in-Ok-Ok.ensures'.ok
