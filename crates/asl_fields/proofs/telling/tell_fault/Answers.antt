use Rattle.asl_model.specs.StandsFor.{complaint_at}
use Rattle.asl_fields.specs.Verdicts.{IsMisfit, place_view}
use Rattle.asl_fields.proofs.Told.{fault_told}
use Rattle.asl_fields.proofs.telling.tell_fault.Goals as goal

pub returns : goal.returns
returns c =
    fault_told c.tell_found.result c.args.told.now.items c.tell_found.new.told.items c.told.result (λ faults. IsMisfit faults c.args.found) (complaint_at (place_view c.args.place.now) c.args.field.now) c.tell_found.ensures c.told.ensures
