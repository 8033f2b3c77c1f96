use Rattle.asl_model.proofs.WellNamed.{well_named}
use Rattle.asl_model.proofs.reading_laws.machines_as_read_lead_inside.Goals as goal

pub returns : goal.returns
returns c = record {
  value = λ v m stands. (well_named v m stands).leads;
  text = λ text m reads. (well_named reads.value m reads.stands).leads;
}
