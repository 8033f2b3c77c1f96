use Rattle.asl_model.proofs.ReadingLaws.{definition_or_fault, declared_or_fault, certificate_or_fault, stands_or_complains, spells_or_has_fault, spells_or_has_fault_v1}
use Rattle.asl_model.proofs.reading_laws.texts_have_a_meaning_or_a_fault.Goals as goal

pub returns : goal.returns
returns c = record { machine = definition_or_fault; declared = declared_or_fault; certificate = certificate_or_fault; value = stands_or_complains; shape = spells_or_has_fault; shape_v1 = spells_or_has_fault_v1 }
