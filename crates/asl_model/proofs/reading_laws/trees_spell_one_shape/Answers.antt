use Rattle.asl_model.proofs.ReadingLaws.{shape_is_one, shape_has_no_fault, shape_is_one_v1, shape_has_no_fault_v1}
use Rattle.asl_model.proofs.reading_laws.trees_spell_one_shape.Goals as goal

pub returns : goal.returns
returns c = record { shape = shape_is_one; no_fault = shape_has_no_fault; shape_v1 = shape_is_one_v1; no_fault_v1 = shape_has_no_fault_v1 }
