use Rattle.asl_model.proofs.PathReading.{one_path}
use Rattle.asl_model.proofs.ReadingLaws.{value_is_one, tree_is_one, text_has_one_machine, text_has_one_declared, text_has_one_certificate}
use Rattle.asl_model.proofs.reading_laws.texts_have_one_meaning.Goals as goal

pub returns : goal.returns
returns c = record { value = value_is_one; tree = tree_is_one; path = one_path; machine = text_has_one_machine; declared = text_has_one_declared; certificate = text_has_one_certificate }
