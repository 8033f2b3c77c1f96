use Rattle.asl_model.proofs.ReadingAnswers.{text_has_one_list, answers_have_no_fault, answers_or_fault}
use Rattle.asl_model.proofs.reading_laws.texts_have_one_list_of_answers.Goals as goal

pub returns : goal.returns
returns c = record { one = text_has_one_list; no_fault = answers_have_no_fault; either = answers_or_fault }
