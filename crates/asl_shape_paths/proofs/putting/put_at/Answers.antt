use Rattle.asl_shape_paths.proofs.Puts.{own_answer}
use Rattle.asl_shape_paths.proofs.putting.put_at.Goals as goal

pub returns-clause-number : goal.returns-clause-number
returns-clause-number c = own_answer c.put_segments-answer.new.shapes _ c.put_segments-answer.result c.are_distinct.ensures.distinct c.put_segments-answer.ensures.answers
