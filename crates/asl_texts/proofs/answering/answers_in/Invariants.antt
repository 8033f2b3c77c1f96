use Rattle.asl_texts.proofs.Replies.{ReadsAnswers}
use Rattle.asl_texts.proofs.answering.answers_in.Given as goal

abbrev pub invariant-loop-element : goal.invariant-loop-element
invariant-loop-element l = ReadsAnswers l.fn.elements.items l.element-iterator.rest.items l.answers.items
