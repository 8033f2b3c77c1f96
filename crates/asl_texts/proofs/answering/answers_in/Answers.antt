use Rattle.std.proofs.Common.{ap, sym, ◌∙◌, option_map}
use Rattle.asl_run.specs.Entries.{answer_view}
use Rattle.asl_texts.proofs.Replies.{gone_on}
use Rattle.asl_texts.proofs.answering.answers_in.Goals as goal

pub loop-element-preserved : goal.loop-element-preserved
loop-element-preserved c =
    let is_answer = ap (option_map answer_view) (sym c.in-Some-2.is) ∙ c.in_ok-answer.ensures.exactly in
    gone_on c.args.elements.items c.loop-element.element-iterator.rest.items c.next.new.self.rest.items c.loop-element.answers.items c.push.new.self.items c.in-Some.element c.in-Some-2.answer
    c.loop-element.invariant c.in-Some.ensures.steps.0 is_answer c.in_ok-push-in-Some-2.ensures.items
