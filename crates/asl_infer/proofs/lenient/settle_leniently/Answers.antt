use Rattle.asl_records.specs.Numbered.{numbered_view}
use Rattle.asl_drafts.specs.Drafted.{draft_view}
use Rattle.asl_infer.proofs.LenientAnswers.{none-answers, settled-answers}
use Rattle.asl_infer.proofs.lenient.settle_leniently.Goals as goal

pub returns-then-is_settled-clause-answers : goal.returns-then-is_settled-clause-answers
returns-then-is_settled-clause-answers c = settled-answers c.args.machine.now c.args.declared.now _ c.in_ok-given.given c.in_ok-given.ensures.given c.args.max_rounds c.take_rounds-came_to.result (draft_view c.take_rounds-came_to.new.walker.draft) (numbered_view c.in_ok-certificate.field-0) (c.in_ok-is_settled.ensures.did c.if-is_settled.true) c.take_rounds-came_to.ensures.settled c.in_ok-certificate.ensures.same

pub returns-clause-answers : goal.returns-clause-answers
returns-clause-answers c = none-answers c.args.machine.now c.args.declared.now _ c.in_ok-given.given c.in_ok-given.ensures.given c.args.max_rounds c.take_rounds-came_to.result (c.in_ok-is_settled.ensures.ended c.if-is_settled.false) c.take_rounds-came_to.ensures.told
