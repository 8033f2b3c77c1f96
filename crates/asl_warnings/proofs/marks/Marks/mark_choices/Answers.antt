use Rattle.asl_warnings.specs.Led.{chosen_by}
use Rattle.asl_warnings.proofs.Added.{adds-item}
use Rattle.asl_warnings.proofs.marks.Marks.mark_choices.Goals as goal

pub loop-choice-preserved : goal.loop-choice-preserved
loop-choice-preserved c =
    adds-item chosen_by c.args.self.now c.loop-choice.self c.mark.new.self c.args.choices.now c.loop-choice.choice-index c.choice-item.result c.loop-choice-test.true c.choice-item.is c.loop-choice.invariant c.in_ok-mark.ensures
