use Rattle.asl_numbered.specs.Laws.{keeps_trans}
use Rattle.asl_check.proofs.Adding.{rule_shown, rule_within}
use Rattle.asl_check.proofs.Notes.{one_noted}
use Rattle.asl_check.proofs.noting.note_first.Goals as goal

pub note-requires : goal.note-requires
note-requires c = record { below = rule_within c.args.shapes.now c.loop-rule.shapes c.args.rules.now c.loop-rule.rule-index _ c.rule-item.is c.loop-rule.invariant.keeps c.loop-rule-test.true c.requires.below }

pub loop-rule-preserved : goal.loop-rule-preserved
loop-rule-preserved c =
    let a = c.args.shapes.now in
    let l = c.loop-rule in
    let rules = c.args.rules.now in
    let within = c.loop-rule-test.true in
    record {
      keeps = keeps_trans _ _ _ l.invariant.keeps c.in_ok-note.ensures.keeps;
      left = one_noted a rules _ _ l.rule-index c.rule-item.result within c.rule-item.is l.invariant.left (rw (rule_shown a l.shapes rules l.rule-index c.rule-item.result c.rule-item.is l.invariant.keeps within c.requires.below) at c.in_ok-note.ensures.noted);
    }
