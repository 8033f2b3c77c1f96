use Rattle.std.proofs.Common.{◌∙◌, sym, to_z-of_z, rules}
use Rattle.asl_intrinsic.proofs.Meanings.{false_word, null_word, number_word, true_word}
use Rattle.asl_intrinsic.proofs.words.word_of.Goals as goal

pub returns-in-null : goal.returns-in-null
returns-in-null c = null_word c.args.word.now c.in-null.is

pub returns-in-true : goal.returns-in-true
returns-in-true c = true_word c.args.word.now c.in-true.is

pub returns-in-false : goal.returns-in-false
returns-in-false c = false_word c.args.word.now c.in-false.is

pub returns-in_ok-number_of-in_default : goal.returns-in_ok-number_of-in_default
returns-in_ok-number_of-in_default c =
    number_word c.args.word.now c.in_ok-number_of-in_default.field-0 _ c.in_default.not-null c.in_default.not-true c.in_default.not-false (sym c.number_of.ensures ∙ c.in_ok-number_of-in_default.was) (search (rules, to_z-of_z))
