use Rattle.std.proofs.Common.{codes, option_map, ap, ◌∙◌}
use Rattle.asl_model.specs.Certificate.{Certificate}
use Rattle.asl_model.specs.Finding.{StartInput, breach_unless_sub}
use Rattle.asl_numbered.specs.Expansion.{shape_at}
use Rattle.asl_machine_table.specs.Table.{table_view}
use Rattle.asl_shape.specs.View.{view}
use Rattle.asl_check.specs.Rules.{inputs_in}
use Rattle.asl_check.proofs.FlowsTold.{same_listed}
use Rattle.asl_check.proofs.Grown.{certificate_kept, checker_within}
use Rattle.asl_check.proofs.checker.Checker.broken_at_start.Goals as goal

pub broken_unless_sub-requires-clause-number : goal.broken_unless_sub-requires-clause-number
broken_unless_sub-requires-clause-number c = c.in_ok-input.ensures.number.within

pub broken_unless_sub-requires-clause-expected : goal.broken_unless_sub-requires-clause-expected
broken_unless_sub-requires-clause-expected c =
    c.input_to_compare-expected.ensures.within c.add.new.self (checker_within c.args.shapes.now c.add.new.self c.in_ok-input.ensures.keeps c.args.self.now c.requires.within)

pub returns-clause-told : goal.returns-clause-told
returns-clause-told c =
    let a = c.args.shapes.now in
    let b = c.add.new.self in
    let checker = c.args.self.now in
    let keeps = c.in_ok-input.ensures.keeps in
    let seen = c.input_to_compare-expected.ensures.seen b (checker_within a b keeps checker c.requires.within) in
    let same = certificate_kept a b keeps checker c.requires.within in
    let inputs = λ (certificate : Certificate). inputs_in (table_view checker.machine.now) certificate c.args.start.now in
    let expected = option_map (shape_at b) c.input_to_compare-expected.result in
    same_listed b c.broken_unless_sub.new.shapes c.broken_unless_sub.result _ _ c.broken_unless_sub.ensures.unchanged
    (ap (λ s. breach_unless_sub (codes "StartAt") StartInput s expected) c.in_ok-input.ensures.number.same ∙ ap (breach_unless_sub (codes "StartAt") StartInput (view checker.declared.now.input)) (seen ∙ ap inputs same))
    c.broken_unless_sub.ensures.told
