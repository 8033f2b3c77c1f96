use Rattle.std.proofs.Common.{Bor, List, refl, sym, map, option_map, subst}
use Rattle.std.proofs.lemmas.Result.{IfOk-weaker}
use Rattle.asl_machine_table.specs.Table.{scope_in}
use Rattle.asl_records.specs.View.{declared_view}
use Rattle.asl_records.specs.declared.records.Declared.{Declared}
use Rattle.asl_run.specs.Entries.{entry_view}
use Rattle.asl_run.specs.declared.entries.Entry as code
use Rattle.asl_suites.specs.View.{answers_under}
use Rattle.asl_tree.specs.View.{view}
use Rattle.asl_cases.specs.Playing.{ComesTo, case_of, input_misfits, is_run}
use Rattle.asl_cases.specs.declared.playing.End.TheVariants as ends
use Rattle.asl_cases.proofs.playing.play.Goals as goal

pub returns-then-fits_input : goal.returns-then-fits_input
returns-then-fits_input c = IfOk-weaker c.play_run.result _ _ (λ played run. is_run (sym c.if-fits_input.ensures) run) c.play_run.ensures

pub returns-else-fits_input : goal.returns-else-fits_input
returns-else-fits_input c =
    let shapes = option_map (λ (d : Bor Declared). declared_view d.now) c.args.declared in
    let answers = answers_under c.args.answers.now in
    let given = case_of (scope_in c.args.machine.now) shapes (view c.args.input) answers in
    subst (λ (es : List code.Entry). ComesTo given c.args.max_steps (ends.InputShape c.args.input) (map entry_view es) answers) (sym c.new.ensures.items) (input_misfits refl (sym c.if-fits_input.ensures) (λ n. refl))
