use Rattle.std.proofs.Common.{Bor, ◌≡◌, map, option_map, ap, subst}
use Rattle.asl_machine_table.specs.Table.{scope_in}
use Rattle.asl_records.specs.View.{declared_view}
use Rattle.asl_records.specs.declared.records.Declared.{Declared}
use Rattle.asl_run.specs.Entries.{answer_view}
use Rattle.asl_tree.specs.View.{view}
use Rattle.asl_texts.specs.Runs.{end_at, given_of}
use Rattle.asl_texts.specs.View.{run_end_view}
use Rattle.asl_texts.proofs.RunEnds.{written_run}
use Rattle.asl_texts.proofs.running.run_with.Goals as goal

pub returns : goal.returns
returns c = λ fits.
    let seen = λ (d : Bor Declared). declared_view d.now in
    let before = c.args.answers.now in
    let after = c.trace.new.answers in
    let given = given_of (scope_in c.args.machine.now) (option_map seen before.declared) (view c.args.input) (map answer_view before.list.items) in
    let spent = c.is_spent.result in
    let stop = c.in_ok-stop.stop in
    let end = run_end_view c.in_ok-end.end in
    written_run given c.args.order c.args.max_steps stop (map answer_view after.list.items) spent end c.in_ok-stop.trace.items
    fits c.is_spent.ensures c.in_ok-stop.ensures
    (subst (λ names. end ≡ end_at names spent stop) (ap (λ t. t.names) c.is_shown.ensures.shown.table) c.in_ok-end.ensures)
