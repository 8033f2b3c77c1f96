use Rattle.std.proofs.Common.{◌≡◌, Bor, None, map, option_map}
use Rattle.asl_machine_table.specs.Table.{scope_in}
use Rattle.asl_model.specs.Run.{outcome_of}
use Rattle.asl_records.specs.View.{declared_view}
use Rattle.asl_records.specs.declared.records.Declared.{Declared}
use Rattle.asl_run.specs.Entries.{entry_view}
use Rattle.asl_run.specs.Running.{run_view}
use Rattle.asl_suites.specs.View.{answers_under}
use Rattle.asl_tree.specs.View.{view}
use Rattle.asl_cases.specs.Playing.{Plays, begun, case_of, stage_of}
use Rattle.asl_cases.proofs.playing.play_run.Given as goal

-- the steps so far have played the case, and its run goes on
abbrev pub invariant-steps : goal.invariant-steps
invariant-steps l = record {
  machine : l.run.machine ≡ l.machine;
  plays : Plays (scope_in l.machine) (option_map (λ (d : Bor Declared). declared_view d.now) l.fn.declared) l._taken
      (begun (case_of (scope_in l.machine) (option_map (λ (d : Bor Declared). declared_view d.now) l.fn.declared) (view l.fn.input) (answers_under l.fn.answers)))
      (stage_of (run_view l.run) (answers_under l.answers) (map entry_view l.trace.items));
  goes_on : outcome_of (run_view l.run) ≡ None;
}
