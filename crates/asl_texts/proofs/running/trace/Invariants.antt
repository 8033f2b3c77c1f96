use Rattle.std.proofs.Common.{◌≡◌, ℕ, List, None}
use Rattle.asl_machine_table.specs.Table.{scope_in}
use Rattle.asl_model.specs.Run.{Action, outcome_of}
use Rattle.asl_model.specs.Tree.{Tree}
use Rattle.asl_run.specs.Driving.{policy_of}
use Rattle.asl_run.specs.Running.{run_view}
use Rattle.asl_trace.specs.Lines.{lines_text}
use Rattle.asl_tree.specs.View.{view}
use Rattle.asl_texts.specs.Tracing.{begun}
use Rattle.asl_texts.proofs.Stepwise.{Written}
use Rattle.asl_texts.proofs.running.trace.Given as goal

-- the steps so far have driven the run, and what happened is written
abbrev pub invariant-steps : goal.invariant-steps
invariant-steps g l = record {
  machine : l.run.machine ≡ l.machine;
  written : Written (policy_of (g.O.Order.may_pick l.fn.order) (g.A.Answers.may_give l.fn.answers) (g.A.Answers.may_be_silent l.fn.answers l.answers)) (scope_in l.machine) l._taken
      (begun (scope_in l.machine) (view l.fn.input) (g.A.Answers.content l.fn.answers)) (lines_text l.lines) (run_view l.run) (g.A.Answers.content l.answers);
  goes_on : outcome_of (run_view l.run) ≡ None;
  lasting_order : (n k : ℕ) → g.O.Order.may_pick l.order n k → g.O.Order.may_pick l.fn.order n k;
  lasting : (n : List ℕ) (t : Tree) (answer : Action) → g.A.Answers.may_give l.answers n t answer → g.A.Answers.may_give l.fn.answers n t answer;
  lasting_silent : (later : g.row.A.Denot) (n : List ℕ) (t : Tree) → g.A.Answers.may_be_silent l.answers later n t → g.A.Answers.may_be_silent l.fn.answers later n t;
}
