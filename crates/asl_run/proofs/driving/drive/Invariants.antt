use Rattle.std.proofs.Common.{◌≡◌, ℕ, List, [], map}
use Rattle.asl_model.specs.Run.{Action}
use Rattle.asl_model.specs.Tree.{Tree}
use Rattle.asl_run.specs.Driving.{Drives, policy_of, stage_of}
use Rattle.asl_run.specs.Entries.{entry_view}
use Rattle.asl_run.specs.Running.{run_view, scope_of}
use Rattle.asl_run.proofs.driving.drive.Given as goal

-- the turns so far have driven the run
abbrev pub invariant-turns : goal.invariant-turns
invariant-turns g l = record {
  machine : l.run.machine ≡ l.fn.run.machine;
  drives : Drives (policy_of (g.O.Order.may_pick l.fn.order) (g.A.Answers.may_give l.fn.answers) (g.A.Answers.may_be_silent l.fn.answers l.answers)) (scope_of l.fn.run) l._taken
      (stage_of (run_view l.fn.run) (g.A.Answers.content l.fn.answers) []) (stage_of (run_view l.run) (g.A.Answers.content l.answers) (map entry_view l.trace.items));
  lasting_order : (n k : ℕ) → g.O.Order.may_pick l.order n k → g.O.Order.may_pick l.fn.order n k;
  lasting : (n : List ℕ) (t : Tree) (answer : Action) → g.A.Answers.may_give l.answers n t answer → g.A.Answers.may_give l.fn.answers n t answer;
  lasting_silent : (later : g.row.A.Denot) (n : List ℕ) (t : Tree) → g.A.Answers.may_be_silent l.answers later n t → g.A.Answers.may_be_silent l.fn.answers later n t;
}
