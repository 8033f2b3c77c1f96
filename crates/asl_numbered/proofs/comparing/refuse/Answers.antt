use Rattle.std.proofs.Common.{subst, sym}
use Rattle.asl_numbered.specs.Comparison.{AreRight}
use Rattle.asl_numbered.proofs.Comparisons.{none_concluded, comparison_passed, next_task}
use Rattle.asl_numbered.proofs.comparing.refuse.Goals as goal
use Rattle.asl_numbered.proofs.comparing.refuse.Goals.{in-Compare, in-Conclude+in_ok-remember-in-Conclude}

pub returns-in_err-remember-in-Conclude : goal.returns-in_err-remember-in-Conclude
returns-in_err-remember-in-Conclude c = record {
  right = λ table outside right.
      let now = c.loop-task.invariant table outside right in
      let last = none_concluded table _ _ c.in-Conclude.pair (next_task c.args.tasks.now c.loop-task.task-index _ _ c.loop-task-test.true c.in-Conclude.is) now.1 in
      c.in_err-remember-in-Conclude.ensures.right table last.0 last.1 now.0;
}

pub loop-task-preserved : goal.loop-task-preserved
loop-task-preserved c =
    elim c.match-task.branch [
      | in-Compare w ↦ λ table outside right.
          let now = c.loop-task.invariant table outside right in (
            subst (λ m. AreRight table m.entries) (sym w.compared-is) now.0,
            comparison_passed table _ _ w.in-Compare.field-0 (next_task c.args.tasks.now c.loop-task.task-index _ _ c.loop-task-test.true w.in-Compare.is) now.1,
          )
      | in-Conclude+in_ok-remember-in-Conclude w ↦ λ table outside right.
          let now = c.loop-task.invariant table outside right in
          let last = none_concluded table _ _ w.in-Conclude.pair (next_task c.args.tasks.now c.loop-task.task-index _ _ c.loop-task-test.true w.in-Conclude.is) now.1 in (
            subst (λ m. AreRight table m.entries) (sym w.compared-is) (w.in_ok-remember-in-Conclude.ensures.right table last.0 last.1 now.0),
            last.2,
          )
    ]

pub returns : goal.returns
returns c = record {
  right = λ table outside right. (c.loop-task.invariant table outside right).0;
}
