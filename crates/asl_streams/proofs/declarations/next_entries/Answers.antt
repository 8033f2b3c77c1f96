use Rattle.std.proofs.Common.{◌≡◌, Some, None, arith}
use Rattle.json.specs.Json.{read_key}
use Rattle.asl_streams.proofs.Declaring.{tasks_begun, tasks_gone_on, tasks_over}
use Rattle.asl_streams.proofs.declarations.next_entries.Goals as goal

pub tasks-init : goal.tasks-init
tasks-init c = tasks_begun c.args.levels c.args.tokens.now c.new-tasks.result.entries c.new-tasks.ensures.empty

pub tasks-preserved : goal.tasks-preserved
tasks-preserved c =
    let l = c.tasks in
    let k = c.in-Ok-Some.name.now in
    let s = c.next_key.new.self in
    let named : read_key l.tokens ≡ Some (Some k, s) = grind arith in
    let name = c.in_ok-name-in-Ok-Some in
    let read = c.in_ok-task-in-Ok-Some.ensures in
    tasks_gone_on c.args.levels c.args.tokens.now l.tokens s c.next_task.new.tokens k l.tasks.entries c.insert.new.self.entries name.name c.in_ok-task-in-Ok-Some.task named read.task read.shorter name.ensures.ok c.in_ok-insert-in-Ok-Some.ensures.entries l.invariant

pub returns-in-Ok-None-clause-tasks : goal.returns-in-Ok-None-clause-tasks
returns-in-Ok-None-clause-tasks c =
    let l = c.tasks in
    let s = c.next_key.new.self in
    let ended : read_key l.tokens ≡ Some (None, s) = grind arith in
    tasks_over c.args.levels c.args.tokens.now l.tokens s l.tasks.entries ended l.invariant
