use Rattle.std.proofs.Common.{◌≡◌, Some, None, arith}
use Rattle.std.proofs.lemmas.Result.{IfOk-weaker}
use Rattle.json.specs.Json.{read_key}
use Rattle.asl_streams.proofs.Declaring.{task_begun, task_gone_on, task_over}
use Rattle.asl_streams.proofs.declarations.next_task_parts.Goals as goal

pub parts-init : goal.parts-init
parts-init c = task_begun c.args.levels c.args.tokens.now

pub parts-preserved : goal.parts-preserved
parts-preserved c =
    let l = c.parts in
    let k = c.in-Ok-Some.name.now in
    let s = c.next_key.new.self in
    let named : read_key l.tokens ≡ Some (Some k, s) = grind arith in
    let read = c.in_ok-read_next-in-Ok-Some.ensures in
    task_gone_on c.args.levels c.args.tokens.now l.tokens s c.read_next.new.tokens k l.task c.read_next.new.self named read.read read.shorter l.invariant

pub returns-in-Ok-None-clause-task : goal.returns-in-Ok-None-clause-task
returns-in-Ok-None-clause-task c =
    let l = c.parts in
    let s = c.next_key.new.self in
    let ended : read_key l.tokens ≡ Some (None, s) = grind arith in
    IfOk-weaker c.shapes.result _ _ (λ shapes theirs. task_over c.args.levels c.args.tokens.now l.tokens s l.task shapes ended theirs l.invariant) c.shapes.ensures.theirs
