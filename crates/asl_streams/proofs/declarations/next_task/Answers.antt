use Rattle.std.proofs.Common.{◌≡◌, ◌∷◌, arith}
use Rattle.std.proofs.lemmas.Result.{IfOk-weaker}
use Rattle.json.specs.Token.{Token}
use Rattle.asl_streams.proofs.Opened.{object_opened}
use Rattle.asl_streams.proofs.declarations.next_task.Goals as goal

pub returns-clause-task : goal.returns-clause-task
returns-clause-task c =
    let is : c.args.tokens.now ≡ Token.begin_object ∷ c.next.new.self = grind arith in
    IfOk-weaker c.next_task_parts.result _ _ (λ it read. record {
      found = read.found;
      task = read.task;
      are = read.are;
      theirs = read.theirs;
      spelled = object_opened c.args.levels c.args.tokens.now c.next.new.self c.next_task_parts.new.tokens read.found (omega arith) is read.spelled;
    }) c.next_task_parts.ensures.task
