use Rattle.std.proofs.Common.{◌≡◌, ◌∷◌, arith, refl}
use Rattle.std.proofs.lemmas.Result.{IfOk-weaker}
use Rattle.json.specs.Token.{Token}
use Rattle.serde_json.specs.Data.{object}
use Rattle.asl_streams.proofs.Opened.{object_opened}
use Rattle.asl_streams.proofs.declarations.next_tasks.Goals as goal

pub returns-clause-tasks : goal.returns-clause-tasks
returns-clause-tasks c =
    let is : c.args.tokens.now ≡ Token.begin_object ∷ c.next.new.self = grind arith in
    IfOk-weaker c.next_entries.result _ _ (λ it read. record {
      stated = object read.found;
      read = record { found = read.found; is = refl; are = read.are };
      spelled = object_opened c.args.levels c.args.tokens.now c.next.new.self c.next_entries.new.tokens read.found (omega arith) is read.spelled;
    }) c.next_entries.ensures.tasks
