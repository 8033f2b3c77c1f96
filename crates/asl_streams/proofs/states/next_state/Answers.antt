use Rattle.std.proofs.Common.{◌≡◌, ◌∷◌, arith}
use Rattle.std.proofs.lemmas.Result.{IfOk-weaker}
use Rattle.json.specs.Token.{Token}
use Rattle.asl_streams.proofs.Opened.{object_opened}
use Rattle.asl_streams.proofs.states.next_state.Goals as goal

pub returns-clause-state : goal.returns-clause-state
returns-clause-state c =
    let is : c.args.tokens.now ≡ Token.begin_object ∷ c.next.new.self = grind arith in
    IfOk-weaker c.next_parts.result _ _ (λ state read. record {
      found = read.found;
      spelled = object_opened c.args.levels c.args.tokens.now c.next.new.self c.next_parts.new.tokens read.found (omega arith) is read.spelled;
      entry = read.entry;
      are = read.are;
      theirs = read.theirs;
    }) c.next_parts.ensures.state
