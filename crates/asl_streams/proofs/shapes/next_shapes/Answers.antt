use Rattle.std.proofs.Common.{◌≡◌, ◌∷◌, arith, refl}
use Rattle.std.proofs.lemmas.Result.{IfOk-weaker}
use Rattle.json.specs.Token.{Token}
use Rattle.serde_json.specs.Data.{array, no_items}
use Rattle.asl_streams.specs.Shaped.{in_front}
use Rattle.asl_streams.proofs.Opened.{array_opened}
use Rattle.asl_streams.proofs.shapes.next_shapes.Goals as goal

pub returns-clause-numbers : goal.returns-clause-numbers
returns-clause-numbers c =
    let is : c.args.tokens.now ≡ Token.begin_array ∷ c.next.new.self = grind arith in
    IfOk-weaker c.next_elements.result _ _ (λ ns read. record {
      stated = array (in_front read.found no_items);
      spelled = array_opened c.args.levels c.args.tokens.now c.next.new.self c.next_elements.new.tokens (in_front read.found no_items) (omega arith) is read.spelled;
      read = record { found = read.found; is = refl; elements = read.elements; whole = read.whole; each = read.each };
    }) c.next_elements.ensures.numbers
