use Rattle.std.proofs.Common.{◌≡◌, ◌∷◌, length, sym, ap, ◌∙◌, arith, refl}
use Rattle.json.specs.Token.{Token}
use Rattle.serde_json.specs.Data.{array}
use Rattle.asl_model.specs.Tree.{Array}
use Rattle.asl_streams.proofs.Opened.{array_opened, array_tree}
use Rattle.asl_streams.proofs.PutFields.{none_read, shapes_put}
use Rattle.asl_streams.proofs.fields.Fields.read_shapes.Goals as goal

pub returns-clause-read : goal.returns-clause-read
returns-clause-read c =
    let opened : c.args.tokens.now ≡ Token.begin_array ∷ c.next.new.self = grind arith in
    let read = c.in_ok-next_listed.ensures.listed in
    let unstated = none_read c.args.self.now.states (sym c.is_some.ensures ∙ c.if-is_some.false) in
    let unlisted = none_read c.args.self.now.listed (sym c.is_some-else-is_some.ensures ∙ c.if-is_some-2.false) in
    record {
      value = array read.found;
      spelled = array_opened 126 c.args.tokens.now c.next.new.self c.next_listed.new.tokens read.found (omega arith) opened read.spelled;
      are = λ found are. shapes_put c.args.several found c.args.self.now c.args.shapes.now c.next_listed.new.shapes (array read.found) (Array read.elements) c.in_ok-next_listed.field-0 c.in_ok-next_listed.ensures.keeps unstated unlisted (array_tree read.found read.elements read.whole)
          (record { found = read.found; is = refl; right = read.right; meant = read.meant; below = read.below }) are;
    }

pub returns-clause-shorter : goal.returns-clause-shorter
returns-clause-shorter c =
    let opened : c.args.tokens.now ≡ Token.begin_array ∷ c.next.new.self = grind arith in
    let shorter = c.in_ok-next_listed.ensures.shorter in
    omega (arith, ap length opened, shorter)
