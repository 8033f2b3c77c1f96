use Rattle.std.proofs.Common.{◌≡◌, ◌∷◌, codes, length, sym, ap, subst, arith, refl}
use Rattle.json.specs.Token.{Token}
use Rattle.serde_json.specs.Data.{object}
use Rattle.serde_json.specs.Find.{get_member}
use Rattle.asl_model.specs.Tree.{Object}
use Rattle.asl_numbered.specs.References.{numbers_given}
use Rattle.asl_records.specs.Listed.{IsReading}
use Rattle.asl_records.specs.Parts.{reading_of, trees_there}
use Rattle.asl_streams.proofs.Fielded.{given_means, given_there}
use Rattle.asl_streams.proofs.Opened.{object_opened, object_tree}
use Rattle.asl_streams.proofs.PutFields.{states_put}
use Rattle.asl_streams.proofs.fields.Fields.read_states.Goals as goal

pub returns-clause-read : goal.returns-clause-read
returns-clause-read c =
    let opened : c.args.tokens.now ≡ Token.begin_object ∷ c.next.new.self = grind arith in
    let read = c.in_ok-next_states.ensures.states in
    let old = c.args.self.now in
    record {
      value = object read.found;
      spelled = object_opened 126 c.args.tokens.now c.next.new.self c.next_states.new.tokens read.found (omega arith) opened read.spelled;
      are = λ found are.
          let trees = trees_there (get_member (codes "shapes") found) in
          let means = given_means c.args.several c.args.shapes.now found old c.reader-reader.result.listed c.reader-reader.ensures.listed are in
          let so = subst (λ b. IsReading b c.args.shapes.now (numbers_given c.reader-reader.result.listed) (reading_of c.args.several trees)) (sym c.reader-reader.ensures.several) means in
          states_put c.args.several found old c.args.shapes.now c.next_states.new.shapes (object read.found) (Object read.fields) c.in_ok-next_states.field-0 c.in_ok-next_states.ensures.keeps (object_tree read.found read.fields read.whole)
          (record { found = read.found; is = refl; right = read.right.each (reading_of c.args.several trees) so; same = read.same.each (reading_of c.args.several trees) so }) are;
    }

pub returns-clause-shorter : goal.returns-clause-shorter
returns-clause-shorter c =
    let opened : c.args.tokens.now ≡ Token.begin_object ∷ c.next.new.self = grind arith in
    let shorter = c.in_ok-next_states.ensures.shorter in
    omega (arith, ap length opened, shorter)

pub next_states-requires : goal.next_states-requires
next_states-requires c = record { listed = given_there c.args.shapes.now c.args.self.now c.reader-reader.result.listed c.reader-reader.ensures.listed c.requires.listed }
