use Rattle.std.proofs.Common.{◌≡◌, ◌∷◌, ap, ◌∙◌, arith, rules}
use Rattle.std.proofs.lemmas.Result.{IfOk-weaker}
use Rattle.json.specs.Json.{value}
use Rattle.json.specs.Token.{Token}
use Rattle.json.proofs.Grammar.{value_is}
use Rattle.serde_json.specs.Read.{converted}
use Rattle.asl_model.specs.Tree as model
use Rattle.asl_numbered.specs.References.{shapes_given}
use Rattle.asl_tree.proofs.Parsed.{object_opened}
use Rattle.asl_tree.specs.Parsed.{spelled}
use Rattle.asl_tree.specs.View.{view}
use Rattle.asl_tree.specs.declared.Tree.{Bool as Truth, the_lemmas}
use Rattle.asl_streams.proofs.outputs.next_output.Goals as goal

pub returns-in-Some-Bool-clause-output : goal.returns-in-Some-Bool-clause-output
returns-in-Some-Bool-clause-output c =
    let b = c.in-Some-Bool.all in
    let is : c.args.tokens.now ≡ Token.boolean b ∷ c.next.new.self = grind arith in
    let seen : view (Truth b) ≡ model.Boolean b = search (rules, the_lemmas) in
    record { tree = model.Boolean b; spelled = ap (converted spelled) (ap (value c.args.levels) is ∙ value_is c.args.levels _); is = seen }

pub returns-in_ok-spelling-in-Some-BeginObject-clause-output : goal.returns-in_ok-spelling-in-Some-BeginObject-clause-output
returns-in_ok-spelling-in-Some-BeginObject-clause-output c =
    let is : c.args.tokens.now ≡ Token.begin_object ∷ c.next.new.self = grind arith in
    let read = c.in_ok-spelling-in-Some-BeginObject.ensures.spelling in
    IfOk-weaker c.output.result _ _ (λ output shows. record {
      tree = model.Object read.fields;
      spelled = ap (λ ts. converted spelled (value c.args.levels ts)) is ∙ object_opened c.args.levels c.next.new.self c.next_spelling.new.tokens read.fields (omega arith) read.spelled;
      is = shows;
    }) (c.output.ensures.output (shapes_given c.args.shapes.now c.args.reader.listed) read.fields read.are)
