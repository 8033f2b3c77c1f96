use Rattle.std.proofs.Common.{◌≡◌, ◌∷◌, [], arith, sym, ◌∙◌, subst, None}
use Rattle.std.proofs.lemmas.Result.{IfOk-weaker}
use Rattle.json.specs.Lex.{tokens}
use Rattle.json.specs.Token.{Token}
use Rattle.serde_json.specs.Data.{object}
use Rattle.asl_streams.proofs.Fielded.{whole_read}
use Rattle.asl_streams.proofs.PutFields.{none_read}
use Rattle.asl_streams.specs.Streamed.{SpellMembers}
use Rattle.asl_streams.proofs.declarations.read_declared_tokens.Goals as goal

pub returns : goal.returns
returns c =
    let read = c.in_ok-declared.ensures in
    let opened : tokens c.args.text.now ≡ Token.begin_object ∷ c.next.new.self = grind arith in
    let none : c.next-2.result ≡ None = none_read c.next-2.result (sym c.is_some.ensures ∙ c.if-is_some.false) in
    let ended : c.next_declarations.new.tokens ≡ [] = grind arith in
    let whole = whole_read c.args.text.now c.next.new.self read.found opened (subst (λ left. SpellMembers 126 c.next.new.self left read.found) ended read.spelled) in
    IfOk-weaker c.whole.result _ _ (λ declared stands. (object read.found, whole, stands)) (c.whole.ensures read.found read.are)
