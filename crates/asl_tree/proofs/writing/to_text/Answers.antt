use Rattle.std.proofs.Common.{◌≡◌, [], ◌++◌, sym, ap, ap₂, ◌∙◌}
use Rattle.std.proofs.lemmas.Str.{IsUtf8-string_bytes}
use Rattle.json.specs.Lex.{tokens}
use Rattle.json.specs.Print.{print}
use Rattle.asl_tree.specs.View.{view}
use Rattle.asl_tree.specs.Written.{tree_tokens}
use Rattle.asl_tree.proofs.Tokens.{print_tree_tokens, reads_as_tree}
use Rattle.asl_tree.proofs.writing.to_text.Goals as goal

pub returns-clause-text : goal.returns-clause-text
returns-clause-text c =
    let t = view c.args.tree.now in
    let empty : c.write.new.writer.before ≡ [] = c.write.ensures.before ∙ c.new-writer.ensures.before ∙ c.new.ensures.items in
    let all : c.write.new.writer.tokens ≡ tree_tokens t = c.in_ok-write.ensures.tokens ∙ ap (λ ts. ts ++ tree_tokens t) c.new-writer.ensures.tokens in
    ap (λ v. v.items) c.in-Ok.ensures.ok ∙ c.into_inner.ensures.items ∙ ap₂ (λ b ts. b ++ print ts) empty all ∙ print_tree_tokens t

pub returns-clause-reads_back : goal.returns-clause-reads_back
returns-clause-reads_back c =
    let t = view c.args.tree.now in
    let all : c.write.new.writer.tokens ≡ tree_tokens t = c.in_ok-write.ensures.tokens ∙ ap (λ ts. ts ++ tree_tokens t) c.new-writer.ensures.tokens in
    let text = returns-clause-text c ∙ sym (print_tree_tokens t) ∙ ap print (sym all) in
    reads_as_tree _ t (IsUtf8-string_bytes c.in-Ok.text) (ap tokens text ∙ c.into_inner.ensures.reads_back ∙ all) c.in_ok-write.ensures.reads_back
