use Rattle.std.proofs.Common.{◌≡◌, [], ◌++◌, ap, ap₂, ◌∙◌}
use Rattle.json.specs.Print.{print}
use Rattle.asl_model.specs.Json.{compact_text}
use Rattle.asl_tree.specs.Written.{tree_tokens}
use Rattle.asl_tree.proofs.Tokens.{print_tree_tokens}
use Rattle.asl_diagnostics.specs.Sarif.{log_tree}
use Rattle.asl_diagnostics.proofs.sarif.sarif_text.Goals as goal

pub returns : goal.returns
returns c =
    let found = c.args.diagnostics.now in
    let t = log_tree c.deref.result.now found in
    let empty : c.write_log.new.writer.before ≡ [] = c.write_log.ensures.before ∙ c.new-writer.ensures.before ∙ c.new.ensures.items in
    let all : c.write_log.new.writer.tokens ≡ tree_tokens t = c.in_ok-write_log.ensures.tokens ∙ ap (λ ts. ts ++ tree_tokens t) c.new-writer.ensures.tokens in
    let text = ap (λ v. v.items) c.in-Ok.ensures.ok ∙ c.into_inner.ensures.items ∙ ap₂ (λ b ts. b ++ print ts) empty all ∙ print_tree_tokens t in
    text ∙ ap (λ rules. compact_text (log_tree rules found)) (c.deref.ensures.value ∙ c.in_ok-rules.ensures)
