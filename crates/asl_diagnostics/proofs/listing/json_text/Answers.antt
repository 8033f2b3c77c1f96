use Rattle.std.proofs.Common.{◌≡◌, [], ◌++◌, ap, ap₂, ◌∙◌}
use Rattle.json.specs.Print.{print}
use Rattle.asl_model.specs.Tree.{Array}
use Rattle.asl_tree.specs.Written.{tree_tokens}
use Rattle.asl_tree.proofs.Tokens.{print_tree_tokens}
use Rattle.asl_diagnostics.specs.Listed.{diagnostic_trees}
use Rattle.asl_diagnostics.proofs.listing.json_text.Goals as goal

pub returns : goal.returns
returns c =
    let t = Array (diagnostic_trees c.args.diagnostics.now) in
    let empty : c.write_list.new.writer.before ≡ [] = c.write_list.ensures.before ∙ c.new-writer.ensures.before ∙ c.new.ensures.items in
    let all : c.write_list.new.writer.tokens ≡ tree_tokens t = c.in_ok-write_list.ensures.tokens ∙ ap (λ ts. ts ++ tree_tokens t) c.new-writer.ensures.tokens in
    ap (λ v. v.items) c.in-Ok.ensures.ok ∙ c.into_inner.ensures.items ∙ ap₂ (λ b ts. b ++ print ts) empty all ∙ print_tree_tokens t
