use Rattle.std.proofs.Common.{◌++◌, ap, ◌∙◌}
use Rattle.json.specs.Print.{print}
use Rattle.serde_json.proofs.Texts.{print-outline}
use Rattle.asl_model.specs.Json.{value_of}
use Rattle.asl_tree.specs.Written.{tree_tokens}
use Rattle.asl_trace.specs.Shown.{shown_tree}
use Rattle.asl_trace.proofs.shown.text_of.Goals as goal

pub returns : goal.returns
returns c =
    let tree = shown_tree c.args.shown in
    let before = c.in_ok-put.ensures.before ∙ c.new-writer.ensures.before ∙ c.in_ok-with_capacity.ensures.items in
    let tokens = c.in_ok-put.ensures.tokens ∙ ap (λ s. s ++ tree_tokens tree) c.new-writer.ensures.tokens in
    c.into_inner.ensures.items ∙ ap (λ s. s ++ print c.put.new.writer.tokens) before ∙ ap print tokens ∙ print-outline (value_of tree)
