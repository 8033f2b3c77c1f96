use Rattle.std.proofs.Common.{◌≡◌, ◌∷◌, ◌++◌, drop}
use Rattle.json.specs.Token.{begin_array}
use Rattle.json.specs.Tree.{items_tokens}
use Rattle.serde_json.specs.Written.{items_outline}
use Rattle.asl_model.specs.Json.{items_of}
use Rattle.asl_diagnostics.specs.Sarif.{rule_trees}
use Rattle.asl_diagnostics.proofs.sarif.write_rules.Given as goal

-- what is written, and then the tokens of what is left, are all of them
abbrev pub invariant-loop-rule : goal.invariant-loop-rule
invariant-loop-rule l = record {
  before : l.writer.before ≡ l.fn.writer.before;
  tokens : l.writer.tokens ++ items_tokens (items_outline (items_of (rule_trees (drop l.rule-index l.rules))))
      ≡ l.fn.writer.tokens ++ begin_array ∷ items_tokens (items_outline (items_of (rule_trees l.rules)));
}
