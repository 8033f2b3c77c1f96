use Rattle.std.proofs.Common.{◌≡◌, ◌∷◌, ◌++◌, drop, map, string_bytes}
use Rattle.json.specs.Token.{begin_array}
use Rattle.json.specs.Tree.{items_tokens}
use Rattle.serde_json.specs.Written.{items_outline}
use Rattle.asl_model.specs.Json.{items_of}
use Rattle.asl_model.specs.Tree.{Text, trees_of}
use Rattle.asl_results.proofs.json_format.write_lines.Given as goal

-- what is written, and then the tokens of what is left, are all of them
abbrev pub invariant-loop-line : goal.invariant-loop-line
invariant-loop-line l = record {
  before : l.writer.before ≡ l.fn.writer.before;
  tokens : l.writer.tokens ++ items_tokens (items_outline (items_of (trees_of (map (λ text. Text (string_bytes text)) (drop l.line-index l.lines)))))
      ≡ l.fn.writer.tokens ++ begin_array ∷ items_tokens (items_outline (items_of (trees_of (map (λ text. Text (string_bytes text)) l.lines))));
}
