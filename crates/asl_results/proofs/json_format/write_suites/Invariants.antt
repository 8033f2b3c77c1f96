use Rattle.std.proofs.Common.{◌≡◌, ◌∷◌, ◌++◌, drop, map}
use Rattle.json.specs.Token.{begin_array}
use Rattle.json.specs.Tree.{items_tokens}
use Rattle.serde_json.specs.Written.{items_outline}
use Rattle.asl_model.specs.Json.{items_of}
use Rattle.asl_model.specs.Tree.{trees_of}
use Rattle.asl_results.specs.Json.{suite_tree}
use Rattle.asl_results.proofs.json_format.write_suites.Given as goal

-- what is written, and then the tokens of what is left, are all of them
abbrev pub invariant-loop-suite : goal.invariant-loop-suite
invariant-loop-suite l = record {
  before : l.writer.before ≡ l.fn.writer.before;
  tokens : l.writer.tokens ++ items_tokens (items_outline (items_of (trees_of (map suite_tree (drop l.suite-index l.suites)))))
      ≡ l.fn.writer.tokens ++ begin_array ∷ items_tokens (items_outline (items_of (trees_of (map suite_tree l.suites))));
}
