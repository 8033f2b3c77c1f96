-- Children that have ended, at the front and at the back of those of a node.
use Rattle.std.proofs.Common.{◌≡◌, ◌<◌, ◌≤◌, sym, ap, ◌∙◌, arith, ℕ, ◌+◌, ◌-◌, true, false, List, slice_get, Some}
use Rattle.asl_model.proofs.RunOptions.{some_inj}
use Rattle.asl_run.specs.Changing.{node_ended}
use Rattle.asl_run.specs.Counting.{IsBehindRunning}
use Rattle.asl_run.specs.declared.nodes.Children.{Children}
use Rattle.asl_run.specs.declared.nodes.Node.{Node}
use Rattle.asl_run.proofs.WrittenTables.{by_same}

-- the children from one number on and before another have ended
pub record AreEnded (nodes : List Node) (children : Children) (from to : ℕ) : Type 0 where
  pub each : (k : ℕ) (node : Node) → from ≤ k → k < to → slice_get nodes (children.first.0 + k) ≡ Some node → node_ended node ≡ true

here_ended : (nodes : List Node) (children : Children) (i k : ℕ) (found node : Node) → i ≡ k → slice_get nodes (children.first.0 + k) ≡ Some found → true ≡ node_ended found → slice_get nodes (children.first.0 + i) ≡ Some node → node_ended node ≡ true
here_ended nodes children i k found node same there ended e =
    let is : found ≡ node = some_inj (sym there ∙ ap (λ n. slice_get nodes (children.first.0 + n)) (sym same) ∙ e) in
    sym (ended ∙ ap node_ended is)

pub one_behind : (nodes : List Node) (children : Children) (from k : ℕ) (found : Node) → slice_get nodes (children.first.0 + k) ≡ Some found → true ≡ node_ended found → AreEnded nodes children from k → AreEnded nodes children from (k + 1)
one_behind nodes children from k found there ended h = record {
  each = λ i node more less e. by_same i k
      (λ same. here_ended nodes children i k found node same there ended e)
      (λ other. h.each i node more (omega (arith, less, other)) e);
}

-- behind the last that hasn't
pub behind_is : (nodes : List Node) (children : Children) (from to k : ℕ) → k ≤ to → AreEnded nodes children k to → ((node : Node) → from < k → slice_get nodes (children.first.0 + (k - 1)) ≡ Some node → node_ended node ≡ false) → IsBehindRunning nodes children from to k
behind_is nodes children from to k upper h runs = record {
  upper = upper;
  passed = h.each;
  runs = λ i node next more e.
      let is : i ≡ k - 1 = omega (arith, next) in
      runs node (omega (arith, next, more)) (ap (λ n. slice_get nodes (children.first.0 + n)) (sym is) ∙ e);
}
