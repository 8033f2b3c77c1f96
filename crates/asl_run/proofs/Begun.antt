-- The table with which a run begins.
use Rattle.std.proofs.Common.{◌≡◌, sym, ap, ◌∙◌, subst, ℕ, List, [], ◌∷◌, ◌++◌}
use Rattle.asl_tree.specs.declared.Tree.{Tree}
use Rattle.asl_run.specs.Nodes.{IsBegunWith, IsTable}
use Rattle.asl_processing.specs.declared.activities.Visit.{Visit}
use Rattle.asl_run.specs.declared.nodes.Node.{Node}
use Rattle.asl_run.specs.declared.nodes.Node.TheVariants.{Ready}
use Rattle.asl_run.proofs.NumbersAlong.{one_node}

-- one node is pushed to none
pub begun_with : (state : ℕ) (input : Tree) (before nodes : List Node) (visit : Visit) → nodes ≡ before ++ Ready visit ∷ [] → before ≡ [] → visit.state ≡ state → visit.raw.value ≡ input → visit.counts.items ≡ [] → IsBegunWith state input nodes
begun_with state input before nodes visit pushed none numbered given uncounted = record {
  visit = visit;
  only = pushed ∙ ap (λ (l : List Node). l ++ Ready visit ∷ []) none;
  numbered = numbered;
  given = given;
  uncounted = uncounted;
}

-- that is a table
pub begun_table : (before nodes : List Node) (visit : Visit) → nodes ≡ before ++ Ready visit ∷ [] → before ≡ [] → IsTable nodes
begun_table before nodes visit pushed none = subst IsTable (sym (pushed ∙ ap (λ (l : List Node). l ++ Ready visit ∷ []) none)) (one_node visit)
