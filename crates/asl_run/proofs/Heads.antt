-- What is shown of the children of a node, which are gone through in order.
use Rattle.std.proofs.Common.{◌≡◌, ap, ◌∙◌, sym, ℕ, zero, suc, ◌<◌, ◌≤◌, List, [], ◌∷◌, length, get_or, drop, arith, refl}
use Rattle.std.proofs.lemmas.List.{drop_all}
use Rattle.asl_model.specs.Run.{Activity, Activities}
use Rattle.asl_run.specs.Nodes.{AreHeads, shown_over}
use Rattle.asl_run.specs.declared.nodes.Node.{Node}

-- the shown activity of number i is that of this node, before those behind it
pub record IsNext (names : List (List ℕ)) (node : Node) (shown : List Activity) (i : ℕ) : Type 0 where
  pub under : Activities
  pub is : drop i shown ≡ shown_over names under node ∷ drop (suc i) shown

pub next_head : (names : List (List ℕ)) (nodes : List Node) (shown : List Activity) (i : ℕ) (node : Node) → AreHeads names nodes shown → i < length nodes → node ≡ get_or nodes i node → IsNext names node shown i
next_head names [] shown i node heads within is = absurd (omega arith)
next_head names (a ∷ nodes) [] i node heads within is = absurd heads
next_head names (a ∷ nodes) (s ∷ others) zero node heads within is =
    let h = heads.0 in record { under = h.below; is = ap (λ b. b ∷ others) (h.is ∙ ap (shown_over names h.below) (sym is)) }
next_head names (a ∷ nodes) (s ∷ others) (suc i) node heads within is = let rest = next_head names nodes others i node heads.1 (omega arith) is in record { under = rest.under; is = rest.is }

as_many : (names : List (List ℕ)) (nodes : List Node) (shown : List Activity) → AreHeads names nodes shown → length shown ≡ length nodes
as_many names [] [] heads = refl
as_many names [] (s ∷ others) heads = absurd heads
as_many names (a ∷ nodes) [] heads = absurd heads
as_many names (a ∷ nodes) (s ∷ others) heads = ap suc (as_many names nodes others heads.1)

-- none is left
pub no_more : (names : List (List ℕ)) (nodes : List Node) (shown : List Activity) (i : ℕ) → AreHeads names nodes shown → length nodes ≤ i → drop i shown ≡ []
no_more names nodes shown i heads end = let same = as_many names nodes shown heads in drop_all i shown (omega (arith, same, end))
