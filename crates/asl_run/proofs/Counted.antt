-- How many places want an event, counted at a node and below its children one after the other.
use Rattle.std.proofs.Common.{◌≡◌, ◌<◌, ◌≤◌, sym, ap, ◌∙◌, subst, arith, ℕ, suc, ◌+◌, List, length, drop, slice_get, Option, Some, None, option_map, is_some}
use mir.Val.{bool_byte}
use Rattle.asl_model.specs.Run as model
use Rattle.asl_tree.specs.View.{view}
use Rattle.asl_run.specs.Counting.{open_among, open_below_count, open_count}
use Rattle.asl_run.specs.Enabling.{own_place, wanted_by}
use Rattle.asl_run.specs.Entries.{want_view}
use Rattle.asl_run.specs.Nodes.{AreHeads, IsTable, in_table, range_of, shown_at, shown_from, shown_over}
use Rattle.asl_run.specs.Standing.{children_of, name_in}
use Rattle.asl_processing.specs.declared.activities.Visit.{Visit}
use Rattle.asl_run.specs.declared.entries.Want.{Want}
use Rattle.asl_run.specs.declared.nodes.Children.{Children}
use Rattle.asl_run.specs.declared.nodes.Node.{Node}
use Rattle.asl_run.specs.declared.nodes.Node.TheVariants.{Split}
use Rattle.asl_run.proofs.Adding.{drop_here, own_open}
use Rattle.asl_run.proofs.OpenCounts.{split_counted}
use Rattle.asl_run.proofs.Parts.{in_part}
use Rattle.asl_run.proofs.Tables.{heads_below, shown_here, some_shown}

-- what a node itself wants, over what is shown of its children
pub record OwnWant (node : Node) (children : List Node) (found : Option Want) : Type 0 where
  pub is : (names : List (List ℕ)) (below : List model.Activity) → AreHeads names children below → option_map want_view found ≡ wanted_by (shown_over names (children_of below) node)

-- it counts as one place, or none
own_counted : (found : Option Want) (own : ℕ) → own ≡ bool_byte (is_some found) → own ≡ length (own_place (option_map want_view found))
own_counted None own e = e
own_counted (Some want) own e = e

-- a node without children
pub alone_counted : (nodes : List Node) → IsTable nodes → (i : ℕ) (node : Node) (children : List Node) (found : Option Want) (own : ℕ) → slice_get nodes i ≡ Some node → range_of node ≡ None → children ≡ in_table (range_of node) nodes → OwnWant node children found → own ≡ bool_byte (is_some found)
    → (names : List (List ℕ)) → own ≡ open_count (shown_at names nodes i)
alone_counted nodes table i node children found own there alone are wants e names =
    let below = in_table (range_of node) (shown_from names 0 nodes) in
    let heads = subst (λ cs. AreHeads names cs below) (sym are) (heads_below names (range_of node) nodes) in
    own_counted found own e
    ∙ ap (λ w. length (own_place w)) (wants.is names below heads)
    ∙ ap length (own_open names (children_of below) node alone)
    ∙ sym (ap open_count (shown_here names nodes table i node there))

-- a Split
pub split_node_counted : (nodes : List Node) → IsTable nodes → (i : ℕ) (node : Node) (visit : Visit) (range : Children) (children : List Node) (found : Option Want) (own : ℕ) → slice_get nodes i ≡ Some node → node ≡ Split visit range → children ≡ in_table (range_of node) nodes → OwnWant node children found → own ≡ bool_byte (is_some found)
    → (names : List (List ℕ)) → own + open_below_count names nodes range ≡ open_count (shown_at names nodes i)
split_node_counted nodes table i node visit range children found own there is are wants e names =
    let below = in_table (Some range) (shown_from names 0 nodes) in
    let same : in_table (range_of node) nodes ≡ in_table (Some range) nodes = ap (λ n. in_table (range_of n) nodes) is in
    let heads = subst (λ cs. AreHeads names cs below) (sym (are ∙ same)) (heads_below names (Some range) nodes) in
    let split = Split visit range in
    let here : own ≡ length (own_place (wanted_by (shown_over names (children_of below) split))) =
    own_counted found own e ∙ ap (λ w. length (own_place w)) (wants.is names below heads ∙ ap (λ n. wanted_by (shown_over names (children_of below) n)) is) in
    let whole = split_counted (name_in names visit.state) (view visit.raw.value) visit.counts.items (children_of below) in
    let shown = ap open_count (shown_here names nodes table i split (there ∙ ap Some is)) in
    omega (arith, here, whole, shown)

-- ---- the children, one after the other

-- so many want an event at the children before number i and below them
pub record AreCounted (nodes : List Node) (children : Children) (i counted : ℕ) : Type 0 where
  pub left : (names : List (List ℕ)) → counted + open_among (children_of (drop i (in_table (Some children) (shown_from names 0 nodes)))) ≡ open_below_count names nodes children

next_counted : (names : List (List ℕ)) (nodes : List Node) → IsTable nodes → (children : Children) (i : ℕ) → children.first.0 + children.count ≤ length nodes → i < children.count
    → open_among (children_of (drop i (in_table (Some children) (shown_from names 0 nodes)))) ≡ open_count (shown_at names nodes (children.first.0 + i)) + open_among (children_of (drop (suc i) (in_table (Some children) (shown_from names 0 nodes))))
next_counted names nodes table children i within less =
    let all = in_table (Some children) (shown_from names 0 nodes) in
    let c = children.first.0 + i in
    let found : slice_get all i ≡ Some (shown_at names nodes c) = in_part children (shown_from names 0 nodes) i less ∙ some_shown names nodes table c (omega (arith, within, less)) in
    ap (λ xs. open_among (children_of xs)) (drop_here all i (shown_at names nodes c) found)

-- one more child has no more places than all have
pub child_few : (nodes : List Node) → IsTable nodes → (children : Children) (i counted many : ℕ) → children.first.0 + children.count ≤ length nodes → i < children.count → AreCounted nodes children i counted
    → ((names : List (List ℕ)) → open_below_count names nodes children < many) → (names : List (List ℕ)) → counted + open_count (shown_at names nodes (children.first.0 + i)) < many
child_few nodes table children i counted many within less h few names = omega (arith, next_counted names nodes table children i within less, h.left names, few names)

pub one_counted : (nodes : List Node) → IsTable nodes → (children : Children) (i counted more : ℕ) → children.first.0 + children.count ≤ length nodes → i < children.count → AreCounted nodes children i counted
    → ((names : List (List ℕ)) → more ≡ open_count (shown_at names nodes (children.first.0 + i))) → AreCounted nodes children (i + 1) (counted + more)
one_counted nodes table children i counted more within less h is = record {
  left = λ names.
      let all = in_table (Some children) (shown_from names 0 nodes) in
      let step : i + 1 ≡ suc i = omega arith in
      let next = ap (λ k. open_among (children_of (drop k all))) step in
      omega (arith, next, next_counted names nodes table children i within less, h.left names, is names);
}
