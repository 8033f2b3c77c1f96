-- What is shown of the nodes of a table, one by one and along a place.
use Rattle.std.proofs.Common.{◌≡◌, ◌<◌, refl, sym, ap, ◌∙◌, arith, ℕ, zero, suc, ◌+◌, Bool, true, false, nat_lt, if◌then◌else◌, List, [], ◌∷◌, length, take, drop, slice_get, slice_set, Option, Some, None, option_map, option_and_then}
use Rattle.std.specs.Option.{unwrap_or}
use Rattle.std.proofs.lemmas.Bool.{ltb-true, ltb-false}
use Rattle.asl_model.specs.Run as model
use Rattle.asl_model.specs.Run.{activity_at, child_at, set_child}
use Rattle.asl_model.specs.Tree.{Null}
use Rattle.asl_model.proofs.RunOptions.{some_inj, none_some}
use Rattle.asl_run.specs.Standing.{children_of}
use Rattle.asl_run.specs.Nodes.{AreHeads, IsTable, child_number, in_range, in_table, number_from, number_in_range, range_of, shown_at, shown_from, shown_over}
use Rattle.asl_processing.specs.declared.activities.Visit.{Visit}
use Rattle.asl_run.specs.declared.entries.Outcome.{Outcome}
use Rattle.asl_run.specs.declared.entries.Outcome.TheVariants as outcomes
use Rattle.asl_run.specs.declared.nodes.Children.{Children}
use Rattle.asl_run.specs.declared.nodes.Node.{Node}
use Rattle.asl_run.specs.declared.nodes.Node.TheVariants.{Ready, Waiting, Split, Ended}
use Rattle.asl_run.proofs.Parts.{there, in_part, past_part, from_behind}

-- ---- one node

from_number : (names : List (List ℕ)) (s : ℕ) (nodes : List Node) (k : ℕ) (node : Node) → slice_get nodes k ≡ Some node
    → slice_get (shown_from names s nodes) k ≡ Some (shown_over names (children_of (in_range (s + k) (range_of node) (drop (suc k) (shown_from names s nodes)))) node)
from_number names s [] k node e = none_some e
from_number names s (a ∷ nodes) zero node e =
    let here : s ≡ s + 0 = omega arith in
    let behind = shown_from names (suc s) nodes in
    ap (λ n. Some (shown_over names (children_of (in_range s (range_of n) behind)) n)) (some_inj e) ∙ ap (λ j. Some (shown_over names (children_of (in_range j (range_of node) behind)) node)) here
from_number names s (a ∷ nodes) (suc k) node e =
    let here : suc s + k ≡ s + suc k = omega arith in
    let behind = shown_from names (suc s) nodes in
    from_number names (suc s) nodes k node e ∙ ap (λ j. Some (shown_over names (children_of (in_range j (range_of node) (drop (suc k) behind))) node)) here

-- what is shown of a node, over what is shown of its children
pub shown_there : (names : List (List ℕ)) (nodes : List Node) → IsTable nodes → (i : ℕ) (node : Node) → slice_get nodes i ≡ Some node
    → slice_get (shown_from names 0 nodes) i ≡ Some (shown_over names (children_of (in_table (range_of node) (shown_from names 0 nodes))) node)
shown_there names nodes table i node e =
    let here : 0 + i ≡ i = omega arith in
    from_number names 0 nodes i node e
    ∙ ap (λ j. Some (shown_over names (children_of (in_range j (range_of node) (drop (suc i) (shown_from names 0 nodes)))) node)) here
    ∙ ap (λ xs. Some (shown_over names (children_of xs) node)) (from_behind i (range_of node) (shown_from names 0 nodes) (λ children is. (table.ranges i node children e is).behind))

pub shown_here : (names : List (List ℕ)) (nodes : List Node) → IsTable nodes → (i : ℕ) (node : Node) → slice_get nodes i ≡ Some node
    → shown_at names nodes i ≡ shown_over names (children_of (in_table (range_of node) (shown_from names 0 nodes))) node
shown_here names nodes table i node e = ap (λ o. unwrap_or o (model.Ready [] Null [])) (shown_there names nodes table i node e)

-- something is shown of each
pub some_shown : (names : List (List ℕ)) (nodes : List Node) → IsTable nodes → (i : ℕ) → i < length nodes → slice_get (shown_from names 0 nodes) i ≡ Some (shown_at names nodes i)
some_shown names nodes table i h =
    let found = there nodes i h in
    shown_there names nodes table i found.0 found.1 ∙ ap Some (sym (shown_here names nodes table i found.0 found.1))

-- ---- heads

pub heads_from : (names : List (List ℕ)) (s : ℕ) (nodes : List Node) → AreHeads names nodes (shown_from names s nodes)
heads_from names s [] = tt
heads_from names s (node ∷ nodes) = (record { below = children_of (in_range s (range_of node) (shown_from names (suc s) nodes)); is = refl }, heads_from names (suc s) nodes)

heads_drop : (names : List (List ℕ)) (n : ℕ) (nodes : List Node) (shown : List model.Activity) → AreHeads names nodes shown → AreHeads names (drop n nodes) (drop n shown)
heads_drop names zero nodes shown h = h
heads_drop names (suc n) [] [] h = tt
heads_drop names (suc n) [] (a ∷ shown) h = absurd h
heads_drop names (suc n) (node ∷ nodes) [] h = absurd h
heads_drop names (suc n) (node ∷ nodes) (a ∷ shown) h = heads_drop names n nodes shown h.1

heads_take : (names : List (List ℕ)) (n : ℕ) (nodes : List Node) (shown : List model.Activity) → AreHeads names nodes shown → AreHeads names (take n nodes) (take n shown)
heads_take names zero nodes shown h = tt
heads_take names (suc n) [] [] h = tt
heads_take names (suc n) [] (a ∷ shown) h = absurd h
heads_take names (suc n) (node ∷ nodes) [] h = absurd h
heads_take names (suc n) (node ∷ nodes) (a ∷ shown) h = (h.0, heads_take names n nodes shown h.1)

-- the children's, where a node has some
pub heads_below : (names : List (List ℕ)) (range : Option Children) (nodes : List Node) → AreHeads names (in_table range nodes) (in_table range (shown_from names 0 nodes))
heads_below names None nodes = tt
heads_below names (Some children) nodes =
    heads_take names children.count (drop children.first.0 nodes) (drop children.first.0 (shown_from names 0 nodes)) (heads_drop names children.first.0 nodes (shown_from names 0 nodes) (heads_from names 0 nodes))

-- ---- children by their numbers

pub child_of : (k : ℕ) (xs : List model.Activity) → child_at k (children_of xs) ≡ slice_get xs k
child_of k [] = refl
child_of zero (x ∷ xs) = refl
child_of (suc k) (x ∷ xs) = child_of k xs

pub set_of : (k : ℕ) (xs : List model.Activity) (a : model.Activity) → children_of (slice_set xs k a) ≡ set_child k a (children_of xs)
set_of k [] a = refl
set_of zero (x ∷ xs) a = refl
set_of (suc k) (x ∷ xs) a = ap (model.AndActivity x) (set_of k xs a)

-- a node that has a child of that number
pub record IsChild (nodes : List Node) (i k c : ℕ) : Type 0 where
  pub visit : Visit
  pub children : Children
  pub stands : slice_get nodes i ≡ Some (Split visit children)
  pub less : k < children.count
  pub is : c ≡ children.first.0 + k

pub child_found : (nodes : List Node) (i k c : ℕ) → child_number nodes i k ≡ Some c → IsChild nodes i k c
child_found nodes i k c e = by_node (slice_get nodes i) refl e
  where
    by_less : (visit : Visit) (children : Children) → slice_get nodes i ≡ Some (Split visit children) → (b : Bool) → nat_lt k children.count ≡ b → (if b then Some (children.first.0 + k) else None) ≡ Some c → IsChild nodes i k c
    by_less visit children stands true f g = record { visit = visit; children = children; stands = stands; less = ltb-true k children.count f; is = sym (some_inj g) }
    by_less visit children stands false f g = none_some g

    by_node : (o : Option Node) → slice_get nodes i ≡ o → number_in_range (option_and_then range_of o) k ≡ Some c → IsChild nodes i k c
    by_node None f g = none_some g
    by_node (Some (Ready visit)) f g = none_some g
    by_node (Some (Waiting visit payload)) f g = none_some g
    by_node (Some (Split visit children)) f g = by_less visit children f (nat_lt k children.count) refl g
    by_node (Some (Ended outcome)) f g = none_some g

-- it is in the table
pub child_within : (nodes : List Node) → IsTable nodes → (i k c : ℕ) → IsChild nodes i k c → (i < c) × (c < length nodes)
child_within nodes table i k c child =
    let range = table.ranges i (Split child.visit child.children) child.children child.stands refl in
    (omega (arith, range.behind, child.is), omega (arith, range.within, child.less, child.is))

-- what stands below a node, by what is shown of its child
below_split : (names : List (List ℕ)) (nodes : List Node) → IsTable nodes → (i k : ℕ) (place : List ℕ) (visit : Visit) (children : Children) → slice_get nodes i ≡ Some (Split visit children)
    → activity_at (k ∷ place) (shown_at names nodes i) ≡ option_and_then (activity_at place) (slice_get (in_table (Some children) (shown_from names 0 nodes)) k)
below_split names nodes table i k place visit children e =
    let all = shown_from names 0 nodes in
    ap (activity_at (k ∷ place)) (shown_here names nodes table i (Split visit children) e)
    ∙ ap (option_and_then (activity_at place)) (child_of k (in_table (Some children) all))

ended_alone : (outcome : Outcome) (k : ℕ) (place : List ℕ) (names : List (List ℕ)) (below : model.Activities) → activity_at (k ∷ place) (shown_over names below (Ended outcome)) ≡ None
ended_alone (outcomes.Output t) k place names below = refl
ended_alone (outcomes.Failed error cause) k place names below = refl

-- what stands at a place is what is shown of the node of its number
pub place_shown : (names : List (List ℕ)) (nodes : List Node) → IsTable nodes → (place : List ℕ) (i : ℕ) → i < length nodes → activity_at place (shown_at names nodes i) ≡ option_map (shown_at names nodes) (number_from nodes i place)
place_shown names nodes table [] i h = refl
place_shown names nodes table (k ∷ place) i h = by_node (there nodes i h).0 (there nodes i h).1 (λ c less. place_shown names nodes table place c less)
  where
    all : List model.Activity
    all = shown_from names 0 nodes

    shown : ℕ → model.Activity
    shown = shown_at names nodes

    alone : (node : Node) → slice_get nodes i ≡ Some node → range_of node ≡ None → activity_at (k ∷ place) (shown_over names (children_of (in_table (range_of node) all)) node) ≡ None → activity_at (k ∷ place) (shown i) ≡ option_map shown (number_from nodes i (k ∷ place))
    alone node e none a =
        ap (activity_at (k ∷ place)) (shown_here names nodes table i node e) ∙ a
        ∙ sym (ap (λ o. option_map shown (option_and_then (λ c. number_from nodes c place) (number_in_range (option_and_then range_of o) k))) e ∙ ap (λ r. option_map shown (option_and_then (λ c. number_from nodes c place) (number_in_range r k))) none)

    by_less : (visit : Visit) (children : Children) → slice_get nodes i ≡ Some (Split visit children) → ((c : ℕ) → c < length nodes → activity_at place (shown c) ≡ option_map shown (number_from nodes c place)) → (b : Bool) → nat_lt k children.count ≡ b
        → activity_at (k ∷ place) (shown i) ≡ option_map shown (option_and_then (λ c. number_from nodes c place) (if b then Some (children.first.0 + k) else None))
    by_less visit children e below true f =
        let less = ltb-true k children.count f in
        let range = table.ranges i (Split visit children) children e refl in
        let within : children.first.0 + k < length nodes = omega (arith, range.within, less) in
        below_split names nodes table i k place visit children e
        ∙ ap (option_and_then (activity_at place)) (in_part children all k less ∙ some_shown names nodes table (children.first.0 + k) within)
        ∙ below (children.first.0 + k) within
    by_less visit children e below false f =
        below_split names nodes table i k place visit children e ∙ ap (option_and_then (activity_at place)) (past_part children all k (ltb-false k children.count f))

    by_node : (node : Node) → slice_get nodes i ≡ Some node → ((c : ℕ) → c < length nodes → activity_at place (shown c) ≡ option_map shown (number_from nodes c place)) → activity_at (k ∷ place) (shown i) ≡ option_map shown (number_from nodes i (k ∷ place))
    by_node (Ready visit) e below = alone (Ready visit) e refl refl
    by_node (Waiting visit payload) e below = alone (Waiting visit payload) e refl refl
    by_node (Split visit children) e below =
        by_less visit children e below (nat_lt k children.count) refl
        ∙ sym (ap (λ o. option_map shown (option_and_then (λ c. number_from nodes c place) (number_in_range (option_and_then range_of o) k))) e)
    by_node (Ended outcome) e below = alone (Ended outcome) e refl (ended_alone outcome k place names (children_of []))
