-- What the nodes of a run's table show, and how their numbers lead along a place.
use Rattle.std.specs.Prelude.{◌≡◌, ◌<◌, ◌≤◌, ◌+◌, ◌-◌, ◌^◌, ℕ, suc, List, [], ◌∷◌, length, take, drop, Option, Some}
use Rattle.std.specs.Prelude.{None, option_and_then, slice_get, nat_lt, if◌then◌else◌}
use Rattle.std.specs.Option.{unwrap_or}
use Rattle.asl_model.specs.Run as model
use Rattle.asl_model.specs.Tree.{Null}
use Rattle.asl_tree.specs.View as trees
use Rattle.asl_processing.specs.Activities.{ready_view}
use Rattle.asl_run.specs.Entries.{ended_view}
use Rattle.asl_run.specs.Standing.{name_in, children_of}
use Rattle.asl_tree.specs.declared.Tree.{Tree}
use Rattle.asl_processing.specs.declared.activities.Visit.{Visit}
use Rattle.asl_run.specs.declared.nodes.Children.{Children}
use Rattle.asl_run.specs.declared.nodes.Node.{Node}
use Rattle.asl_run.specs.declared.nodes.Node.TheVariants.{Ready, Waiting, Split, Ended}

-- ---- what a node shows

-- a node, over what its children show; the states have these names by their numbers
abbrev pub shown_over : List (List ℕ) → model.Activities → Node → model.Activity
shown_over names below (Ready visit) = ready_view names visit
shown_over names below (Waiting visit payload) = model.Waiting (name_in names visit.state)
    (trees.view visit.raw.value) visit.counts.items (trees.view payload.value)
shown_over names below (Split visit children) =
    model.Split (name_in names visit.state) (trees.view visit.raw.value) visit.counts.items below
shown_over names below (Ended outcome) = ended_view outcome

-- where the children of a node stand; only a Split has some
abbrev pub range_of : Node → Option Children
range_of (Ready visit) = None
range_of (Waiting visit payload) = None
range_of (Split visit children) = Some children
range_of (Ended outcome) = None

-- what stands there, of a list of the whole table
abbrev pub in_table : {A : Type 0} → Option Children → List A → List A
in_table None all = []
in_table (Some children) all = take children.count (drop children.first.0 all)

-- the same for node i, of a list from the number behind it on
abbrev pub in_range : {A : Type 0} → ℕ → Option Children → List A → List A
in_range i None behind = []
in_range i (Some children) behind = take children.count (drop (children.first.0 - suc i) behind)

-- what is shown of each node of a table, from the number i on
abbrev pub shown_from : List (List ℕ) → ℕ → List Node → List model.Activity
shown_from names i [] = []
shown_from names i (node ∷ nodes) = let behind = shown_from names (suc i) nodes in
    shown_over names (children_of (in_range i (range_of node) behind)) node ∷ behind

-- what is shown of node i of a table
abbrev pub shown_at : List (List ℕ) → List Node → ℕ → model.Activity
shown_at names nodes i = unwrap_or (slice_get (shown_from names 0 nodes) i) (model.Ready [] Null [])

-- the activity is shown of the node, whatever its children show
pub record IsHead (names : List (List ℕ)) (node : Node) (shown : model.Activity) : Type 0 where
  pub below : model.Activities
  pub is : shown ≡ shown_over names below node

-- so for each of a list, in order
abbrev pub AreHeads : List (List ℕ) → List Node → List model.Activity → Type 0
AreHeads names [] [] = Unit {0}
AreHeads names (node ∷ nodes) (shown ∷ others) = IsHead names node shown × AreHeads names nodes others
AreHeads names [] (shown ∷ others) = ⊥
AreHeads names (node ∷ nodes) [] = ⊥

-- ---- tables

-- a node's children stand behind it, all of them in the table, and it is the parent of each
pub record IsRange (parents : ℕ → ℕ) (many i : ℕ) (children : Children) : Type 0 where
  pub behind : i < children.first.0
  pub within : children.first.0 + children.count ≤ many
  pub owned : (k : ℕ) → k < children.count → parents (children.first.0 + k) ≡ i

-- a table of one node, about to enter the state of that number with that raw input
pub record IsBegunWith (state : ℕ) (input : Tree) (nodes : List Node) : Type 0 where
  pub visit : Visit
  pub only : nodes ≡ Ready visit ∷ []
  pub numbered : visit.state ≡ state
  pub given : visit.raw.value ≡ input
  pub uncounted : visit.counts.items ≡ []

-- a table of at least one node, in which no node has two parents
pub record IsTable (nodes : List Node) : Type 0 where
  pub parents : ℕ → ℕ
  pub lower : (k : ℕ) → parents k ≤ k
  pub ranges : (i : ℕ) (node : Node) (children : Children) → slice_get nodes i ≡ Some node
      → range_of node ≡ Some children → IsRange parents (length nodes) i children
  pub some : 0 < length nodes

-- these children stand in a table, all of them
pub record HasRange (nodes : List Node) (children : Children) : Type 0 where
  pub table : IsTable nodes
  pub few : length nodes < 2 ^ 64
  pub within : children.first.0 + children.count ≤ length nodes

-- ---- places

-- the number of the child of that number
abbrev pub number_in_range : Option Children → ℕ → Option ℕ
number_in_range None k = None
number_in_range (Some children) k =
    if nat_lt k children.count then Some (children.first.0 + k) else None

-- the same of node i
abbrev pub child_number : List Node → ℕ → ℕ → Option ℕ
child_number nodes i k = number_in_range (option_and_then range_of (slice_get nodes i)) k

-- the number of the node at a place below node i
abbrev pub number_from : List Node → ℕ → List ℕ → Option ℕ
number_from nodes i [] = Some i
number_from nodes i (k ∷ place) =
    option_and_then (λ c. number_from nodes c place) (child_number nodes i k)
