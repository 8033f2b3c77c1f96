-- How many places of a run want an event, and how far the children of a node are.
use Rattle.std.specs.Prelude.{◌≡◌, ◌<◌, ◌≤◌, ◌+◌, ℕ, suc, Bool, true, false, ◌||◌, ◌⊎◌, if◌then◌else◌, nat_le, List}
use Rattle.std.specs.Prelude.{[], ◌∷◌, ◌++◌, length, Option, Some, None, option_map, slice_get}
use Rattle.asl_model.specs.Run.{Activity, Activities, NoActivities, AndActivity}
use Rattle.asl_run.specs.Changing.{node_ended}
use Rattle.asl_run.specs.Enabling.{has_failed, open_in}
use Rattle.asl_run.specs.Nodes.{IsTable, child_number, number_from, in_table, range_of, shown_at, shown_from}
use Rattle.asl_run.specs.Nodes.{shown_over}
use Rattle.asl_run.specs.Standing.{children_of}
use Rattle.asl_run.specs.declared.nodes.Children.{Children}
use Rattle.asl_run.specs.declared.nodes.Node.{Node}
use Rattle.asl_run.specs.declared.nodes.NodeNumber.{NodeNumber}
use Rattle.asl_run.specs.declared.standing.Progress.{Progress}

-- how many places of an activity want an event
abbrev pub open_count : Activity → ℕ
open_count a = length (open_in a)

-- of all of these
abbrev pub open_among : Activities → ℕ
open_among NoActivities = 0
open_among (AndActivity child others) = open_count child + open_among others

-- of the children of a node
abbrev pub open_below_count : List (List ℕ) → List Node → Children → ℕ
open_below_count names nodes children =
    open_among (children_of (in_table (Some children) (shown_from names 0 nodes)))

-- the place is that of this number among those that want an event
pub record IsOpenAt (nodes : List Node) (number : ℕ) (place : List ℕ) : Type 0 where
  pub at : (names : List (List ℕ)) → option_map (λ wanted. wanted.0)
      (slice_get (open_in (shown_at names nodes 0)) number) ≡ Some place

-- ---- one node

-- the node shows an activity that has failed, whatever its children show
abbrev pub node_failed : Node → Bool
node_failed node = has_failed (shown_over [] NoActivities node)

-- the run hasn't ended
abbrev pub IsGoing : List Node → Type 0
IsGoing nodes = (node : Node) → slice_get nodes 0 ≡ Some node → node_ended node ≡ false

-- ---- how far the children of a node are

-- one of the children has failed
pub record HasFailed (nodes : List Node) (children : Children) : Type 0 where
  pub number : ℕ
  pub less : number < children.count
  pub node : Node
  pub there : slice_get nodes (children.first.0 + number) ≡ Some node
  pub failed : node_failed node ≡ true

-- what is noted of the children is so
pub record IsFar (nodes : List Node) (children : Children) (far : Progress) : Type 0 where
  pub inside : far.behind_last ≤ children.count
  pub outside : (k : ℕ) (node : Node) → k < children.count → (k < far.first) ⊎ (far.behind_last ≤ k)
      → slice_get nodes (children.first.0 + k) ≡ Some node → node_ended node ≡ true
  pub first_runs : (node : Node) → far.first < far.behind_last
      → slice_get nodes (children.first.0 + far.first) ≡ Some node → node_ended node ≡ false
  pub last_runs : (k : ℕ) (node : Node) → suc k ≡ far.behind_last → far.first ≤ k
      → slice_get nodes (children.first.0 + k) ≡ Some node → node_ended node ≡ false
  pub none_failed : far.failed ≡ false → (k : ℕ) (node : Node) → k < children.count
      → slice_get nodes (children.first.0 + k) ≡ Some node → node_failed node ≡ false
  pub some_failed : far.failed ≡ true → HasFailed nodes children

-- the children are far enough for the move of their Parallel or Map
abbrev pub is_joinable_so : Progress → Bool
is_joinable_so far = far.failed || nat_le far.behind_last far.first

-- 1 where that is so, else 0
abbrev pub own_count_so : Option Progress → ℕ
own_count_so None = 0
own_count_so (Some far) = if is_joinable_so far then 1 else 0

-- the same of a node's children; 0 without a node
abbrev pub own_count_of : List Progress → Option NodeNumber → ℕ
own_count_of progress None = 0
own_count_of progress (Some number) = own_count_so (slice_get progress number.0)

-- ---- all that is kept

-- how far the children of each node are, and how many places want an event
pub record IsKept (nodes : List Node) (progress : List Progress) (counted : ℕ) : Type 0 where
  pub table : IsTable nodes
  pub long : length progress ≡ length nodes
  pub far : (i : ℕ) (node : Node) (children : Children) (far : Progress)
      → slice_get nodes i ≡ Some node → range_of node ≡ Some children
      → slice_get progress i ≡ Some far → IsFar nodes children far
  pub same : (names : List (List ℕ)) → counted ≡ open_count (shown_at names nodes 0)
  pub few : counted ≤ length nodes

-- ---- a child's parent

-- the child of that number of the node at the place above
pub record IsParent (nodes : List Node) (place : List ℕ) (child parent : ℕ) : Type 0 where
  pub above : List ℕ
  pub number : ℕ
  pub whole : place ≡ above ++ number ∷ []
  pub at : number_from nodes 0 above ≡ Some parent
  pub is : child_number nodes parent number ≡ Some child

-- the parent of what stands at a place; none for the machine's own
abbrev pub HasParent : List Node → List ℕ → ℕ → Option NodeNumber → Type 0
HasParent nodes place child None = place ≡ []
HasParent nodes place child (Some parent) = IsParent nodes place child parent.0

-- ---- what is noted

-- that of so many new children
abbrev pub of_new : ℕ → Progress
of_new count = record { failed = false; first = 0; behind_last = count }

-- the node has so many new children, for as many of which a note is added
pub record IsBegun (number count added : ℕ) (before after : List Progress) : Type 0 where
  pub long : length after ≡ length before + added
  pub own : slice_get after number ≡ Some (of_new count)
  pub others : (i : ℕ) → i < length before → (i ≡ number → ⊥) → slice_get after i ≡ slice_get before i

-- from that child on all before the found one have ended, which hasn't, where it stands before the last
pub record IsFirstRunning (nodes : List Node) (children : Children) (from to found : ℕ) : Type 0 where
  pub lower : from ≤ found
  pub passed : (k : ℕ) (node : Node) → from ≤ k → k < found
      → slice_get nodes (children.first.0 + k) ≡ Some node → node_ended node ≡ true
  pub runs : (node : Node) → found < to → slice_get nodes (children.first.0 + found) ≡ Some node
      → node_ended node ≡ false

-- all children from the found one on have ended, and the one before it hasn't, where it stands behind the first
pub record IsBehindRunning (nodes : List Node) (children : Children) (from to found : ℕ) : Type 0 where
  pub upper : found ≤ to
  pub passed : (k : ℕ) (node : Node) → found ≤ k → k < to
      → slice_get nodes (children.first.0 + k) ≡ Some node → node_ended node ≡ true
  pub runs : (k : ℕ) (node : Node) → suc k ≡ found → from ≤ k
      → slice_get nodes (children.first.0 + k) ≡ Some node → node_ended node ≡ false

-- the children are so far, where node j may have ended
pub record IsFurther (nodes : List Node) (children : Children) (j : ℕ)
    (was far : Progress) : Type 0 where
  pub front : IsFirstRunning nodes children was.first was.behind_last far.first
  pub back : IsBehindRunning nodes children far.first was.behind_last far.behind_last
  pub failed : (node : Node) → slice_get nodes j ≡ Some node
      → far.failed ≡ (was.failed || node_failed node)

-- what is noted of a node that is a parent stands within its children
pub record CanPass (nodes : List Node) (progress : List Progress) (parent : Option NodeNumber)
    (j : ℕ) : Type 0 where
  pub within : j < length nodes
  pub noted : (q : NodeNumber) → parent ≡ Some q → (q.0 < length nodes) × (q.0 < length progress)
  pub inside : (q : NodeNumber) (node : Node) (children : Children) (far : Progress)
      → parent ≡ Some q → slice_get nodes q.0 ≡ Some node → range_of node ≡ Some children
      → slice_get progress q.0 ≡ Some far → far.behind_last ≤ children.count

-- what is noted of the parent alone is written anew
pub record IsPassedAt (nodes : List Node) (q j : ℕ) (before after : List Progress) : Type 0 where
  pub long : length after ≡ length before
  pub others : (i : ℕ) → (i ≡ q → ⊥) → slice_get after i ≡ slice_get before i
  pub here : (node : Node) (children : Children) (was far : Progress)
      → slice_get nodes q ≡ Some node → range_of node ≡ Some children
      → slice_get before q ≡ Some was → slice_get after q ≡ Some far
      → IsFurther nodes children j was far

abbrev pub IsPassed : List Node → Option NodeNumber → ℕ → List Progress → List Progress → Type 0
IsPassed nodes None j before after = after ≡ before
IsPassed nodes (Some q) j before after = IsPassedAt nodes q.0 j before after
