-- What a change leaves of what stands at its place.
use Rattle.std.specs.Prelude.{◌≡◌, ◌<◌, ◌≤◌, ◌+◌, ℕ, Bool, false, List, [], length, Option, Some, None, ◌++◌}
use Rattle.std.specs.Prelude.{slice_get, slice_set}
use Rattle.asl_model.specs.Run as model
use Rattle.asl_tree.specs.View as trees
use Rattle.asl_processing.specs.Activities.{ready_view, ready_children}
use Rattle.asl_run.specs.Entries.{ended_view}
use Rattle.asl_run.specs.Nodes.{IsTable, range_of, shown_at, shown_from, shown_over}
use Rattle.asl_run.specs.Enabling.{has_ended}
use Rattle.asl_run.specs.Standing.{name_in, children_of}
use Rattle.asl_processing.specs.Troubles.{CanRise}
use Rattle.asl_processing.specs.declared.activities.Visit.{Visit}
use Rattle.asl_run.specs.declared.changing.Change.{Change}
use Rattle.asl_run.specs.declared.changing.Change.TheVariants.{Enter, End, Ask, SplitInto, Retry}
use Rattle.asl_run.specs.declared.nodes.Children.{Children}
use Rattle.asl_run.specs.declared.nodes.Node.{Node}
use Rattle.asl_run.specs.declared.nodes.Node.TheVariants.{Ready, Waiting, Split, Ended}

-- the activity that a change leaves of a state's execution; the states have these names by their numbers
abbrev pub changed : List (List ℕ) → Visit → Change → model.Activity
changed names visit (Enter entered) = ready_view names entered
changed names visit (End outcome) = ended_view outcome
changed names visit (Ask payload) = model.Waiting (name_in names visit.state)
    (trees.view visit.raw.value) visit.counts.items (trees.view payload.value)
changed names visit (SplitInto visits) = model.Split (name_in names visit.state)
    (trees.view visit.raw.value) visit.counts.items (ready_children names visits.items)
changed names visit (Retry retrier) = model.Ready (name_in names visit.state)
    (trees.view visit.raw.value) (model.one_higher retrier visit.counts.items)

-- the execution of a state that stands there; none where the scope has ended
abbrev pub visit_in : Node → Option Visit
visit_in (Ready visit) = Some visit
visit_in (Waiting visit payload) = Some visit
visit_in (Split visit children) = Some visit
visit_in (Ended outcome) = None

-- so many children a change adds
abbrev pub children_in : Change → ℕ
children_in (Enter entered) = 0
children_in (End outcome) = 0
children_in (Ask payload) = 0
children_in (SplitInto visits) = length visits.items
children_in (Retry retrier) = 0

-- where the change is a retry, the count of its retrier can rise
abbrev pub CanApply : Node → Change → Type 0
CanApply node change = (visit : Visit) (retrier : ℕ) → visit_in node ≡ Some visit
    → change ≡ Retry retrier → CanRise visit.counts.items retrier

-- ---- in a table

-- the node shows an activity that has ended, whatever its children show
abbrev pub node_ended : Node → Bool
node_ended node = has_ended (shown_over [] model.NoActivities node)

-- the node shows the same, whatever its children show, and has the same children
pub record IsAlike (before after : Node) : Type 0 where
  pub range : range_of after ≡ range_of before
  pub shows : (names : List (List ℕ)) (below : model.Activities)
      → shown_over names below after ≡ shown_over names below before

-- so for each of a table, and no node is added
pub record AreAlike (before after : List Node) : Type 0 where
  pub long : length after ≡ length before
  pub each : (i : ℕ) (old new : Node) → slice_get before i ≡ Some old
      → slice_get after i ≡ Some new → IsAlike old new

-- node j has no children or those that are added, which have none; it shows what the change leaves there
pub record IsWritten (j : ℕ) (before : List Node) (change : Change) (after : List Node) : Type 0 where
  pub node : Node
  pub more : List Node
  pub written : after ≡ slice_set before j node ++ more
  pub alone : (k : ℕ) (added : Node) → slice_get more k ≡ Some added → range_of added ≡ None
  pub many : length more ≡ children_in change
  pub fresh : (k : ℕ) (added : Node) → slice_get more k ≡ Some added → node_ended added ≡ false
  pub range : (children : Children) → range_of node ≡ Some children
      → (children.first.0 ≡ length before) × (children.count ≡ length more)
  pub shows : (names : List (List ℕ)) (old : Node) (visit : Visit) → slice_get before j ≡ Some old
      → visit_in old ≡ Some visit
      → shown_over names (children_of (shown_from names (length before) more)) node
      ≡ changed names visit change

-- the later table has the nodes of the earlier one, but for node j
pub record IsChangedAt (j : ℕ) (before after : List Node) : Type 0 where
  pub table : IsTable before
  pub still : IsTable after
  pub others : (i : ℕ) → i < length before → (i ≡ j → ⊥) → slice_get after i ≡ slice_get before i
  pub no_shorter : length before ≤ length after

-- So many nodes are added that have no children and haven't ended, and these are the children of node j, if it has
-- some.
pub record AreAdded (j : ℕ) (before : List Node) (many : ℕ) (after : List Node) : Type 0 where
  pub long : length after ≡ length before + many
  pub alone : (i : ℕ) (node : Node) → length before ≤ i → slice_get after i ≡ Some node
      → range_of node ≡ None
  pub fresh : (i : ℕ) (node : Node) → length before ≤ i → slice_get after i ≡ Some node
      → node_ended node ≡ false
  pub range : (node : Node) (children : Children) → slice_get after j ≡ Some node
      → range_of node ≡ Some children → (children.first.0 ≡ length before) × (children.count ≡ many)

-- it is changed at node j alone, which shows what the change leaves there
pub record IsApplied (j : ℕ) (before : List Node) (change : Change) (after : List Node) : Type 0 where
  pub at : IsChangedAt j before after
  pub added : AreAdded j before (children_in change) after
  pub shows : (names : List (List ℕ)) (old : Node) (visit : Visit) → slice_get before j ≡ Some old
      → visit_in old ≡ Some visit → shown_at names after j ≡ changed names visit change
