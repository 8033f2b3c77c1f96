-- The activities of the definitions that executions of states stand for, which are about to enter them.
use Rattle.std.specs.Prelude.{◌≡◌, ℕ, List, [], ◌∷◌, map}
use Rattle.asl_model.specs.Machine.{Scope}
use Rattle.asl_model.specs.Run as model
use Rattle.asl_model.specs.Tree.{Tree, Trees, trees_of}
use Rattle.asl_tree.specs.View as trees
use Rattle.asl_processing.specs.Names.{name_in}
use Rattle.asl_processing.specs.declared.activities.Visit.{Visit}

-- the children of a Split, in order
abbrev pub children_of : List model.Activity → model.Activities
children_of [] = model.NoActivities
children_of (a ∷ others) = model.AndActivity a (children_of others)

-- an execution that is about to enter its state; the states have these names by their numbers
abbrev pub ready_view : List (List ℕ) → Visit → model.Activity
ready_view names visit =
    model.Ready (name_in names visit.state) (trees.view visit.raw.value) visit.counts.items

-- so each of them, in order
abbrev pub ready_children : List (List ℕ) → List Visit → model.Activities
ready_children names visits = children_of (map (ready_view names) visits)

-- the raw input of an execution
abbrev pub given : Visit → Tree
given visit = trees.view visit.raw.value

-- so of each of them, in order
abbrev pub inputs_of : List Visit → Trees
inputs_of visits = trees_of (map given visits)

-- the execution is about to enter the state of that number, and nothing has been retried
pub record Begins (number : ℕ) (visit : Visit) : Type 0 where
  pub state : visit.state ≡ number
  pub uncounted : visit.counts.items ≡ []

-- with its inputs the children start in these scopes
pub record StartIn (names : List (List ℕ)) (scopes : ℕ → Scope) (visits : List Visit) : Type 0 where
  pub started : ready_children names visits ≡ model.started scopes (inputs_of visits)

-- the same execution, the count of that retrier one higher
pub record IsRaised (retrier : ℕ) (before after : Visit) : Type 0 where
  pub state : after.state ≡ before.state
  pub raw : after.raw ≡ before.raw
  pub counts : after.counts.items ≡ model.one_higher retrier before.counts.items

-- the same execution
pub record IsSame (before after : Visit) : Type 0 where
  pub state : after.state ≡ before.state
  pub raw : after.raw ≡ before.raw
  pub counts : after.counts.items ≡ before.counts.items
