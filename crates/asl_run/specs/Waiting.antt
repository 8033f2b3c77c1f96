-- Tasks that wait, in the definitions.
use Rattle.std.specs.Prelude.{◌≡◌, ℕ, List, Some, slice_get}
use Rattle.asl_model.specs.Tree.{Tree}
use Rattle.asl_model.specs.Run.{Activity, Waiting, activity_at}
use Rattle.asl_tree.specs.View.{view}
use Rattle.asl_run.specs.declared.waiting.Asked.{Asked}

-- that task waits at a place of an activity, where the states have these names by their numbers
pub record WaitsAt (names : List (List ℕ)) (place : List ℕ) (a : Activity)
    (asked : Asked) : Type 0 where
  pub raw : Tree
  pub counts : List ℕ
  pub numbered : slice_get names asked.state ≡ Some asked.name.now
  pub waits : activity_at place a ≡ Some (Waiting asked.name.now raw counts (view asked.payload.now))

-- no task waits there
pub record NoneWaitsAt (place : List ℕ) (a : Activity) : Type 0 where
  pub none : (n : List ℕ) (raw : Tree) (counts : List ℕ) (payload : Tree)
      → activity_at place a ≡ Some (Waiting n raw counts payload) → ⊥
