-- The places where an event is enabled, in an activity whose states all stand in their scopes.
use Rattle.std.specs.declared.alloc.Global.{Global}
use Rattle.std.specs.Prelude.{Vec, ◌≡◌, ℕ, suc, Bool, true, false, List, [], ◌∷◌, ◌++◌, map, Option, Some, None}
use Rattle.asl_run.specs.Entries.{want_view}
use Rattle.asl_run.specs.Nodes.{AreHeads, in_table, shown_at, shown_from, shown_over}
use Rattle.asl_run.specs.Standing.{children_of}
use Rattle.asl_run.specs.declared.nodes.Children.{Children}
use Rattle.asl_run.specs.declared.nodes.Node.{Node}
use Rattle.asl_run.specs.declared.entries.Want as code
use Rattle.asl_model.specs.Run.{Activity, Ready, Waiting, Split, Done, Failed, Activities, NoActivities, AndActivity}
use Rattle.asl_model.specs.Run.{Joining, AllDone, OneFailed, StillRunning, joining, Want, WantsMove, WantsAnswer}
use Rattle.asl_model.specs.Run.{down_from}

-- a Split wants its move where its children are far enough
abbrev pub wanted_by_join : Joining → Option Want
wanted_by_join (AllDone outputs) = Some WantsMove
wanted_by_join (OneFailed i error cause) = Some WantsMove
wanted_by_join StillRunning = None

-- the children of a Split are far enough for its move
abbrev pub is_joinable : Joining → Bool
is_joinable (AllDone outputs) = true
is_joinable (OneFailed i error cause) = true
is_joinable StillRunning = false

-- a scope has ended there with an error
abbrev pub has_failed : Activity → Bool
has_failed (Ready n raw counts) = false
has_failed (Waiting n raw counts payload) = false
has_failed (Split n raw counts children) = false
has_failed (Done output) = false
has_failed (Failed error cause) = true

-- a scope has ended there
abbrev pub has_ended : Activity → Bool
has_ended (Ready n raw counts) = false
has_ended (Waiting n raw counts payload) = false
has_ended (Split n raw counts children) = false
has_ended (Done output) = true
has_ended (Failed error cause) = true

-- the kind of event that the activity itself wants
abbrev pub wanted_by : Activity → Option Want
wanted_by (Ready n raw counts) = Some WantsMove
wanted_by (Waiting n raw counts payload) = Some WantsAnswer
wanted_by (Split n raw counts children) = wanted_by_join (joining 0 children)
wanted_by (Done output) = None
wanted_by (Failed error cause) = None

-- the activity's own place, where it wants an event
abbrev pub own_place : Option Want → List (List ℕ × Want)
own_place None = []
own_place (Some want) = ([], want) ∷ []

abbrev mutual
  -- the places in an activity that want an event, each with its kind, a place before those below it
  pub open_in : Activity → List (List ℕ × Want)
  open_in (Ready n raw counts) = own_place (Some WantsMove)
  open_in (Waiting n raw counts payload) = own_place (Some WantsAnswer)
  open_in (Split n raw counts children) =
      own_place (wanted_by_join (joining 0 children)) ++ open_below children 0
  open_in (Done output) = []
  open_in (Failed error cause) = []

  -- those of the children from number i on
  pub open_below : Activities → ℕ → List (List ℕ × Want)
  open_below NoActivities i = []
  open_below (AndActivity child others) i =
      map (down_from i) (open_in child) ++ open_below others (suc i)

-- a place below that one, seen from the machine's own
abbrev pub seen_from : List ℕ → List ℕ × Want → List ℕ × Want
seen_from place wanted = (place ++ wanted.0, wanted.1)

-- those places, below that one, are added to a list
pub record Adds (place : List ℕ) (more before after : List (List ℕ × Want)) : Type 0 where
  pub added : after ≡ before ++ map (seen_from place) more

-- a place that was found, with the kind of event that it wants
abbrev pub found_view : Vec ℕ Global × code.Want → List ℕ × Want
found_view found = (found.0.items, want_view found.1)

-- those of a node of a table, whatever the states are called
pub record AddsPlaces (nodes : List Node) (i : ℕ) (place : List ℕ)
    (before after : List (List ℕ × Want)) : Type 0 where
  pub adds : (names : List (List ℕ)) → Adds place (open_in (shown_at names nodes i)) before after

-- those of some of its children
pub record AddsPlacesBelow (nodes : List Node) (children : Children) (place : List ℕ)
    (before after : List (List ℕ × Want)) : Type 0 where
  pub adds : (names : List (List ℕ)) → Adds place
      (open_below (children_of (in_table (Some children) (shown_from names 0 nodes))) 0)
      before after

-- the own place of a node with these children
pub record AddsOwn (node : Node) (children : List Node) (place : List ℕ)
    (before after : List (List ℕ × Want)) : Type 0 where
  pub adds : (names : List (List ℕ)) (below : List Activity) → AreHeads names children below
      → Adds place (own_place (wanted_by (shown_over names (children_of below) node))) before after
