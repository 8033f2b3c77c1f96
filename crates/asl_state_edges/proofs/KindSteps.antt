-- The steps of a state's walk, by its type.
use Rattle.std.proofs.Common.{◌≡◌, ℕ, List, [], ◌++◌, Bool, true, false, Option, Some, Ok, codes, refl, ap}
use Rattle.asl_model.specs.Certificate.{StateShapes}
use Rattle.asl_model.specs.Edges.{breaks_unless, to_branches, to_end, walk, walk_catchers, walk_default, walk_delay, walk_elements, walk_items, walk_named, walk_result, walk_rules, walk_settled, walk_then, walk_work}
use Rattle.asl_model.specs.Finding.{WrongKind, as_first_elements, effective_flow}
use Rattle.asl_model.specs.Machine.{Settings, Kind, Pass, Task, Choice, Wait, Succeed, Parallel, Map, Delay, SecondsPath, TimestampPath, Scope, Scopes}
use Rattle.asl_model.specs.Names.{FieldName}
use Rattle.asl_model.specs.Path.{Segment}
use Rattle.asl_model.specs.Shape.{Shape, Never, ArrayShape, inhabited}
use Rattle.asl_model.specs.ShapeFlow.{found, is_integer_shape, is_string_shape, leave, literal}
use Rattle.asl_model.specs.Template.{Template}
use Rattle.asl_model.specs.Test.{Rule}
use Rattle.asl_model.specs.Tree.{Tree}
use Rattle.asl_state_edges.specs.Walks.{payload_step}

module _ (settings : Settings) (kind : Kind) (entry : StateShapes) where
  -- on an effective input
  pub task_steps : (resource : List ℕ) (s : Shape) → kind ≡ Task resource → walk_work settings kind entry s ≡ payload_step s
  task_steps resource s e = rw e refl

  pub choice_steps : (rules : List Rule) (default : Option (List ℕ)) (s : Shape) → kind ≡ Choice rules default → walk_rules settings kind entry.input rules s ++ walk_default settings kind entry.input rules default s ≡ walk_work settings kind entry s
  choice_steps rules default s e = rw e refl

  pub wait_steps : (delay : Delay) (s : Shape) → kind ≡ Wait delay → walk_delay delay s ++ walk_result settings kind entry.input s ≡ walk_work settings kind entry s
  wait_steps delay s e = rw e refl

  pub succeed_steps : (s : Shape) → kind ≡ Succeed → walk_then (to_end (codes "Type")) (leave settings kind entry.input s) ≡ walk_work settings kind entry s
  succeed_steps s e = rw e refl

  pub parallel_steps : (branches : Scopes) (s : Shape) → kind ≡ Parallel branches → walk_work settings kind entry s ≡ to_branches branches s
  parallel_steps branches s e = rw e refl

  pub map_steps : (items : List Segment) (selector : Option Template) (processor : Scope) (s : Shape) → kind ≡ Map items selector processor → walk_items (walk_elements settings kind entry selector processor s) (found items s) ≡ walk_work settings kind entry s
  map_steps items selector processor s e = rw e refl

  -- on what needs none
  pub literal_steps : (t : Tree) (gives : Shape) → kind ≡ Pass (Some t) → walk_result settings kind entry.input (literal t) ≡ walk_settled gives settings kind entry
  literal_steps t gives e = rw e refl

  pub answer_steps : (resource : List ℕ) (gives : Shape) → kind ≡ Task resource → walk_result settings kind entry.input gives ≡ walk_settled gives settings kind entry
  answer_steps resource gives e = rw e refl

  pub ends_steps : (branches : Scopes) (gives : Shape) → kind ≡ Parallel branches → walk_result settings kind entry.input (ArrayShape (as_first_elements entry.branches) Never) ≡ walk_settled gives settings kind entry
  ends_steps branches gives e = rw e refl

  -- all of them
  pub all_steps : (gives : Shape) → inhabited entry.input ≡ true → walk_then (walk_work settings kind entry) (effective_flow settings entry.input) ++ (walk_settled gives settings kind entry ++ walk_catchers entry.input settings.catchers) ≡ walk gives settings kind entry
  all_steps gives h = rw h refl

  pub no_steps : (gives : Shape) → inhabited entry.input ≡ false → walk gives settings kind entry ≡ []
  no_steps gives h = rw h refl

-- ---- delays

-- what is named is of that kind, or it isn't
pub named_right : (field : FieldName) (test : Shape → Bool) (s : Shape) (right : Bool) → right ≡ test s → breaks_unless right field WrongKind ≡ walk_named field test (Ok s)
named_right field test s right is = ap (λ b. breaks_unless b field WrongKind) is

module _ (delay : Delay) (path : List Segment) (s : Shape) where
  pub seconds_steps : delay ≡ SecondsPath path → walk_named (codes "SecondsPath") is_integer_shape (found path s) ≡ walk_delay delay s
  seconds_steps is = rw is refl

  pub timestamp_steps : delay ≡ TimestampPath path → walk_named (codes "TimestampPath") is_string_shape (found path s) ≡ walk_delay delay s
  timestamp_steps is = rw is refl
