-- The shapes of a state by number.
use Rattle.std.specs.Prelude.{◌<◌, ℕ, List, map, option_map, IfSome}
use Rattle.asl_model.specs.Certificate.{StateShapes}
use Rattle.asl_model.specs.Shape.{Shape}
use Rattle.asl_numbered.specs.Expansion.{shape_at, AreBelow}
use Rattle.asl_state_edges.specs.declared.found.Entry.{Entry}

-- the shapes of a state
abbrev pub entry_view : List Shape → Entry → StateShapes
entry_view table e = record {
  input = shape_at table e.input;
  output = shape_at table e.output;
  branches = map (shape_at table) e.branches.now;
  item = option_map (shape_at table) e.item;
}

-- their numbers are below that bound
pub record IsEntryBelow (bound : ℕ) (e : Entry) : Type 0 where
  pub input : e.input < bound
  pub output : e.output < bound
  pub branches : AreBelow bound e.branches.now
  pub item : IfSome e.item (λ n. n < bound)
