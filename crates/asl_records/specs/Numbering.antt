-- What the numbers of a certificate's parts stand for in a table. No public clause cites this module.
use Rattle.std.specs.Prelude.{◌≡◌, ◌<◌, ℕ, List, length, map, Option, option_map, String, IfSome}
use Rattle.std.specs.declared.alloc.Global.{Global}
use Rattle.asl_model.specs.Certificate as model
use Rattle.asl_model.specs.Shape.{Shape}
use Rattle.asl_numbered.specs.Expansion.{shape_at, AreBelow}
use Rattle.asl_records.specs.Numbered.{numbers_view, numbered_entries, AreNumbersBelow, AreEntriesBelow}
use Rattle.asl_records.specs.declared.records.StateNumbers.{StateNumbers}

-- the numbers stand in the table for those shapes, in order
pub record AreListOf (table : List Shape) (shapes : List Shape) (ns : List ℕ) : Type 0 where
  pub below : AreBelow (length table) ns
  pub same : map (shape_at table) ns ≡ shapes

-- the number, if there is one, stands for that shape
pub record IsItemOf (table : List Shape) (shape : Option Shape) (item : Option ℕ) : Type 0 where
  pub below : IfSome item (λ n. n < length table)
  pub same : option_map (shape_at table) item ≡ shape

-- the numbers stand for what is certified of a state
pub record AreStateOf (table : List Shape) (shapes : model.StateShapes) (numbers : StateNumbers) : Type 0 where
  pub below : AreNumbersBelow (length table) numbers
  pub same : numbers_view table numbers ≡ shapes

-- so for each state, in the order of their names
pub record AreStatesOf (table : List Shape) (states : List (List ℕ × model.StateShapes))
    (entries : List (String Global × StateNumbers)) : Type 0 where
  pub below : AreEntriesBelow (length table) entries
  pub same : numbered_entries table entries ≡ states
