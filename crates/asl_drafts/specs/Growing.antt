-- Shapes that grow as more flows into them. No public clause cites this module.
use Rattle.std.specs.Prelude.{◌≡◌, ◌<◌, List, length, Bool, true, false, Vec}
use Rattle.std.specs.declared.alloc.Global.{Global}
use Rattle.std.specs.List.{All}
use Rattle.asl_model.specs.Shape as model
use Rattle.asl_draft_laws.specs.Drafts.{Growth, taken_in}
use Rattle.asl_numbered.specs.Expansion.{shape_at}
use Rattle.asl_drafts.specs.Cutting.{IsShallow}
use Rattle.asl_drafts.specs.declared.entries.DraftEntry.{DraftEntry}
use Rattle.asl_drafts.specs.declared.growing.Growing.{Growing}

-- where a change is told, fewer are left, and else all is as it was
abbrev pub IsTold : Growth → Bool → Growth → Type 0
IsTold before true after = after.changes_left < before.changes_left
IsTold before false after = after ≡ before

-- what flows in is taken in, and it is told whether this changed the shape
pub record Takes (before : Growth) (flowing : model.Shape) (changed : Bool) (after : Growth) : Type 0 where
  pub grown : after ≡ taken_in flowing before
  pub told : IsTold before changed after

-- the growing shape of the code, in a table
abbrev pub growth_view : List model.Shape → Growing → Growth
growth_view table g = record { shape = shape_at table g.number; changes_left = g.changes_left }

-- its number is in the table, and the shape has few levels
pub record IsGrown (table : List model.Shape) (g : Growing) : Type 0 where
  pub within : g.number < length table
  pub shallow : IsShallow (shape_at table g.number)

-- so each of the ends of an entry, each shape of an entry, and of several entries
abbrev pub AreEndsGrown : List model.Shape → Vec Growing Global → Type 0
AreEndsGrown table ends = All (IsGrown table) ends.items

pub record IsEntryGrown (table : List model.Shape) (entry : DraftEntry) : Type 0 where
  pub input : IsGrown table entry.input
  pub output : IsGrown table entry.output
  pub ends : AreEndsGrown table entry.ends

pub record AreGrown (table : List model.Shape) (entries : List DraftEntry) : Type 0 where
  pub each : All (IsEntryGrown table) entries
