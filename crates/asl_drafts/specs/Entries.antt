-- The entries of a draft: the shapes of the states of a machine. No public clause cites this module.
use Rattle.std.specs.Prelude.{◌≡◌, ◌<◌, ◌+◌, ℕ, List, map, replicate, slice_get, sum_by, Bool, true, false, Option, Some, Vec}
use Rattle.std.specs.declared.alloc.Global.{Global}
use Rattle.asl_model.specs.Shape.{Shape}
use Rattle.asl_draft_laws.specs.Drafts.{DraftEntry, Growth, with_element}
use Rattle.asl_numbered.specs.Expansion.{shape_at, AreBelow}
use Rattle.asl_drafts.specs.Growing.{growth_view}
use Rattle.asl_drafts.specs.declared.entries.DraftEntry as code
use Rattle.asl_drafts.specs.declared.entries.EntryNumbers.{EntryNumbers}
use Rattle.asl_drafts.specs.declared.entries.Part.{Part}
use Rattle.asl_drafts.specs.declared.entries.Part.TheVariants as part
use Rattle.asl_drafts.specs.declared.growing.Growing.{Growing}

-- the ends of an entry, its shapes, and those of several, in a table
abbrev pub ends_view : List Shape → Vec Growing Global → List Growth
ends_view table ends = map (growth_view table) ends.items

abbrev pub entry_view : List Shape → code.DraftEntry → DraftEntry
entry_view table entry = record {
  input = growth_view table entry.input;
  output = growth_view table entry.output;
  ends = ends_view table entry.ends;
}

abbrev pub entries_view : List Shape → List code.DraftEntry → List DraftEntry
entries_view table entries = map (entry_view table) entries

-- how often the ends of an entry may still change, its shapes, and those of several
abbrev pub ends_room : List Growth → ℕ
ends_room ends = sum_by (λ g. g.changes_left) ends

abbrev pub entry_room : DraftEntry → ℕ
entry_room entry = entry.input.changes_left + (entry.output.changes_left + ends_room entry.ends)

abbrev pub entries_room : List DraftEntry → ℕ
entries_room entries = sum_by entry_room entries

-- the shapes of an entry of the code, and those of one with so many children that has one shape throughout
abbrev pub growths_in : code.DraftEntry → Growing × Growing × List Growing
growths_in entry = (entry.input, entry.output, entry.ends.items)

abbrev pub filled_with : Growing → ℕ → Growing × Growing × List Growing
filled_with g children = (g, g, replicate children g)

-- one of the shapes of an entry of the code, if it is there
abbrev pub growing_in : Part → code.DraftEntry → Option Growing
growing_in part.Input entry = Some entry.input
growing_in part.Output entry = Some entry.output
growing_in (part.End child) entry = slice_get entry.ends.items child

-- the entry with that made of one of its shapes, if it is there
abbrev pub made_part : Part → (Growth → Growth) → DraftEntry → DraftEntry
made_part part.Input make entry = record entry { input = make entry.input }
made_part part.Output make entry = record entry { output = make entry.output }
made_part (part.End child) make entry = record entry { ends = with_element child make entry.ends }

-- the numbers of an entry's shapes, as a tuple
abbrev pub numbers_seen : EntryNumbers → ℕ × ℕ × List ℕ
numbers_seen numbers = (numbers.input, numbers.output, numbers.ends.items)

abbrev pub numbers_in : code.DraftEntry → ℕ × ℕ × List ℕ
numbers_in entry = (entry.input.number, entry.output.number, map (λ g. g.number) entry.ends.items)

-- they are those of the shapes of the entry
pub record AreNumbersIn (table : List Shape) (entry : DraftEntry) (numbers : EntryNumbers) : Type 0 where
  pub input : shape_at table numbers.input ≡ entry.input.shape
  pub output : shape_at table numbers.output ≡ entry.output.shape
  pub ends : map (shape_at table) numbers.ends.items ≡ map (λ g. g.shape) entry.ends

-- all of them are below that bound
pub record AreAllBelow (bound : ℕ) (numbers : EntryNumbers) : Type 0 where
  pub input : numbers.input < bound
  pub output : numbers.output < bound
  pub ends : AreBelow bound numbers.ends.items

-- where a change is told, the shapes may change less often, and else all is as it was
abbrev pub IsToldOf : {A : Type 0} → (A → ℕ) → A → Bool → A → Type 0
IsToldOf room before true after = room after < room before
IsToldOf room before false after = after ≡ before

-- that is made of something, and it is told whether this changed it
pub record Makes {A : Type 0} (room : A → ℕ) (make : A → A) (before : A) (changed : Bool) (after : A) : Type 0 where
  pub made : after ≡ make before
  pub told : IsToldOf room before changed after
