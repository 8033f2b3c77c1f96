-- The certificate that a draft comes to, as it is made. No public clause cites this module.
use Rattle.std.specs.Prelude.{◌≡◌, ℕ, List, length, String, string_bytes}
use Rattle.std.specs.List.{AllByRecursion}
use Rattle.std.specs.declared.alloc.Global.{Global}
use Rattle.asl_model.specs.Certificate.{StateShapes}
use Rattle.asl_model.specs.Machine.{Kind}
use Rattle.asl_model.specs.Numbering.{Table}
use Rattle.asl_model.specs.RecordShapes.{HoldsForState}
use Rattle.asl_draft_laws.specs.Drafts.{Row, entry_of}
use Rattle.asl_model.specs.Shape.{Shape}
use Rattle.asl_state_edges.specs.declared.found.Entry.{Entry}
use Rattle.asl_records.specs.Numbered.{numbers_view, AreNumbersBelow}
use Rattle.asl_records.specs.declared.records.StateNumbers.{StateNumbers}
use Rattle.asl_drafts.specs.Cutting.{IsShallow}
use Rattle.asl_drafts.specs.Drafted.{draft_view, shapes_of}
use Rattle.asl_drafts.specs.Order.{IsPlaced}
use Rattle.asl_drafts.specs.declared.draft.Draft.{Draft}

-- the numbers are those of the entry
pub record AreNumbersOf (entry : Entry) (numbers : StateNumbers) : Type 0 where
  pub input : numbers.input ≡ entry.input
  pub output : numbers.output ≡ entry.output
  pub branches : numbers.branches.items ≡ entry.branches.now
  pub item : numbers.item ≡ entry.item

-- the numbers are in the table, and their shapes have few levels
pub record IsFit (table : List Shape) (numbers : StateNumbers) : Type 0 where
  pub below : AreNumbersBelow (length table) numbers
  pub shallow : HoldsForState IsShallow (numbers_view table numbers)

-- they are those of the shapes of the state of that number and type
pub record IsCertified (draft : Draft) (number : ℕ) (kind : Kind) (numbers : StateNumbers) : Type 0 where
  pub shown : numbers_view draft.store numbers ≡ shapes_of (draft_view draft) number kind
  pub fit : IsFit draft.store numbers

-- what is certified of a row, with its name
abbrev pub row_certified : Draft → Row → List ℕ × StateShapes
row_certified draft row = (row.name, entry_of (draft_view draft) row)

-- an entry with its name
abbrev pub entry_certified : Draft → String Global × StateNumbers → List ℕ × StateShapes
entry_certified draft entry = (string_bytes entry.0, numbers_view draft.store entry.1)

-- the entries are those of the rows from that number on
pub record AreCertified (table : Table) (draft : Draft) (from : ℕ) (entries : List (String Global × StateNumbers))
    : Type 0 where
  pub rows : IsPlaced (entry_certified draft) (row_certified draft) table from entries
  pub fit : AllByRecursion (λ (entry : String Global × StateNumbers). IsFit draft.store entry.1) entries
