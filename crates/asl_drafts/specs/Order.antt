-- The order in which the states of a machine are walked. No public clause cites this module.
use Rattle.std.specs.Prelude.{◌≡◌, ℕ, List, drop, map, true, zip}
use Rattle.std.specs.Borrow.{Bor}
use Rattle.asl_model.specs.ShapeSpelling.{are_distinct}
use Rattle.asl_model.specs.Numbering.{Table}
use Rattle.asl_draft_laws.specs.Drafts.{Row, in_name_order, rows_from, rows_of}

-- the numbers are those of the rows in their order, where no name stands twice
pub record AreOrdered (table : Table) (numbers : List ℕ) : Type 0 where
  pub ordered : are_distinct table.names ≡ true → numbers ≡ map (λ (row : Row). row.number) (rows_of table)

-- a name and a number, of an entry and of a row
abbrev pub entry_seen : Bor (List ℕ) × ℕ → List ℕ × ℕ
entry_seen e = (e.0.now, e.1)

abbrev pub row_seen : Row → List ℕ × ℕ
row_seen row = (row.name, row.number)

-- the entries of a map are seen as what is made of the rows from that number on, in their order, where no name stands
-- twice
pub record IsPlaced {E W : Type 0} (seen : E → W) (made : Row → W) (table : Table) (from : ℕ) (entries : List E)
    : Type 0 where
  pub placed : are_distinct table.names ≡ true
      → map seen entries ≡ map made (in_name_order (λ row. row.name) (rows_from from (zip (drop from table.names) (drop from table.states))))
