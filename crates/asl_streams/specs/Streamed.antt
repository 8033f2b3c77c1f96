-- What is read of a certificate's text shape by shape. No public clause cites this module.
use Rattle.std.specs.Prelude.{◌≡◌, ℕ, List, [], length, Bool, Option, Some, String}
use Rattle.std.specs.Borrow.{Bor}
use Rattle.std.specs.declared.alloc.Global.{Global}
use Rattle.json.specs.Json.{items, members, value}
use Rattle.json.specs.Token.{Token}
use Rattle.serde_json.specs.Data.{Items, Members, no_members}
use Rattle.serde_json.specs.Read.{converted, of_items, of_members}
use Rattle.asl_model.specs.Records.{entries_complaints, entries_from, listed_after, listed_misfits, state_from, state_rows}
use Rattle.asl_model.specs.Shape.{Shape}
use Rattle.asl_model.specs.Tree.{Fields, Trees}
use Rattle.asl_numbered.specs.Expansion.{AreBelow}
use Rattle.asl_records.specs.Listed.{AreMeant, ForReading}
use Rattle.asl_records.specs.Numbering.{AreStatesOf}
use Rattle.asl_records.specs.Values.{AreItems, AreMembers}
use Rattle.asl_records.specs.declared.records.StateNumbers.{StateNumbers}

-- the tokens spell these members, or these elements, with at most so many levels in them, and the others are left
abbrev pub SpellMembers : ℕ → List Token → List Token → Members → Type 0
SpellMembers levels before after found =
    converted (λ ms. of_members ms no_members) (members (value levels) (length before) before) ≡ Some (found, after)

abbrev pub SpellItems : ℕ → List Token → List Token → Items → Type 0
SpellItems levels before after found = converted of_items (items (value levels) (length before) before) ≡ Some (found, after)

-- the states were read, in a table that was `start` and is `now`: nothing is wrong with them, and their shapes are these
pub record ReadsStates (several : Bool) (given : Option (Bor (List ℕ))) (start now : List Shape) (levels : ℕ)
    (before after : List Token) (entries : List (String Global × StateNumbers)) : Type 0 where
  pub found : Members
  pub spelled : SpellMembers levels before after found
  pub fields : Fields
  pub whole : AreMembers fields found
  pub right : ForReading several start given (λ reading. entries_complaints reading state_rows found ≡ [])
  pub same : ForReading several start given
      (λ reading. AreStatesOf now (entries_from (state_from reading.listed) found) entries)

-- so the shapes of a list, which the numbers mean
pub record ReadsList (several : Bool) (now : List Shape) (levels : ℕ) (before after : List Token) (numbers : List ℕ)
    : Type 0 where
  pub found : Items
  pub spelled : SpellItems levels before after found
  pub elements : Trees
  pub whole : AreItems elements found
  pub right : listed_misfits several [] found ≡ []
  pub meant : AreMeant several now numbers (listed_after [] found)
  pub below : AreBelow (length now) numbers
