-- What is read of the fields of a state's entry one after another. No public clause cites this module.
use Rattle.std.specs.Prelude.{◌≡◌, ℕ, List, [], map, Bool, Option, Some, option_map, codes}
use Rattle.std.specs.Option.{unwrap_or}
use Rattle.json.specs.Json as Json
use Rattle.json.specs.Token.{Token}
use Rattle.serde_json.specs.Data.{Data, Members, object, put}
use Rattle.serde_json.specs.Find.{get_member}
use Rattle.serde_json.specs.Read.{converted, of_json}
use Rattle.asl_model.specs.Records.{state_rows}
use Rattle.asl_model.specs.Shape.{Shape}
use Rattle.asl_model.specs.Tree.{Fields}
use Rattle.asl_records.specs.Parts.{foreign_complaints}
use Rattle.asl_records.specs.Values.{AreMembers}
use Rattle.asl_records.specs.declared.records.StateNumbers.{StateNumbers}
use Rattle.asl_streams.specs.Shaped.{AreSpelled, IsSpelled}
use Rattle.asl_streams.specs.Streamed.{SpellMembers}
use Rattle.asl_streams.specs.declared.states.Entry.{Entry}

-- the names of the fields
abbrev pub known_parts : List (List ℕ)
known_parts = map (λ row. row.field) state_rows

-- the members that were found are these fields
pub record AreParts (several : Bool) (given : Option (List Shape)) (now : List Shape) (found : Members) (entry : Entry)
    : Type 0 where
  pub input : IsSpelled several given now (get_member (codes "input") found) entry.input
  pub output : IsSpelled several given now (get_member (codes "output") found) entry.output
  pub branches : AreSpelled several given now (get_member (codes "branches") found) (option_map (λ ns. ns.items) entry.branches)
  pub item : IsSpelled several given now (get_member (codes "item") found) entry.item
  pub trees : Fields
  pub whole : AreMembers trees found
  pub foreign : (name : List ℕ) → foreign_complaints name known_parts found ≡ []

-- one more was read
pub record ReadsPart (several : Bool) (given : Option (List Shape)) (levels : ℕ) (name : List ℕ) (start now : List Shape)
    (before after : List Token) (old new : Entry) : Type 0 where
  pub value : Data
  pub spelled : converted of_json (Json.value levels before) ≡ Some (value, after)
  pub are : (found : Members) → AreParts several given start found old → AreParts several given now (put name value found) new

-- the numbers are those of the fields
pub record AreTheirs (entry : Entry) (state : StateNumbers) : Type 0 where
  pub input : entry.input ≡ Some state.input
  pub output : entry.output ≡ Some state.output
  pub branches : state.branches.items ≡ unwrap_or (option_map (λ ns. ns.items) entry.branches) []
  pub item : state.item ≡ entry.item

-- all fields up to the end of the object were read, and the numbers are theirs
pub record ReadsParts (several : Bool) (given : Option (List Shape)) (levels : ℕ) (now : List Shape)
    (before after : List Token) (state : StateNumbers) : Type 0 where
  pub found : Members
  pub spelled : SpellMembers levels before after found
  pub entry : Entry
  pub are : AreParts several given now found entry
  pub theirs : AreTheirs entry state

-- the tokens spell an object of such fields
pub record ReadsState (several : Bool) (given : Option (List Shape)) (levels : ℕ) (now : List Shape)
    (before after : List Token) (state : StateNumbers) : Type 0 where
  pub found : Members
  pub spelled : converted of_json (Json.value levels before) ≡ Some (object found, after)
  pub entry : Entry
  pub are : AreParts several given now found entry
  pub theirs : AreTheirs entry state
