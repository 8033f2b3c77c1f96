-- What is read of a certificate's fields one after another. No public clause cites this module.
use Rattle.std.specs.Prelude.{◌≡◌, ℕ, List, [], length, map, Bool, Option, Some, None, option_map, codes, String}
use Rattle.std.specs.declared.alloc.Global.{Global}
use Rattle.json.specs.Json as Json
use Rattle.json.specs.Token.{Token}
use Rattle.serde_json.specs.Data.{Data, Items, Members, array, object, put}
use Rattle.serde_json.specs.Find.{get_member}
use Rattle.serde_json.specs.Read.{converted, of_json}
use Rattle.asl_model.specs.Records.{certificate_rows, entries_complaints, entries_from, listed_after, listed_misfits, state_from, state_rows}
use Rattle.asl_model.specs.Shape.{Shape}
use Rattle.asl_model.specs.Tree as model
use Rattle.asl_model.specs.Tree.{Tree}
use Rattle.asl_numbered.specs.Expansion.{shape_at, AreBelow}
use Rattle.asl_records.specs.Listed.{AreMeant}
use Rattle.asl_records.specs.Numbering.{AreStatesOf}
use Rattle.asl_records.specs.Parts.{foreign_complaints, reading_of, trees_there}
use Rattle.asl_records.specs.Values.{AreMembers, IsPart}
use Rattle.asl_records.specs.declared.records.StateNumbers.{StateNumbers}
use Rattle.asl_streams.specs.Shaped.{IsOutput}
use Rattle.asl_streams.specs.Streamed.{SpellMembers}
use Rattle.asl_streams.specs.declared.fields.Fields.{Fields}
use Rattle.asl_tree.specs.View.{view}

-- the names of a certificate's fields
abbrev pub known : List (List ℕ)
known = map (λ row. row.field) certificate_rows

-- a list of shapes was read: nothing is wrong with it, and the numbers mean it
pub record IsListRead (several : Bool) (now : List Shape) (stated : Data) (numbers : List ℕ) : Type 0 where
  pub found : Items
  pub is : stated ≡ array found
  pub right : listed_misfits several [] found ≡ []
  pub meant : AreMeant several now numbers (listed_after [] found)
  pub below : AreBelow (length now) numbers

abbrev pub IsList : Bool → List Shape → Option Data → Option (List ℕ) → Type 0
IsList several now None None = Unit {0}
IsList several now None (Some numbers) = ⊥
IsList several now (Some stated) None = ⊥
IsList several now (Some stated) (Some numbers) = IsListRead several now stated numbers

-- the states were read, references in them meaning those trees
pub record AreStatesRead (several : Bool) (now : List Shape) (trees : Option (List Tree)) (stated : Data)
    (entries : List (String Global × StateNumbers)) : Type 0 where
  pub found : Members
  pub is : stated ≡ object found
  pub right : entries_complaints (reading_of several trees) state_rows found ≡ []
  pub same : AreStatesOf now (entries_from (state_from trees) found) entries

abbrev pub AreStates : Bool → List Shape → Option (List Tree) → Option Data → Option (List (String Global × StateNumbers)) → Type 0
AreStates several now trees None None = Unit {0}
AreStates several now trees None (Some entries) = ⊥
AreStates several now trees (Some stated) None = ⊥
AreStates several now trees (Some stated) (Some entries) = AreStatesRead several now trees stated entries

-- the shapes that are listed, where any are
abbrev pub shapes_listed : List Shape → Fields → Option (List Shape)
shapes_listed now fields = option_map (λ ns. map (shape_at now) ns.items) fields.listed

-- the members that were found are these fields
pub record AreFields (several : Bool) (now : List Shape) (found : Members) (fields : Fields) : Type 0 where
  pub version : IsPart (option_map view fields.version) (get_member (codes "version") found)
  pub output : IsOutput several (shapes_listed now fields) now (get_member (codes "output") found) fields.output
  pub listed : IsList several now (get_member (codes "shapes") found) (option_map (λ ns. ns.items) fields.listed)
  pub states : AreStates several now (trees_there (get_member (codes "shapes") found)) (get_member (codes "states") found) (option_map (λ m. m.entries) fields.states)
  pub trees : model.Fields
  pub whole : AreMembers trees found
  pub foreign : foreign_complaints [] known found ≡ []

-- one more was read
pub record ReadsField (several : Bool) (name : List ℕ) (start now : List Shape) (before after : List Token)
    (old new : Fields) : Type 0 where
  pub value : Data
  pub spelled : converted of_json (Json.value 126 before) ≡ Some (value, after)
  pub are : (found : Members) → AreFields several start found old → AreFields several now (put name value found) new

-- all were
pub record ReadsFields (several : Bool) (now : List Shape) (before after : List Token) (fields : Fields) : Type 0 where
  pub found : Members
  pub spelled : SpellMembers 126 before after found
  pub are : AreFields several now found fields
