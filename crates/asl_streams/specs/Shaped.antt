-- What is read of shapes from tokens. No public clause cites this module.
use Rattle.std.specs.Prelude.{◌≡◌, ℕ, List, [], ◌∷◌, length, Bool, if◌then◌else◌, Option, Some, None, option_map, bytes_eq, codes, IfSome}
use Rattle.json.specs.Json.{members, value}
use Rattle.json.specs.Token.{Token}
use Rattle.serde_json.specs.Data.{Data, Items, array, item, no_items}
use Rattle.serde_json.specs.Read.{converted, of_json}
use Rattle.asl_model.specs.Shape.{Shape}
use Rattle.asl_model.specs.Tree.{Tree, Object, Trees, Fields, NoFields, AndField, field_named}
use Rattle.asl_numbered.specs.Expansion.{AreBelow, numbers_in}
use Rattle.asl_numbered.specs.Names.{Name}
use Rattle.asl_numbered.specs.Reading.{AreFieldsRead, IsRead}
use Rattle.asl_numbered.specs.declared.node.NodeField.{NodeField}
use Rattle.asl_records.specs.Values.{AreItems, IsValue}
use Rattle.asl_streams.specs.Streamed.{SpellItems}
use Rattle.asl_streams.specs.declared.outputs.Output.{Output}
use Rattle.asl_streams.specs.declared.outputs.Output.TheVariants.{Number, Spelled}
use Rattle.asl_streams.specs.declared.spellings.Spelling.{Spelling}
use Rattle.asl_tree.specs.Parsed.{spelled, spelled_fields}
use Rattle.asl_tree.specs.View.{entries_view, view}

-- the tokens spell a tree, with at most so many levels, which spells the shape of the number
pub record ReadsShape (several : Bool) (given : Option (List Shape)) (levels : ℕ) (before after : List Token)
    (now : List Shape) (n : ℕ) : Type 0 where
  pub tree : Tree
  pub spelled : converted spelled (value levels before) ≡ Some (tree, after)
  pub read : IsRead several given tree now n

-- they spell the fields of an object, which spell the shapes of these
pub record ReadsMentions (several : Bool) (given : Option (List Shape)) (levels : ℕ) (before after : List Token)
    (now : List Shape) (entries : List (Name × NodeField)) : Type 0 where
  pub fields : Fields
  pub spelled : converted spelled_fields (members (value levels) (length before) before) ≡ Some (fields, after)
  pub read : AreFieldsRead several given fields now entries

-- they spell such an object
pub record ReadsProperties (several : Bool) (given : Option (List Shape)) (levels : ℕ) (before after : List Token)
    (now : List Shape) (entries : List (Name × NodeField)) : Type 0 where
  pub fields : Fields
  pub spelled : converted spelled (value levels before) ≡ Some (Object fields, after)
  pub read : AreFieldsRead several given fields now entries

-- ---- keywords without what stands under `properties`

-- in the place of which there is an empty object
abbrev pub emptied_at : List ℕ → Tree → Tree
emptied_at name t = if bytes_eq name (codes "properties") then Object NoFields else t

abbrev pub emptied : Fields → Fields
emptied NoFields = NoFields
emptied (AndField name t fs) = AndField name (emptied_at name t) (emptied fs)

-- what stands under `properties`: nothing, and no fields were read, or an object whose fields spell the shapes of these
pub record IsOfFields (several : Bool) (given : Option (List Shape)) (now : List Shape) (t : Tree)
    (entries : List (Name × NodeField)) : Type 0 where
  pub fields : Fields
  pub is : t ≡ Object fields
  pub read : AreFieldsRead several given fields now entries

abbrev pub AreProperties : Bool → Option (List Shape) → List Shape → Option Tree → Option (List (Name × NodeField)) → Type 0
AreProperties several given now None None = Unit {0}
AreProperties several given now None (Some entries) = ⊥
AreProperties several given now (Some t) None = ⊥
AreProperties several given now (Some t) (Some entries) = IsOfFields several given now t entries

-- what a reading has of the keywords, and of the properties
abbrev pub others_view : Spelling → Fields
others_view spelling = entries_view spelling.others.entries

abbrev pub properties_view : Spelling → Option (List (Name × NodeField))
properties_view spelling = option_map (λ m. m.entries) spelling.properties

-- these keywords were read
pub record AreKeywords (several : Bool) (given : Option (List Shape)) (now : List Shape) (fields : Fields)
    (others : Fields) (properties : Option (List (Name × NodeField))) : Type 0 where
  pub others_are : others ≡ emptied fields
  pub properties_are : AreProperties several given now (field_named (codes "properties") fields) properties

-- the tokens up to the end of an object spell them
pub record ReadsSpelling (several : Bool) (given : Option (List Shape)) (levels : ℕ) (before after : List Token)
    (now : List Shape) (spelling : Spelling) : Type 0 where
  pub fields : Fields
  pub spelled : converted spelled_fields (members (value levels) (length before) before) ≡ Some (fields, after)
  pub are : AreKeywords several given now fields (others_view spelling) (properties_view spelling)
  pub within : IfSome (properties_view spelling) (λ entries. AreBelow (length now) (numbers_in entries))

-- the tree is that of the keywords without what stands under `properties`, whose fields spell the shapes of these
pub record IsAround (several : Bool) (given : Option (List Shape)) (now : List Shape) (fields : Fields) (t : Tree)
    (entries : List (Name × NodeField)) : Type 0 where
  pub properties : Fields
  pub there : field_named (codes "properties") fields ≡ Some (Object properties)
  pub same : t ≡ Object (emptied fields)
  pub read : AreFieldsRead several given properties now entries

-- ---- the output's shape

-- the tree spells the shape of the number, or is kept
abbrev pub IsOutputOf : Bool → Option (List Shape) → List Shape → Tree → Output → Type 0
IsOutputOf several given now t (Number n) = IsRead several given t now n
IsOutputOf several given now t (Spelled kept) = view kept ≡ t

-- the tokens spell such a tree
pub record ReadsOutput (several : Bool) (given : Option (List Shape)) (levels : ℕ) (before after : List Token)
    (now : List Shape) (output : Output) : Type 0 where
  pub tree : Tree
  pub spelled : converted spelled (value levels before) ≡ Some (tree, after)
  pub is : IsOutputOf several given now tree output

-- the value is such a tree
pub record IsOutputAt (several : Bool) (given : Option (List Shape)) (now : List Shape) (stated : Data)
    (output : Output) : Type 0 where
  pub tree : Tree
  pub value : IsValue tree stated
  pub is : IsOutputOf several given now tree output

-- what stands in the field is such a value, where anything does
abbrev pub IsOutput : Bool → Option (List Shape) → List Shape → Option Data → Option Output → Type 0
IsOutput several given now None None = Unit {0}
IsOutput several given now None (Some output) = ⊥
IsOutput several given now (Some stated) None = ⊥
IsOutput several given now (Some stated) (Some output) = IsOutputAt several given now stated output

-- ---- values that spell shapes

-- the value is a tree that spells the shape of the number
pub record SpellsNumber (several : Bool) (given : Option (List Shape)) (now : List Shape) (stated : Data) (n : ℕ)
    : Type 0 where
  pub tree : Tree
  pub is : IsValue tree stated
  pub read : IsRead several given tree now n

-- what stands in a field is such a value, where anything does
abbrev pub IsSpelled : Bool → Option (List Shape) → List Shape → Option Data → Option ℕ → Type 0
IsSpelled several given now None None = Unit {0}
IsSpelled several given now None (Some n) = ⊥
IsSpelled several given now (Some stated) None = ⊥
IsSpelled several given now (Some stated) (Some n) = SpellsNumber several given now stated n

-- each of the values spells the shape of its number
abbrev pub SpellEach : Bool → Option (List Shape) → List Shape → List Data → List ℕ → Type 0
SpellEach several given now [] [] = Unit {0}
SpellEach several given now [] (n ∷ ns) = ⊥
SpellEach several given now (v ∷ vs) [] = ⊥
SpellEach several given now (v ∷ vs) (n ∷ ns) = SpellsNumber several given now v n × SpellEach several given now vs ns

-- these values, and others behind them
abbrev pub in_front : List Data → Items → Items
in_front [] rest = rest
in_front (v ∷ vs) rest = item v (in_front vs rest)

-- the value is a list of those
pub record SpellsNumbers (several : Bool) (given : Option (List Shape)) (now : List Shape) (stated : Data) (ns : List ℕ)
    : Type 0 where
  pub found : List Data
  pub is : stated ≡ array (in_front found no_items)
  pub elements : Trees
  pub whole : AreItems elements (in_front found no_items)
  pub each : SpellEach several given now found ns

abbrev pub AreSpelled : Bool → Option (List Shape) → List Shape → Option Data → Option (List ℕ) → Type 0
AreSpelled several given now None None = Unit {0}
AreSpelled several given now None (Some ns) = ⊥
AreSpelled several given now (Some stated) None = ⊥
AreSpelled several given now (Some stated) (Some ns) = SpellsNumbers several given now stated ns

-- the tokens up to the end of an array spell such values
pub record ReadsElements (several : Bool) (given : Option (List Shape)) (levels : ℕ) (before after : List Token)
    (now : List Shape) (ns : List ℕ) : Type 0 where
  pub found : List Data
  pub spelled : SpellItems levels before after (in_front found no_items)
  pub elements : Trees
  pub whole : AreItems elements (in_front found no_items)
  pub each : SpellEach several given now found ns

-- they spell such a list
pub record ReadsShapes (several : Bool) (given : Option (List Shape)) (levels : ℕ) (before after : List Token)
    (now : List Shape) (ns : List ℕ) : Type 0 where
  pub stated : Data
  pub spelled : converted of_json (value levels before) ≡ Some (stated, after)
  pub read : SpellsNumbers several given now stated ns
