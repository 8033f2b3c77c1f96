-- What is read into a table, by the number that it gets. No public clause cites this module.
use Rattle.std.specs.Prelude.{◌<◌, ℕ, List, length, Bool, Option, IfSome}
use Rattle.std.specs.List.{Contains}
use Rattle.asl_model.specs.Shape as model
use Rattle.asl_model.specs.Tree.{Tree, Trees, Fields}
use Rattle.asl_shape.specs.Level.{Level, ListLevel, ObjectLevel}
use Rattle.asl_numbered.specs.Expansion.{shape_at, shapes_at, fields_at, numbers_in, AreBelow}
use Rattle.asl_numbered.specs.TakenApart.{arrays_at, objects_at}
use Rattle.asl_numbered.specs.References.{SpellsWith, SpellsOver, SpellsArrays, SpellsObjects, SpellEach, SpellsRest, SpellFields, SaysOf}
use Rattle.asl_numbered.specs.declared.NumberedRefusal.{NumberedRefusal}
use Rattle.asl_numbered.specs.declared.NumberedRefusal.TheVariants as refusal
use Rattle.asl_numbered.specs.declared.node.NodeField.{NodeField}
use Rattle.asl_numbered.specs.Names.{Name}

-- the numbers that are given are below that bound
pub record AreGiven (bound : ℕ) (given : Option (List ℕ)) : Type 0 where
  pub below : IfSome given (AreBelow bound)

-- the number is in the table, and the tree spells its shape
pub record IsRead (several : Bool) (given : Option (List model.Shape)) (t : Tree) (table : List model.Shape) (n : ℕ) : Type 0 where
  pub within : n < length table
  pub spelled : SpellsWith several given t (shape_at table n)

-- so of a level, of what it says of arrays and of objects, of the further elements, of all elements, and of the fields
-- of an object
pub record IsReadOver (several : Bool) (given : Option (List model.Shape)) (level : Level) (table : List model.Shape) (n : ℕ) : Type 0 where
  pub within : n < length table
  pub spelled : SpellsOver several given level (shape_at table n)

pub record AreArraysRead (several : Bool) (given : Option (List model.Shape)) (list : Option ListLevel) (table : List model.Shape) (number : Option ℕ) : Type 0 where
  pub within : IfSome number (λ n. n < length table)
  pub spelled : SpellsArrays several given list (arrays_at table number)

pub record AreObjectsRead (several : Bool) (given : Option (List model.Shape)) (object : Option ObjectLevel) (table : List model.Shape) (number : Option ℕ) : Type 0 where
  pub within : IfSome number (λ n. n < length table)
  pub spelled : SpellsObjects several given object (objects_at table number)

pub record IsReadRest (several : Bool) (given : Option (List model.Shape)) (rest : Option Tree) (table : List model.Shape) (n : ℕ) : Type 0 where
  pub within : n < length table
  pub spelled : SpellsRest several given rest (shape_at table n)

pub record AreRead (several : Bool) (given : Option (List model.Shape)) (ts : Trees) (table : List model.Shape) (ns : List ℕ) : Type 0 where
  pub within : AreBelow (length table) ns
  pub spelled : SpellEach several given ts (shapes_at table ns)

pub record AreFieldsRead (several : Bool) (given : Option (List model.Shape)) (fs : Fields) (table : List model.Shape) (es : List (Name × NodeField)) : Type 0 where
  pub within : AreBelow (length table) (numbers_in es)
  pub spelled : SpellFields several given fs (fields_at table es)

-- what a refusal says of one of the trees
abbrev pub SaysOfOne : Bool → Option (List model.Shape) → List Tree → NumberedRefusal → Type 0
SaysOfOne several given ts (refusal.Shape e) =
    (part : Tree) × Contains ts part × SaysOf several given part (refusal.Shape e)
SaysOfOne several given ts refusal.BadNumber =
    (part : Tree) × Contains ts part × SaysOf several given part refusal.BadNumber
SaysOfOne several given ts refusal.OutOfMemory = Unit {0}

-- the refusal tells what is wrong with one of the trees
pub record TellsOneOf (several : Bool) (given : Option (List model.Shape)) (ts : List Tree) (e : NumberedRefusal) : Type 0 where
  pub said : SaysOfOne several given ts e
