-- What is put down and told of the doubts of a template.
use Rattle.std.specs.Prelude.{◌≡◌, ℕ, List, ◌++◌, length, map, Option, Some, None, Result, Ok, Err, Vec}
use Rattle.std.specs.Prelude.{slice_get, string_bytes}
use Rattle.std.specs.declared.alloc.Global.{Global}
use Rattle.asl_model.specs.Names.{FieldName}
use Rattle.asl_model.specs.Shape.{Shape}
use Rattle.asl_model.specs.ShapeFlow as model
use Rattle.asl_tree.specs.View.{view}
use Rattle.asl_shape_paths.specs.Counterexamples.{IsShownBy}
use Rattle.asl_flow.specs.Doubts.{fault_of, AreDoubtsBelow}
use Rattle.asl_flow.specs.declared.doubts.Doubt.{Doubt}
use Rattle.asl_flow.specs.declared.templates.TemplateShapeRefusal.{TemplateShapeRefusal}
use Rattle.asl_flow.specs.declared.templates.TemplateShapeRefusal.TheVariants.{MayBeMissing, MayFail, OutOfMemory}
use Rattle.asl_numbered.specs.Expansion.{shape_at}

-- a doubt with its name, as a fault at that field
abbrev pub told_at : FieldName → FieldName × model.Doubt → FieldName × model.FlowFault
told_at field told = (told.0, model.doubt_fault field told.1)

-- the same of a doubt that was put down
abbrev pub named_fault : List Shape → Doubt → FieldName × model.FlowFault
named_fault table d = (d.name.now, fault_of table d)

-- the doubts are those, in order, all at that field
abbrev pub AreDoubts : List Shape → FieldName → List (FieldName × model.Doubt) → List Doubt → Type 0
AreDoubts table field told doubts = map (told_at field) told ≡ map (named_fault table) doubts

-- those doubts were put down behind the others, and speak of shapes of the table
pub record ArePutDown (table : List Shape) (field : FieldName) (told : List (FieldName × model.Doubt))
    (old new : List Doubt) : Type 0 where
  pub added : List Doubt
  pub whole : new ≡ old ++ added
  pub same : AreDoubts table field told added
  pub below : AreDoubtsBelow (length table) added

-- the answer is that shape, or those doubts
abbrev pub IsFilled : List Shape → FieldName → Result Shape (List (FieldName × model.Doubt))
    → Result ℕ (Vec Doubt Global) → Type 0
IsFilled table field (Ok s) (Ok n) = s ≡ shape_at table n
IsFilled table field (Ok s) (Err doubts) = ⊥
IsFilled table field (Err told) (Ok n) = ⊥
IsFilled table field (Err told) (Err doubts) = AreDoubts table field told doubts.items

-- the first of a template's doubts; None: it has a shape
abbrev pub first_doubt : Result Shape (List (FieldName × model.Doubt)) → Option (FieldName × model.Doubt)
first_doubt (Ok s) = None
first_doubt (Err told) = slice_get told 0

-- there is no shape, and the first doubt is the one that is told; out of memory says nothing
abbrev pub IsDoubted : Result Shape (List (FieldName × model.Doubt)) → TemplateShapeRefusal → Type 0
IsDoubted answer (MayBeMissing name t) =
    (d : model.DoubtfulPath) × (first_doubt answer ≡ Some (string_bytes name, model.MayBeMissing d)) × IsShownBy d (view t)
IsDoubted answer (MayFail name) = first_doubt answer ≡ Some (string_bytes name, model.MayFail)
IsDoubted answer OutOfMemory = Unit {0}
