-- What the paths of a template go into, by number, and what is said of the parts that they name.
use Rattle.std.specs.Prelude.{◌≡◌, ◌<◌, ℕ, List, length, Option, option_map, Result, Ok, Err, IfOk, IfErr, IfSome}
use Rattle.asl_model.specs.Names.{FieldName}
use Rattle.asl_model.specs.Shape.{Shape}
use Rattle.asl_model.specs.ShapeFlow as flow
use Rattle.asl_flow.specs.Doubts.{cause_at, IsCauseBelow}
use Rattle.asl_flow.specs.declared.doubts.Cause.{Cause}
use Rattle.asl_flow.specs.declared.references.Sources.{Sources}
use Rattle.asl_numbered.specs.Expansion.{shape_at}

-- the shape of the input
abbrev pub input_of : List Shape → Sources → Shape
input_of table sources = shape_at table sources.input

-- the shape of the item, where there is one
abbrev pub item_of : List Shape → Sources → Option Shape
item_of table sources = option_map (shape_at table) sources.item

-- both numbers are below that bound
pub record IsWithin (bound : ℕ) (sources : Sources) : Type 0 where
  pub input : sources.input < bound
  pub item : IfSome sources.item (λ n. n < bound)

-- a part's shape, or its doubt as a fault at that field
abbrev pub at_field : FieldName → Result Shape flow.Doubt → Result Shape flow.FlowFault
at_field field (Ok s) = Ok s
at_field field (Err doubt) = Err (flow.doubt_fault field doubt)

-- the same of a part by number, with the cause of its doubt
abbrev pub part_view : List Shape → FieldName → Result ℕ Cause → Result Shape flow.FlowFault
part_view table field (Ok n) = Ok (shape_at table n)
part_view table field (Err cause) = Err (cause_at table field cause)

-- the answer is that part, at any field, and speaks of shapes of the table
pub record IsPart (table : List Shape) (part : Result Shape flow.Doubt) (answer : Result ℕ Cause) : Type 0 where
  pub same : (field : FieldName) → at_field field part ≡ part_view table field answer
  pub within : IfOk answer (λ n. n < length table)
  pub below : IfErr answer (IsCauseBelow (length table))
