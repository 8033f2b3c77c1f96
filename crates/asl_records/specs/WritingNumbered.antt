-- What is written over a list of shapes, part by part.
use Rattle.std.specs.Prelude.{◌<◌, ℕ, List}
use Rattle.asl_model.specs.Shape.{Shape}
use Rattle.asl_model.specs.Tree.{Tree}
use Rattle.asl_model.specs.WrittenNumbered.{referring, written_over}
use Rattle.asl_numbered.specs.Expansion.{shape_at, numbers_in, AreBelow}
use Rattle.asl_numbered.specs.declared.kinds.NodeArrays.{NodeArrays}
use Rattle.asl_numbered.specs.declared.kinds.NodeObjects.{NodeObjects}
use Rattle.asl_records.specs.Listing.{IsPlaced, listed_shapes}
use Rattle.asl_records.specs.declared.writing_numbered.ShapeWriter.{ShapeWriter}

-- the shapes of the table
abbrev pub table_of : ShapeWriter → List Shape
table_of writer = writer.shapes.now

-- those that are listed
abbrev pub listed_by : ShapeWriter → List Shape
listed_by writer = listed_shapes writer.shapes.now writer.listing.now

-- each number of the table has the place of its shape in the list
pub record IsReady (writer : ShapeWriter) : Type 0 where
  pub placed : IsPlaced writer.shapes.now writer.listing.now

-- the numbers in arrays that are lent are below that bound, and those in objects
pub record ArraysAreBelow (bound : ℕ) (arrays : NodeArrays) : Type 0 where
  pub first : AreBelow bound arrays.first.now
  pub rest : arrays.rest < bound

pub record ObjectsAreBelow (bound : ℕ) (objects : NodeObjects) : Type 0 where
  pub fields : AreBelow bound (numbers_in objects.fields.now.entries)

-- what is written for a shape, and for one of the list
abbrev pub referred : ShapeWriter → Shape → Tree
referred writer = referring (listed_by writer)

abbrev pub spelled_over : ShapeWriter → Shape → Tree
spelled_over writer = written_over (listed_by writer)

-- what is written for the shape of that number
abbrev pub referred_at : ShapeWriter → ℕ → Tree
referred_at writer n = referred writer (shape_at (table_of writer) n)
