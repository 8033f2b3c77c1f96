-- The level that a level of the code shows.
use Rattle.std.specs.Prelude.{ℕ, List, String, map, option_map, string_bytes}
use Rattle.std.specs.Borrow.{Bor}
use Rattle.std.specs.declared.alloc.Global.{Global}
use Rattle.asl_model.specs.Shape as model
use Rattle.asl_shape.specs.Level as levels
use Rattle.asl_shape.specs.Kinds.{simple_of}
use Rattle.asl_shape.specs.Level.{Whole, OfTypes}
use Rattle.asl_shape.specs.Spelled.{elements_view, tree_there, fields_there}
use Rattle.asl_shape.specs.declared.levels.Level.{Level}
use Rattle.asl_shape.specs.declared.levels.Level.TheVariants.{Any, Never, Kinds}
use Rattle.asl_shape.specs.declared.levels.ListLevel.{ListLevel}
use Rattle.asl_shape.specs.declared.levels.ObjectLevel.{ObjectLevel}

-- the bytes of the texts
abbrev pub texts : List (Bor (String Global)) → List (List ℕ)
texts ns = map (λ n. string_bytes n.now) ns

-- what is said of lists, and of objects
abbrev pub list_view : ListLevel → levels.ListLevel
list_view list = record { first = elements_view list.first.now; rest = tree_there list.rest }

abbrev pub object_view : ObjectLevel → levels.ObjectLevel
object_view object =
    record {
      properties = fields_there object.properties;
      names = texts object.required.items;
      extra = object.extra;
    }

-- the level
abbrev pub level_view : Level → levels.Level
level_view Any = Whole model.Any
level_view Never = Whole model.Never
level_view (Kinds null boolean integer text list object) =
    OfTypes (simple_of null boolean integer text) (option_map list_view list) (option_map object_view object)
