-- What is wrong with the parts of a spelling, those inside it included. No public clause cites this module.
use Rattle.std.specs.Prelude.{ℕ, List, [], ◌++◌, Bool, true, if◌then◌else◌, Option, option_map, codes}
use Rattle.std.specs.Option.{unwrap_or}
use Rattle.asl_model.specs.ShapeSpelling.{ShapeFault, BadType, Keyword, foreign_faults, shape_faults, shapes_faults, properties_faults, min_items_faults, element_count, required_faults, extra_faults}
use Rattle.asl_model.specs.Tree.{Tree, Fields, field_named}

-- with `prefixItems`, with `items`, with `properties`, where they stand there
abbrev pub first_faults : Option Tree → List ShapeFault
first_faults o = unwrap_or (option_map (shapes_faults true) o) []

abbrev pub rest_faults : Option Tree → List ShapeFault
rest_faults o = unwrap_or (option_map (shape_faults true) o) []

abbrev pub property_faults : Option Tree → List ShapeFault
property_faults o = unwrap_or (option_map (properties_faults true) o) []

-- with the keywords for arrays
abbrev pub array_faults : Fields → List ShapeFault
array_faults fs =
    let first = field_named (codes "prefixItems") fs in
    first_faults first
    ++ (rest_faults (field_named (codes "items") fs)
    ++ min_items_faults (field_named (codes "minItems") fs) (element_count first))

-- with those for objects
abbrev pub object_faults : Fields → List ShapeFault
object_faults fs =
    property_faults (field_named (codes "properties") fs)
    ++ (required_faults (field_named (codes "required") fs)
    ++ extra_faults (field_named (codes "additionalProperties") fs))

-- a fault for each keyword that isn't one of those, beside a type or beside none
abbrev pub foreign_of : Bool → List (List ℕ) → Fields → List ShapeFault
foreign_of typed known fs = foreign_faults (if typed then Keyword else BadType) known fs
