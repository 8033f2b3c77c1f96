-- What spells a shape where no shapes are listed spells it where some are: there is no reference in it.
use Rattle.std.proofs.Common.{List, Bool, Option, None}
use Rattle.asl_model.specs.Shape.{Shape, Arrays, Objects, Shapes, FieldShapes}
use Rattle.asl_model.specs.Tree.{Tree, Trees, Fields}
use Rattle.asl_numbered.specs.References.{SpellsWith, by_reference, by_level, SpellsOver, with_none_inside, with_kinds, SpellsArrays, without_arrays, with_elements, SpellsObjects, without_objects, with_properties, SpellEach, no_element, and_element, SpellsRest, no_rest, some_rest, SpellFields, no_field, and_field}
use Rattle.asl_shape.specs.Level.{Level, ListLevel, ObjectLevel}

module _ (several : Bool) (listed : Option (List Shape)) where
  abbrev none : Option (List Shape)
  none = None

  mutual
    pub spells_listed : {t : Tree} {s : Shape} → SpellsWith several none t s → SpellsWith several listed t s
    spells_listed (by_reference h) = absurd (cc)
    spells_listed (by_level over h) = by_level over (over_listed h)

    over_listed : {level : Level} {s : Shape} → SpellsOver several none level s → SpellsOver several listed level s
    over_listed with_none_inside = with_none_inside
    over_listed (with_kinds arrays objects) = with_kinds (arrays_listed arrays) (objects_listed objects)

    arrays_listed : {list : Option ListLevel} {arrays : Arrays} → SpellsArrays several none list arrays → SpellsArrays several listed list arrays
    arrays_listed without_arrays = without_arrays
    arrays_listed (with_elements first rest) = with_elements (each_listed first) (rest_listed rest)

    objects_listed : {object : Option ObjectLevel} {objects : Objects} → SpellsObjects several none object objects → SpellsObjects several listed object objects
    objects_listed without_objects = without_objects
    objects_listed (with_properties fields) = with_properties (fields_listed fields)

    each_listed : {ts : Trees} {shapes : Shapes} → SpellEach several none ts shapes → SpellEach several listed ts shapes
    each_listed no_element = no_element
    each_listed (and_element own others) = and_element (spells_listed own) (each_listed others)

    rest_listed : {t : Option Tree} {s : Shape} → SpellsRest several none t s → SpellsRest several listed t s
    rest_listed no_rest = no_rest
    rest_listed (some_rest own) = some_rest (spells_listed own)

    fields_listed : {fs : Fields} {shapes : FieldShapes} → SpellFields several none fs shapes → SpellFields several listed fs shapes
    fields_listed no_field = no_field
    fields_listed (and_field own others) = and_field (spells_listed own) (fields_listed others)
