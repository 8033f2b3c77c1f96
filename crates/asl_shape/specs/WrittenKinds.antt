-- What is written for the kinds of a shape, where trees are given for its parts.
use Rattle.std.specs.Prelude.{ℕ, pos, List, [], ◌∷◌, ◌++◌, if◌then◌else◌, Bool, true, false, not, Option, Some, None, codes, is_some, length}
use Rattle.asl_model.specs.Shape.{name_if}
use Rattle.asl_model.specs.Tree.{Tree, Boolean, Integer, Text, Array, Object, Fields}
use Rattle.asl_model.specs.Written as model
use Rattle.asl_shape.specs.Adding.{some_listed, with_field_if}
use Rattle.asl_shape.specs.declared.writing.Written.{Written}
use Rattle.asl_shape.specs.declared.writing.WrittenArrays.{WrittenArrays}
use Rattle.asl_shape.specs.declared.writing.WrittenObjects.{WrittenObjects}
use Rattle.asl_tree.specs.declared.Tree as code
use Rattle.asl_tree.specs.View.{view, elements_view, entries_view}

-- the names of the types, in byte order
abbrev pub names_of : Written → List (List ℕ)
names_of written =
    name_if (is_some written.arrays) (codes "array")
    (name_if written.boolean (codes "boolean")
    (name_if written.integer (codes "integer")
    (name_if written.null (codes "null")
    (name_if (is_some written.objects) (codes "object")
    (name_if written.text (codes "string") [])))))

-- a name as a text, if it is wanted
abbrev pub text_if : Bool → List ℕ → List Tree
text_if wanted name = if wanted then Text name ∷ [] else []

-- the names as texts
abbrev pub types_listed : Written → List Tree
types_listed written =
    text_if (is_some written.arrays) (codes "array")
    ++ (text_if written.boolean (codes "boolean")
    ++ (text_if written.integer (codes "integer")
    ++ (text_if written.null (codes "null")
    ++ (text_if (is_some written.objects) (codes "object") ++ text_if written.text (codes "string")))))

-- the tree for further elements; of Any, whose tree is true, none is given
abbrev pub items_written : Option code.Tree → Tree
items_written None = Boolean true
items_written (Some items) = view items

-- the keywords for arrays in front of others
abbrev pub with_arrays : Option WrittenArrays → Fields → Fields
with_arrays None others = others
with_arrays (Some arrays) others =
    model.array_fields (is_some arrays.items) (some_listed arrays.prefix_items.items) (items_written arrays.items)
    (length arrays.prefix_items.items) (Array (elements_view arrays.prefix_items.items)) others

-- with those for arrays, each at its place among those that are there
abbrev pub arrays_added : Option WrittenArrays → Fields → Fields
arrays_added None fs = fs
arrays_added (Some arrays) fs =
    let has_first = some_listed arrays.prefix_items.items in
    with_field_if (is_some arrays.items) (codes "items") (items_written arrays.items)
    (with_field_if has_first (codes "minItems") (Integer (pos (length arrays.prefix_items.items)))
    (with_field_if has_first (codes "prefixItems") (Array (elements_view arrays.prefix_items.items)) fs))

-- those for objects
abbrev pub with_objects : Option WrittenObjects → Fields → Fields
with_objects None others = others
with_objects (Some objects) others =
    model.object_fields (some_listed objects.properties.entries) (some_listed objects.required.items)
    (Object (entries_view objects.properties.entries)) (elements_view objects.required.items) others

-- with those for objects, each at its place among those that are there
abbrev pub objects_added : Option WrittenObjects → Fields → Fields
objects_added None fs = fs
objects_added (Some objects) fs =
    with_field_if (some_listed objects.properties.entries) (codes "properties") (Object (entries_view objects.properties.entries))
    (with_field_if (some_listed objects.required.items) (codes "required") (Array (elements_view objects.required.items)) fs)

-- whether there are objects, without other fields than those mentioned
abbrev pub are_closed : Option WrittenObjects → Bool
are_closed None = false
are_closed (Some objects) = not objects.extra
