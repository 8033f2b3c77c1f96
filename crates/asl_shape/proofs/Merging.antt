-- What shapes show together, one after another, and the shape of each kind put beside the others.
use Rattle.std.proofs.Common.{◌≡◌, List, ◌∷◌, ◌++◌, Bool, true, false, ◌||◌, Option, Some, None, map, refl, sym, ap, ◌∙◌}
use Rattle.asl_model.specs.Shape as model
use Rattle.asl_model.specs.ShapeOrder.{either}
use Rattle.asl_shape.specs.Kinds.{simple_of, owned_arrays_view, owned_objects_view, owned_view, part_if, array_part, object_part, parts_of}
use Rattle.asl_shape.specs.declared.kinds.OwnedArrays.{OwnedArrays}
use Rattle.asl_shape.specs.declared.kinds.OwnedObjects.{OwnedObjects}
use Rattle.asl_shape.specs.declared.kinds.OwnedKinds.{OwnedKinds}
use Rattle.asl_shape.specs.declared.shape.Shape as shape
use Rattle.asl_shape.specs.declared.shape.Shape.{Shape}
use Rattle.asl_shape.proofs.Views.{view_list, view_object, view_bool, view_int, view_null, view_string}
use Rattle.asl_shape.specs.View.{view, merged, with_kinds, first_arrays, first_objects}

or_none : (a : Bool) → (a || false) ≡ a
or_none true = refl
or_none false = refl

or_assoc : (a b c : Bool) → ((a || b) || c) ≡ (a || (b || c))
or_assoc true b c = refl
or_assoc false b c = refl

simple_none : (s : model.Simple) → either s model.no_simple ≡ s
simple_none s = rw (or_none s.null, or_none s.boolean, or_none s.integer, or_none s.text) refl

simple_assoc : (a b c : model.Simple) → either (either a b) c ≡ either a (either b c)
simple_assoc a b c = rw (or_assoc a.null b.null c.null, or_assoc a.boolean b.boolean c.boolean, or_assoc a.integer b.integer c.integer, or_assoc a.text b.text c.text) refl

arrays_none : (arrays : model.Arrays) → first_arrays arrays model.WithoutArrays ≡ arrays
arrays_none model.WithoutArrays = refl
arrays_none (model.ArraysOf first rest) = refl

arrays_assoc : (a b c : model.Arrays) → first_arrays (first_arrays a b) c ≡ first_arrays a (first_arrays b c)
arrays_assoc model.WithoutArrays b c = refl
arrays_assoc (model.ArraysOf first rest) b c = refl

objects_none : (objects : model.Objects) → first_objects objects model.WithoutObjects ≡ objects
objects_none model.WithoutObjects = refl
objects_none (model.ObjectsOf shapes extra) = refl

objects_assoc : (a b c : model.Objects) → first_objects (first_objects a b) c ≡ first_objects a (first_objects b c)
objects_assoc model.WithoutObjects b c = refl
objects_assoc (model.ObjectsOf shapes extra) b c = refl

-- with no kinds besides
pub with_none : (s : model.Shape) → with_kinds s model.Never ≡ s
with_none model.Any = refl
with_none (model.OfKinds simple arrays objects) = rw (simple_none simple, arrays_none arrays, objects_none objects) refl

pub with_assoc : (a b c : model.Shape) → with_kinds (with_kinds a b) c ≡ with_kinds a (with_kinds b c)
with_assoc model.Any b c = refl
with_assoc (model.OfKinds s a o) model.Any c = refl
with_assoc (model.OfKinds s a o) (model.OfKinds t b p) model.Any = refl
with_assoc (model.OfKinds s a o) (model.OfKinds t b p) (model.OfKinds u c q) =
    rw (simple_assoc s t u, arrays_assoc a b c, objects_assoc o p q) refl

-- one part more that is gone through
pub with_next : (first taken : model.Shape) (left rest : List Shape) (p : Shape) → left ≡ p ∷ rest → taken ≡ view p → with_kinds first (merged (map view left)) ≡ with_kinds (with_kinds first taken) (merged (map view rest))
with_next first taken left rest p split is =
    ap (λ ps. with_kinds first (merged (map view ps))) split
    ∙ ap (λ s. with_kinds first (with_kinds s (merged (map view rest)))) (sym is)
    ∙ sym (with_assoc first taken (merged (map view rest)))

-- ---- a part for each kind

-- the trees of no other kind
text_part : (t : Bool) → merged (map view (part_if t shape.Text)) ≡ model.OfKinds (simple_of false false false t) model.WithoutArrays model.WithoutObjects
text_part true = rw view_string refl
text_part false = refl

objects_first : (o : Option OwnedObjects) (t : Bool) (rest : List Shape) → merged (map view rest) ≡ model.OfKinds (simple_of false false false t) model.WithoutArrays model.WithoutObjects → merged (map view (object_part o ++ rest)) ≡ model.OfKinds (simple_of false false false t) model.WithoutArrays (owned_objects_view o)
objects_first None t rest e = e
objects_first (Some objects) t rest e = rw (view_object objects.fields objects.extra, e) refl

null_first : (n t : Bool) (objects : model.Objects) (rest : List Shape) → merged (map view rest) ≡ model.OfKinds (simple_of false false false t) model.WithoutArrays objects → merged (map view (part_if n shape.Null ++ rest)) ≡ model.OfKinds (simple_of n false false t) model.WithoutArrays objects
null_first true t objects rest e = rw (view_null, e) refl
null_first false t objects rest e = e

integer_first : (i n t : Bool) (objects : model.Objects) (rest : List Shape) → merged (map view rest) ≡ model.OfKinds (simple_of n false false t) model.WithoutArrays objects → merged (map view (part_if i shape.Int ++ rest)) ≡ model.OfKinds (simple_of n false i t) model.WithoutArrays objects
integer_first true n t objects rest e = rw (view_int, e) refl
integer_first false n t objects rest e = e

boolean_first : (b i n t : Bool) (objects : model.Objects) (rest : List Shape) → merged (map view rest) ≡ model.OfKinds (simple_of n false i t) model.WithoutArrays objects → merged (map view (part_if b shape.Bool ++ rest)) ≡ model.OfKinds (simple_of n b i t) model.WithoutArrays objects
boolean_first true i n t objects rest e = rw (view_bool, e) refl
boolean_first false i n t objects rest e = e

arrays_first : (a : Option OwnedArrays) (simple : model.Simple) (objects : model.Objects) (rest : List Shape) → merged (map view rest) ≡ model.OfKinds simple model.WithoutArrays objects → merged (map view (array_part a ++ rest)) ≡ model.OfKinds simple (owned_arrays_view a) objects
arrays_first None simple objects rest e = e
arrays_first (Some arrays) simple objects rest e = rw (view_list arrays.first arrays.rest, e) refl

pub parts_shown : (kinds : OwnedKinds) → merged (map view (parts_of kinds)) ≡ owned_view kinds
parts_shown kinds =
    arrays_first kinds.arrays _ _ _ (boolean_first kinds.boolean kinds.integer kinds.null kinds.text _ _ (integer_first kinds.integer kinds.null kinds.text _ _ (null_first kinds.null kinds.text _ _ (objects_first kinds.objects kinds.text _ (text_part kinds.text)))))
