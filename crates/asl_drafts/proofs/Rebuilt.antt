-- A shape with other parts: by its first level, and cut.
use Rattle.std.proofs.Common.{◌≡◌, ◌<◌, ◌+◌, ◌-◌, ℕ, suc, List, [], ◌∷◌, ◌++◌, length, map, take, drop, get_or, Bool, Global, Vec, Option, Some, None, Result, Ok, Err, IfOk, refl, sym, ap, ◌∙◌, subst, arith}
use Rattle.std.proofs.lemmas.List.{append-nil, length-append, length-drop, length-map, length-take-le, map-append, take-append-drop, take_all, take_more}
use Rattle.std.specs.BTreeMap.{BTreeMap, insert_entry}
use Rattle.std.specs.List.Sorted.{IsStrictlySortedBy}
use Rattle.std.specs.Map.{keys_of}
use Rattle.std.specs.Prelude.{IfSome}
use Rattle.asl_model.specs.Shape as model
use Rattle.asl_shape.specs.View.{shapes_of}
use Rattle.asl_numbered.specs.declared.node.Node.{Node}
use Rattle.asl_numbered.specs.declared.node.Node.TheVariants.{Object}
use Rattle.asl_numbered.specs.declared.kinds.KindNumbers.{KindNumbers}
use Rattle.asl_numbered.specs.declared.kinds.NodeArrays.{NodeArrays}
use Rattle.asl_numbered.specs.declared.kinds.NodeKinds.{NodeKinds}
use Rattle.asl_numbered.specs.declared.kinds.NodeObjects.{NodeObjects}
use Rattle.asl_numbered.specs.declared.node.NodeField.{NodeField}
use Rattle.asl_numbered.specs.TakenApart.{arrays_at, arrays_of, arrays_over, kinds_at, kinds_over, objects_of, objects_over, AreArraysIfAny, AreKindsAt, AreObjectsIfAny}
use Rattle.asl_numbered.specs.Expansion.{fields_at, shape_at, shapes_at, shape_over, numbers_in, AreBelow, Keeps, RefersBelow}
use Rattle.asl_numbered.proofs.Appending.{shared_names, appended_by}
use Rattle.asl_numbered.proofs.Expansions.{shape_over_stays}
use Rattle.asl_numbered.specs.Laws.{below-append, below-wider, kept_shape}
use Rattle.asl_drafts.specs.Cutting.{cut_to, cut_arrays_to, cut_objects_to, cut_elements_to, cut_fields_to}
use Rattle.asl_drafts.specs.Parts.{arrays_in, arrays_with, behind_fields, behind_objects, each_of, fields_with, mention_of, mentions_of, numbers_in_arrays, numbers_in_kinds, numbers_in_objects, objects_in, objects_with, parts_of, parts_of_arrays, parts_of_objects, rebuilt_over, shapes_in, with_parts, AreFieldsWith, CanBePut, IsPut}
use Rattle.asl_drafts.specs.declared.rebuilding.Rebuilt.{Rebuilt}
use Rattle.std.specs.Rc.{rc_str_bytes}
use Rattle.asl_numbered.specs.Names.{Name, name_cmp}

-- ---- the parts of a shape

each_at : (table : List model.Shape) (ns : List ℕ) → map (shape_at table) ns ≡ each_of (shapes_at table ns)
each_at table [] = refl
each_at table (n ∷ ns) = ap (λ ss. shape_at table n ∷ ss) (each_at table ns)

fields_parts : (table : List model.Shape) (fs : List (Name × NodeField)) (more : List ℕ) → map (shape_at table) (numbers_in fs ++ more) ≡ shapes_in (fields_at table fs) (map (shape_at table) more)
fields_parts table [] more = refl
fields_parts table (f ∷ fs) more = ap (λ ss. shape_at table f.1.shape ∷ ss) (fields_parts table fs more)

arrays_parts : (table : List model.Shape) (arrays : Option NodeArrays) → map (shape_at table) (numbers_in_arrays arrays) ≡ parts_of_arrays (arrays_over table arrays)
arrays_parts table None = refl
arrays_parts table (Some arrays) = ap (λ ss. shape_at table arrays.rest ∷ ss) (each_at table arrays.first.now)

objects_parts : (table : List model.Shape) (objects : Option NodeObjects) (more : List ℕ) → map (shape_at table) (numbers_in_objects objects ++ more) ≡ parts_of_objects (objects_over table objects) (map (shape_at table) more)
objects_parts table None more = refl
objects_parts table (Some objects) more = fields_parts table objects.fields.now.entries more

-- the numbers are those of the shape's parts
pub parts_shown : (table : List model.Shape) (kinds : NodeKinds) → map (shape_at table) (numbers_in_kinds kinds) ≡ parts_of (kinds_over table kinds)
parts_shown table kinds = objects_parts table kinds.objects (numbers_in_arrays kinds.arrays) ∙ ap (parts_of_objects (objects_over table kinds.objects)) (arrays_parts table kinds.arrays)

-- as many
pub parts_counted : (table : List model.Shape) (kinds : NodeKinds) → length (numbers_in_kinds kinds) ≡ length (parts_of (kinds_over table kinds))
parts_counted table kinds = sym (length-map (numbers_in_kinds kinds) (shape_at table)) ∙ ap length (parts_shown table kinds)

-- ---- fields with other numbers

fields_replaced : (table : List model.Shape) (fields new : List (Name × NodeField)) → mentions_of new ≡ mentions_of fields → fields_at table new ≡ fields_with (fields_at table fields) (map (shape_at table) (numbers_in new))
fields_replaced table [] [] e = refl
fields_replaced table [] (g ∷ new) e = absurd (cc)
fields_replaced table (f ∷ fields) [] e = absurd (cc)
fields_replaced table (f ∷ fields) (g ∷ new) e =
    let here : mention_of g ≡ mention_of f = cc in
    let name : rc_str_bytes g.0 ≡ rc_str_bytes f.0 = ap (λ m. m.0) here in
    let needed : g.1.needed ≡ f.1.needed = ap (λ m. m.1) here in
    let behind : mentions_of new ≡ mentions_of fields = cc in
    rw (name, needed, fields_replaced table fields new behind) refl

-- the first level of objects with other numbers
pub objects_replaced : (table : List model.Shape) (objects : NodeObjects) (new : BTreeMap Name NodeField) (numbers : List ℕ) → AreFieldsWith objects.fields.now.entries numbers new.entries → objects_in table (Some (Object new objects.extra)) ≡ objects_with (objects_over table (Some objects)) (map (shape_at table) numbers)
objects_replaced table objects new numbers are =
    let fields = objects.fields.now.entries in
    ap (λ fs. model.ObjectsOf fs objects.extra) (fields_replaced table fields new.entries are.mentions ∙ ap (λ ns. fields_with (fields_at table fields) (map (shape_at table) ns)) are.parts)

-- ---- arrays and objects together

fields_front : (fields : model.FieldShapes) (front behind : List model.Shape) → length front ≡ length (shapes_in fields []) → (fields_with fields (front ++ behind) ≡ fields_with fields front) × (behind_fields fields (front ++ behind) ≡ behind)
fields_front model.NoFieldShapes [] behind e = (refl, refl)
fields_front model.NoFieldShapes (part ∷ front) behind e = absurd (omega (arith, e))
fields_front (model.AndFieldShape n needed s fields) [] behind e = absurd (omega (arith, e))
fields_front (model.AndFieldShape n needed s fields) (part ∷ front) behind e =
    let h = fields_front fields front behind (omega (arith, e)) in (ap (model.AndFieldShape n needed part) h.0, h.1)

objects_front : (objects : model.Objects) (front behind : List model.Shape) → length front ≡ length (parts_of_objects objects []) → (objects_with objects (front ++ behind) ≡ objects_with objects front) × (behind_objects objects (front ++ behind) ≡ behind)
objects_front model.WithoutObjects [] behind e = (refl, refl)
objects_front model.WithoutObjects (part ∷ front) behind e = absurd (omega (arith, e))
objects_front (model.ObjectsOf fields extra) front behind e =
    let h = fields_front fields front behind e in (ap (λ fs. model.ObjectsOf fs extra) h.0, h.1)

-- the shape with other parts, the first of which are those of its objects
pub rebuilt_shown : (table : List model.Shape) (kinds : NodeKinds) (numbers : List ℕ) (k : ℕ) (built : Rebuilt) → k ≡ length (numbers_in_objects kinds.objects) → length numbers ≡ length (numbers_in_kinds kinds) → objects_in table built.objects ≡ objects_with (objects_over table kinds.objects) (map (shape_at table) (take k numbers)) → arrays_in table built.arrays ≡ arrays_with (arrays_over table kinds.arrays) (map (shape_at table) (take (length numbers - k) (drop k numbers))) → rebuilt_over table kinds built ≡ with_parts (kinds_over table kinds) (map (shape_at table) numbers)
rebuilt_shown table kinds numbers k built count counted objects arrays =
    let own = numbers_in_objects kinds.objects in
    let front = map (shape_at table) (take k numbers) in
    let behind = map (shape_at table) (drop k numbers) in
    let whole : map (shape_at table) numbers ≡ front ++ behind = ap (map (shape_at table)) (sym (take-append-drop k numbers)) ∙ map-append (shape_at table) (take k numbers) (drop k numbers) in
    let taken : length front ≡ k = length-map (take k numbers) (shape_at table) ∙ length-take-le k numbers (omega (arith, count, counted, length-append own (numbers_in_arrays kinds.arrays))) in
    let parts : length own ≡ length (parts_of_objects (objects_over table kinds.objects) []) =
    sym (length-map own (shape_at table)) ∙ ap (λ ns. length (map (shape_at table) ns)) (sym (append-nil own)) ∙ ap length (objects_parts table kinds.objects []) in
    let rest : take (length numbers - k) (drop k numbers) ≡ drop k numbers = take_all (length numbers - k) (drop k numbers) (omega (arith, length-drop k numbers)) in
    let h = objects_front (objects_over table kinds.objects) front behind (taken ∙ count ∙ parts) in
    rw (whole, h.0, h.1, objects, arrays, rest) refl

-- ---- in a table that grows

over_kept : (a b : List model.Shape) (node : Node) → Keeps a b → RefersBelow (length a) node → shape_over b node ≡ shape_over a node
over_kept a b node keeps refers = rw keeps.whole (shape_over_stays a keeps.added node refers.each)

objects_stay : (a b : List model.Shape) (level : Option Node) → Keeps a b → CanBePut (length a) level → objects_in b level ≡ objects_in a level
objects_stay a b None keeps can = refl
objects_stay a b (Some node) keeps can = ap objects_of (over_kept a b node keeps can.refers)

arrays_kept : (b c : List model.Shape) (number : Option ℕ) → Keeps b c → IfSome number (λ n. n < length b) → arrays_at c number ≡ arrays_at b number
arrays_kept b c None keeps within = refl
arrays_kept b c (Some n) keeps within = ap arrays_of (kept_shape b c n keeps within)

-- both levels
pub kinds_put : (a b c : List model.Shape) (kinds : NodeKinds) (built : Rebuilt) (put : KindNumbers) → Keeps a b → Keeps b c → CanBePut (length a) built.objects → IsPut a built.arrays b put.arrays → IsPut b built.objects c put.objects → put.null ≡ kinds.null → put.boolean ≡ kinds.boolean → put.integer ≡ kinds.integer → put.text ≡ kinds.text → kinds_at c put ≡ rebuilt_over a kinds built
kinds_put a b c kinds built put keeps further can arrays objects null boolean integer text =
    rw (null, boolean, integer, text, arrays_kept b c put.arrays further arrays.within, arrays.arrays, objects.objects, objects_stay a b built.objects keeps can) refl

-- ---- field by field

names_mentioned : (fields new : List (Name × NodeField)) → mentions_of new ≡ mentions_of fields → shared_names new ≡ shared_names fields
names_mentioned [] [] e = refl
names_mentioned [] (g ∷ new) e = absurd (cc)
names_mentioned (f ∷ fields) [] e = absurd (cc)
names_mentioned (f ∷ fields) (g ∷ new) e =
    let here : mention_of g ≡ mention_of f = cc in
    let behind : mentions_of new ≡ mentions_of fields = cc in
    rw (ap (λ (m : List ℕ × Bool). m.0) here, names_mentioned fields new behind) refl

-- one more
pub field_with : (done left : List (Name × NodeField)) (m : Name × NodeField) (numbers : List ℕ) (place : ℕ) (new more : List (Name × NodeField)) (k : Name) (f : NodeField) → IsStrictlySortedBy name_cmp (keys_of (done ++ m ∷ left)) → AreFieldsWith done (take place numbers) new → place < length numbers → rc_str_bytes k ≡ rc_str_bytes m.0 → f.needed ≡ m.1.needed → f.shape ≡ get_or numbers place 0 → more ≡ insert_entry name_cmp new k f → AreFieldsWith (done ++ m ∷ []) (take (place + 1) numbers) more
field_with done left m numbers place new more k f sorted are within named needed shape inserted =
    let last : more ≡ new ++ (k, f) ∷ [] = inserted ∙ appended_by rc_str_bytes rc_str_bytes done m left new k f sorted (names_mentioned done new are.mentions) named in
    let mention : mention_of (k, f) ≡ mention_of m = rw (named, needed) refl in
    subst (AreFieldsWith (done ++ m ∷ []) (take (place + 1) numbers)) (sym last) (record {
      mentions = map-append mention_of new ((k, f) ∷ []) ∙ ap (λ ms. ms ++ mention_of (k, f) ∷ []) are.mentions ∙ ap (λ x. mentions_of done ++ x ∷ []) mention ∙ sym (map-append mention_of done (m ∷ []));
      parts = map-append (λ (e : Name × NodeField). e.1.shape) new ((k, f) ∷ []) ∙ ap (λ ns. ns ++ f.shape ∷ []) are.parts ∙ ap (λ n. take place numbers ++ n ∷ []) shape ∙ sym (take_more numbers place 0 within);
    })

-- a place is one of the numbers while a field is left
pub place_within : (fields done left : List (Name × NodeField)) (m : Name × NodeField) (rest : List (Name × NodeField)) (numbers : List ℕ) (place : ℕ) → fields ≡ done ++ left → left ≡ m ∷ rest → length numbers ≡ length (numbers_in fields) → place ≡ length done → place < length numbers
place_within fields done left m rest numbers place split next counted at =
    omega (arith, counted, length-map fields (λ (e : Name × NodeField). e.1.shape), ap length split, length-append done left, ap length next, at)

-- ---- cutting

cut_each : (levels : ℕ) (first : model.Shapes) → shapes_of (map (cut_to levels) (each_of first)) ≡ cut_elements_to levels first
cut_each levels model.NoShapes = refl
cut_each levels (model.AndShape s others) = ap (model.AndShape (cut_to levels s)) (cut_each levels others)

cut_arrays : (levels : ℕ) (arrays : model.Arrays) → arrays_with arrays (map (cut_to levels) (parts_of_arrays arrays)) ≡ cut_arrays_to levels arrays
cut_arrays levels model.WithoutArrays = refl
cut_arrays levels (model.ArraysOf first rest) = ap (λ ss. model.ArraysOf ss (cut_to levels rest)) (cut_each levels first)

cut_fields : (levels : ℕ) (fields : model.FieldShapes) (more : List model.Shape) → (fields_with fields (map (cut_to levels) (shapes_in fields more)) ≡ cut_fields_to levels fields) × (behind_fields fields (map (cut_to levels) (shapes_in fields more)) ≡ map (cut_to levels) more)
cut_fields levels model.NoFieldShapes more = (refl, refl)
cut_fields levels (model.AndFieldShape n needed s fields) more = let behind = cut_fields levels fields more in (ap (model.AndFieldShape n needed (cut_to levels s)) behind.0, behind.1)

cut_objects : (levels : ℕ) (objects : model.Objects) (more : List model.Shape) → (objects_with objects (map (cut_to levels) (parts_of_objects objects more)) ≡ cut_objects_to levels objects) × (behind_objects objects (map (cut_to levels) (parts_of_objects objects more)) ≡ map (cut_to levels) more)
cut_objects levels model.WithoutObjects more = (refl, refl)
cut_objects levels (model.ObjectsOf fields extra) more = let cut = cut_fields levels fields more in (ap (λ fs. model.ObjectsOf fs extra) cut.0, cut.1)

-- a shape with its parts cut
pub cut_parts : (below : ℕ) (s : model.Shape) → with_parts s (map (cut_to below) (parts_of s)) ≡ cut_to (suc below) s
cut_parts below model.Any = refl
cut_parts below (model.OfKinds simple arrays objects) = let cut = cut_objects below objects (parts_of_arrays arrays) in rw (cut.0, cut.1, cut_arrays below arrays) refl

-- ---- the shape of a number

-- its parts, where it isn't Any
pub parts_there : {E : Type 0} (table : List model.Shape) (n : ℕ) (kinds : NodeKinds) (r : Result (Vec ℕ Global) E) → kinds_over table kinds ≡ shape_at table n → IfOk r (λ numbers. numbers.items ≡ numbers_in_kinds kinds) → IfOk r (λ numbers. map (shape_at table) numbers.items ≡ parts_of (shape_at table n))
parts_there table n kinds (Err e) shown h = tt
parts_there table n kinds (Ok numbers) shown h = ap (map (shape_at table)) h ∙ parts_shown table kinds ∙ ap parts_of shown

elements_below : (table : List model.Shape) (n : ℕ) (arrays : Option NodeArrays) → AreArraysIfAny table n arrays → AreBelow n (numbers_in_arrays arrays)
elements_below table n None are = tt
elements_below table n (Some arrays) are = (omega (arith, are.rest, are.within), below-wider arrays.number n arrays.first.now are.within are.first)

fields_below : (table : List model.Shape) (n : ℕ) (objects : Option NodeObjects) → AreObjectsIfAny table n objects → AreBelow n (numbers_in_objects objects)
fields_below table n None are = tt
fields_below table n (Some objects) are = below-wider objects.number n (numbers_in objects.fields.now.entries) are.within are.fields

-- their numbers are below its own
pub kinds_below : (table : List model.Shape) (n : ℕ) (kinds : NodeKinds) → AreKindsAt table n kinds → AreBelow n (numbers_in_kinds kinds)
kinds_below table n kinds are = below-append n (numbers_in_objects kinds.objects) (numbers_in_arrays kinds.arrays) (fields_below table n kinds.objects are.objects) (elements_below table n kinds.arrays are.arrays)

pub parts_below : {E : Type 0} (table : List model.Shape) (n : ℕ) (kinds : NodeKinds) (r : Result (Vec ℕ Global) E) → n < length table → AreKindsAt table n kinds → IfOk r (λ numbers. numbers.items ≡ numbers_in_kinds kinds) → IfOk r (λ numbers. AreBelow (length table) numbers.items)
parts_below table n kinds (Err e) within are h = tt
parts_below table n kinds (Ok numbers) within are h =
    subst (AreBelow (length table)) (sym h) (below-wider n (length table) (numbers_in_kinds kinds) (omega (arith, within)) (kinds_below table n kinds are))

-- as many as those of the shape
pub parts_as_many : (table : List model.Shape) (n : ℕ) (kinds : NodeKinds) (count : ℕ) → kinds_over table kinds ≡ shape_at table n → count ≡ length (parts_of (shape_at table n)) → count ≡ length (numbers_in_kinds kinds)
parts_as_many table n kinds count shown h = h ∙ ap (λ s. length (parts_of s)) (sym shown) ∙ sym (parts_counted table kinds)
