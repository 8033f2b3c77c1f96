-- Lists of numbers and of fields with numbers, as they grow beside the shapes that they are for.
use Rattle.std.proofs.Common.{◌≡◌, ◌<◌, ◌≤◌, ℕ, List, [], ◌∷◌, ◌++◌, length, take, Bool, Some, String, Global, string_bytes, string_cmp, Vec, refl, sym, ap, ◌∙◌, subst}
use Rattle.std.proofs.lemmas.List.{append-nil, take_all}
use Rattle.asl_model.specs.Shape as model
use Rattle.asl_shape.specs.View.{view, shapes_view, fields_view}
use Rattle.asl_shape.specs.declared.shape.Shape.{Shape}
use Rattle.asl_shape.specs.declared.shape.Field.{Field}
use Rattle.std.specs.BTreeMap.{BTreeMap, insert_entry}
use Rattle.std.specs.List.Sorted.{IsStrictlySortedBy}
use Rattle.std.specs.Map.{keys_of}
use Rattle.asl_numbered.specs.declared.node.Node.TheVariants.{List as Elements, Object}
use Rattle.asl_numbered.specs.declared.node.NodeField.{NodeField}
use Rattle.asl_numbered.specs.Expansion.{shape_at, shapes_at, fields_at, shape_over, numbers_in, AreBelow, RefersBelow, IsNumberOf, AreNumbersOf, AreFieldsOf, Keeps}
use Rattle.asl_numbered.specs.TakenApart.{arrays_of, objects_of, HasArraysAt, HasObjectsAt}
use Rattle.asl_numbered.proofs.Appending.{names, shared_names, appended_by}
use Rattle.asl_numbered.proofs.Expansions.{shapes_at_stay, fields_at_stay}
use Rattle.asl_numbered.specs.Laws.{below-append, below-wider, keeps_longer}
use Rattle.asl_numbered.specs.Names.{Name, name_cmp}
use Rattle.std.specs.Rc.{rc_str_bytes}

-- ---- names

abbrev names_of : model.FieldShapes → List (List ℕ)
names_of model.NoFieldShapes = []
names_of (model.AndFieldShape n needed s shapes) = n ∷ names_of shapes

names-at : (table : List model.Shape) (fs : List (Name × NodeField)) → names_of (fields_at table fs) ≡ shared_names fs
names-at table [] = refl
names-at table (f ∷ fs) = ap (λ ns. rc_str_bytes f.0 ∷ ns) (names-at table fs)

names-shown : (ms : List (String Global × Field)) → names_of (fields_view ms) ≡ names ms
names-shown [] = refl
names-shown (m ∷ ms) = ap (λ ns. string_bytes m.0 ∷ ns) (names-shown ms)

pub same_names : (table : List model.Shape) (fs : List (Name × NodeField)) (ms : List (String Global × Field)) → fields_at table fs ≡ fields_view ms → shared_names fs ≡ names ms
same_names table fs ms e = sym (names-at table fs) ∙ ap names_of e ∙ names-shown ms

-- ---- the shape without a tree

-- ---- one more

pub shapes_push : (table : List model.Shape) (ns : List ℕ) (n : ℕ) (ss : List Shape) (s : Shape) → shapes_at table ns ≡ shapes_view ss → shape_at table n ≡ view s → shapes_at table (ns ++ n ∷ []) ≡ shapes_view (ss ++ s ∷ [])
shapes_push table [] n [] s e own = ap (λ x. model.AndShape x model.NoShapes) own
shapes_push table [] n (other ∷ ss) s e own = absurd (cc)
shapes_push table (m ∷ ns) n [] s e own = absurd (cc)
shapes_push table (m ∷ ns) n (other ∷ ss) s e own =
    let here : shape_at table m ≡ view other = cc in
    let behind : shapes_at table ns ≡ shapes_view ss = cc in
    rw (here, shapes_push table ns n ss s behind own) refl

pub fields_push : (table : List model.Shape) (fs : List (Name × NodeField)) (k : Name) (f : NodeField) (ms : List (String Global × Field)) (m : String Global × Field) → fields_at table fs ≡ fields_view ms → rc_str_bytes k ≡ string_bytes m.0 → f.needed ≡ m.1.needed → shape_at table f.shape ≡ view m.1.shape → fields_at table (fs ++ (k, f) ∷ []) ≡ fields_view (ms ++ m ∷ [])
fields_push table [] k f [] m e named needed own = rw (named, needed, own) refl
fields_push table [] k f (other ∷ ms) m e named needed own = absurd (cc)
fields_push table (g ∷ fs) k f [] m e named needed own = absurd (cc)
fields_push table (g ∷ fs) k f (other ∷ ms) m e named needed own =
    let name : rc_str_bytes g.0 ≡ string_bytes other.0 = cc in
    let also : g.1.needed ≡ other.1.needed = cc in
    let here : shape_at table g.1.shape ≡ view other.1.shape = cc in
    let behind : fields_at table fs ≡ fields_view ms = cc in
    rw (name, also, here, fields_push table fs k f ms m behind named needed own) refl

pub numbers_push : (bound : ℕ) (fs : List (Name × NodeField)) (k : Name) (f : NodeField) → AreBelow bound (numbers_in fs) → f.shape < bound → AreBelow bound (numbers_in (fs ++ (k, f) ∷ []))
numbers_push bound [] k f h last = (last, tt)
numbers_push bound (g ∷ fs) k f h last = (h.0, numbers_push bound fs k f h.1 last)

-- ---- the same in a table that has grown

pub numbers_kept : (old new : List model.Shape) (shapes : model.Shapes) (ns : List ℕ) → Keeps old new → AreNumbersOf old shapes ns → AreNumbersOf new shapes ns
numbers_kept old new parts ns keeps are =
    record { within = below-wider (length old) (length new) ns (keeps_longer old new keeps) are.within; same = ap (λ t. shapes_at t ns) keeps.whole ∙ shapes_at_stay old keeps.added ns are.within ∙ are.same }

pub fields_kept : (old new : List model.Shape) (shapes : model.FieldShapes) (fs : List (Name × NodeField)) → Keeps old new → AreFieldsOf old shapes fs → AreFieldsOf new shapes fs
fields_kept old new shapes fs keeps are =
    record { within = below-wider (length old) (length new) (numbers_in fs) (keeps_longer old new keeps) are.within; same = ap (λ t. fields_at t fs) keeps.whole ∙ fields_at_stay old keeps.added fs are.within ∙ are.same }

-- ---- the steps of adding

-- none so far
pub no_numbers : (table : List model.Shape) → AreNumbersOf table model.NoShapes []
no_numbers table = record { within = tt; same = refl }

pub no_fields : (table : List model.Shape) → AreFieldsOf table model.NoFieldShapes []
no_fields table = record { within = tt; same = refl }

pub number_step : (old new : List model.Shape) (before after : List Shape) (s : Shape) (ns ms : List ℕ) (n : ℕ) → Keeps old new → AreNumbersOf old (shapes_view before) ns → IsNumberOf new (view s) n → after ≡ before ++ s ∷ [] → ms ≡ ns ++ n ∷ [] → AreNumbersOf new (shapes_view after) ms
number_step old new before after s ns ms n keeps are is more also =
    let now = numbers_kept old new (shapes_view before) ns keeps are in
    rw (more, also) (record { within = below-append (length new) ns (n ∷ []) now.within (is.within, tt); same = shapes_push new ns n before s now.same is.same })

pub field_step : (old new : List model.Shape) (before left : List (String Global × Field)) (m : String Global × Field) (fs gs : List (Name × NodeField)) (k : Name) (f : NodeField) → IsStrictlySortedBy string_cmp (keys_of (before ++ m ∷ left)) → Keeps old new → AreFieldsOf old (fields_view before) fs → rc_str_bytes k ≡ string_bytes m.0 → f.needed ≡ m.1.needed → IsNumberOf new (view m.1.shape) f.shape → gs ≡ insert_entry name_cmp fs k f → AreFieldsOf new (fields_view (before ++ m ∷ [])) gs
field_step old new before left m fs gs k f sorted keeps are named needed is inserted =
    let now = fields_kept old new (fields_view before) fs keeps are in
    let last : gs ≡ fs ++ (k, f) ∷ [] = inserted ∙ appended_by string_bytes rc_str_bytes before m left fs k f sorted (same_names new fs before now.same) named in
    rw last (record { within = numbers_push (length new) fs k f now.within is.within; same = fields_push new fs k f before m now.same named needed is.same })

pub numbers_end : (table : List model.Shape) (i : ℕ) (shapes : List Shape) (ns : List ℕ) → length shapes ≤ i → AreNumbersOf table (shapes_view (take i shapes)) ns → AreNumbersOf table (shapes_view shapes) ns
numbers_end table i shapes ns past are = subst (λ ss. AreNumbersOf table (shapes_view ss) ns) (take_all i shapes past) are

pub fields_end : (table : List model.Shape) (all done left : List (String Global × Field)) (fs : List (Name × NodeField)) → all ≡ done ++ left → left ≡ [] → AreFieldsOf table (fields_view done) fs → AreFieldsOf table (fields_view all) fs
fields_end table all done left fs split none are = subst (λ ms. AreFieldsOf table (fields_view ms) fs) (sym (split ∙ ap (λ ms. done ++ ms) none ∙ append-nil done)) are

-- ---- the steps of expanding

pub expanded_push : (table : List model.Shape) (ns ms : List ℕ) (n : ℕ) (ss new : List Shape) (s : Shape) → shapes_view ss ≡ shapes_at table ns → view s ≡ shape_at table n → ms ≡ ns ++ n ∷ [] → new ≡ ss ++ s ∷ [] → shapes_view new ≡ shapes_at table ms
expanded_push table ns ms n ss new s so_far own more also = rw (more, also) (sym (shapes_push table ns n ss s (sym so_far) (sym own)))

pub expanded_step : (table : List model.Shape) (before left : List (Name × NodeField)) (m : Name × NodeField) (es new : List (String Global × Field)) (k : String Global) (f : Field) → IsStrictlySortedBy name_cmp (keys_of (before ++ m ∷ left)) → fields_view es ≡ fields_at table before → string_bytes k ≡ rc_str_bytes m.0 → f.needed ≡ m.1.needed → view f.shape ≡ shape_at table m.1.shape → new ≡ insert_entry string_cmp es k f → fields_view new ≡ fields_at table (before ++ m ∷ [])
expanded_step table before left m es new k f sorted so_far named needed own inserted =
    let last : new ≡ es ++ (k, f) ∷ [] = inserted ∙ appended_by rc_str_bytes string_bytes before m left es k f sorted (sym (same_names table before es (sym so_far))) named in
    ap fields_view last ∙ sym (fields_push table before m.0 m.1 es (k, f) (sym so_far) (sym named) (sym needed) (sym own))

-- ---- the nodes of lists and objects

-- a list's node, where its places were numbered before its further elements
pub numbered_list_refers : (middle now : List model.Shape) (first : model.Shapes) (rest : model.Shape) (ns : Vec ℕ Global) (n : ℕ) → Keeps middle now → AreNumbersOf middle first ns.items → IsNumberOf now rest n → RefersBelow (length now) (Elements ns n)
numbered_list_refers middle now first rest ns n keeps are is = record { each = (is.within, (numbers_kept middle now first ns.items keeps are).within) }

pub list_shape : (middle now : List model.Shape) (first : model.Shapes) (rest : model.Shape) (ns : Vec ℕ Global) (n : ℕ) → Keeps middle now → AreNumbersOf middle first ns.items → IsNumberOf now rest n → shape_over now (Elements ns n) ≡ model.ArrayShape first rest
list_shape middle now first rest ns n keeps are is = rw ((numbers_kept middle now first ns.items keeps are).same, is.same) refl

pub numbered_object_refers : (now : List model.Shape) (shapes : model.FieldShapes) (fs : BTreeMap Name NodeField) (extra : Bool) → AreFieldsOf now shapes fs.entries → RefersBelow (length now) (Object fs extra)
numbered_object_refers now shapes fs extra are = record { each = are.within }

pub object_shape : (now : List model.Shape) (shapes : model.FieldShapes) (fs : BTreeMap Name NodeField) (extra : Bool) → AreFieldsOf now shapes fs.entries → shape_over now (Object fs extra) ≡ model.ObjectShape shapes extra
object_shape now shapes fs extra are = rw are.same refl

-- the lists of a number, and the objects
pub arrays_added : (middle now new : List model.Shape) (first : model.Shapes) (rest : model.Shape) (ns : Vec ℕ Global) (n r : ℕ) → Keeps middle now → AreNumbersOf middle first ns.items → IsNumberOf now rest n → IsNumberOf new (shape_over now (Elements ns n)) r → HasArraysAt new (model.ArraysOf first rest) (Some r)
arrays_added middle now new first rest ns n r keeps are is own =
    record { within = own.within; same = ap arrays_of (own.same ∙ list_shape middle now first rest ns n keeps are is) }

pub objects_added : (now new : List model.Shape) (shapes : model.FieldShapes) (fs : BTreeMap Name NodeField) (extra : Bool) (r : ℕ) → AreFieldsOf now shapes fs.entries → IsNumberOf new (shape_over now (Object fs extra)) r → HasObjectsAt new (model.ObjectsOf shapes extra) (Some r)
objects_added now new shapes fs extra r are own =
    record { within = own.within; same = ap objects_of (own.same ∙ object_shape now shapes fs extra are) }
