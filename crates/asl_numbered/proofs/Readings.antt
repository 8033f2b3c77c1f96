-- Reading shapes into a table: references, levels, and the parts of levels one after another.
use Rattle.std.proofs.Common.{◌≡◌, ◌<◌, ◌≤◌, ℕ, Bool, false, take, drop, Vec, zero, suc, pos, negsuc, List, [], ◌∷◌, ◌++◌, length, map, codes, Option, Some, None, Result, Ok, Err, Bor, option_map, slice_get, String, Global, string_bytes, string_cmp, refl, sym, ap, ◌∙◌, subst, arith}
use Rattle.std.specs.Prelude.{IfOk, IfErr, IfSome}
use Rattle.std.specs.BTreeMap.{BTreeMap, is_at, insert_entry}
use Rattle.std.specs.List.{Contains}
use Rattle.std.specs.List.Sorted.{IsStrictlySortedBy}
use Rattle.std.specs.Map.{keys_of, lookup}
use Rattle.std.specs.Option.{option_copied}
use Rattle.std.specs.Cmp.Lexicographic.{slice_cmp}
use Rattle.std.specs.Ordering.{nat_cmp}
use Rattle.asl_shape.proofs.Lookups.{member_named_lookup}
use Rattle.std.proofs.lemmas.List.Elements.{Contains-append_left, Contains-append_right}
use Rattle.std.proofs.lemmas.List.{map-append, take_all}
use Rattle.std.proofs.lemmas.Option.{slice_get-map}
use Rattle.asl_model.specs.ShapeSpelling.{with_all_needed}
use Rattle.asl_model.specs.Shape as model
use Rattle.asl_model.specs.Tree.{Tree, Null, Boolean, Integer, Text, Array, Object as Fielded, Trees, NoTrees, AndTree, Fields, NoFields, AndField}
use Rattle.asl_shape.specs.Level.{Level, Whole, OfTypes, ListLevel, ObjectLevel, SpelledOver, level_faults}
use Rattle.asl_shape.specs.LevelView.{list_view, object_view}
use Rattle.asl_shape.specs.declared.levels.ListLevel.{ListLevel as CodeList}
use Rattle.asl_shape.specs.declared.levels.ObjectLevel.{ObjectLevel as CodeObject}
use Rattle.asl_shape.specs.Refusal.{Tells}
use Rattle.asl_shape.specs.Spelled as trees
use Rattle.asl_shape.specs.declared.ShapeRefusal.{ShapeRefusal}
use Rattle.asl_shape.specs.declared.ShapeRefusal.TheVariants.{NotAShape, Keyword, BadType, MinItems, OutOfMemory}
use Rattle.asl_tree.specs.declared.Tree.{Tree as CodeTree}
use Rattle.asl_numbered.specs.declared.node.Node.TheVariants.{List as Elements, Object}
use Rattle.asl_numbered.specs.declared.node.NodeField.{NodeField}
use Rattle.asl_numbered.specs.declared.NumberedRefusal.{NumberedRefusal}
use Rattle.asl_numbered.specs.declared.NumberedRefusal.TheVariants as refusal
use Rattle.asl_numbered.specs.Expansion.{shape_at, shapes_at, fields_at, shape_over, AreBelow, RefersBelow, IsNumberOf, AreNumbersOf, AreFieldsOf, Keeps}
use Rattle.asl_numbered.specs.Reading.{AreGiven, IsRead, IsReadOver, AreArraysRead, AreObjectsRead, IsReadRest, AreRead, AreFieldsRead, TellsOneOf}
use Rattle.asl_numbered.specs.Refusal.{numbered}
use Rattle.asl_model.specs.References.{reference_among, meant_by}
use Rattle.asl_numbered.specs.References.{reference_in, referred, numbers_given, shapes_given, SpellsWith, by_reference, by_level, SpellsOver, with_none_inside, with_kinds, SpellsArrays, without_arrays, with_elements, SpellsObjects, without_objects, with_properties, SpellEach, no_element, and_element, SpellsRest, no_rest, some_rest, SpellFields, no_field, and_field, inside, each_of, values_of, is_itself, stands_inside, TellsOf}
use Rattle.asl_numbered.proofs.Appending.{names, shared_names, appended_by}
use Rattle.asl_numbered.specs.TakenApart.{arrays_of, objects_of, kinds_at}
use Rattle.asl_numbered.specs.declared.kinds.KindNumbers.{KindNumbers}
use Rattle.asl_numbered.proofs.Growing.{numbers_kept, fields_kept, numbers_push}
use Rattle.asl_numbered.specs.Laws.{below-append, below-wider, keeps_longer, kept_shape, kept_shapes}
use Rattle.asl_numbered.specs.Names.{Name, name_cmp}
use Rattle.std.specs.Rc.{rc_str_bytes}

-- ---- numbers that are given

pub given_below : (bound : ℕ) (given : Option (Bor (List ℕ))) → IfSome given (λ ns. AreBelow bound ns.now) → AreGiven bound (numbers_given given)
given_below bound None h = record { below = tt }
given_below bound (Some ns) h = record { below = h }

pub given_kept : (old new : List model.Shape) (given : Option (List ℕ)) → Keeps old new → AreGiven (length old) given → AreGiven (length new) given
given_kept old new None keeps h = record { below = tt }
given_kept old new (Some ns) keeps h =
    record { below = below-wider (length old) (length new) ns (keeps_longer old new keeps) h.below }

pub given_same : (old new : List model.Shape) (given : Option (Bor (List ℕ))) → Keeps old new → AreGiven (length old) (numbers_given given) → shapes_given new given ≡ shapes_given old given
given_same old new None keeps h = refl
given_same old new (Some ns) keeps h =
    ap Some (kept_shapes old new ns.now keeps h.below)

-- ---- references

meant_shape : {X Y : Type 0} (f : X → Y) (xs : List X) (v : Tree) → meant_by (map f xs) v ≡ option_map f (meant_by xs v)
meant_shape f xs Null = refl
meant_shape f xs (Boolean b) = refl
meant_shape f xs (Integer (pos n)) = slice_get-map f xs n
meant_shape f xs (Integer (negsuc n)) = refl
meant_shape f xs (Text s) = refl
meant_shape f xs (Array ts) = refl
meant_shape f xs (Fielded fs) = refl

named_shape : {X Y : Type 0} (f : X → Y) (xs : List X) (o : Option Tree) → option_map (meant_by (map f xs)) o ≡ option_map (option_map f) (option_map (meant_by xs) o)
named_shape f xs None = refl
named_shape f xs (Some v) = ap Some (meant_shape f xs v)

referred_shape : (table : List model.Shape) (given : Option (Bor (List ℕ))) (t : Tree) → referred (shapes_given table given) t ≡ option_map (option_map (shape_at table)) (referred (numbers_given given) t)
referred_shape table None t = refl
referred_shape table (Some ns) t = named_shape (shape_at table) ns.now (reference_in t)

got_below : (bound : ℕ) (ns : List ℕ) (i n : ℕ) → AreBelow bound ns → slice_get ns i ≡ Some n → n < bound
got_below bound [] i n below got = absurd (cc)
got_below bound (m ∷ ns) zero n below got = let same : m ≡ n = cc in subst (λ k. k < bound) same below.0
got_below bound (m ∷ ns) (suc i) n below got = got_below bound ns i n below.1 got

meant_below : (bound : ℕ) (ns : List ℕ) (v : Tree) (n : ℕ) → AreBelow bound ns → meant_by ns v ≡ Some n → n < bound
meant_below bound ns Null n below is = absurd (cc)
meant_below bound ns (Boolean b) n below is = absurd (cc)
meant_below bound ns (Integer (pos i)) n below is = got_below bound ns i n below is
meant_below bound ns (Integer (negsuc i)) n below is = absurd (cc)
meant_below bound ns (Text s) n below is = absurd (cc)
meant_below bound ns (Array ts) n below is = absurd (cc)
meant_below bound ns (Fielded fs) n below is = absurd (cc)

named_below : (bound : ℕ) (ns : List ℕ) (o : Option Tree) (n : ℕ) → AreBelow bound ns → option_map (meant_by ns) o ≡ Some (Some n) → n < bound
named_below bound ns None n below is = absurd (cc)
named_below bound ns (Some v) n below is = let this : meant_by ns v ≡ Some n = cc in meant_below bound ns v n below this

referred_below : (bound : ℕ) (given : Option (List ℕ)) (t : Tree) (n : ℕ) → AreGiven bound given → referred given t ≡ Some (Some n) → n < bound
referred_below bound None t n h is = absurd (cc)
referred_below bound (Some ns) t n h is = named_below bound ns (reference_in t) n h.below is

pub reference_read : (several : Bool) (table : List model.Shape) (given : Option (Bor (List ℕ))) (t : Tree) (n : ℕ) → AreGiven (length table) (numbers_given given) → referred (numbers_given given) t ≡ Some (Some n) → IsRead several (shapes_given table given) t table n
reference_read several table given t n h is =
    record {
      within = referred_below (length table) (numbers_given given) t n h is;
      spelled = by_reference (referred_shape table given t ∙ ap (option_map (option_map (shape_at table))) is);
    }

pub reference_told : (several : Bool) (table : List model.Shape) (given : Option (Bor (List ℕ))) (t : Tree) → referred (numbers_given given) t ≡ Some None → TellsOf several (shapes_given table given) t refusal.BadNumber
reference_told several table given t is =
    record { said = record { place = t; there = is_itself; wrong = referred_shape table given t ∙ ap (option_map (option_map (shape_at table))) is } }

-- the one field of an object
pub alone : (es : List (String Global × CodeTree)) (o : Option (Bor CodeTree)) → length es ≡ 1 → option_copied o ≡ lookup (is_at (λ k. slice_cmp nat_cmp (codes "shape") (string_bytes k))) es → trees.tree_there o ≡ reference_among (trees.entries_view es)
alone [] o one is = absurd (omega (arith, one))
alone (e ∷ []) o one is = member_named_lookup (codes "shape") (e ∷ []) o is
alone (e ∷ f ∷ es) o one is = absurd (omega (arith, one))

pub not_alone : (es : List (String Global × CodeTree)) → (length es ≡ 1 → ⊥) → None ≡ reference_among (trees.entries_view es)
not_alone [] more = refl
not_alone (e ∷ []) more = absurd (more refl)
not_alone (e ∷ f ∷ es) more = refl

-- ---- levels

fault_told : (several : Bool) (given : Option (List model.Shape)) (t : Tree) (e : ShapeRefusal) → referred given t ≡ None → Tells e (level_faults several t) → TellsOf several given t (numbered e)
fault_told several given t NotAShape is told = record { said = (_, refl, record { place = t; there = is_itself; spelled = is; listed = told.listed }) }
fault_told several given t Keyword is told = record { said = (_, refl, record { place = t; there = is_itself; spelled = is; listed = told.listed }) }
fault_told several given t BadType is told = record { said = (_, refl, record { place = t; there = is_itself; spelled = is; listed = told.listed }) }
fault_told several given t MinItems is told = record { said = (_, refl, record { place = t; there = is_itself; spelled = is; listed = told.listed }) }
fault_told several given t OutOfMemory is told = record { said = tt }

pub level_told : (several : Bool) (table : List model.Shape) (given : Option (Bor (List ℕ))) (t : Tree) (e : ShapeRefusal) → referred (numbers_given given) t ≡ None → Tells e (level_faults several t) → TellsOf several (shapes_given table given) t (numbered e)
level_told several table given t e is told =
    fault_told several (shapes_given table given) t e (referred_shape table given t ∙ ap (option_map (option_map (shape_at table))) is) told

-- a shape that is spelled whole
pub whole_read : (several : Bool) (given : Option (List model.Shape)) (s : model.Shape) (table : List model.Shape) (n : ℕ) → IsNumberOf table s n → IsReadOver several given (Whole s) table n
whole_read several given s table n is = record { within = is.within; spelled = subst (SpellsOver several given (Whole s)) (sym is.same) with_none_inside }

-- kinds, where the arrays were read before the objects
arrays_grown : (several : Bool) (given : Option (List model.Shape)) (list : Option ListLevel) (old new : List model.Shape) (number : Option ℕ) → Keeps old new → AreArraysRead several given list old number → AreArraysRead several given list new number
arrays_grown several given list old new None keeps are = record { within = tt; spelled = are.spelled }
arrays_grown several given list old new (Some n) keeps are =
    record {
      within = omega (arith, keeps_longer old new keeps, are.within);
      spelled = subst (SpellsArrays several given list) (sym (ap arrays_of (kept_shape old new n keeps are.within))) are.spelled;
    }

pub kinds_read : (several : Bool) (given : Option (List model.Shape)) (list : Option ListLevel) (object : Option ObjectLevel) (middle now new : List model.Shape) (kinds : KindNumbers) (n : ℕ) → Keeps middle now → AreArraysRead several given list middle kinds.arrays → AreObjectsRead several given object now kinds.objects → IsNumberOf new (kinds_at now kinds) n → IsReadOver several given (OfTypes (record { null = kinds.null; boolean = kinds.boolean; integer = kinds.integer; text = kinds.text }) list object) new n
kinds_read several given list object middle now new kinds n keeps are others is =
    let kept = arrays_grown several given list middle now kinds.arrays keeps are in
    record { within = is.within; spelled = subst (SpellsOver several given (OfTypes (record { null = kinds.null; boolean = kinds.boolean; integer = kinds.integer; text = kinds.text }) list object)) (sym is.same) (with_kinds kept.spelled others.spelled) }

pub no_list_read : (several : Bool) (given : Option (List model.Shape)) (list : Option CodeList) (table : List model.Shape) → list ≡ None → AreArraysRead several given (option_map list_view list) table None
no_list_read several given list table none = rw none (record { within = tt; spelled = without_arrays })

pub no_object_read : (several : Bool) (given : Option (List model.Shape)) (object : Option CodeObject) (table : List model.Shape) → object ≡ None → AreObjectsRead several given (option_map object_view object) table None
no_object_read several given object table none = rw none (record { within = tt; spelled = without_objects })

over_read : (several : Bool) (given : Option (List model.Shape)) (t : Tree) (level : Level) (table : List model.Shape) (n : ℕ) → SpelledOver several t level → IsReadOver several given level table n → IsRead several given t table n
over_read several given t level table n over read = record { within = read.within; spelled = by_level over read.spelled }

-- what is wrong with a spelling inside
over_told : (several : Bool) (given : Option (List model.Shape)) (t : Tree) (level : Level) (e : NumberedRefusal) → SpelledOver several t level → TellsOneOf several given (inside level) e → TellsOf several given t e
over_told several given t level (refusal.Shape e) over told =
    let said = told.said in
    let fault = said.2.2 in
    record { said = (said.2.0, said.2.1, record { place = fault.place; there = stands_inside over said.1 fault.there; spelled = fault.spelled; listed = fault.listed }) }
over_told several given t level refusal.BadNumber over told =
    let said = told.said in
    record { said = record { place = said.2.place; there = stands_inside over said.1 said.2.there; wrong = said.2.wrong } }
over_told several given t level refusal.OutOfMemory over told = record { said = tt }

pub over_answer : (several : Bool) (given : Option (List model.Shape)) (t : Tree) (level : Level) (table : List model.Shape) (r : Result ℕ NumberedRefusal) → SpelledOver several t level → IfOk r (IsReadOver several given level table) → IfOk r (IsRead several given t table)
over_answer several given t level table (Ok n) over read = over_read several given t level table n over read
over_answer several given t level table (Err e) over read = tt

pub over_refusal : (several : Bool) (given : Option (List model.Shape)) (t : Tree) (level : Level) (r : Result ℕ NumberedRefusal) → SpelledOver several t level → IfErr r (TellsOneOf several given (inside level)) → IfErr r (TellsOf several given t)
over_refusal several given t level (Ok n) over told = tt
over_refusal several given t level (Err e) over told = over_told several given t level e over told

-- ---- one of several

pub one_told : (several : Bool) (given : Option (List model.Shape)) (ts : List Tree) (part : Tree) (e : NumberedRefusal) → Contains ts part → TellsOf several given part e → TellsOneOf several given ts e
one_told several given ts part (refusal.Shape e) there told = record { said = (part, there, told.said) }
one_told several given ts part refusal.BadNumber there told = record { said = (part, there, told.said) }
one_told several given ts part refusal.OutOfMemory there told = record { said = tt }

pub one_left : (several : Bool) (given : Option (List model.Shape)) (ts us : List Tree) (e : NumberedRefusal) → TellsOneOf several given ts e → TellsOneOf several given (ts ++ us) e
one_left several given ts us (refusal.Shape e) told = record { said = (told.said.0, Contains-append_left ts us told.said.0 told.said.1, told.said.2) }
one_left several given ts us refusal.BadNumber told = record { said = (told.said.0, Contains-append_left ts us told.said.0 told.said.1, told.said.2) }
one_left several given ts us refusal.OutOfMemory told = record { said = tt }

pub one_right : (several : Bool) (given : Option (List model.Shape)) (ts us : List Tree) (e : NumberedRefusal) → TellsOneOf several given us e → TellsOneOf several given (ts ++ us) e
one_right several given ts us (refusal.Shape e) told = record { said = (told.said.0, Contains-append_right ts us told.said.0 told.said.1, told.said.2) }
one_right several given ts us refusal.BadNumber told = record { said = (told.said.0, Contains-append_right ts us told.said.0 told.said.1, told.said.2) }
one_right several given ts us refusal.OutOfMemory told = record { said = tt }

-- ---- the parts of a list

contains_first : (t : Tree) (ts : List Tree) → Contains (t ∷ ts) t
contains_first t ts = (0, omega arith, refl)

-- the element at a place is one of them
pub element_there : (i : ℕ) (vs left : List CodeTree) (v : CodeTree) → drop i vs ≡ v ∷ left → Contains (each_of (trees.elements_view vs)) (trees.view v)
element_there zero vs left v split = subst (λ us. Contains (each_of (trees.elements_view us)) (trees.view v)) (sym split) (contains_first (trees.view v) (each_of (trees.elements_view left)))
element_there (suc i) [] left v split = absurd (cc)
element_there (suc i) (u ∷ vs) left v split = Contains-append_right (trees.view u ∷ []) (each_of (trees.elements_view vs)) (trees.view v) (element_there i vs left v split)

push_tree : Trees → Tree → Trees
push_tree NoTrees t = AndTree t NoTrees
push_tree (AndTree u ts) t = AndTree u (push_tree ts t)

push_shape : model.Shapes → model.Shape → model.Shapes
push_shape model.NoShapes s = model.AndShape s model.NoShapes
push_shape (model.AndShape r ss) s = model.AndShape r (push_shape ss s)

each_push : {several : Bool} {given : Option (List model.Shape)} {ts : Trees} {ss : model.Shapes} {t : Tree} {s : model.Shape} → SpellEach several given ts ss → SpellsWith several given t s → SpellEach several given (push_tree ts t) (push_shape ss s)
unfolding push_tree push_shape
each_push no_element own = and_element own no_element
each_push (and_element h others) own = and_element h (each_push others own)

elements_pushed : (vs : List CodeTree) (v : CodeTree) → trees.elements_view (vs ++ v ∷ []) ≡ push_tree (trees.elements_view vs) (trees.view v)
unfolding push_tree
elements_pushed [] v = refl
elements_pushed (u ∷ vs) v = ap (AndTree (trees.view u)) (elements_pushed vs v)

shapes_pushed : (table : List model.Shape) (ns : List ℕ) (n : ℕ) → shapes_at table (ns ++ n ∷ []) ≡ push_shape (shapes_at table ns) (shape_at table n)
unfolding push_shape
shapes_pushed table [] n = refl
shapes_pushed table (m ∷ ns) n = ap (model.AndShape (shape_at table m)) (shapes_pushed table ns n)

pub none_read : (several : Bool) (given : Option (List model.Shape)) (table : List model.Shape) → AreRead several given NoTrees table []
none_read several given table = record { within = tt; spelled = no_element }

numbers_grown : (several : Bool) (given : Option (List model.Shape)) (ts : Trees) (old new : List model.Shape) (ns : List ℕ) → Keeps old new → AreRead several given ts old ns → AreRead several given ts new ns
numbers_grown several given ts old new ns keeps are =
    let kept : AreNumbersOf new (shapes_at old ns) ns = numbers_kept old new (shapes_at old ns) ns keeps (record { within = are.within; same = refl }) in
    record { within = kept.within; spelled = subst (SpellEach several given ts) (sym kept.same) are.spelled }

pub number_read : (several : Bool) (given : Option (List model.Shape)) (old new : List model.Shape) (before after : List CodeTree) (v : CodeTree) (ns ms : List ℕ) (n : ℕ) → Keeps old new → AreRead several given (trees.elements_view before) old ns → IsRead several given (trees.view v) new n → after ≡ before ++ v ∷ [] → ms ≡ ns ++ n ∷ [] → AreRead several given (trees.elements_view after) new ms
number_read several given old new before after v ns ms n keeps are read more also =
    let now = numbers_grown several given (trees.elements_view before) old new ns keeps are in
    rw (more, also) (record {
      within = below-append (length new) ns (n ∷ []) now.within (read.within, tt);
      spelled = rw (elements_pushed before v, shapes_pushed new ns n) (each_push now.spelled read.spelled);
    })

pub numbers_end : (several : Bool) (given : Option (List model.Shape)) (table : List model.Shape) (i : ℕ) (vs : List CodeTree) (ns : List ℕ) → length vs ≤ i → AreRead several given (trees.elements_view (take i vs)) table ns → AreRead several given (trees.elements_view vs) table ns
numbers_end several given table i vs ns past are = subst (λ us. AreRead several given (trees.elements_view us) table ns) (take_all i vs past) are

pub list_refers : (several : Bool) (given : Option (List model.Shape)) (first : Trees) (rest : Option Tree) (middle now : List model.Shape) (ns : Vec ℕ Global) (n : ℕ) → Keeps middle now → AreRead several given first middle ns.items → IsReadRest several given rest now n → RefersBelow (length now) (Elements ns n)
list_refers several given first rest middle now ns n keeps are read =
    let kept = numbers_grown several given first middle now ns.items keeps are in
    record { each = (read.within, kept.within) }

pub list_read : (several : Bool) (given : Option (List model.Shape)) (list : ListLevel) (middle now new : List model.Shape) (ns : Vec ℕ Global) (further n : ℕ) → Keeps middle now → AreRead several given list.first middle ns.items → IsReadRest several given list.rest now further → IsNumberOf new (shape_over now (Elements ns further)) n → AreArraysRead several given (Some list) new (Some n)
list_read several given list middle now new ns further n keeps are read is =
    let kept = numbers_grown several given list.first middle now ns.items keeps are in
    record { within = is.within; spelled = subst (SpellsArrays several given (Some list)) (sym (ap arrays_of is.same)) (with_elements kept.spelled read.spelled) }

-- the further elements
pub no_rest_read : (several : Bool) (given : Option (List model.Shape)) (table : List model.Shape) (n : ℕ) → IsNumberOf table model.Any n → IsReadRest several given None table n
no_rest_read several given table n is = record { within = is.within; spelled = subst (SpellsRest several given None) (sym is.same) no_rest }

pub rest_answer : (several : Bool) (given : Option (List model.Shape)) (t : Tree) (table : List model.Shape) (r : Result ℕ NumberedRefusal) → IfOk r (IsRead several given t table) → IfOk r (IsReadRest several given (Some t) table)
rest_answer several given t table (Ok n) read = record { within = read.within; spelled = some_rest read.spelled }
rest_answer several given t table (Err e) read = tt

-- ---- the parts of an object

pub member_there : (all done now left : List (String Global × CodeTree)) (e : String Global × CodeTree) → all ≡ done ++ now → now ≡ e ∷ left → Contains (values_of (trees.entries_view all)) (trees.view e.1)
member_there all done now left e split next = subst (λ es. Contains (values_of (trees.entries_view es)) (trees.view e.1)) (sym (split ∙ ap (λ es. done ++ es) next)) (go done)
  where
    go : (before : List (String Global × CodeTree)) → Contains (values_of (trees.entries_view (before ++ e ∷ left))) (trees.view e.1)
    go [] = contains_first (trees.view e.1) (values_of (trees.entries_view left))
    go (m ∷ before) = Contains-append_right (trees.view m.1 ∷ []) (values_of (trees.entries_view (before ++ e ∷ left))) (trees.view e.1) (go before)

push_field : Fields → List ℕ → Tree → Fields
push_field NoFields n t = AndField n t NoFields
push_field (AndField m u fs) n t = AndField m u (push_field fs n t)

push_mention : model.FieldShapes → List ℕ → Bool → model.Shape → model.FieldShapes
push_mention model.NoFieldShapes n needed s = model.AndFieldShape n needed s model.NoFieldShapes
push_mention (model.AndFieldShape m other r ss) n needed s = model.AndFieldShape m other r (push_mention ss n needed s)

fields_push : {several : Bool} {given : Option (List model.Shape)} {fs : Fields} {ss : model.FieldShapes} (n : List ℕ) {t : Tree} {s : model.Shape} → SpellFields several given fs ss → SpellsWith several given t s → SpellFields several given (push_field fs n t) (push_mention ss n false s)
unfolding push_field push_mention
fields_push n no_field own = and_field own no_field
fields_push n (and_field h others) own = and_field h (fields_push n others own)

entries_pushed : (es : List (String Global × CodeTree)) (e : String Global × CodeTree) → trees.entries_view (es ++ e ∷ []) ≡ push_field (trees.entries_view es) (string_bytes e.0) (trees.view e.1)
unfolding push_field
entries_pushed [] e = refl
entries_pushed (m ∷ es) e = ap (AndField (string_bytes m.0) (trees.view m.1)) (entries_pushed es e)

mentions_pushed : (table : List model.Shape) (es : List (Name × NodeField)) (k : Name) (f : NodeField) → fields_at table (es ++ (k, f) ∷ []) ≡ push_mention (fields_at table es) (rc_str_bytes k) f.needed (shape_at table f.shape)
unfolding push_mention
mentions_pushed table [] k f = refl
mentions_pushed table (e ∷ es) k f = ap (model.AndFieldShape (rc_str_bytes e.0) e.1.needed (shape_at table e.1.shape)) (mentions_pushed table es k f)

pub no_fields_read : (several : Bool) (given : Option (List model.Shape)) (table : List model.Shape) → AreFieldsRead several given NoFields table []
no_fields_read several given table = record { within = tt; spelled = no_field }

pub fields_grown : (several : Bool) (given : Option (List model.Shape)) (fs : Fields) (old new : List model.Shape) (es : List (Name × NodeField)) → Keeps old new → AreFieldsRead several given fs old es → AreFieldsRead several given fs new es
fields_grown several given fs old new es keeps are =
    let kept : AreFieldsOf new (fields_at old es) es = fields_kept old new (fields_at old es) es keeps (record { within = are.within; same = refl }) in
    record { within = kept.within; spelled = subst (SpellFields several given fs) (sym kept.same) are.spelled }

pub field_read : (several : Bool) (given : Option (List model.Shape)) (old new : List model.Shape) (done left : List (String Global × CodeTree)) (e : String Global × CodeTree) (es fs : List (Name × NodeField)) (k : Name) (f : NodeField) → IsStrictlySortedBy string_cmp (keys_of (done ++ e ∷ left)) → Keeps old new → shared_names es ≡ names done → AreFieldsRead several given (trees.entries_view done) old es → rc_str_bytes k ≡ string_bytes e.0 → f.needed ≡ false → IsRead several given (trees.view e.1) new f.shape → fs ≡ insert_entry name_cmp es k f → (shared_names fs ≡ names (done ++ e ∷ [])) × AreFieldsRead several given (trees.entries_view (done ++ e ∷ [])) new fs
field_read several given old new done left e es fs k f sorted keeps same are named needed read inserted =
    let now = fields_grown several given (trees.entries_view done) old new es keeps are in
    let last : fs ≡ es ++ (k, f) ∷ [] = inserted ∙ appended_by string_bytes rc_str_bytes done e left es k f sorted same named in (
      ap shared_names last ∙ map-append (λ x. rc_str_bytes x.0) es ((k, f) ∷ []) ∙ ap (λ ns. ns ++ rc_str_bytes k ∷ []) same ∙ ap (λ n. names done ++ n ∷ []) named ∙ sym (map-append (λ x. string_bytes x.0) done (e ∷ [])),
      rw last (record {
        within = numbers_push (length new) es k f now.within read.within;
        spelled = rw (entries_pushed done e, mentions_pushed new es k f, named, needed) (fields_push (string_bytes e.0) now.spelled read.spelled);
      }),
    )

pub object_refers : (shapes : model.FieldShapes) (now : List model.Shape) (fields : BTreeMap Name NodeField) (extra : Bool) → AreFieldsOf now shapes fields.entries → RefersBelow (length now) (Object fields extra)
object_refers shapes now fields extra are = record { each = are.within }

pub object_read : (several : Bool) (given : Option (List model.Shape)) (object : ObjectLevel) (middle new : List model.Shape) (fields : List (Name × NodeField)) (n : ℕ) → AreFieldsRead several given object.properties middle fields → IsNumberOf new (model.ObjectShape (with_all_needed object.extra object.names (fields_at middle fields)) object.extra) n → AreObjectsRead several given (Some object) new (Some n)
object_read several given object middle new fields n are is =
    record { within = is.within; spelled = subst (SpellsObjects several given (Some object)) (sym (ap objects_of is.same)) (with_properties are.spelled) }

-- the node of an object whose fields are marked
pub object_put : (shapes : model.FieldShapes) (now new : List model.Shape) (marked : BTreeMap Name NodeField) (extra : Bool) (n : ℕ) → AreFieldsOf now shapes marked.entries → IsNumberOf new (shape_over now (Object marked extra)) n → IsNumberOf new (model.ObjectShape shapes extra) n
object_put shapes now new marked extra n marks is =
    subst (λ s. IsNumberOf new s n) (ap (λ ms. model.ObjectShape ms extra) marks.same) is
