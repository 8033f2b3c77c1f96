-- The list of a certificate's shapes: what stands in it, and how what is written for it is spelled out.
use Rattle.std.proofs.Common.{◌≡◌, ℕ, zero, suc, pos, IsTrue, bytes_eq, codes, List, [], ◌∷◌, ◌++◌, map, slice_get, Bool, true, false, ◌||◌, not, is_some, Option, Some, None, option_map, unwrap_or, IfSome, if◌then◌else◌, refl, sym, ap, ap₂, subst, ◌∙◌, append_assoc, append-nil, arith}
use Rattle.std.proofs.lemmas.Bool.{false≢true}
use Rattle.std.specs.List.{AllByRecursion}
use Rattle.asl_model.specs.Tree.{Tree, Boolean, Integer, Array, Object, AndTree, Fields, NoFields, AndField}
use Rattle.asl_model.specs.Shape.{Shape, Any, OfKinds, Arrays, WithoutArrays, ArraysOf, Objects, WithoutObjects, ObjectsOf, Shapes, NoShapes, AndShape, FieldShapes, NoFieldShapes, AndFieldShape, type_names, IsProperShape, AreProperArrays, AreProperObjects, AreProperShapes, AreProperFields}
use Rattle.asl_model.specs.ShapeOrder.{is_any_shape}
use Rattle.asl_model.specs.ShapeFlow.{how_many_shapes}
use Rattle.asl_model.specs.Certificate.{StateShapes, Certificate}
use Rattle.asl_model.specs.RecordShapes.{HoldsForState, HoldsForCertificate}
use Rattle.asl_model.specs.References.{reference_among, held_under, NoShape, spelled_out, keywords_spelled_out, number_wrong_under, each_spelled_out, values_spelled_out, has_wrong_number, one_has_wrong_number, a_field_has_wrong_number}
use Rattle.asl_model.specs.Written.{field_if, some_shapes, some_fields, needed_names, some_names, as_texts, type_written, type_field, are_closed, written_kinds, written_shape, with_written_arrays, with_written_objects, written_shapes, written_fields}
use Rattle.asl_model.specs.WrittenNumbered.{same_shape, place_of, with_last, is_listed, with_last_if_listed, list_after, list_after_arrays, list_after_objects, list_after_places, list_after_fields, list_after_all, list_after_item, list_after_state, list_after_states, shapes_listed, reference, referring, places_referring, fields_referring, with_arrays_over, with_objects_over, written_over}
use Rattle.asl_model.proofs.SameShapes.{same_are, same_itself}

-- ---- places

pub placed : (s : Shape) (listed : List Shape) (i : ℕ) → place_of s listed ≡ Some i → slice_get listed i ≡ Some s
placed s [] i h = absurd (cc)
placed s (t ∷ listed) i h = go (same_shape s t) refl (place_of s listed) (placed s listed) i h
  where
    go : (b : Bool) → same_shape s t ≡ b → (o : Option ℕ) → ((j : ℕ) → o ≡ Some j → slice_get listed j ≡ Some s) → (i : ℕ) → (if b then Some 0 else option_map suc o) ≡ Some i → slice_get (t ∷ listed) i ≡ Some s
    go true is o further zero h = ap Some (sym (same_are s t is))
    go true is o further (suc i) h = absurd (cc)
    go false is None further i h = absurd (cc)
    go false is (Some j) further zero h = absurd (cc)
    go false is (Some j) further (suc i) h = further i (cc)

-- the shape stands in the list
abbrev pub IsListed : List Shape → Shape → Type 0
IsListed listed s = (i : ℕ) × (place_of s listed ≡ Some i)

pub placed_more : (s : Shape) (listed more : List Shape) (i : ℕ) → place_of s listed ≡ Some i → place_of s (listed ++ more) ≡ Some i
placed_more s [] more i h = absurd (cc)
placed_more s (t ∷ listed) more i h = go (same_shape s t) (place_of s listed) (placed_more s listed more) i h
  where
    go : (b : Bool) (o : Option ℕ) → ((j : ℕ) → o ≡ Some j → place_of s (listed ++ more) ≡ Some j) → (i : ℕ) → (if b then Some 0 else option_map suc o) ≡ Some i → (if b then Some 0 else option_map suc (place_of s (listed ++ more))) ≡ Some i
    go true o further i h = h
    go false None further i h = absurd (cc)
    go false (Some j) further i h = ap (option_map suc) (further j refl) ∙ h

placed_last : (s : Shape) (listed : List Shape) → IsListed (listed ++ s ∷ []) s
placed_last s [] = (0, rw (same_itself s) refl)
placed_last s (t ∷ listed) = go (same_shape s t) (placed_last s listed)
  where
    go : (b : Bool) → IsListed (listed ++ s ∷ []) s → (i : ℕ) × ((if b then Some 0 else option_map suc (place_of s (listed ++ s ∷ []))) ≡ Some i)
    go true further = (0, refl)
    go false further = (suc further.0, ap (option_map suc) further.1)

-- ---- what is there

-- the shape stands in the list where it is to be listed
abbrev pub IsThere : List Shape → Shape → Type 0
IsThere listed s = IsTrue (is_listed s) → IsListed listed s

-- so for shapes of first elements, and for those of fields
abbrev pub PlacesAreThere : List Shape → Shapes → Type 0
PlacesAreThere listed NoShapes = Unit {0}
PlacesAreThere listed (AndShape s first) = IsThere listed s × PlacesAreThere listed first

abbrev pub FieldsAreThere : List Shape → FieldShapes → Type 0
FieldsAreThere listed NoFieldShapes = Unit {0}
FieldsAreThere listed (AndFieldShape n needed s fields) = IsThere listed s × FieldsAreThere listed fields

-- for the parts of arrays, and for those of objects
abbrev pub ArraysAreThere : List Shape → Arrays → Type 0
ArraysAreThere listed WithoutArrays = Unit {0}
ArraysAreThere listed (ArraysOf first rest) = PlacesAreThere listed first × IsThere listed rest

abbrev pub ObjectsAreThere : List Shape → Objects → Type 0
ObjectsAreThere listed WithoutObjects = Unit {0}
ObjectsAreThere listed (ObjectsOf fields extra) = FieldsAreThere listed fields

-- for those of a shape
abbrev pub KindsAreThere : List Shape → Shape → Type 0
KindsAreThere listed Any = Unit {0}
KindsAreThere listed (OfKinds simple arrays objects) = ArraysAreThere listed arrays × ObjectsAreThere listed objects

-- the shape is to be listed, and its parts are there
abbrev pub PartsAreThere : List Shape → Shape → Type 0
PartsAreThere listed s = IsTrue (is_listed s) × KindsAreThere listed s

pub there_more : (s : Shape) (listed more : List Shape) → IsThere listed s → IsThere (listed ++ more) s
there_more s listed more h is = ((h is).0, placed_more s listed more (h is).0 (h is).1)

pub places_more : (first : Shapes) (listed more : List Shape) → PlacesAreThere listed first → PlacesAreThere (listed ++ more) first
places_more NoShapes listed more h = tt
places_more (AndShape s first) listed more h = (there_more s listed more h.0, places_more first listed more h.1)

pub fields_more : (fields : FieldShapes) (listed more : List Shape) → FieldsAreThere listed fields → FieldsAreThere (listed ++ more) fields
fields_more NoFieldShapes listed more h = tt
fields_more (AndFieldShape n needed s fields) listed more h = (there_more s listed more h.0, fields_more fields listed more h.1)

arrays_more : (arrays : Arrays) (listed more : List Shape) → ArraysAreThere listed arrays → ArraysAreThere (listed ++ more) arrays
arrays_more WithoutArrays listed more h = tt
arrays_more (ArraysOf first rest) listed more h = (places_more first listed more h.0, there_more rest listed more h.1)

objects_more : (objects : Objects) (listed more : List Shape) → ObjectsAreThere listed objects → ObjectsAreThere (listed ++ more) objects
objects_more WithoutObjects listed more h = tt
objects_more (ObjectsOf fields extra) listed more h = fields_more fields listed more h

pub parts_more : (s : Shape) (listed more : List Shape) → PartsAreThere listed s → PartsAreThere (listed ++ more) s
parts_more Any listed more h = h
parts_more (OfKinds simple arrays objects) listed more h = (h.0, (arrays_more arrays listed more h.1.0, objects_more objects listed more h.1.1))

-- Behind those shapes, each of the others has parts, which are there by then, and is proper.
abbrev pub AreBehind : List Shape → List Shape → Type 0
AreBehind done [] = Unit {0}
AreBehind done (s ∷ left) = PartsAreThere done s × IsProperShape s × AreBehind (done ++ s ∷ []) left

behind_last : (done left : List Shape) (s : Shape) → AreBehind done left → PartsAreThere (done ++ left) s → IsProperShape s → AreBehind done (left ++ s ∷ [])
behind_last done [] s h parts proper = (subst (λ l. PartsAreThere l s) (append-nil done) parts, proper, tt)
behind_last done (t ∷ left) s h parts proper =
    (h.0, h.1, behind_last (done ++ t ∷ []) left s h.2 (subst (λ l. PartsAreThere l s) (sym (append_assoc done (t ∷ []) left)) parts) proper)

-- ---- the walk

-- a walk went through the shape
pub record Goes (before after : List Shape) : Type 0 where
  pub more : List Shape
  pub whole : after ≡ before ++ more
  pub behind : AreBehind [] after

goes_none : (listed : List Shape) → AreBehind [] listed → Goes listed listed
goes_none listed h = record { more = []; whole = sym (append-nil listed); behind = h }

goes_then : (a b c : List Shape) → Goes a b → Goes b c → Goes a c
goes_then a b c g h = record { more = g.more ++ h.more; whole = h.whole ∙ (ap (λ l. l ++ h.more) g.whole ∙ append_assoc a g.more h.more); behind = h.behind }

pub goes_last : (listed : List Shape) (s : Shape) → AreBehind [] listed → PartsAreThere listed s → IsProperShape s → Goes listed (with_last s listed) × IsListed (with_last s listed) s
goes_last listed s behind parts proper = go (place_of s listed) refl
  where
    go : (o : Option ℕ) → place_of s listed ≡ o → Goes listed (if is_some o then listed else listed ++ s ∷ []) × IsListed (if is_some o then listed else listed ++ s ∷ []) s
    go (Some i) is = (goes_none listed behind, (i, is))
    go None is = (record { more = s ∷ []; whole = refl; behind = behind_last [] listed s behind parts proper }, placed_last s listed)

goes_last_if_listed : (listed : List Shape) (s : Shape) → AreBehind [] listed → KindsAreThere listed s → IsProperShape s → Goes listed (with_last_if_listed s listed) × IsThere (with_last_if_listed s listed) s
goes_last_if_listed listed s behind parts proper = go (is_listed s) refl
  where
    go : (b : Bool) → is_listed s ≡ b → Goes listed (if b then with_last s listed else listed) × (IsTrue (is_listed s) → IsListed (if b then with_last s listed else listed) s)
    go true is = let l = goes_last listed s behind (is, parts) proper in (l.0, λ h. l.1)
    go false is = (goes_none listed behind, λ h. absurd (cc))

there_later : (s : Shape) (a b : List Shape) → Goes a b → IsThere a s → IsThere b s
there_later s a b g h = subst (λ l. IsThere l s) (sym g.whole) (there_more s a g.more h)

pub places_later : (first : Shapes) (a b : List Shape) → Goes a b → PlacesAreThere a first → PlacesAreThere b first
places_later first a b g h = subst (λ l. PlacesAreThere l first) (sym g.whole) (places_more first a g.more h)

pub arrays_later : (arrays : Arrays) (a b : List Shape) → Goes a b → ArraysAreThere a arrays → ArraysAreThere b arrays
arrays_later arrays a b g h = subst (λ l. ArraysAreThere l arrays) (sym g.whole) (arrays_more arrays a g.more h)

mutual
  pub walked : (listed : List Shape) (s : Shape) → AreBehind [] listed → IsProperShape s → Goes listed (list_after listed s) × IsThere (list_after listed s) s
  walked listed Any h p = (goes_none listed h, λ is. absurd (false≢true is))
  walked listed (OfKinds simple arrays objects) h p =
      let one = list_after_arrays listed arrays in
      let two = list_after_objects one objects in
      let a = walked_arrays listed arrays h p.0 in
      let o = walked_objects one objects a.0.behind p.1 in
      let l = goes_last_if_listed two (OfKinds simple arrays objects) o.0.behind (arrays_later arrays one two o.0 a.1, o.1) p in
      (goes_then listed two _ (goes_then listed one two a.0 o.0) l.0, l.1)

  pub walked_arrays : (listed : List Shape) (arrays : Arrays) → AreBehind [] listed → AreProperArrays arrays → Goes listed (list_after_arrays listed arrays) × ArraysAreThere (list_after_arrays listed arrays) arrays
  walked_arrays listed WithoutArrays h p = (goes_none listed h, tt)
  walked_arrays listed (ArraysOf first rest) h p =
      let one = list_after_places listed first in
      let two = list_after one rest in
      let f = walked_places listed first h p.0 in
      let r = walked one rest f.0.behind p.1 in
      (goes_then listed one two f.0 r.0, (places_later first one two r.0 f.1, r.1))

  pub walked_objects : (listed : List Shape) (objects : Objects) → AreBehind [] listed → AreProperObjects objects → Goes listed (list_after_objects listed objects) × ObjectsAreThere (list_after_objects listed objects) objects
  walked_objects listed WithoutObjects h p = (goes_none listed h, tt)
  walked_objects listed (ObjectsOf fields extra) h p = walked_fields listed fields h p

  pub walked_places : (listed : List Shape) (first : Shapes) → AreBehind [] listed → AreProperShapes first → Goes listed (list_after_places listed first) × PlacesAreThere (list_after_places listed first) first
  walked_places listed NoShapes h p = (goes_none listed h, tt)
  walked_places listed (AndShape s first) h p =
      let one = list_after listed s in
      let f = walked listed s h p.0 in
      let r = walked_places one first f.0.behind p.1 in
      (goes_then listed one (list_after_places one first) f.0 r.0, (there_later s one (list_after_places one first) r.0 f.1, r.1))

  pub walked_fields : (listed : List Shape) (fields : FieldShapes) → AreBehind [] listed → AreProperFields fields → Goes listed (list_after_fields listed fields) × FieldsAreThere (list_after_fields listed fields) fields
  walked_fields listed NoFieldShapes h p = (goes_none listed h, tt)
  walked_fields listed (AndFieldShape n needed s fields) h p =
      let one = list_after listed s in
      let f = walked listed s h p.2 in
      let r = walked_fields one fields f.0.behind p.3 in
      (goes_then listed one (list_after_fields one fields) f.0 r.0, (there_later s one (list_after_fields one fields) r.0 f.1, r.1))

-- through the shapes of a certificate

pub proper_all : (listed shapes : List Shape) → AreBehind [] listed → AllByRecursion IsProperShape shapes → Goes listed (list_after_all listed shapes) × AllByRecursion (IsThere (list_after_all listed shapes)) shapes
proper_all listed [] h p = (goes_none listed h, tt)
proper_all listed (s ∷ shapes) h p =
    let one = list_after listed s in
    let f = walked listed s h p.0 in
    let r = proper_all one shapes f.0.behind p.1 in
    (goes_then listed one (list_after_all one shapes) f.0 r.0, (there_later s one (list_after_all one shapes) r.0 f.1, r.1))

all_later : (shapes : List Shape) (a b : List Shape) → Goes a b → AllByRecursion (IsThere a) shapes → AllByRecursion (IsThere b) shapes
all_later [] a b g h = tt
all_later (s ∷ shapes) a b g h = (there_later s a b g h.0, all_later shapes a b g h.1)

item_walked : (listed : List Shape) (item : Option Shape) → AreBehind [] listed → IfSome item IsProperShape → Goes listed (list_after_item listed item) × IfSome item (IsThere (list_after_item listed item))
item_walked listed None h p = (goes_none listed h, tt)
item_walked listed (Some s) h p = walked listed s h p

item_later : (item : Option Shape) (a b : List Shape) → Goes a b → IfSome item (IsThere a) → IfSome item (IsThere b)
item_later None a b g h = tt
item_later (Some s) a b g h = there_later s a b g h

state_later : (shapes : StateShapes) (a b : List Shape) → Goes a b → HoldsForState (IsThere a) shapes → HoldsForState (IsThere b) shapes
state_later shapes a b g h = record {
  input = there_later shapes.input a b g h.input;
  output = there_later shapes.output a b g h.output;
  branches = all_later shapes.branches a b g h.branches;
  item = item_later shapes.item a b g h.item;
}

state_walked : (listed : List Shape) (shapes : StateShapes) → AreBehind [] listed → HoldsForState IsProperShape shapes → Goes listed (list_after_state listed shapes) × HoldsForState (IsThere (list_after_state listed shapes)) shapes
state_walked listed shapes h p =
    let one = list_after_all listed shapes.branches in
    let two = list_after one shapes.input in
    let three = list_after_item two shapes.item in
    let four = list_after three shapes.output in
    let b = proper_all listed shapes.branches h p.branches in
    let i = walked one shapes.input b.0.behind p.input in
    let t = item_walked two shapes.item i.0.behind p.item in
    let o = walked three shapes.output t.0.behind p.output in
    let last = goes_then two three four t.0 o.0 in
    let later = goes_then one two four i.0 last in (
      goes_then listed one four b.0 later,
      record {
        input = there_later shapes.input two four last i.1;
        output = o.1;
        branches = all_later shapes.branches one four later b.1;
        item = item_later shapes.item three four o.0 t.1;
      },
    )

-- so for the entries of states
abbrev EntriesHold : (Shape → Type 0) → List (List ℕ × StateShapes) → Type 0
EntriesHold P entries = AllByRecursion (λ (entry : List ℕ × StateShapes). HoldsForState P entry.1) entries

states_walked : (listed : List Shape) (entries : List (List ℕ × StateShapes)) → AreBehind [] listed → EntriesHold IsProperShape entries → Goes listed (list_after_states listed entries) × EntriesHold (IsThere (list_after_states listed entries)) entries
states_walked listed [] h p = (goes_none listed h, tt)
states_walked listed (entry ∷ entries) h p =
    let one = list_after_state listed entry.1 in
    let f = state_walked listed entry.1 h p.0 in
    let r = states_walked one entries f.0.behind p.1 in
    (goes_then listed one (list_after_states one entries) f.0 r.0, (state_later entry.1 one (list_after_states one entries) r.0 f.1, r.1))

-- the shapes listed for a certificate have their parts in front of them, and all its shapes are there
pub record IsListing (certificate : Certificate) (listed : List Shape) : Type 0 where
  pub behind : AreBehind [] listed
  pub there : HoldsForCertificate (IsThere listed) certificate

pub all_listed : (certificate : Certificate) → HoldsForCertificate IsProperShape certificate → IsListing certificate (shapes_listed certificate)
all_listed certificate p =
    let one = list_after [] certificate.output in
    let o = walked [] certificate.output tt p.output in
    let s = states_walked one certificate.states o.0.behind p.states in
    record { behind = s.0.behind; there = record { output = there_later certificate.output one (shapes_listed certificate) s.0 o.1; states = s.1 } }

-- ---- what is written, spelled out

-- the trees of listed shapes
abbrev pub written_all : List Shape → List Tree
written_all listed = map written_shape listed

-- the spelling is spelled out as that tree, and all its numbers are right
pub record IsOut (listed : List Tree) (t whole : Tree) : Type 0 where
  pub same : spelled_out listed t ≡ whole
  pub right : has_wrong_number listed t ≡ false

element_written : (listed : List Shape) (i : ℕ) (s : Shape) → slice_get listed i ≡ Some s → slice_get (written_all listed) i ≡ Some (written_shape s)
element_written [] i s h = absurd (cc)
element_written (t ∷ listed) zero s h = ap (option_map written_shape) h
element_written (t ∷ listed) (suc i) s h = element_written listed i s h

reference_out : (listed : List Shape) (s : Shape) (i : ℕ) → place_of s listed ≡ Some i → IsOut (written_all listed) (reference i) (written_shape s)
reference_out listed s i is =
    let found = element_written listed i s (placed s listed i is) in
    record { same = ap (λ o. unwrap_or o (Boolean true)) found; right = ap (λ o. not (is_some o) || false) found }

-- the keywords are spelled out as these, and are no reference
record AreOut (listed : List Tree) (fs whole : Fields) : Type 0 where
  alone : reference_among fs ≡ None
  same : keywords_spelled_out listed fs ≡ whole
  items : number_wrong_under listed (codes "items") fs ≡ false
  first : number_wrong_under listed (codes "prefixItems") fs ≡ false
  properties : number_wrong_under listed (codes "properties") fs ≡ false

-- a keyword that holds no shape
other_out : (listed : List Tree) (n : List ℕ) (t : Tree) → bytes_eq n (codes "shape") ≡ false → held_under n ≡ NoShape → AreOut listed (AndField n t NoFields) (AndField n t NoFields)
other_out listed n t e h = record { alone = rw e refl; same = rw h refl; items = grind arith; first = grind arith; properties = grind arith }

alone_in_front : (n : List ℕ) (t : Tree) (fs : Fields) → reference_among (AndField n t NoFields) ≡ None → reference_among (AndField n t fs) ≡ None
alone_in_front n t NoFields h = h
alone_in_front n t (AndField m u fs) h = refl

right_in_front : (b wrong further : Bool) → (elim b [ true ↦ wrong | false ↦ false ]) ≡ false → further ≡ false → (elim b [ true ↦ wrong | false ↦ further ]) ≡ false
right_in_front b wrong further h k = grind arith

-- one more keyword in front
front_out : (listed : List Tree) (wanted : Bool) (n : List ℕ) (t u : Tree) (fs gs : Fields) → AreOut listed (AndField n t NoFields) (AndField n u NoFields) → AreOut listed fs gs → AreOut listed (field_if wanted n t fs) (field_if wanted n u gs)
front_out listed false n t u fs gs own further = further
front_out listed true n t u fs gs own further = let e = own.same in let g = further.same in record {
  alone = alone_in_front n t fs own.alone;
  same = cc;
  items = right_in_front (bytes_eq n (codes "items")) _ _ own.items further.items;
  first = right_in_front (bytes_eq n (codes "prefixItems")) _ _ own.first further.first;
  properties = right_in_front (bytes_eq n (codes "properties")) _ _ own.properties further.properties;
}

type_out : (listed : List Tree) (names : List (List ℕ)) → AreOut listed (type_field names) (type_field names)
type_out listed names = other_out listed (codes "type") (type_written names) refl refl

kinds_out : (listed : List Tree) (closed : Bool) (names : List (List ℕ)) (fs gs : Fields) → AreOut listed fs gs → IsOut listed (written_kinds closed names fs) (written_kinds closed names gs)
kinds_out listed closed [] fs gs h = record { same = refl; right = refl }
kinds_out listed closed (n ∷ names) fs gs h =
    let out = front_out listed closed (codes "additionalProperties") (Boolean false) (Boolean false) fs gs (other_out listed (codes "additionalProperties") (Boolean false) refl refl) h in
    record { same = rw (out.alone, out.same) refl; right = rw (out.alone, out.items, out.first, out.properties) refl }

-- a shape that isn't listed is written without references
plain_out : (listed : List Tree) (s : Shape) → is_listed s ≡ false → IsOut listed (written_shape s) (written_shape s)
plain_out listed Any e = record { same = refl; right = refl }
plain_out listed (OfKinds simple WithoutArrays WithoutObjects) e = kinds_out listed false (type_names simple WithoutArrays WithoutObjects) _ _ (type_out listed (type_names simple WithoutArrays WithoutObjects))
plain_out listed (OfKinds simple (ArraysOf first rest) objects) e = absurd (cc)
plain_out listed (OfKinds simple WithoutArrays (ObjectsOf fields extra)) e = absurd (cc)

pub referring_out : (listed : List Shape) (s : Shape) → IsThere listed s → IsOut (written_all listed) (referring listed s) (written_shape s)
referring_out listed s h = go (place_of s listed) refl (is_listed s) refl
  where
    go : (o : Option ℕ) → place_of s listed ≡ o → (b : Bool) → is_listed s ≡ b → IsOut (written_all listed) (unwrap_or (option_map reference o) (written_shape s)) (written_shape s)
    go None at true is = let found = (h is).1 in absurd (cc)
    go None at false is = plain_out (written_all listed) s is
    go (Some i) at b is = reference_out listed s i at

places_out : (listed : List Shape) (first : Shapes) → PlacesAreThere listed first → (each_spelled_out (written_all listed) (places_referring listed first) ≡ written_shapes first) × (one_has_wrong_number (written_all listed) (places_referring listed first) ≡ false)
places_out listed NoShapes h = (refl, refl)
places_out listed (AndShape s first) h =
    let own = referring_out listed s h.0 in
    let further = places_out listed first h.1 in
    (ap₂ AndTree own.same further.0, ap₂ (λ a b. a || b) own.right further.1)

fields_out : (listed : List Shape) (fields : FieldShapes) → FieldsAreThere listed fields → (values_spelled_out (written_all listed) (fields_referring listed fields) ≡ written_fields fields) × (a_field_has_wrong_number (written_all listed) (fields_referring listed fields) ≡ false)
fields_out listed NoFieldShapes h = (refl, refl)
fields_out listed (AndFieldShape n needed s fields) h =
    let own = referring_out listed s h.0 in
    let further = fields_out listed fields h.1 in
    (ap₂ (AndField n) own.same further.0, ap₂ (λ a b. a || b) own.right further.1)

arrays_out : (listed : List Shape) (arrays : Arrays) (fs gs : Fields) → ArraysAreThere listed arrays → AreOut (written_all listed) fs gs → AreOut (written_all listed) (with_arrays_over listed arrays fs) (with_written_arrays arrays gs)
arrays_out listed WithoutArrays fs gs h out = out
arrays_out listed (ArraysOf first rest) fs gs h out =
    let p = places_out listed first h.0 in
    let r = referring_out listed rest h.1 in
    let b = some_shapes first in
    let number = Integer (pos (how_many_shapes first)) in
    front_out (written_all listed) (not (is_any_shape rest)) (codes "items") (referring listed rest) (written_shape rest) _ _ (record { alone = refl; same = rw r.same refl; items = r.right; first = refl; properties = refl })
    (front_out (written_all listed) b (codes "minItems") number number _ _ (other_out (written_all listed) (codes "minItems") number refl refl)
    (front_out (written_all listed) b (codes "prefixItems") (Array (places_referring listed first)) (Array (written_shapes first)) fs gs (record { alone = refl; same = rw p.0 refl; items = refl; first = p.1; properties = refl }) out))

objects_out : (listed : List Shape) (objects : Objects) (fs gs : Fields) → ObjectsAreThere listed objects → AreOut (written_all listed) fs gs → AreOut (written_all listed) (with_objects_over listed objects fs) (with_written_objects objects gs)
objects_out listed WithoutObjects fs gs h out = out
objects_out listed (ObjectsOf fields extra) fs gs h out =
    let p = fields_out listed fields h in
    let names = Array (as_texts (needed_names fields)) in
    front_out (written_all listed) (some_fields fields) (codes "properties") (Object (fields_referring listed fields)) (Object (written_fields fields)) _ _ (record { alone = refl; same = rw p.0 refl; items = refl; first = refl; properties = p.1 })
    (front_out (written_all listed) (some_names (needed_names fields)) (codes "required") names names fs gs (other_out (written_all listed) (codes "required") names refl refl) out)

-- a shape whose parts are there, written over them
pub over_out : (listed : List Shape) (s : Shape) → PartsAreThere listed s → IsOut (written_all listed) (written_over listed s) (written_shape s)
over_out listed Any h = record { same = refl; right = refl }
over_out listed (OfKinds simple arrays objects) h =
    let names = type_names simple arrays objects in
    kinds_out (written_all listed) (are_closed objects) names _ _ (arrays_out listed arrays _ _ h.1.0 (objects_out listed objects _ _ h.1.1 (type_out (written_all listed) names)))

-- ---- behind the shapes so far

differs : (done : List Shape) (s t : Shape) → is_listed s ≡ false → PartsAreThere done t → same_shape s t ≡ false
differs done s t plain h = go (same_shape s t) refl
  where
    go : (b : Bool) → same_shape s t ≡ b → same_shape s t ≡ false
    go true e = let same = same_are s t e in let is = h.0 in absurd (cc)
    go false e = e

unlisted : (done left : List Shape) (s : Shape) → is_listed s ≡ false → AreBehind done left → place_of s left ≡ None
unlisted done [] s plain h = refl
unlisted done (t ∷ left) s plain h = rw (differs done s t plain h.0, unlisted (done ++ t ∷ []) left s plain h.2) refl

front_behind : (done listed more : List Shape) → AreBehind done (listed ++ more) → AreBehind done listed
front_behind done [] more h = tt
front_behind done (t ∷ listed) more h = (h.0, h.1, front_behind (done ++ t ∷ []) listed more h.2)

-- what is written with the shapes so far stays so with more
module _ (listed more : List Shape) (behind : AreBehind [] (listed ++ more)) where
  refer_more : (s : Shape) → IsThere listed s → referring (listed ++ more) s ≡ referring listed s
  refer_more s h = ap (λ o. unwrap_or (option_map reference o) (written_shape s)) (go (is_listed s) refl)
    where
      go : (b : Bool) → is_listed s ≡ b → place_of s (listed ++ more) ≡ place_of s listed
      go true is = placed_more s listed more (h is).0 (h is).1 ∙ sym (h is).1
      go false is = unlisted [] (listed ++ more) s is behind ∙ sym (unlisted [] listed s is (front_behind [] listed more behind))

  places_refer_more : (first : Shapes) → PlacesAreThere listed first → places_referring (listed ++ more) first ≡ places_referring listed first
  places_refer_more NoShapes h = refl
  places_refer_more (AndShape s first) h = ap₂ AndTree (refer_more s h.0) (places_refer_more first h.1)

  fields_refer_more : (fields : FieldShapes) → FieldsAreThere listed fields → fields_referring (listed ++ more) fields ≡ fields_referring listed fields
  fields_refer_more NoFieldShapes h = refl
  fields_refer_more (AndFieldShape n needed s fields) h = ap₂ (AndField n) (refer_more s h.0) (fields_refer_more fields h.1)

  arrays_more_same : (arrays : Arrays) (fs : Fields) → ArraysAreThere listed arrays → with_arrays_over (listed ++ more) arrays fs ≡ with_arrays_over listed arrays fs
  arrays_more_same WithoutArrays fs h = refl
  arrays_more_same (ArraysOf first rest) fs h = rw (refer_more rest h.1, places_refer_more first h.0) refl

  objects_more_same : (objects : Objects) (fs : Fields) → ObjectsAreThere listed objects → with_objects_over (listed ++ more) objects fs ≡ with_objects_over listed objects fs
  objects_more_same WithoutObjects fs h = refl
  objects_more_same (ObjectsOf fields extra) fs h = rw (fields_refer_more fields h) refl

  pub over_more : (s : Shape) → PartsAreThere listed s → written_over (listed ++ more) s ≡ written_over listed s
  over_more Any h = refl
  over_more (OfKinds simple arrays objects) h =
      let types = type_field (type_names simple arrays objects) in
      rw (objects_more_same objects types h.1.1, arrays_more_same arrays (with_objects_over listed objects types) h.1.0) refl
