-- Where a tree of one shape of a table lacks another: kind by kind, place by place, field by field.
use Rattle.std.proofs.Common.{◌≡◌, ◌<◌, ◌≤◌, ℕ, suc, List, [], ◌∷◌, ◌++◌, length, take, drop, Bool, true, false, ◌&&◌, not, Option, Some, None, option_map, is_some, is_none, Result, Ok, Err, refl, sym, ap, ◌∙◌, subst, arith}
use Rattle.std.proofs.lemmas.List.{drop_all, nil_from_length, take_all}
use Rattle.std.specs.Bool.{then_some}
use Rattle.std.specs.BTreeMap.{is_at}
use Rattle.std.specs.Map.{lookup}
use Rattle.std.specs.Option.{option_or}
use Rattle.std.specs.Prelude.{IfOk, IfSome, option_and_then}
use Rattle.asl_model.proofs.ShapeOutside.{outside-none}
use Rattle.asl_model.specs.Examples.{example, examples, first_tree, outside, arrays_outside, objects_outside, elements_outside, fields_outside, is_longer, mentioned_shape, unmentioned_shape, unshared_outside, only_if, with_first}
use Rattle.asl_model.specs.Placing.{set_field}
use Rattle.asl_model.specs.Shape.{all_simple, Shape, Any, OfKinds, Arrays, WithoutArrays, ArraysOf, Objects, WithoutObjects, ObjectsOf, NoShapes, FieldShapes, NoFieldShapes, AndFieldShape, all_inhabited, needed_inhabited, inhabited, mentions}
use Rattle.asl_model.specs.ShapeOrder.{sub, kept_arrays, kept_objects, takes_all}
use Rattle.asl_model.specs.Tree.{Tree, Null, Array, Object, Trees, NoTrees, AndTree, Fields, trees_of}
use Rattle.asl_tree.specs.declared.OutOfMemory.{OutOfMemory}
use Rattle.asl_numbered.specs.declared.finding.Found.{Found}
use Rattle.asl_numbered.specs.declared.finding.Mentions.{Mentions}
use Rattle.asl_numbered.specs.declared.finding.Places.{Places}
use Rattle.asl_numbered.specs.declared.finding.Sought.{Sought}
use Rattle.asl_numbered.specs.declared.finding.Step.{Step}
use Rattle.asl_numbered.specs.declared.finding.Step.TheVariants as steps
use Rattle.asl_numbered.specs.declared.kinds.NodeArrays.{NodeArrays}
use Rattle.asl_numbered.specs.declared.kinds.NodeKinds.{NodeKinds}
use Rattle.asl_numbered.specs.declared.kinds.NodeObjects.{NodeObjects}
use Rattle.asl_numbered.specs.declared.node.NodeField.{NodeField}
use Rattle.asl_numbered.specs.Examples.{examples_at}
use Rattle.asl_numbered.specs.Expansion.{shape_at, shapes_at, fields_at, AreBelow}
use Rattle.asl_numbered.specs.Joins.{kept}
use Rattle.asl_numbered.specs.Outside.{sought_tree, first_shape, places_over, mentions_over, levels_over, AreLivePlaces, IsSought, needed_of, step_over, numbers_of, IsFound, found_elements, mentioned_fields, unmentioned_fields, forbidden_fields, found_fields}
use Rattle.asl_numbered.specs.TakenApart.{arrays_over, objects_over, kinds_over}
use Rattle.asl_numbered.proofs.Built.{examples_listed}
use Rattle.asl_numbered.proofs.Parts.{IsNextPart, next_part, no_part}
use Rattle.asl_numbered.proofs.Comparisons.{any_sub, mention_of_number, mentions_number}
use Rattle.asl_numbered.specs.Names.{Name, name_cmp}
use Rattle.std.specs.Rc.{rc_str_bytes}

-- ---- what the comparison tells

not_none : {A : Type 0} (o : Option A) → is_none o ≡ false → is_some o ≡ true
not_none None e = absurd (cc)
not_none (Some x) e = refl

all_none : {A : Type 0} (o : Option A) → is_none o ≡ true → o ≡ None
all_none None e = refl
all_none (Some x) e = absurd (cc)

-- a tree is found where the first isn't inside the second
pub apart_found : (a b : Shape) (answer : Bool) → answer ≡ sub a b → answer ≡ false → is_some (outside a b) ≡ true
apart_found a b answer is fails = not_none (outside a b) (outside-none a b ∙ sym is ∙ fails)

-- and none where it is
pub inside_none : (a b : Shape) (answer : Bool) → answer ≡ sub a b → answer ≡ true → outside a b ≡ None
inside_none a b answer is holds = all_none (outside a b) (outside-none a b ∙ sym is ∙ holds)

-- ---- options

or_found : {A : Type 0} (a b : Option A) → is_some a ≡ true → option_or a b ≡ a
or_found None b e = absurd (cc)
or_found (Some x) b e = refl

map_or : {A B : Type 0} (f : A → B) (a b : Option A) → option_map f (option_or a b) ≡ option_or (option_map f a) (option_map f b)
map_or f None b = refl
map_or f (Some x) b = refl

map_some : {A B : Type 0} (f : A → B) (a : Option A) → is_some (option_map f a) ≡ is_some a
map_some f None = refl
map_some f (Some x) = refl

map_map : {A B C : Type 0} (g : B → C) (f : A → B) (a : Option A) → option_map g (option_map f a) ≡ option_map (λ x. g (f x)) a
map_map g f None = refl
map_map g f (Some x) = refl

-- ---- what is found

pub nothing_found : (table : List Shape) (bound : ℕ) (tree : Option Tree) → tree ≡ None → IsFound table bound tree None
nothing_found table bound tree e = record { same = e; there = tt; step = tt; next = tt }

-- a step without a tree inside
pub whole_found : (table : List Shape) (bound : ℕ) (tree : Option Tree) (step : Step) → tree ≡ Some (step_over table step Null) → AreBelow (length table) (numbers_of step) → IsFound table bound tree (Some (record { step = step; next = None }))
whole_found table bound tree step e below = record { same = e; there = refl; step = below; next = tt }

-- one with a tree inside, where the comparison tells that there is one
pub part_found : (table : List Shape) (bound : ℕ) (tree : Option Tree) (step : Step) (sought : Sought) (answer : Bool) → answer ≡ sub (first_shape table sought.first) (shape_at table sought.second) → answer ≡ false
    → (is_some (outside (first_shape table sought.first) (shape_at table sought.second)) ≡ true → tree ≡ option_map (step_over table step) (outside (first_shape table sought.first) (shape_at table sought.second)))
    → AreBelow (length table) (numbers_of step) → IsSought table bound sought → IsFound table bound tree (Some (record { step = step; next = Some sought }))
part_found table bound tree step sought answer is fails same below next =
    let there = apart_found (first_shape table sought.first) (shape_at table sought.second) answer is fails in
    record { same = same there; there = there; step = below; next = next }

found_none : (table : List Shape) (bound : ℕ) (tree : Option Tree) (found : Option Found) → IsFound table bound tree found → is_some found ≡ false → tree ≡ None
found_none table bound tree None is none = is.same
found_none table bound tree (Some f) is none = absurd (cc)

same_found : (table : List Shape) (bound : ℕ) (tree other : Option Tree) (found : Option Found) → other ≡ tree → IsFound table bound tree found → IsFound table bound other found
same_found table bound tree other found e is = subst (λ t. IsFound table bound t found) (sym e) is

-- the second of two, where there is no first
pub later_is_found : (table : List Shape) (bound : ℕ) (tree later : Option Tree) (none found : Option Found) → IsFound table bound tree none → is_some none ≡ false → IsFound table bound later found → IsFound table bound (option_or tree later) found
later_is_found table bound tree later none found is fails further =
    same_found table bound later (option_or tree later) found (ap (λ t. option_or t later) (found_none table bound tree none is fails)) further

-- the first of two, where there is one
pub first_is_found : (table : List Shape) (bound : ℕ) (tree later : Option Tree) (found : Option Found) → IsFound table bound tree found → is_some found ≡ true → IsFound table bound (option_or tree later) found
first_is_found table bound tree later None is some = absurd (cc)
first_is_found table bound tree later (Some f) is some =
    let there = ap is_some is.same ∙ map_some (step_over table f.step) (sought_tree table f.next) ∙ is.there in
    same_found table bound tree (option_or tree later) (Some f) (or_found tree later there) is

-- ---- the kinds of a first shape

-- Any is looked at as all six kinds
pub any_levels : (first : Shape) (arrays : Arrays) (objects : Objects) (b : Shape) → Any ≡ kept first → arrays ≡ ArraysOf NoShapes Any → objects ≡ ObjectsOf NoFieldShapes true → outside first b ≡ outside (OfKinds all_simple arrays objects) b
any_levels Any arrays objects Any is no_places no_fields = refl
any_levels Any arrays objects (OfKinds simple others more) is no_places no_fields = rw (no_places, no_fields) refl
any_levels (OfKinds simple others more) arrays objects b is no_places no_fields = absurd (cc)

kept-arrays : (arrays other : Arrays) → arrays_outside (kept_arrays arrays) other ≡ arrays_outside arrays other
kept-arrays WithoutArrays other = refl
kept-arrays (ArraysOf first rest) other = go (all_inhabited first) refl
  where
    go : (live : Bool) → all_inhabited first ≡ live → arrays_outside (kept_arrays (ArraysOf first rest)) other ≡ arrays_outside (ArraysOf first rest) other
    go true at = rw at refl
    go false at = gone other
      where
        gone : (other' : Arrays) → arrays_outside (kept_arrays (ArraysOf first rest)) other' ≡ arrays_outside (ArraysOf first rest) other'
        gone WithoutArrays = rw at refl
        gone (ArraysOf others further) = rw at refl

kept-objects : (objects other : Objects) → objects_outside (kept_objects objects) other ≡ objects_outside objects other
kept-objects WithoutObjects other = refl
kept-objects (ObjectsOf shapes extra) other = go (needed_inhabited shapes) refl
  where
    go : (live : Bool) → needed_inhabited shapes ≡ live → objects_outside (kept_objects (ObjectsOf shapes extra)) other ≡ objects_outside (ObjectsOf shapes extra) other
    go true at = rw at refl
    go false at = gone other
      where
        gone : (other' : Objects) → objects_outside (kept_objects (ObjectsOf shapes extra)) other' ≡ objects_outside (ObjectsOf shapes extra) other'
        gone WithoutObjects = rw at refl
        gone (ObjectsOf others more) = rw at refl

-- what isn't kept has no tree
pub kept-outside : (a b : Shape) → outside (kept a) b ≡ outside a b
kept-outside Any b = refl
kept-outside (OfKinds some arrays objects) Any = refl
kept-outside (OfKinds some arrays objects) (OfKinds simple others more) = rw (kept-arrays arrays others, kept-objects objects more) refl

pub kept_levels : (table : List Shape) (first : Shape) (kinds : NodeKinds) (places : Option Places) (mentions : Option Mentions) (b : Shape) → kinds_over table kinds ≡ kept first → places_over table places ≡ arrays_over table kinds.arrays → mentions_over table mentions ≡ objects_over table kinds.objects
    → outside first b ≡ outside (levels_over table (record { null = kinds.null; boolean = kinds.boolean; integer = kinds.integer; text = kinds.text; places = places; mentions = mentions })) b
kept_levels table first kinds places mentions b is arrays objects =
    sym (kept-outside first b) ∙ ap (λ s. outside s b) (sym is) ∙ rw (arrays, objects) refl

pub same_places : (table : List Shape) (arrays : Option NodeArrays) (places : Option Places) → places ≡ option_map (λ lists. record { places = lists.first; further = Some lists.rest }) arrays → places_over table places ≡ arrays_over table arrays
same_places table None places e = rw e refl
same_places table (Some lists) places e = rw e refl

pub same_mentions : (table : List Shape) (objects : Option NodeObjects) (mentions : Option Mentions) → mentions ≡ option_map (λ own. record { fields = own.fields; more = own.extra }) objects → mentions_over table mentions ≡ objects_over table objects
same_mentions table None mentions e = rw e refl
same_mentions table (Some own) mentions e = rw e refl

-- ---- arrays

longer : (table : List Shape) (bounds places : List ℕ) → length bounds ≤ length places → is_longer (shapes_at table bounds) (shapes_at table places) ≡ false
longer table [] places h = refl
longer table (b ∷ bounds) [] h = absurd (omega (arith, h))
longer table (b ∷ bounds) (p ∷ places) h = longer table bounds places (omega (arith, h))

shorter : (table : List Shape) (bounds places : List ℕ) → length places < length bounds → is_longer (shapes_at table bounds) (shapes_at table places) ≡ true
shorter table [] places h = absurd (omega (arith, h))
shorter table (b ∷ bounds) [] h = refl
shorter table (b ∷ bounds) (p ∷ places) h = shorter table bounds places (omega (arith, h))

-- of the second there are none, or only longer ones
pub no_arrays : (table : List Shape) (bound : ℕ) (inner : Option Places) (outer : Option NodeArrays) (p : Places) (step : Step) → inner ≡ Some p → outer ≡ None → IfSome inner (AreLivePlaces table) → step ≡ steps.Examples p.places → IsFound table bound (option_map Array (arrays_outside (places_over table inner) (arrays_over table outer))) (Some (record { step = step; next = None }))
no_arrays table bound inner outer p step e f live is =
    let are : AreLivePlaces table p = subst (λ x. IfSome x (AreLivePlaces table)) e live in
    rw (e, f, is) (whole_found table bound _ (steps.Examples p.places) (rw (are.live, examples_listed table p.places.now) refl) are.places)

pub longer_arrays : (table : List Shape) (bound : ℕ) (inner : Option Places) (outer : Option NodeArrays) (p : Places) (a : NodeArrays) (step : Step) → inner ≡ Some p → outer ≡ Some a → IfSome inner (AreLivePlaces table) → length p.places.now < length a.first.now → step ≡ steps.Examples p.places → IsFound table bound (option_map Array (arrays_outside (places_over table inner) (arrays_over table outer))) (Some (record { step = step; next = None }))
longer_arrays table bound inner outer p a step e f live h is =
    let are : AreLivePlaces table p = subst (λ x. IfSome x (AreLivePlaces table)) e live in
    rw (e, f, is) (whole_found table bound _ (steps.Examples p.places) (rw (are.live, shorter table a.first.now p.places.now h, examples_listed table p.places.now) refl) are.places)

pub met_arrays : (table : List Shape) (bound : ℕ) (p : Places) (a : NodeArrays) (found : Option Found) → AreLivePlaces table p → length a.first.now ≤ length p.places.now → IsFound table bound (option_map Array (found_elements table p a)) found → IsFound table bound (option_map Array (arrays_outside (places_over table (Some p)) (arrays_over table (Some a)))) found
met_arrays table bound p a found are h is =
    same_found table bound (option_map Array (found_elements table p a)) _ found (rw (are.live, longer table a.first.now p.places.now h) refl) is

-- the same where memory may run out
pub looked_arrays : (table : List Shape) (bound : ℕ) (inner : Option Places) (outer : Option NodeArrays) (p : Places) (a : NodeArrays) (r : Result (Option Found) OutOfMemory) → inner ≡ Some p → outer ≡ Some a → IfSome inner (AreLivePlaces table) → length a.first.now ≤ length p.places.now → IfOk r (IsFound table bound (option_map Array (found_elements table p a))) → IfOk r (IsFound table bound (option_map Array (arrays_outside (places_over table inner) (arrays_over table outer))))
looked_arrays table bound inner outer p a (Ok found) e f are h is = rw (e, f) (met_arrays table bound p a found (subst (λ x. IfSome x (AreLivePlaces table)) e are) h is)
looked_arrays table bound inner outer p a (Err fault) e f are h is = tt

-- the trees, with those before them
abbrev pub lead : List Tree → Trees → Trees
lead [] us = us
lead (t ∷ ts) us = AndTree t (lead ts us)

lead-one : (ts : List Tree) (t : Tree) (us : Trees) → lead (ts ++ t ∷ []) us ≡ lead ts (AndTree t us)
lead-one [] t us = refl
lead-one (first ∷ ts) t us = ap (AndTree first) (lead-one ts t us)

lead-listed : (ts us : List Tree) → lead ts (trees_of us) ≡ trees_of (ts ++ us)
lead-listed [] us = refl
lead-listed (t ∷ ts) us = ap (AndTree t) (lead-listed ts us)

-- what is found at a place or behind it
elements-step : (table : List Shape) (p : ℕ) (places : List ℕ) (further : Shape) (bounds next : List ℕ) (rest n : ℕ) → IsNextPart bounds next rest n → elements_outside (shapes_at table (p ∷ places)) further (shapes_at table bounds) (λ s. outside s (shape_at table rest))
    ≡ with_first (outside (shape_at table p) (shape_at table n)) (example (shape_at table p)) (examples (shapes_at table places)) (elements_outside (shapes_at table places) further (shapes_at table next) (λ s. outside s (shape_at table rest)))
elements-step table p places further bounds next rest n next_part = refl
elements-step table p places further bounds next rest n no_part = further-step places
  where
    further-step : (others : List ℕ) → elements_outside (shapes_at table (p ∷ others)) further NoShapes (λ s. outside s (shape_at table rest)) ≡ with_first (outside (shape_at table p) (shape_at table rest)) (example (shape_at table p)) (examples (shapes_at table others)) (elements_outside (shapes_at table others) further NoShapes (λ s. outside s (shape_at table rest)))
    further-step [] = refl
    further-step (q ∷ others) = refl

pub bounds-fall : (bounds next : List ℕ) (rest n k : ℕ) → IsNextPart bounds next rest n → length bounds ≤ suc k → length next ≤ k
bounds-fall bounds next rest n k next_part h = omega (arith, h)
bounds-fall bounds next rest n k no_part h = omega arith

pub places_begun : (table : List Shape) (p : Places) (a : NodeArrays) (bounds : List ℕ) → bounds ≡ a.first.now → found_elements table p a ≡ option_map (lead []) (elements_outside (shapes_at table p.places.now) (first_shape table p.further) (shapes_at table bounds) (λ s. outside s (shape_at table a.rest)))
places_begun table p a bounds e = rw e (go (found_elements table p a))
  where
    go : (o : Option Trees) → o ≡ option_map (lead []) o
    go None = refl
    go (Some ts) = refl

-- the place isn't passed
pub place_found : (table : List Shape) (bound : ℕ) (before now places : List ℕ) (p : ℕ) (further : Shape) (bounds next : List ℕ) (rest : ℕ) (whole : Option Trees) (step : Step) (sought : Sought) (answer : Bool) → IsNextPart bounds next rest sought.second
    → whole ≡ option_map (lead (examples_at table before)) (elements_outside (shapes_at table now) further (shapes_at table bounds) (λ s. outside s (shape_at table rest))) → now ≡ p ∷ places
    → ((t : Tree) → step_over table step t ≡ Array (trees_of (examples_at table before ++ t ∷ examples_at table places)))
    → sought.first ≡ Some p → answer ≡ sub (first_shape table sought.first) (shape_at table sought.second) → answer ≡ false → AreBelow (length table) (numbers_of step) → IsSought table bound sought
    → IsFound table bound (option_map Array whole) (Some (record { step = step; next = Some sought }))
place_found table bound before now places p further bounds next rest whole step sought answer is_next so_far split over first is fails below falls =
    part_found table bound (option_map Array whole) step sought answer is fails (λ there. ap (option_map Array) (so_far ∙ ap (λ ns. option_map (lead (examples_at table before)) (elements_outside (shapes_at table ns) further (shapes_at table bounds) (λ s. outside s (shape_at table rest)))) split ∙ ap (option_map (lead (examples_at table before))) (elements-step table p places further bounds next rest sought.second is_next)) ∙ go (outside (shape_at table p) (shape_at table sought.second)) (subst (λ o. is_some (outside (first_shape table o) (shape_at table sought.second)) ≡ true) first there) ∙ ap (λ o. option_map (step_over table step) (outside (first_shape table o) (shape_at table sought.second))) (sym first)) below falls
  where
    later : Option Trees
    later = elements_outside (shapes_at table places) further (shapes_at table next) (λ s. outside s (shape_at table rest))

    go : (o : Option Tree) → is_some o ≡ true → option_map Array (option_map (lead (examples_at table before)) (with_first o (example (shape_at table p)) (examples (shapes_at table places)) later)) ≡ option_map (step_over table step) o
    go None there = absurd (cc)
    go (Some t) there =
        let listed : lead (examples_at table before) (AndTree t (examples (shapes_at table places))) ≡ trees_of (examples_at table before ++ t ∷ examples_at table places) = ap (λ ts. lead (examples_at table before) (AndTree t ts)) (sym (examples_listed table places)) ∙ lead-listed (examples_at table before) (t ∷ examples_at table places) in
        ap Some (ap Array listed ∙ sym (over t))

-- it is passed
pub place_passed : (table : List Shape) (before more now places : List ℕ) (p : ℕ) (further : Shape) (bounds next : List ℕ) (rest n : ℕ) (whole : Option Trees) (answer : Bool) → IsNextPart bounds next rest n
    → whole ≡ option_map (lead (examples_at table before)) (elements_outside (shapes_at table now) further (shapes_at table bounds) (λ s. outside s (shape_at table rest))) → now ≡ p ∷ places
    → answer ≡ sub (shape_at table p) (shape_at table n) → answer ≡ true → more ≡ before ++ p ∷ []
    → whole ≡ option_map (lead (examples_at table more)) (elements_outside (shapes_at table places) further (shapes_at table next) (λ s. outside s (shape_at table rest)))
place_passed table before more now places p further bounds next rest n whole answer is_next so_far split is holds grown =
    let none : outside (shape_at table p) (shape_at table n) ≡ None = inside_none (shape_at table p) (shape_at table n) answer is holds in
    so_far ∙ ap (λ ns. option_map (lead (examples_at table before)) (elements_outside (shapes_at table ns) further (shapes_at table bounds) (λ s. outside s (shape_at table rest)))) split
    ∙ ap (option_map (lead (examples_at table before))) (elements-step table p places further bounds next rest n is_next ∙ ap (λ o. with_first o (example (shape_at table p)) (examples (shapes_at table places)) later) none)
    ∙ map_map (lead (examples_at table before)) (AndTree (example (shape_at table p))) later
    ∙ same-map later (λ us. sym (ap (λ ns. lead (examples_at table ns) us) grown ∙ ap (λ ts. lead ts us) (one-more before) ∙ lead-one (examples_at table before) (example (shape_at table p)) us))
  where
    later : Option Trees
    later = elements_outside (shapes_at table places) further (shapes_at table next) (λ s. outside s (shape_at table rest))

    one-more : (ns : List ℕ) → examples_at table (ns ++ p ∷ []) ≡ examples_at table ns ++ example (shape_at table p) ∷ []
    one-more [] = refl
    one-more (m ∷ ns) = ap (λ ts. example (shape_at table m) ∷ ts) (one-more ns)

    same-map : {f g : Trees → Trees} (o : Option Trees) → ((us : Trees) → f us ≡ g us) → option_map f o ≡ option_map g o
    same-map None same = refl
    same-map (Some us) same = ap Some (same us)

-- behind the places stand the further elements
further-left : (table : List Shape) (before : List ℕ) (further : Shape) (rest : ℕ) (whole : Option Trees) → whole ≡ option_map (lead (examples_at table before)) (elements_outside NoShapes further NoShapes (λ s. outside s (shape_at table rest))) → option_map Array whole ≡ option_map (λ t. Array (trees_of (examples_at table before ++ t ∷ []))) (outside further (shape_at table rest))
further-left table before further rest whole so_far = ap (option_map Array) so_far ∙ go (outside further (shape_at table rest))
  where
    go : (o : Option Tree) → option_map Array (option_map (lead (examples_at table before)) (option_map (λ t. AndTree t NoTrees) o)) ≡ option_map (λ t. Array (trees_of (examples_at table before ++ t ∷ []))) o
    go None = refl
    go (Some t) = ap (λ ts. Some (Array ts)) (lead-listed (examples_at table before) (t ∷ []))

pub further_end : (table : List Shape) (places : List ℕ) (i : ℕ) (further : Shape) (bounds : List ℕ) (rest : ℕ) (whole : Option Trees) → length places ≤ i → length bounds ≤ length (drop i places) → whole ≡ option_map (lead (examples_at table (take i places))) (elements_outside (shapes_at table (drop i places)) further (shapes_at table bounds) (λ s. outside s (shape_at table rest)))
    → option_map Array whole ≡ option_map (λ t. Array (trees_of (examples_at table places ++ t ∷ []))) (outside further (shape_at table rest))
further_end table places i further bounds rest whole past few so_far =
    let none : drop i places ≡ [] = drop_all i places past in
    let fewer : length bounds ≤ length {A = ℕ} [] = subst (λ ns. length bounds ≤ length ns) none few in
    let also : bounds ≡ [] = nil_from_length bounds (omega (arith, fewer)) in
    further-left table places further rest whole (so_far ∙ rw (none, also, take_all i places past) refl)

-- ---- objects

-- the fields that are found, as objects, one after another
pub fields_apart : (table : List Shape) (m : Mentions) (o : NodeObjects) → option_map Object (found_fields table m o)
    ≡ option_or (option_map Object (mentioned_fields table m.fields.now.entries o.fields.now.entries)) (option_or (option_map Object (unmentioned_fields table m o.fields.now.entries)) (option_map Object (only_if (not o.extra) (forbidden_fields table m o.fields.now.entries))))
fields_apart table m o =
    let common = mentioned_fields table m.fields.now.entries o.fields.now.entries in
    let new = unmentioned_fields table m o.fields.now.entries in
    let shut = only_if (not o.extra) (forbidden_fields table m o.fields.now.entries) in
    map_or Object common (option_or new shut) ∙ ap (option_or (option_map Object common)) (map_or Object new shut)

pub mentioned_first : (table : List Shape) (bound : ℕ) (m : Mentions) (o : NodeObjects) (found : Option Found) → IsFound table bound (option_map Object (mentioned_fields table m.fields.now.entries o.fields.now.entries)) found → is_some found ≡ true → IsFound table bound (option_map Object (found_fields table m o)) found
mentioned_first table bound m o found is some = same_found table bound _ _ found (fields_apart table m o) (first_is_found table bound _ _ found is some)

pub forbidden_last : (table : List Shape) (bound : ℕ) (m : Mentions) (o : NodeObjects) (none next found : Option Found) → IsFound table bound (option_map Object (mentioned_fields table m.fields.now.entries o.fields.now.entries)) none → is_some none ≡ false → IsFound table bound (option_map Object (unmentioned_fields table m o.fields.now.entries)) next → is_some next ≡ false → o.extra ≡ false → IsFound table bound (option_map Object (forbidden_fields table m o.fields.now.entries)) found → IsFound table bound (option_map Object (found_fields table m o)) found
forbidden_last table bound m o none next found first fails second also shut is =
    let all : option_map Object (only_if (not o.extra) (forbidden_fields table m o.fields.now.entries)) ≡ option_map Object (forbidden_fields table m o.fields.now.entries) = rw shut refl in
    same_found table bound _ _ found (fields_apart table m o) (later_is_found table bound _ _ none found first fails (later_is_found table bound _ _ next found second also (same_found table bound _ _ found all is)))

-- ---- fields that the second mentions

-- the first one's tree, or what is found behind it
fields-here : (other : List ℕ → Option Shape) (n : List ℕ) (needed : Bool) (a s : Shape) (shapes : FieldShapes) (fs : Fields) → other n ≡ Some a → is_some (outside a s) ≡ true → fields_outside other (AndFieldShape n needed s shapes) fs ≡ option_map (λ t. set_field n t fs) (outside a s)
fields-here other n needed a s shapes fs at there = rw at (or_found _ _ (map_some (λ t. set_field n t fs) (outside a s) ∙ there))

fields-not : (other : List ℕ → Option Shape) (n : List ℕ) (needed : Bool) (s : Shape) (shapes : FieldShapes) (fs : Fields) → option_and_then (λ a. outside a s) (other n) ≡ None → fields_outside other (AndFieldShape n needed s shapes) fs ≡ fields_outside other shapes fs
fields-not other n needed s shapes fs none = rw none refl

-- a field's tree is set
pub field_found : (table : List Shape) (bound : ℕ) (other : List ℕ → Option Shape) (inner left : List (Name × NodeField)) (f : Name × NodeField) (now : List (Name × NodeField)) (whole : Option Fields) (step : Step) (sought : Sought) (answer : Bool)
    → whole ≡ fields_outside other (fields_at table now) (needed_of table inner) → now ≡ f ∷ left → other (rc_str_bytes f.0) ≡ Some (first_shape table sought.first) → sought.second ≡ f.1.shape
    → ((t : Tree) → step_over table step t ≡ Object (set_field (rc_str_bytes f.0) t (needed_of table inner)))
    → answer ≡ sub (first_shape table sought.first) (shape_at table sought.second) → answer ≡ false → AreBelow (length table) (numbers_of step) → IsSought table bound sought
    → IsFound table bound (option_map Object whole) (Some (record { step = step; next = Some sought }))
field_found table bound other inner left f now whole step sought answer so_far split at second over is fails below next =
    part_found table bound (option_map Object whole) step sought answer is fails (λ there. ap (option_map Object) (so_far ∙ ap (λ fs. fields_outside other (fields_at table fs) (needed_of table inner)) split ∙ fields-here other (rc_str_bytes f.0) f.1.needed (first_shape table sought.first) (shape_at table f.1.shape) (fields_at table left) (needed_of table inner) at (subst (λ n. is_some (outside (first_shape table sought.first) (shape_at table n)) ≡ true) second there)) ∙ ap (λ n. option_map Object (option_map (λ t. set_field (rc_str_bytes f.0) t (needed_of table inner)) (outside (first_shape table sought.first) (shape_at table n)))) (sym second) ∙ go (outside (first_shape table sought.first) (shape_at table sought.second))) below next
  where
    go : (o : Option Tree) → option_map Object (option_map (λ t. set_field (rc_str_bytes f.0) t (needed_of table inner)) o) ≡ option_map (step_over table step) o
    go None = refl
    go (Some t) = ap Some (sym (over t))

-- it is passed, since no tree is found
pub field_passed : (table : List Shape) (other : List ℕ → Option Shape) (fs : Fields) (left : List (Name × NodeField)) (f : Name × NodeField) (now : List (Name × NodeField)) (whole : Option Fields) → whole ≡ fields_outside other (fields_at table now) fs → now ≡ f ∷ left → option_and_then (λ a. outside a (shape_at table f.1.shape)) (other (rc_str_bytes f.0)) ≡ None → whole ≡ fields_outside other (fields_at table left) fs
field_passed table other fs left f now whole so_far split none =
    so_far ∙ ap (λ es. fields_outside other (fields_at table es) fs) split ∙ fields-not other (rc_str_bytes f.0) f.1.needed (shape_at table f.1.shape) (fields_at table left) fs none

-- the shape of a mentioned field
pub mentioned_number : (table : List Shape) (k : Name) (inner : List (Name × NodeField)) (other : NodeField) → lookup (is_at (name_cmp k)) inner ≡ Some other → mentioned_shape (fields_at table inner) (rc_str_bytes k) ≡ Some (shape_at table other.shape)
mentioned_number table k inner other at = rw (mention_of_number table k inner, at) refl

-- and of one that isn't
pub mentioned_none : (table : List Shape) (k : Name) (inner : List (Name × NodeField)) (s : Shape) → lookup (is_at (name_cmp k)) inner ≡ None → option_and_then (λ a. outside a s) (mentioned_shape (fields_at table inner) (rc_str_bytes k)) ≡ None
mentioned_none table k inner s at = rw (mention_of_number table k inner, at) refl

-- one that is seen to be inside
pub mentioned_inside : (table : List Shape) (k : Name) (inner : List (Name × NodeField)) (other : NodeField) (s : Shape) (answer : Bool) → lookup (is_at (name_cmp k)) inner ≡ Some other → answer ≡ sub (shape_at table other.shape) s → answer ≡ true → option_and_then (λ a. outside a s) (mentioned_shape (fields_at table inner) (rc_str_bytes k)) ≡ None
mentioned_inside table k inner other s answer at is holds = rw (mention_of_number table k inner, at) (inside_none (shape_at table other.shape) s answer is holds)

-- Any, for a field that the second alone mentions
pub unmentioned_any : (table : List Shape) (k : Name) (inner : List (Name × NodeField)) (more there : Bool) → more ≡ true → there ≡ is_some (lookup (is_at (name_cmp k)) inner) → there ≡ false → unmentioned_shape (fields_at table inner) more (rc_str_bytes k) ≡ Some Any
unmentioned_any table k inner more there free is fails = rw (free, mentions_number table k inner, sym is ∙ fails) refl

-- nothing, for one that can't be there, or that the first mentions, or that takes every tree
pub unmentioned_shut : (table : List Shape) (k : Name) (inner : List (Name × NodeField)) (more : Bool) (s : Shape) → more ≡ false → option_and_then (λ a. outside a s) (unmentioned_shape (fields_at table inner) more (rc_str_bytes k)) ≡ None
unmentioned_shut table k inner more s shut = rw shut refl

pub unmentioned_not : (table : List Shape) (k : Name) (inner : List (Name × NodeField)) (more there : Bool) (s : Shape) → there ≡ is_some (lookup (is_at (name_cmp k)) inner) → there ≡ true → option_and_then (λ a. outside a s) (unmentioned_shape (fields_at table inner) more (rc_str_bytes k)) ≡ None
unmentioned_not table k inner more there s is holds = rw (mentions_number table k inner, sym is ∙ holds) (go more)
  where
    go : (b : Bool) → option_and_then (λ a. outside a s) (then_some (b && false) Any) ≡ None
    go true = refl
    go false = refl

pub unmentioned_full : (table : List Shape) (k : Name) (inner : List (Name × NodeField)) (more all : Bool) (s : Shape) → all ≡ takes_all s → all ≡ true → option_and_then (λ a. outside a s) (unmentioned_shape (fields_at table inner) more (rc_str_bytes k)) ≡ None
unmentioned_full table k inner more all s is holds = go (more && not (mentions (rc_str_bytes k) (fields_at table inner)))
  where
    go : (b : Bool) → option_and_then (λ a. outside a s) (then_some b Any) ≡ None
    go true = inside_none Any s all (is ∙ sym (any_sub s)) holds
    go false = refl

-- ---- fields that the first alone mentions

pub alone_found : (table : List Shape) (bound : ℕ) (m : Mentions) (outer left : List (Name × NodeField)) (f : Name × NodeField) (now : List (Name × NodeField)) (step : Step) (there live : Bool)
    → unshared_outside (fields_at table m.fields.now.entries) (fields_at table outer) (needed_of table m.fields.now.entries) ≡ unshared_outside (fields_at table now) (fields_at table outer) (needed_of table m.fields.now.entries) → now ≡ f ∷ left
    → there ≡ is_some (lookup (is_at (name_cmp f.0)) outer) → there ≡ false → live ≡ inhabited (shape_at table f.1.shape) → live ≡ true
    → step_over table step Null ≡ Object (set_field (rc_str_bytes f.0) (first_tree (shape_at table f.1.shape)) (needed_of table m.fields.now.entries)) → AreBelow (length table) (numbers_of step)
    → IsFound table bound (option_map Object (forbidden_fields table m outer)) (Some (record { step = step; next = None }))
alone_found table bound m outer left f now step there live so_far split is fails also some over below =
    whole_found table bound (option_map Object (forbidden_fields table m outer)) step (rw (so_far, split, mentions_number table f.0 outer, sym is ∙ fails, sym also ∙ some) (ap Some (sym over))) below

pub alone_passed : (table : List Shape) (fs : Fields) (first : FieldShapes) (outer left : List (Name × NodeField)) (f : Name × NodeField) (now : List (Name × NodeField)) → unshared_outside first (fields_at table outer) fs ≡ unshared_outside (fields_at table now) (fields_at table outer) fs → now ≡ f ∷ left
    → (not (mentions (rc_str_bytes f.0) (fields_at table outer)) && inhabited (shape_at table f.1.shape)) ≡ false → unshared_outside first (fields_at table outer) fs ≡ unshared_outside (fields_at table left) (fields_at table outer) fs
alone_passed table fs first outer left f now so_far split fails = so_far ∙ rw (split, fails) refl

pub alone_shared : (table : List Shape) (outer : List (Name × NodeField)) (f : Name × NodeField) (there : Bool) → there ≡ is_some (lookup (is_at (name_cmp f.0)) outer) → there ≡ true → (not (mentions (rc_str_bytes f.0) (fields_at table outer)) && inhabited (shape_at table f.1.shape)) ≡ false
alone_shared table outer f there is holds = rw (mentions_number table f.0 outer, sym is ∙ holds) refl

pub alone_never : (table : List Shape) (outer : List (Name × NodeField)) (f : Name × NodeField) (live : Bool) → live ≡ inhabited (shape_at table f.1.shape) → live ≡ false → (not (mentions (rc_str_bytes f.0) (fields_at table outer)) && inhabited (shape_at table f.1.shape)) ≡ false
alone_never table outer f live is fails = rw (sym is ∙ fails) (go (not (mentions (rc_str_bytes f.0) (fields_at table outer))))
  where
    go : (b : Bool) → (b && false) ≡ false
    go true = refl
    go false = refl
