-- What is left to do when shapes are listed, as steps over shapes: what they list, and that they end.
use Rattle.std.proofs.Common.{◌≡◌, ◌<◌, ◌+◌, ℕ, suc, List, [], ◌∷◌, ◌++◌, map, Bool, true, false, if◌then◌else◌, Option, Some, None, option_map, refl, sym, ap, ◌∙◌, subst, append_assoc, arith}
use Rattle.std.proofs.lemmas.List.{map-append}
use Rattle.asl_model.specs.Shape.{Shape, Any, OfKinds, Arrays, WithoutArrays, ArraysOf, Objects, WithoutObjects, ObjectsOf, Shapes, NoShapes, AndShape, FieldShapes, NoFieldShapes, AndFieldShape, IsProperShape}
use Rattle.asl_model.specs.WrittenNumbered.{same_shape, place_of, with_last, is_listed, with_last_if_listed, list_after, list_after_arrays, list_after_objects, list_after_places, list_after_fields}
use Rattle.asl_model.proofs.SameShapes.{same_are}
use Rattle.asl_model.proofs.Listing.{IsThere, PlacesAreThere, FieldsAreThere, ObjectsAreThere, KindsAreThere, PartsAreThere, AreBehind, parts_more, arrays_later, walked_arrays, walked_objects}
use Rattle.asl_numbered.specs.Expansion.{shape_at, shapes_at, fields_at, numbers_in}
use Rattle.asl_numbered.specs.TakenApart.{arrays_over, kinds_over, objects_over, taken_apart}
use Rattle.asl_numbered.specs.declared.kinds.NodeArrays.{NodeArrays}
use Rattle.asl_numbered.specs.declared.kinds.NodeKinds.{NodeKinds}
use Rattle.asl_numbered.specs.declared.kinds.NodeObjects.{NodeObjects}
use Rattle.asl_numbered.specs.declared.node.NodeField.{NodeField}
use Rattle.asl_records.specs.Listing.{array_visits, object_visits, task_if, tasks_at, visits}
use Rattle.asl_records.specs.declared.listing.Task.{Task}
use Rattle.asl_records.specs.declared.listing.Task.TheVariants.{Visit, List as Put}
use Rattle.asl_numbered.specs.Names.{Name}

-- ---- a walk through a shape that is there lists nothing

-- the parts of a listed shape are there
parts_behind : (done left : List Shape) (s : Shape) (i : ℕ) → AreBehind done left → place_of s left ≡ Some i → PartsAreThere (done ++ left) s
parts_behind done [] s i h at = absurd (cc)
parts_behind done (t ∷ left) s i h at = go (same_shape s t) refl (place_of s left) (λ j e. parts_behind (done ++ t ∷ []) left s j h.2 e) at
  where
    go : (b : Bool) → same_shape s t ≡ b → (o : Option ℕ) → ((j : ℕ) → o ≡ Some j → PartsAreThere ((done ++ t ∷ []) ++ left) s) → (if b then Some 0 else option_map suc o) ≡ Some i → PartsAreThere (done ++ t ∷ left) s
    go true is o further e = subst (PartsAreThere (done ++ t ∷ left)) (sym (same_are s t is)) (parts_more t done (t ∷ left) h.0)
    go false is None further e = absurd (cc)
    go false is (Some j) further e = subst (λ l. PartsAreThere l s) (append_assoc done (t ∷ []) left) (further j refl)

mutual
  pub nothing_more : (listed : List Shape) (s : Shape) → AreBehind [] listed → IsThere listed s → list_after listed s ≡ listed
  nothing_more listed Any h there = refl
  nothing_more listed (OfKinds simple WithoutArrays WithoutObjects) h there = go (is_listed s) refl
    where
      s : Shape
      s = OfKinds simple WithoutArrays WithoutObjects

      go : (b : Bool) → is_listed s ≡ b → (if b then with_last s listed else listed) ≡ listed
      go true is = rw ((there is).1) refl
      go false is = refl
  nothing_more listed (OfKinds simple (ArraysOf first rest) objects) h there =
      let at = there refl in
      let parts = parts_behind [] listed (OfKinds simple (ArraysOf first rest) objects) at.0 h at.1 in
      rw (no_more_places listed first h parts.1.0.0, nothing_more listed rest h parts.1.0.1, no_more_objects listed objects h parts.1.1, at.1) refl
  nothing_more listed (OfKinds simple WithoutArrays (ObjectsOf fields extra)) h there =
      let at = there refl in
      let parts = parts_behind [] listed (OfKinds simple WithoutArrays (ObjectsOf fields extra)) at.0 h at.1 in
      rw (no_more_fields listed fields h parts.1.1, at.1) refl

  no_more_objects : (listed : List Shape) (objects : Objects) → AreBehind [] listed → ObjectsAreThere listed objects → list_after_objects listed objects ≡ listed
  no_more_objects listed WithoutObjects h there = refl
  no_more_objects listed (ObjectsOf fields extra) h there = no_more_fields listed fields h there

  no_more_places : (listed : List Shape) (first : Shapes) → AreBehind [] listed → PlacesAreThere listed first → list_after_places listed first ≡ listed
  no_more_places listed NoShapes h there = refl
  no_more_places listed (AndShape s first) h there = rw (nothing_more listed s h there.0) (no_more_places listed first h there.1)

  no_more_fields : (listed : List Shape) (fields : FieldShapes) → AreBehind [] listed → FieldsAreThere listed fields → list_after_fields listed fields ≡ listed
  no_more_fields listed NoFieldShapes h there = refl
  no_more_fields listed (AndFieldShape n needed s fields) h there = rw (nothing_more listed s h there.0) (no_more_fields listed fields h there.1)

-- ---- steps

-- a task, with the shape in place of its number
pub data Step : Type 0 where
  VisitStep : Shape → Step
  PutStep : Shape → Step

abbrev pub step_of : List Shape → Task → Step
step_of table (Visit n) = VisitStep (shape_at table n)
step_of table (Put n) = PutStep (shape_at table n)

abbrev pub steps_of : List Shape → List Task → List Step
steps_of table tasks = map (step_of table) tasks

abbrev pub done : Step → List Shape → List Shape
done (VisitStep s) listed = list_after listed s
done (PutStep s) listed = with_last s listed

-- what is listed once all steps are done, the last one first
abbrev pub all_done : List Step → List Shape → List Shape
all_done [] listed = listed
all_done (step ∷ steps) listed = done step (all_done steps listed)

-- a shape that is to be listed finds its parts
abbrev pub IsFed : Step → List Shape → Type 0
IsFed (VisitStep s) listed = IsProperShape s
IsFed (PutStep s) listed = IsProperShape s × PartsAreThere listed s

abbrev pub AreEachFed : List Step → List Shape → Type 0
AreEachFed [] listed = Unit {0}
AreEachFed (step ∷ steps) listed = IsFed step (all_done steps listed) × AreEachFed steps listed

pub done-append : (front more : List Step) (listed : List Shape) → all_done (front ++ more) listed ≡ all_done front (all_done more listed)
done-append [] more listed = refl
done-append (step ∷ front) more listed = ap (done step) (done-append front more listed)

pub fed-append : (front more : List Step) (listed : List Shape) → AreEachFed front (all_done more listed) → AreEachFed more listed → AreEachFed (front ++ more) listed
fed-append [] more listed h further = further
fed-append (step ∷ front) more listed h further =
    (subst (IsFed step) (sym (done-append front more listed)) h.0, fed-append front more listed h.1 further)

pub fed-front : (front more : List Step) (listed : List Shape) → AreEachFed (front ++ more) listed → AreEachFed front (all_done more listed)
fed-front [] more listed h = tt
fed-front (step ∷ front) more listed h = (subst (IsFed step) (done-append front more listed) h.0, fed-front front more listed h.1)

pub fed-behind : (front more : List Step) (listed : List Shape) → AreEachFed (front ++ more) listed → AreEachFed more listed
fed-behind [] more listed h = h
fed-behind (step ∷ front) more listed h = fed-behind front more listed h.1

-- ---- how much is left to do

abbrev mutual
  -- at most so many steps go through the shape
  pub walk_cost : Shape → ℕ
  walk_cost Any = 1
  walk_cost (OfKinds simple arrays objects) = 2 + (arrays_cost arrays + objects_cost objects)

  pub arrays_cost : Arrays → ℕ
  arrays_cost WithoutArrays = 0
  arrays_cost (ArraysOf first rest) = walk_cost rest + places_cost first

  pub objects_cost : Objects → ℕ
  objects_cost WithoutObjects = 0
  objects_cost (ObjectsOf fields extra) = fields_cost fields

  pub places_cost : Shapes → ℕ
  places_cost NoShapes = 0
  places_cost (AndShape s first) = walk_cost s + places_cost first

  pub fields_cost : FieldShapes → ℕ
  fields_cost NoFieldShapes = 0
  fields_cost (AndFieldShape n needed s fields) = walk_cost s + fields_cost fields

abbrev pub step_cost : Step → ℕ
step_cost (VisitStep s) = walk_cost s
step_cost (PutStep s) = 1

abbrev pub work : List Step → ℕ
work [] = 0
work (step ∷ steps) = step_cost step + work steps

pub work-append : (front more : List Step) → work (front ++ more) ≡ work front + work more
work-append [] more = omega arith
work-append (step ∷ front) more = ap (λ n. step_cost step + n) (work-append front more) ∙ omega arith

pub some_cost : (s : Shape) → 0 < walk_cost s
some_cost Any = omega arith
some_cost (OfKinds simple arrays objects) = omega arith

-- ---- walks through places and fields

module _ (table : List Shape) where
  visit_last : (ns : List ℕ) (n : ℕ) → steps_of table (visits (n ∷ ns)) ≡ steps_of table (visits ns) ++ VisitStep (shape_at table n) ∷ []
  visit_last ns n = map-append (step_of table) (visits ns) (Visit n ∷ [])

  places_done : (ns : List ℕ) (listed : List Shape) → all_done (steps_of table (visits ns)) listed ≡ list_after_places listed (shapes_at table ns)
  places_done [] listed = refl
  places_done (n ∷ ns) listed =
      let s = shape_at table n in
      ap (λ steps. all_done steps listed) (visit_last ns n) ∙ done-append (steps_of table (visits ns)) (VisitStep s ∷ []) listed ∙ places_done ns (list_after listed s)

  fields_done : (fs : List (Name × NodeField)) (listed : List Shape) → all_done (steps_of table (visits (numbers_in fs))) listed ≡ list_after_fields listed (fields_at table fs)
  fields_done [] listed = refl
  fields_done (f ∷ fs) listed =
      let s = shape_at table f.1.shape in
      ap (λ steps. all_done steps listed) (visit_last (numbers_in fs) f.1.shape) ∙ done-append (steps_of table (visits (numbers_in fs))) (VisitStep s ∷ []) listed ∙ fields_done fs (list_after listed s)

  visits_fed : (ns : List ℕ) (listed : List Shape) → ((n : ℕ) → IsProperShape (shape_at table n)) → AreEachFed (steps_of table (visits ns)) listed
  visits_fed [] listed proper = tt
  visits_fed (n ∷ ns) listed proper =
      let s = shape_at table n in
      subst (λ steps. AreEachFed steps listed) (sym (visit_last ns n)) (fed-append (steps_of table (visits ns)) (VisitStep s ∷ []) listed (visits_fed ns (list_after listed s) proper) (proper n, tt))

  places_work : (ns : List ℕ) → work (steps_of table (visits ns)) ≡ places_cost (shapes_at table ns)
  places_work [] = refl
  places_work (n ∷ ns) =
      let s = shape_at table n in
      ap work (visit_last ns n) ∙ work-append (steps_of table (visits ns)) (VisitStep s ∷ []) ∙ rw (places_work ns) (omega arith)

  fields_work : (fs : List (Name × NodeField)) → work (steps_of table (visits (numbers_in fs))) ≡ fields_cost (fields_at table fs)
  fields_work [] = refl
  fields_work (f ∷ fs) =
      let s = shape_at table f.1.shape in
      ap work (visit_last (numbers_in fs) f.1.shape) ∙ work-append (steps_of table (visits (numbers_in fs))) (VisitStep s ∷ []) ∙ rw (fields_work fs) (omega arith)

  -- ---- the parts of arrays, and of objects

  arrays_done : (arrays : Option NodeArrays) (listed : List Shape) → all_done (steps_of table (array_visits arrays)) listed ≡ list_after_arrays listed (arrays_over table arrays)
  arrays_done None listed = refl
  arrays_done (Some arrays) listed = ap (λ l. list_after l (shape_at table arrays.rest)) (places_done arrays.first.now listed)

  objects_done : (objects : Option NodeObjects) (listed : List Shape) → all_done (steps_of table (object_visits objects)) listed ≡ list_after_objects listed (objects_over table objects)
  objects_done None listed = refl
  objects_done (Some objects) listed = fields_done objects.fields.now.entries listed

  arrays_fed : (arrays : Option NodeArrays) (listed : List Shape) → ((n : ℕ) → IsProperShape (shape_at table n)) → AreEachFed (steps_of table (array_visits arrays)) listed
  arrays_fed None listed proper = tt
  arrays_fed (Some arrays) listed proper = (proper arrays.rest, visits_fed arrays.first.now listed proper)

  objects_fed : (objects : Option NodeObjects) (listed : List Shape) → ((n : ℕ) → IsProperShape (shape_at table n)) → AreEachFed (steps_of table (object_visits objects)) listed
  objects_fed None listed proper = tt
  objects_fed (Some objects) listed proper = visits_fed (numbers_in objects.fields.now.entries) listed proper

  arrays_work : (arrays : Option NodeArrays) → work (steps_of table (array_visits arrays)) ≡ arrays_cost (arrays_over table arrays)
  arrays_work None = refl
  arrays_work (Some arrays) = rw (places_work arrays.first.now) refl

  objects_work : (objects : Option NodeObjects) → work (steps_of table (object_visits objects)) ≡ objects_cost (objects_over table objects)
  objects_work None = refl
  objects_work (Some objects) = fields_work objects.fields.now.entries

  -- ---- the shape itself

  abbrev itself : Bool → ℕ → List Step
  itself wanted n = steps_of table (task_if wanted (Put n))

  itself_done : (wanted : Bool) (n : ℕ) (listed : List Shape) → all_done (itself wanted n) listed ≡ (if wanted then with_last (shape_at table n) listed else listed)
  itself_done true n listed = refl
  itself_done false n listed = refl

  itself_fed : (wanted : Bool) (n : ℕ) (listed : List Shape) → is_listed (shape_at table n) ≡ wanted → IsProperShape (shape_at table n) → KindsAreThere listed (shape_at table n) → AreEachFed (itself wanted n) listed
  itself_fed true n listed is proper there = ((proper, (is, there)), tt)
  itself_fed false n listed is proper there = tt

  itself_work : (wanted : Bool) (n : ℕ) → work (itself wanted n) < 2
  itself_work true n = omega arith
  itself_work false n = omega arith

  -- ---- the tasks for a shape

  split : (n : ℕ) (kinds : NodeKinds) → steps_of table (tasks_at table n (Some kinds)) ≡ itself (is_listed (shape_at table n)) n ++ (steps_of table (object_visits kinds.objects) ++ steps_of table (array_visits kinds.arrays))
  split n kinds =
      map-append (step_of table) (task_if (is_listed (shape_at table n)) (Put n)) (object_visits kinds.objects ++ array_visits kinds.arrays)
      ∙ ap (λ steps. itself (is_listed (shape_at table n)) n ++ steps) (map-append (step_of table) (object_visits kinds.objects) (array_visits kinds.arrays))

  parts_done : (kinds : NodeKinds) (listed : List Shape) → all_done (steps_of table (object_visits kinds.objects) ++ steps_of table (array_visits kinds.arrays)) listed ≡ list_after_objects (list_after_arrays listed (arrays_over table kinds.arrays)) (objects_over table kinds.objects)
  parts_done kinds listed =
      done-append (steps_of table (object_visits kinds.objects)) (steps_of table (array_visits kinds.arrays)) listed
      ∙ ap (all_done (steps_of table (object_visits kinds.objects))) (arrays_done kinds.arrays listed)
      ∙ objects_done kinds.objects (list_after_arrays listed (arrays_over table kinds.arrays))

  pub tasks_done : (n : ℕ) (kinds : Option NodeKinds) (listed : List Shape) → taken_apart table kinds ≡ shape_at table n → all_done (steps_of table (tasks_at table n kinds)) listed ≡ list_after listed (taken_apart table kinds)
  tasks_done n None listed shown = refl
  tasks_done n (Some kinds) listed shown =
      let parts = steps_of table (object_visits kinds.objects) ++ steps_of table (array_visits kinds.arrays) in
      let after = list_after_objects (list_after_arrays listed (arrays_over table kinds.arrays)) (objects_over table kinds.objects) in
      ap (λ steps. all_done steps listed) (split n kinds)
      ∙ done-append (itself (is_listed (shape_at table n)) n) parts listed
      ∙ ap (all_done (itself (is_listed (shape_at table n)) n)) (parts_done kinds listed)
      ∙ itself_done (is_listed (shape_at table n)) n after
      ∙ ap (λ s. with_last_if_listed s after) (sym shown)

  pub tasks_fed : (n : ℕ) (kinds : Option NodeKinds) (listed : List Shape) → ((m : ℕ) → IsProperShape (shape_at table m)) → AreBehind [] listed → taken_apart table kinds ≡ shape_at table n → AreEachFed (steps_of table (tasks_at table n kinds)) listed
  tasks_fed n None listed proper behind shown = tt
  tasks_fed n (Some kinds) listed proper behind shown =
      let arrays = arrays_over table kinds.arrays in
      let objects = objects_over table kinds.objects in
      let one = list_after_arrays listed arrays in
      let two = list_after_objects one objects in
      let own : IsProperShape (kinds_over table kinds) = subst IsProperShape (sym shown) (proper n) in
      let a = walked_arrays listed arrays behind own.0 in
      let o = walked_objects one objects a.0.behind own.1 in
      let there : KindsAreThere two (kinds_over table kinds) = (arrays_later arrays one two o.0 a.1, o.1) in
      let array_steps = steps_of table (array_visits kinds.arrays) in
      let object_steps = steps_of table (object_visits kinds.objects) in
      let front = itself_fed (is_listed (shape_at table n)) n two refl (proper n) (subst (KindsAreThere two) shown there) in
      let parts = fed-append object_steps array_steps listed (objects_fed kinds.objects (all_done array_steps listed) proper) (arrays_fed kinds.arrays listed proper) in
      subst (λ steps. AreEachFed steps listed) (sym (split n kinds))
      (fed-append (itself (is_listed (shape_at table n)) n) (object_steps ++ array_steps) listed (subst (AreEachFed (itself (is_listed (shape_at table n)) n)) (sym (parts_done kinds listed)) front) parts)

  pub tasks_work : (n : ℕ) (kinds : Option NodeKinds) → work (steps_of table (tasks_at table n kinds)) < walk_cost (taken_apart table kinds)
  tasks_work n None = omega arith
  tasks_work n (Some kinds) =
      let array_steps = steps_of table (array_visits kinds.arrays) in
      let object_steps = steps_of table (object_visits kinds.objects) in
      rw (split n kinds, work-append (itself (is_listed (shape_at table n)) n) (object_steps ++ array_steps), work-append object_steps array_steps, arrays_work kinds.arrays, objects_work kinds.objects)
      (omega (arith, itself_work (is_listed (shape_at table n)) n))
