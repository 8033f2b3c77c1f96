-- Names stay in order through a state: where they stand in order in the shapes that go in, they do in what rules let
-- through, and in outputs, items and what catchers hand on.
use Rattle.std.proofs.Common.{◌≡◌, ℕ, List, [], ◌∷◌, Bool, true, false, ◌&&◌, if◌then◌else◌, codes, Option, Some, None, Result, Ok, Err, refl, subst}
use Rattle.std.specs.List.{AllByRecursion}
use Rattle.asl_model.specs.Path.{Segment, Name, Index}
use Rattle.asl_model.specs.Template.{Template}
use Rattle.asl_model.specs.Test.{Test, And, Or, Not, Compare, StringMatches, IsOfKind, IsPresent, Tests, NoTests, AndTest, ValueKind}
use Rattle.asl_model.specs.Machine.{Settings, Kind}
use Rattle.asl_model.specs.Shape.{Shape, Any, OfKinds, Never, Arrays, WithoutArrays, ArraysOf, Objects, WithoutObjects, ObjectsOf, Shapes, NoShapes, AndShape, FieldShapes, inhabited, IsOrdered, AreOrderedArrays, AreOrderedObjects, AreOrderedShapes, AreOrderedFields}
use Rattle.asl_model.specs.ShapeOrder.{mention_of, join, joined_with_each}
use Rattle.asl_model.specs.ShapeFlow.{place_at, arrays_alone, DoubtfulPath, found, put, Doubt, doubts, template_shape, narrow_mention, narrow_place, narrow_objects, narrow_arrays, narrow_under, where_present, by_kind, narrowed_at, where_found, where_inhabited, narrowed_by, true_of, each_true_of, each_found, rule_shape, Flow, flow_then, template_flow, through_template, path_flow, empty_object, through_path, placing_flow, through_placing, output_flow, result_flow, Leaving, WithResult, WithInput, Nothing, leaving, leave_by, leave}
use Rattle.asl_model.specs.Finding.{effective_flow, as_first_elements, element_shape, item_flow, at_each_place, map_result, elements_of, array_parts, error_output_shape, error_placed_shape}
use Rattle.asl_model.proofs.ShapeOrdered.{Ordered, place-ordered, mention-ordered, alone_arrays-ordered, set-ordered, set_place-ordered, each-ordered, join-ordered, put-so}
use Rattle.asl_model.proofs.OrderedTemplates.{is-ordered, either-ordered, or_doubtful-ordered, found-ordered, filling-ordered}

-- Rules

module _ (go_on : Shape → Shape) (goes : (s : Shape) → IsOrdered s → IsOrdered (go_on s)) where
  narrow_mention-ordered : (n : List ℕ) (shapes : FieldShapes) (extra : Bool) (mention : Option (Bool × Shape)) → mention_of n shapes ≡ mention → AreOrderedFields shapes → IsOrdered (narrow_mention go_on n shapes extra mention)
  narrow_mention-ordered n shapes true None at ordered = (tt, set-ordered n true Any shapes ordered tt)
  narrow_mention-ordered n shapes false None at ordered = (tt, tt)
  narrow_mention-ordered n shapes extra (Some m) at ordered = (tt, set-ordered n true (go_on m.1) shapes ordered (goes m.1 (mention-ordered n shapes m at ordered)))

  narrow_place-ordered : (i : ℕ) (first : Shapes) (rest : Shape) (part : Option Shape) → place_at i first ≡ part → AreOrderedShapes first → IsOrdered rest → IsOrdered (narrow_place go_on i first rest part)
  narrow_place-ordered i first rest None at ordered further = ((ordered, further), tt)
  narrow_place-ordered i first rest (Some s) at ordered further = ((set_place-ordered i (go_on s) first (goes s (place-ordered i first s at ordered)) ordered, further), tt)

  narrow_objects-ordered : (n : List ℕ) (objects : Objects) → AreOrderedObjects objects → IsOrdered (narrow_objects go_on n objects)
  narrow_objects-ordered n WithoutObjects ordered = (tt, tt)
  narrow_objects-ordered n (ObjectsOf shapes extra) ordered = narrow_mention-ordered n shapes extra (mention_of n shapes) refl ordered

  narrow_arrays-ordered : (i : ℕ) (arrays : Arrays) → AreOrderedArrays arrays → IsOrdered (narrow_arrays go_on i arrays)
  narrow_arrays-ordered i WithoutArrays ordered = (tt, tt)
  narrow_arrays-ordered i (ArraysOf first rest) ordered = narrow_place-ordered i first rest (place_at i first) refl ordered.0 ordered.1

  narrow_under-ordered : (segment : Segment) (s : Shape) → IsOrdered s → IsOrdered (narrow_under go_on segment s)
  narrow_under-ordered segment Any ordered = tt
  narrow_under-ordered (Name n) (OfKinds simple arrays objects) ordered = narrow_objects-ordered n objects ordered.1
  narrow_under-ordered (Index i) (OfKinds simple arrays objects) ordered = narrow_arrays-ordered i arrays ordered.0

present-ordered : (path : List Segment) (s : Shape) → IsOrdered s → IsOrdered (where_present path s)
present-ordered [] s ordered = ordered
present-ordered (segment ∷ path) s ordered = narrow_under-ordered (where_present path) (present-ordered path) segment s ordered

kind-ordered : (kind : ValueKind) (expected : Bool) (s : Shape) → IsOrdered s → IsOrdered (by_kind kind expected s)
kind-ordered kind true s ordered = (tt, tt)
kind-ordered kind false Any ordered = tt
kind-ordered kind false (OfKinds simple arrays objects) ordered = ordered

narrowed_at-ordered : (path : List Segment) (kind : ValueKind) (expected : Bool) (s : Shape) (r : Result Shape DoubtfulPath) → IsOrdered s → Ordered r → Ordered (narrowed_at path (by_kind kind expected) s r)
narrowed_at-ordered path kind expected s (Ok part) ordered one = or_doubtful-ordered path s (put path (by_kind kind expected part) s) (put-so path (by_kind kind expected part) s (kind-ordered kind expected part one) ordered)
narrowed_at-ordered path kind expected s (Err doubtful) ordered one = tt

where_found-ordered : (r answer : Result Shape DoubtfulPath) → Ordered answer → Ordered (where_found r answer)
where_found-ordered (Ok part) answer ordered = ordered
where_found-ordered (Err doubtful) answer ordered = tt

narrowed_by-ordered : (go_on : Shape → Result Shape DoubtfulPath) (r : Result Shape DoubtfulPath) → ((s : Shape) → IsOrdered s → Ordered (go_on s)) → Ordered r → Ordered (narrowed_by go_on r)
narrowed_by-ordered go_on (Ok s) goes ordered = goes s ordered
narrowed_by-ordered go_on (Err doubtful) goes ordered = tt

either_shape-ordered : (test : Bool) (s t : Shape) → IsOrdered s → IsOrdered t → IsOrdered (if test then s else t)
either_shape-ordered true s t one other = one
either_shape-ordered false s t one other = other

mutual
  true-ordered : (test : Test) (s : Shape) → IsOrdered s → Ordered (true_of test s)
  true-ordered (And tests) s ordered = each_true-ordered tests s ordered
  true-ordered (Or tests) s ordered = where_found-ordered (each_found tests s) (Ok s) ordered
  true-ordered (Not test) s ordered = where_found-ordered (true_of test s) (Ok s) ordered
  true-ordered (Compare path comparison operand) s ordered = where_found-ordered (found path s) _ (where_found-ordered _ (Ok s) ordered)
  true-ordered (StringMatches path pattern) s ordered = where_found-ordered (found path s) (Ok s) ordered
  true-ordered (IsOfKind path kind expected) s ordered = narrowed_at-ordered path kind expected s (found path s) ordered (found-ordered path s ordered)
  true-ordered (IsPresent path expected) s ordered = either_shape-ordered expected (where_present path s) s (present-ordered path s ordered) ordered

  each_true-ordered : (tests : Tests) (s : Shape) → IsOrdered s → Ordered (each_true_of tests s)
  each_true-ordered NoTests s ordered = ordered
  each_true-ordered (AndTest test others) s ordered = narrowed_by-ordered (each_true_of others) (where_inhabited (true_of test) s) (each_true-ordered others) (either-ordered (inhabited s) (true_of test s) (Ok Never) (true-ordered test s ordered) (tt, tt))

pub rule-ordered : (test : Test) (s r : Shape) → IsOrdered s → rule_shape test s ≡ Ok r → IsOrdered r
rule-ordered test s r ordered e = is-ordered (rule_shape test s) r e (either-ordered (inhabited s) (true_of test s) (Ok Never) (true-ordered test s ordered) (tt, tt))

-- Flows

then-ordered : (go_on : Shape → Flow) (flow : Flow) → Ordered flow → ((s : Shape) → IsOrdered s → Ordered (go_on s)) → Ordered (flow_then go_on flow)
then-ordered go_on (Ok s) ordered goes = goes s ordered
then-ordered go_on (Err faults) ordered goes = tt

template_flow-ordered : (field : List ℕ) (r : Result Shape (List (List ℕ × Doubt))) → Ordered r → Ordered (template_flow field r)
template_flow-ordered field (Ok s) ordered = ordered
template_flow-ordered field (Err doubts) ordered = tt

pub through_template-ordered : (field : List ℕ) (template : Option Template) (s : Shape) → IsOrdered s → Ordered (through_template field template s)
through_template-ordered field None s ordered = ordered
through_template-ordered field (Some template) s ordered = template_flow-ordered field (template_shape template s None) (filling-ordered s None ordered tt template)

path_flow-ordered : (field : List ℕ) (r : Result Shape DoubtfulPath) → Ordered r → Ordered (path_flow field r)
path_flow-ordered field (Ok s) ordered = ordered
path_flow-ordered field (Err doubtful) ordered = tt

pub through_path-ordered : (field : List ℕ) (path : Option (List Segment)) (s : Shape) → IsOrdered s → Ordered (through_path field path s)
through_path-ordered field None s ordered = either_shape-ordered (inhabited s) empty_object Never (tt, tt) (tt, tt)
through_path-ordered field (Some path) s ordered = path_flow-ordered field (found path s) (found-ordered path s ordered)

placing_flow-ordered : (field : List ℕ) (r : Result Shape ℕ) → Ordered r → Ordered (placing_flow field r)
placing_flow-ordered field (Ok s) ordered = ordered
placing_flow-ordered field (Err at) ordered = tt

pub through_placing-ordered : (field : List ℕ) (path : Option (List Segment)) (raw result : Shape) → IsOrdered raw → IsOrdered result → Ordered (through_placing field path raw result)
through_placing-ordered field None raw result one other = either_shape-ordered (inhabited result) raw Never one (tt, tt)
through_placing-ordered field (Some path) raw result one other = placing_flow-ordered field (put path result raw) (put-so path result raw other one)

pub effective-ordered : (settings : Settings) (input : Shape) → IsOrdered input → Ordered (effective_flow settings input)
effective-ordered settings input ordered = then-ordered (through_template (codes "Parameters") settings.parameters) (through_path (codes "InputPath") settings.input_path input) (through_path-ordered (codes "InputPath") settings.input_path input ordered) (through_template-ordered (codes "Parameters") settings.parameters)

output-ordered : (settings : Settings) (s : Shape) → IsOrdered s → Ordered (output_flow settings s)
output-ordered settings s ordered = through_path-ordered (codes "OutputPath") settings.output_path s ordered

result-ordered : (settings : Settings) (raw result : Shape) → IsOrdered raw → IsOrdered result → Ordered (result_flow settings raw result)
result-ordered settings raw result one other =
    then-ordered (output_flow settings) (flow_then (through_placing (codes "ResultPath") settings.result_path raw) (through_template (codes "ResultSelector") settings.result_selector result))
    (then-ordered (through_placing (codes "ResultPath") settings.result_path raw) (through_template (codes "ResultSelector") settings.result_selector result)
    (through_template-ordered (codes "ResultSelector") settings.result_selector result other)
    (λ selected. through_placing-ordered (codes "ResultPath") settings.result_path raw selected one))
    (output-ordered settings)

leaving-ordered : (way : Leaving) (settings : Settings) (raw work : Shape) → IsOrdered raw → IsOrdered work → Ordered (leave_by way settings raw work)
leaving-ordered WithResult settings raw work one other = either-ordered (inhabited raw && inhabited work) (result_flow settings raw work) (Ok Never) (result-ordered settings raw work one other) (tt, tt)
leaving-ordered WithInput settings raw work one other = either-ordered (inhabited raw) (output_flow settings work) (Ok Never) (output-ordered settings work other) (tt, tt)
leaving-ordered Nothing settings raw work one other = (tt, tt)

pub leave-ordered : (settings : Settings) (kind : Kind) (raw work r : Shape) → IsOrdered raw → IsOrdered work → leave settings kind raw work ≡ Ok r → IsOrdered r
leave-ordered settings kind raw work r one other e = is-ordered (leave settings kind raw work) r e (leaving-ordered (leaving kind) settings raw work one other)

-- Items, branches and catchers

pub element-ordered : (first : Shapes) (rest : Shape) → AreOrderedShapes first → IsOrdered rest → IsOrdered (element_shape first rest)
element-ordered first rest ordered further = join-ordered (joined_with_each join Never first) rest (each-ordered join (record { keeps = join-ordered }) Never first (tt, tt) ordered) further

pub item-ordered : (selector : Option Template) (effective element : Shape) → IsOrdered effective → IsOrdered element → Ordered (item_flow selector effective element)
item-ordered None effective element one other = other
item-ordered (Some selector) effective element one other = either-ordered (inhabited element) (template_flow (codes "ItemSelector") (template_shape selector effective (Some element))) (Ok Never) (template_flow-ordered (codes "ItemSelector") (template_shape selector effective (Some element)) (filling-ordered effective (Some element) one other selector)) (tt, tt)

at_each-ordered : (s : Shape) (places : Shapes) → IsOrdered s → AreOrderedShapes (at_each_place s places)
at_each-ordered s NoShapes ordered = tt
at_each-ordered s (AndShape other others) ordered = (ordered, at_each-ordered s others ordered)

pub map-ordered : (item : Shape) (first : Shapes) (rest : Shape) → IsOrdered item → IsOrdered (map_result item first rest)
map-ordered item first rest ordered = ((at_each-ordered item first ordered, either_shape-ordered (inhabited rest) item Never ordered (tt, tt)), tt)

pub parts-ordered : (s : Shape) (first : Shapes) (rest : Shape) → IsOrdered s → array_parts s ≡ Some (first, rest) → AreOrderedShapes first × IsOrdered rest
parts-ordered s first rest ordered e = go (arrays_alone s) (alone_arrays-ordered s ordered) e
  where
    go : (arrays : Arrays) → AreOrderedArrays arrays → elements_of arrays ≡ Some (first, rest) → AreOrderedShapes first × IsOrdered rest
    go WithoutArrays one at = absurd (cc)
    go (ArraysOf others further) one at =
        let is : (others, further) ≡ (first, rest) = cc in
        subst (λ (p : Shapes × Shape). AreOrderedShapes p.0 × IsOrdered p.1) is one

pub first_elements-ordered : (shapes : List Shape) → AllByRecursion IsOrdered shapes → AreOrderedShapes (as_first_elements shapes)
first_elements-ordered [] ordered = tt
first_elements-ordered (s ∷ further) ordered = (ordered.0, first_elements-ordered further ordered.1)

pub error_output-ordered : IsOrdered error_output_shape
error_output-ordered = (tt, (refl, (tt, tt), (refl, (tt, tt), tt)))

pub error_placed-ordered : (path : Option (List Segment)) (input : Shape) → IsOrdered input → Ordered (error_placed_shape path input)
error_placed-ordered None input ordered = ordered
error_placed-ordered (Some path) input ordered = put-so path error_output_shape input error_output-ordered ordered
