-- What the shapes of a state's flow tell of its trees: no fault is met, and what comes out has the shape that is answered.
use Rattle.std.proofs.Common.{◌≡◌, ℕ, List, [], ◌∷◌, Bool, true, false, ◌&&◌, Option, Some, None, Result, Ok, Err, refl, ap, subst}
use Rattle.std.specs.Prelude.{codes, if◌then◌else◌}
use Rattle.asl_model.specs.Tree.{Tree, Object, NoFields}
use Rattle.asl_model.specs.Path.{Segment}
use Rattle.asl_model.specs.Template.{Template}
use Rattle.asl_model.specs.Faults.{Fault}
use Rattle.asl_model.specs.Machine.{Settings, Kind}
use Rattle.asl_model.specs.Flow.{at_path, by_template, effective_input, result_placed, at_output_path, output_of}
use Rattle.asl_model.specs.Shape.{Shape, Never, Has, inhabited}
use Rattle.asl_model.specs.ShapeFlow.{DoubtfulPath, found, put, Doubt, template_shape, Flow, flow_then, template_flow, through_template, path_flow, empty_object, through_path, placing_flow, through_placing, output_flow, result_flow, result_leaves, Leaving, WithResult, WithInput, leaving, leave_by, leave, unless_doubts, doubts, filled_shape}
use Rattle.asl_model.specs.Finding.{effective_flow}
use Rattle.asl_model.proofs.ShapeInhabited.{has-inhabited}
use Rattle.asl_model.proofs.ShapePut.{put-gives}
use Rattle.asl_model.proofs.ShapeTemplate.{found-gives, template-gives}

-- there is a tree of the shape, and no fault
abbrev pub Gives : Shape → Result Tree Fault → Type 0
Gives r value = (u : Tree) × (value ≡ Ok u) × Has r u

-- a flow that is stopped is stopped by some fault
abbrev pub IsTold : Flow → Type 0
IsTold (Ok s) = Unit {0}
IsTold (Err []) = ⊥
IsTold (Err (fault ∷ further)) = Unit {0}

then-told : (go_on : Shape → Flow) (flow : Flow) → ((s : Shape) → IsTold (go_on s)) → IsTold flow → IsTold (flow_then go_on flow)
then-told go_on (Ok s) each h = each s
then-told go_on (Err []) each h = absurd h
then-told go_on (Err (fault ∷ further)) each h = tt

path-told : (field : List ℕ) (r : Result Shape DoubtfulPath) → IsTold (path_flow field r)
path-told field (Ok s) = tt
path-told field (Err doubtful) = tt

placing-told : (field : List ℕ) (r : Result Shape ℕ) → IsTold (placing_flow field r)
placing-told field (Ok s) = tt
placing-told field (Err at) = tt

through_path-told : (field : List ℕ) (path : Option (List Segment)) (s : Shape) → IsTold (through_path field path s)
through_path-told field None s = tt
through_path-told field (Some path) s = path-told field (found path s)

through_placing-told : (field : List ℕ) (path : Option (List Segment)) (raw result : Shape) → IsTold (through_placing field path raw result)
through_placing-told field None raw result = tt
through_placing-told field (Some path) raw result = placing-told field (put path result raw)

doubts-told : (field : List ℕ) (found : List (List ℕ × Doubt)) (s : Shape) → IsTold (template_flow field (unless_doubts found s))
doubts-told field [] s = tt
doubts-told field (d ∷ others) s = tt

pub template-told : (field : List ℕ) (template : Template) (s : Shape) (item : Option Shape) → IsTold (template_flow field (template_shape template s item))
template-told field template s item = go (inhabited s)
  where
    go : (live : Bool) → IsTold (template_flow field (if live then unless_doubts (doubts template [] s item) (filled_shape template s item) else Ok Never))
    go true = doubts-told field (doubts template [] s item) (filled_shape template s item)
    go false = tt

through_template-told : (field : List ℕ) (template : Option Template) (s : Shape) → IsTold (through_template field template s)
through_template-told field None s = tt
through_template-told field (Some template) s = template-told field template s None

pub output-told : (settings : Settings) (s : Shape) → IsTold (output_flow settings s)
output-told settings s = through_path-told (codes "OutputPath") settings.output_path s

pub effective-told : (settings : Settings) (s : Shape) → IsTold (effective_flow settings s)
effective-told settings s = then-told (through_template (codes "Parameters") settings.parameters) (through_path (codes "InputPath") settings.input_path s) (λ t. through_template-told (codes "Parameters") settings.parameters t) (through_path-told (codes "InputPath") settings.input_path s)

result-told : (settings : Settings) (raw result : Shape) → IsTold (result_flow settings raw result)
result-told settings raw result = then-told (output_flow settings) (flow_then (through_placing (codes "ResultPath") settings.result_path raw) (through_template (codes "ResultSelector") settings.result_selector result)) (output-told settings) (then-told (through_placing (codes "ResultPath") settings.result_path raw) (through_template (codes "ResultSelector") settings.result_selector result) (λ t. through_placing-told (codes "ResultPath") settings.result_path raw t) (through_template-told (codes "ResultSelector") settings.result_selector result))

pub leaves-told : (settings : Settings) (raw result : Shape) → IsTold (result_leaves settings raw result)
leaves-told settings raw result = go (inhabited raw && inhabited result)
  where
    go : (live : Bool) → IsTold (if live then result_flow settings raw result else Ok Never)
    go true = result-told settings raw result
    go false = tt

-- Trees through the flow

then-parts : (go_on : Shape → Flow) (flow : Flow) (r : Shape) → flow_then go_on flow ≡ Ok r → (s : Shape) × (flow ≡ Ok s) × (go_on s ≡ Ok r)
then-parts go_on (Ok s) r e = (s, refl, e)
then-parts go_on (Err faults) r e = absurd (cc)

path-parts : (field : List ℕ) (result : Result Shape DoubtfulPath) (r : Shape) → path_flow field result ≡ Ok r → result ≡ Ok r
path-parts field (Ok s) r e =
    let is : s ≡ r = cc in
    ap Ok is
path-parts field (Err doubtful) r e = absurd (cc)

placing-parts : (field : List ℕ) (result : Result Shape ℕ) (r : Shape) → placing_flow field result ≡ Ok r → result ≡ Ok r
placing-parts field (Ok s) r e =
    let is : s ≡ r = cc in
    ap Ok is
placing-parts field (Err at) r e = absurd (cc)

pub template-parts : (field : List ℕ) (result : Result Shape (List (List ℕ × Doubt))) (r : Shape) → template_flow field result ≡ Ok r → result ≡ Ok r
template-parts field (Ok s) r e =
    let is : s ≡ r = cc in
    ap Ok is
template-parts field (Err found) r e = absurd (cc)

path-gives : (field : List ℕ) (path : Option (List Segment)) (s r : Shape) (v : Tree) → through_path field path s ≡ Ok r → Has s v → Gives r (at_path field path v)
path-gives field None s r v e h =
    let live : Ok empty_object ≡ Ok r = rw (has-inhabited s v h) at e in
    let is : empty_object ≡ r = cc in
    (Object NoFields, refl, subst (λ (z : Shape). Has z (Object NoFields)) is refl)
path-gives field (Some path) s r v e h =
    let given = found-gives path s r v (path-parts field (found path s) r e) h in
    (given.0, rw (given.1) refl, given.2)

by_template-gives : (field : List ℕ) (template : Option Template) (s r : Shape) (v : Tree) → through_template field template s ≡ Ok r → Has s v → Gives r (by_template field template v)
by_template-gives field None s r v e h =
    let is : s ≡ r = cc in
    (v, refl, subst (λ (z : Shape). Has z v) is h)
by_template-gives field (Some template) s r v e h =
    let given = template-gives template s None r v None (template-parts field (template_shape template s None) r e) h tt in
    (given.0, rw (given.1) refl, given.2)

placing-gives : (path : Option (List Segment)) (raw result r : Shape) (v x : Tree) → through_placing (codes "ResultPath") path raw result ≡ Ok r → Has raw v → Has result x → Gives r (result_placed path v x)
placing-gives None raw result r v x e h m =
    let live : Ok raw ≡ Ok r = rw (has-inhabited result x m) at e in
    let is : raw ≡ r = cc in
    (v, refl, subst (λ (z : Shape). Has z v) is h)
placing-gives (Some path) raw result r v x e h m =
    let given = put-gives path result raw r x v (placing-parts (codes "ResultPath") (put path result raw) r e) m h in
    (given.0, rw (given.1) refl, given.2)

-- `InputPath` and `Parameters`
pub effective-gives : (settings : Settings) (s r : Shape) (v : Tree) → effective_flow settings s ≡ Ok r → Has s v → Gives r (effective_input settings v)
effective-gives settings s r v e h =
    let parts = then-parts (through_template (codes "Parameters") settings.parameters) (through_path (codes "InputPath") settings.input_path s) r e in
    let first = path-gives (codes "InputPath") settings.input_path s parts.0 v parts.1 h in
    let second = by_template-gives (codes "Parameters") settings.parameters parts.0 r first.0 parts.2 first.2 in
    (second.0, rw (first.1) (second.1), second.2)

-- `OutputPath`
pub output-gives : (settings : Settings) (s r : Shape) (v : Tree) → output_flow settings s ≡ Ok r → Has s v → Gives r (at_output_path settings v)
output-gives settings s r v e h = path-gives (codes "OutputPath") settings.output_path s r v e h

-- `ResultSelector`, `ResultPath`, `OutputPath`
pub leaves-gives : (settings : Settings) (raw result r : Shape) (v x : Tree) → result_leaves settings raw result ≡ Ok r → Has raw v → Has result x → Gives r (output_of settings v x)
leaves-gives settings raw result r v x e h m =
    let live : result_flow settings raw result ≡ Ok r = rw (has-inhabited raw v h, has-inhabited result x m) at e in
    let outer = then-parts (output_flow settings) (flow_then (through_placing (codes "ResultPath") settings.result_path raw) (through_template (codes "ResultSelector") settings.result_selector result)) r live in
    let inner = then-parts (through_placing (codes "ResultPath") settings.result_path raw) (through_template (codes "ResultSelector") settings.result_selector result) outer.0 outer.1 in
    let first = by_template-gives (codes "ResultSelector") settings.result_selector result inner.0 x inner.1 m in
    let second = placing-gives settings.result_path raw inner.0 outer.0 v first.0 inner.2 h first.2 in
    let third = output-gives settings outer.0 r second.0 outer.2 second.2 in
    (third.0, rw (first.1, second.1) (third.1), third.2)

-- The output of a state

pub result-leaves : (settings : Settings) (kind : Kind) (raw work r : Shape) → leaving kind ≡ WithResult → leave settings kind raw work ≡ Ok r → (v x : Tree) → Has raw v → Has work x → Gives r (output_of settings v x)
result-leaves settings kind raw work r is e v x h m = leaves-gives settings raw work r v x (subst (λ (way : Leaving). leave_by way settings raw work ≡ Ok r) is e) h m

pub input-leaves : (settings : Settings) (kind : Kind) (raw work r : Shape) → leaving kind ≡ WithInput → leave settings kind raw work ≡ Ok r → (v x : Tree) → Has raw v → Has work x → Gives r (at_output_path settings x)
input-leaves settings kind raw work r is e v x h m =
    let way : (if inhabited raw then output_flow settings work else Ok Never) ≡ Ok r = subst (λ (way : Leaving). leave_by way settings raw work ≡ Ok r) is e in
    output-gives settings work r x (rw (has-inhabited raw v h) at way) m
