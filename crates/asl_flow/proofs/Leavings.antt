-- What a shape on its way through a state comes to, step after step.
use Rattle.std.proofs.Common.{◌≡◌, ◌∷◌, [], ℕ, ◌<◌, length, List, Result, Ok, Err, true, ◌&&◌, Vec, Global, codes, sym, ap, ◌∙◌, subst}
use Rattle.std.specs.Prelude.{IfOk}
use Rattle.asl_model.specs.Shape as shapes
use Rattle.asl_model.specs.Machine.{Settings}
use Rattle.asl_model.specs.ShapeFlow as model
use Rattle.asl_numbered.specs.Expansion.{shape_at, AreDistinct, IsNumberOf, Keeps}
use Rattle.asl_numbered.specs.Laws.{kept_shape, own_number}
use Rattle.asl_flow.specs.Doubts.{cause_at, flow_view, IsFlowIn}
use Rattle.asl_shape_paths.specs.Doubts.{doubtful_view, found_view}
use Rattle.asl_flow.specs.Leaving.{FlowsTo, IsStopped}
use Rattle.asl_flow.specs.declared.doubts.Cause.{Cause}
use Rattle.asl_flow.specs.declared.doubts.Doubt.{Doubt}
use Rattle.asl_shape_paths.specs.declared.doubts.DoubtfulPath.{DoubtfulPath}
use Rattle.asl_flow.specs.declared.leaving.FlowFault.{FlowFault}

abbrev pub Answer : Type 0
Answer = Result ℕ (Vec Doubt Global)

-- ---- single answers

-- a number in the table
pub flow_within : (table : List shapes.Shape) (n : ℕ) → n < length table → IsFlowIn (length table) (Ok n)
flow_within table n within = record { within = within; some = tt; below = tt }

-- what comes through is its shape
pub flow_there : (table : List shapes.Shape) (flow : model.Flow) (n : ℕ) → flow ≡ Ok (shape_at table n) → n < length table → FlowsTo table flow (Ok n)
flow_there table flow n is within = record { same = is; within = flow_within table n within }

-- one cause stops it, where memory suffices
pub stops_where : {E : Type 0} (table : List shapes.Shape) (flow : model.Flow) (field : List ℕ) (cause : Cause) (r : Result Answer E) → flow ≡ Err (cause_at table field cause ∷ []) → IfOk r (λ one. (table : List shapes.Shape) → flow_view table one ≡ Err (cause_at table field cause ∷ [])) → IfOk r (IsFlowIn (length table)) → IfOk r (FlowsTo table flow)
stops_where table flow field cause (Ok one) is stops within = record { same = is ∙ sym (stops table); within = within }
stops_where table flow field cause (Err e) is stops within = tt

-- a number that is answered is its shape's
pub own_flow : (table : List shapes.Shape) (answer : Answer) → AreDistinct table → IsFlowIn (length table) answer → IfOk answer (λ n. IsNumberOf table (shape_at table n) n)
own_flow table (Ok n) distinct within = own_number table n distinct within.within
own_flow table (Err doubts) distinct within = tt

-- what two numbers come to is what their shapes do, where one was added after the other
module _ (one two : List shapes.Shape) (flow : shapes.Shape → shapes.Shape → model.Flow) (s t : shapes.Shape) (raw work : ℕ) (is : IsNumberOf one s raw) (keeps : Keeps one two) (also : IsNumberOf two t work) where
  same-flow : flow (shape_at two raw) (shape_at two work) ≡ flow s t
  same-flow =
      let own : shape_at two raw ≡ s = kept_shape one two raw keeps (is.within) ∙ is.same in
      ap (λ x. flow x (shape_at two work)) own ∙ ap (flow s) also.same

  -- a shape
  pub reached_through : (three : List shapes.Shape) (n : ℕ) (r : shapes.Shape) → flow (shape_at two raw) (shape_at two work) ≡ Ok (shape_at three n) → r ≡ shape_at three n → flow s t ≡ Ok r
  reached_through three n r h shown = sym same-flow ∙ h ∙ ap Ok (sym shown)

  -- or a fault
  pub stopped_through : (fault : FlowFault) → IsStopped (flow (shape_at two raw) (shape_at two work)) fault → IsStopped (flow s t) fault
  stopped_through fault h = subst (λ f. IsStopped f fault) same-flow h

-- ---- one step after the other

-- the second step, after the first
pub goes_on : (middle table : List shapes.Shape) (go_on : shapes.Shape → model.Flow) (first : model.Flow) (n : ℕ) (answer : Answer) → FlowsTo middle first (Ok n) → FlowsTo table (go_on (shape_at middle n)) answer → FlowsTo table (model.flow_then go_on first) answer
goes_on middle table go_on first n answer h next = rw h.same next

-- a step from a shape that stood in the table before
pub still_flows : (old middle table : List shapes.Shape) (go_on : shapes.Shape → model.Flow) (raw : ℕ) (answer : Answer) → Keeps old middle → raw < length old → FlowsTo table (go_on (shape_at middle raw)) answer → FlowsTo table (go_on (shape_at old raw)) answer
still_flows old middle table go_on raw answer keeps within h = subst (λ s. FlowsTo table (go_on s) answer) (kept_shape old middle raw keeps within) h

-- ---- a path

-- a doubtful path stops the shape
pub path_doubtful : (table : List shapes.Shape) (field : List ℕ) (found : Result shapes.Shape model.DoubtfulPath) (d : DoubtfulPath) → found ≡ found_view table (Err d) → model.path_flow field found ≡ Err (model.MissingAt field (doubtful_view table d) ∷ [])
path_doubtful table field found d is = ap (model.path_flow field) is

-- ---- the way of a result

module _ (settings : Settings) (old : List shapes.Shape) (raw work : ℕ) (there : (shapes.inhabited (shape_at old raw) && shapes.inhabited (shape_at old work)) ≡ true) where
  abbrev v : shapes.Shape
  v = shape_at old raw

  abbrev x : shapes.Shape
  x = shape_at old work

  abbrev selecting : model.Flow
  selecting = model.through_template (codes "ResultSelector") settings.result_selector x

  abbrev placing : shapes.Shape → shapes.Shape → model.Flow
  placing = model.through_placing (codes "ResultPath") settings.result_path

  module _ (one : List shapes.Shape) (n : ℕ) (keeps : Keeps old one) (within : raw < length old) (selected : FlowsTo one selecting (Ok n)) where
    placed : (table : List shapes.Shape) (answer : Answer) → FlowsTo table (placing (shape_at one raw) (shape_at one n)) answer → FlowsTo table (model.flow_then (placing v) selecting) answer
    placed table answer h = goes_on one table (placing v) selecting n answer selected (still_flows old one table (λ s. placing s (shape_at one n)) raw answer keeps within h)
