-- The rules of a state need the starts of its scopes alone, and not their states.
use Rattle.std.proofs.Common.{◌≡◌, refl, sym, ap, ◌∙◌, ℕ, suc, List, [], ◌++◌, not, ◌&&◌, ◌||◌, ◌==◌, length, is_some, is_none, if◌then◌else◌, Option, Some, None, codes}
use mathlib.Core.Path.{fun_ext}
use Rattle.asl_model.specs.Path.{Segment}
use Rattle.asl_model.specs.Template.{Template}
use Rattle.asl_model.specs.Machine.{Settings, Scope, State, StateOf, Kind, Pass, Task, Choice, Wait, Succeed, Fail, Parallel, Map, Scopes, NoScopes, AndScope, kind_of, settings_of, how_many, is_task}
use Rattle.asl_model.specs.Shape.{Shape, Shapes, inhabited}
use Rattle.asl_model.specs.ShapeFlow.{found}
use Rattle.asl_model.specs.Certificate.{TaskShapes, Declared, StateShapes}
use Rattle.asl_model.specs.Finding.{Surroundings, surrounded_by, where_certified, Breach, NotCertified, TaskUndeclared, breach_unless, has_form, is_certified, entry_breaches, element_shape, item_flow, effective_flow, flow_breaches}
use Rattle.asl_model.proofs.EdgesBreached.{walked_breaches}
use Rattle.asl_model.proofs.FlowRules.{with_items, child_breaches, branch_breaches, map_breaches, work_breaches, settled_breaches, catcher_breaches, breaches_then, rules_on_flow}
use Rattle.asl_model.specs.Numbering.{outline, kind_outline, scope_outline, scopes_outline}

-- ---- the entry

pub how-many-outlined : (branches : Scopes) → how_many (scopes_outline branches) ≡ how_many branches
how-many-outlined NoScopes = refl
how-many-outlined (AndScope scope others) = ap suc (how-many-outlined others)

form-outlined : (kind : Kind) (entry : StateShapes) → has_form (kind_outline kind) entry ≡ has_form kind entry
form-outlined (Pass result) entry = refl
form-outlined (Task resource) entry = refl
form-outlined (Choice rules default) entry = refl
form-outlined (Wait delay) entry = refl
form-outlined Succeed entry = refl
form-outlined (Fail error cause) entry = refl
form-outlined (Parallel branches) entry = ap (λ n. (length entry.branches == n) && is_none entry.item) (how-many-outlined branches)
form-outlined (Map items selector processor) entry = refl

certified-outlined : (kind : Kind) (entry : Option StateShapes) → is_certified (kind_outline kind) entry ≡ is_certified kind entry
certified-outlined kind None = refl
certified-outlined kind (Some entry) = form-outlined kind entry

task-outlined : (kind : Kind) → is_task (kind_outline kind) ≡ is_task kind
task-outlined (Pass result) = refl
task-outlined (Task resource) = refl
task-outlined (Choice rules default) = refl
task-outlined (Wait delay) = refl
task-outlined Succeed = refl
task-outlined (Fail error cause) = refl
task-outlined (Parallel branches) = refl
task-outlined (Map items selector processor) = refl

-- the rules on a state's entry
pub entry-outlined : (state : State) (entry : Option StateShapes) (task : Option TaskShapes) → entry_breaches (kind_of (outline state)) entry task ≡ entry_breaches (kind_of state) entry task
entry-outlined (StateOf settings kind) entry task =
    ap (λ b. breach_unless b (codes "states") NotCertified ++ breach_unless (not (is_task (kind_outline kind)) || is_some task) (codes "Resource") TaskUndeclared) (certified-outlined kind entry)
    ∙ ap (λ b. breach_unless (is_certified kind entry) (codes "states") NotCertified ++ breach_unless (not b || is_some task) (codes "Resource") TaskUndeclared) (task-outlined kind)

-- ---- what flows through the state

branches-outlined : (inputs : List ℕ → Option Shape) (branches : Scopes) (s : Shape) → branch_breaches inputs (scopes_outline branches) s ≡ branch_breaches inputs branches s
branches-outlined inputs NoScopes s = refl
branches-outlined inputs (AndScope scope others) s = ap (λ rest. child_breaches inputs (codes "Branches") scope s ++ rest) (branches-outlined inputs others s)

module _ (around : Surroundings) (settings : Settings) where
  map-outlined : (items : List Segment) (selector : Option Template) (processor : Scope) (item : Option Shape) (elements : Shapes × Shape) → map_breaches around settings (Map items selector (scope_outline processor)) item elements ≡ map_breaches around settings (Map items selector processor) item elements
  map-outlined items selector processor None elements = refl
  map-outlined items selector processor (Some item) elements = refl

  work-outlined : (kind : Kind) (s : Shape) → work_breaches around settings (kind_outline kind) s ≡ work_breaches around settings kind s
  work-outlined (Pass None) s = refl
  work-outlined (Pass (Some t)) s = refl
  work-outlined (Task resource) s = refl
  work-outlined (Choice rules default) s = refl
  work-outlined (Wait delay) s = refl
  work-outlined Succeed s = refl
  work-outlined (Fail error cause) s = refl
  work-outlined (Parallel branches) s = branches-outlined around.inputs branches s
  work-outlined (Map items selector processor) s =
      ap (λ go_on. with_items go_on (found items s)) (fun_ext (λ (elements : Shapes × Shape). ap (λ rest. breaches_then (child_breaches around.inputs (codes "ItemProcessor") processor) (item_flow selector s (element_shape elements.0 elements.1)) ++ rest) (map-outlined items selector processor around.entry.item elements)))

  settled-outlined : (kind : Kind) → settled_breaches around settings (kind_outline kind) ≡ settled_breaches around settings kind
  settled-outlined (Pass None) = refl
  settled-outlined (Pass (Some t)) = refl
  settled-outlined (Task resource) = refl
  settled-outlined (Choice rules default) = refl
  settled-outlined (Wait delay) = refl
  settled-outlined Succeed = refl
  settled-outlined (Fail error cause) = refl
  settled-outlined (Parallel branches) = refl
  settled-outlined (Map items selector processor) = refl

  -- the rules of a state with an around.entry, by what comes of its effective input and what is settled
  abbrev all_of : (Shape → List Breach) → List Breach → List Breach
  all_of work settled = if inhabited around.entry.input then breaches_then work (effective_flow settings around.entry.input) ++ (settled ++ catcher_breaches around.inputs around.entry.input settings.catchers) else []

  kind-outlined : (kind : Kind) → rules_on_flow around settings (kind_outline kind) ≡ rules_on_flow around settings kind
  kind-outlined kind =
      ap (λ work. all_of work (settled_breaches around settings (kind_outline kind))) (fun_ext (λ (s : Shape). work-outlined kind s))
      ∙ ap (all_of (work_breaches around settings kind)) (settled-outlined kind)

-- the rules on what flows through a state
pub flow-outlined : (around : Surroundings) (state : State) → flow_breaches around (settings_of (outline state)) (kind_of (outline state)) ≡ flow_breaches around (settings_of state) (kind_of state)
flow-outlined around (StateOf settings kind) = walked_breaches around settings (kind_outline kind) ∙ kind-outlined around settings kind ∙ sym (walked_breaches around settings kind)

-- so where an entry is certified
pub flow-outlined_where : (declared : Declared) (inputs : List ℕ → Option Shape) (end : Option Shape) (n : List ℕ) (state : State) (entry : Option StateShapes)
    → where_certified (λ own. flow_breaches (surrounded_by declared inputs end n own) (settings_of (outline state)) (kind_of (outline state))) entry ≡ where_certified (λ own. flow_breaches (surrounded_by declared inputs end n own) (settings_of state) (kind_of state)) entry
flow-outlined_where declared inputs end n state None = refl
flow-outlined_where declared inputs end n state (Some entry) = flow-outlined (surrounded_by declared inputs end n entry) state
