-- How many places want an event, where a node is changed: all that is kept of a run stays so.
use Rattle.std.proofs.Common.{◌≡◌, ◌≤◌, refl, sym, ap, ◌∙◌, arith, ℕ, zero, suc, ◌+◌, Bool, true, false, if◌then◌else◌, List, [], ◌∷◌, length, map, slice_get, Option, Some, None, option_and_then}
use Rattle.asl_model.specs.Run.{Activity, Activities, NoActivities, AndActivity, Split, Joining, AllDone, OneFailed, StillRunning, joining, child_at, set_child}
use Rattle.asl_model.proofs.RunOptions.{some_inj, none_some}
use Rattle.asl_tree.specs.View.{view}
use Rattle.asl_processing.specs.Activities.{ready_view}
use Rattle.asl_run.specs.Changing.{changed, children_in}
use Rattle.asl_run.specs.Counting.{IsFar, open_among, open_count, own_count_of, own_count_so}
use Rattle.asl_run.specs.Enabling.{has_ended, is_joinable}
use Rattle.asl_run.specs.Nodes.{IsTable, child_number, in_table, number_from, shown_at, shown_from}
use Rattle.asl_run.specs.Standing.{children_of, name_in}
use Rattle.asl_processing.specs.declared.activities.Visit.{Visit}
use Rattle.asl_run.specs.declared.changing.Change.{Change}
use Rattle.asl_run.specs.declared.changing.Change.TheVariants.{Enter, End, Ask, SplitInto, Retry}
use Rattle.asl_run.specs.declared.entries.Outcome.TheVariants as outcomes
use Rattle.asl_run.specs.declared.nodes.Children.{Children}
use Rattle.asl_run.specs.declared.nodes.Node.{Node}
use Rattle.asl_run.specs.declared.nodes.Node.TheVariants as nodes
use Rattle.asl_run.specs.declared.nodes.NodeNumber.{NodeNumber}
use Rattle.asl_run.specs.declared.standing.Progress.{Progress}
use Rattle.asl_run.proofs.ChangedTables.{child_shown}
use Rattle.asl_run.proofs.FarEnough.{far_enough}
use Rattle.asl_run.proofs.OpenCounts.{own_count, same_joining, split_counted}
use Rattle.asl_run.proofs.Tables.{IsChild, child_found, shown_here}

-- ---- no more below than at all

among_at_least : (k : ℕ) (children : Activities) (child : Activity) → child_at k children ≡ Some child → open_count child ≤ open_among children
among_at_least k NoActivities child e = none_some e
among_at_least zero (AndActivity c others) child e = let same = ap open_count (some_inj e) in omega (arith, same)
among_at_least (suc k) (AndActivity c others) child e = let rest = among_at_least k others child e in omega (arith, rest)

-- at a node, by its child
pub below_split : (names : List (List ℕ)) (nodes : List Node) → IsTable nodes → (i k c : ℕ) (child : IsChild nodes i k c)
    → own_count (joining 0 (children_of (in_table (Some child.children) (shown_from names 0 nodes)))) + open_count (shown_at names nodes c) ≤ open_count (shown_at names nodes i)
below_split names all table i k c child =
    let visit = child.visit in
    let children = children_of (in_table (Some child.children) (shown_from names 0 all)) in
    let shown = ap open_count (shown_here names all table i (nodes.Split visit child.children) child.stands) in
    let whole = split_counted (name_in names visit.state) (view visit.raw.value) visit.counts.items children in
    let among = among_at_least k children (shown_at names all c) (child_shown names all table i k c child) in
    omega (arith, shown, whole, among)

-- along a place
pub below_place : (names : List (List ℕ)) (nodes : List Node) → IsTable nodes → (place : List ℕ) (i q : ℕ) → number_from nodes i place ≡ Some q → open_count (shown_at names nodes q) ≤ open_count (shown_at names nodes i)
below_place names nodes table [] i q e = let same = ap (λ n. open_count (shown_at names nodes n)) (some_inj e) in omega (arith, same)
below_place names nodes table (k ∷ place) i q e = by_child (child_number nodes i k) refl e (λ c f. below_place names nodes table place c q f)
  where
    by_child : (o : Option ℕ) → child_number nodes i k ≡ o → option_and_then (λ c. number_from nodes c place) o ≡ Some q → ((c : ℕ) → number_from nodes c place ≡ Some q → open_count (shown_at names nodes q) ≤ open_count (shown_at names nodes c))
        → open_count (shown_at names nodes q) ≤ open_count (shown_at names nodes i)
    by_child None f g below = none_some g
    by_child (Some c) f g below = omega (arith, below c g, below_split names nodes table i k c (child_found nodes i k c f))

-- ---- what is noted of the parent

own_of : (j : Joining) → own_count j ≡ (if is_joinable j then 1 else 0)
own_of (AllDone outputs) = refl
own_of (OneFailed i error cause) = refl
own_of StillRunning = refl

pub noted_own : (names : List (List ℕ)) (nodes : List Node) → IsTable nodes → (progress : List Progress) (q : NodeNumber) (children : Children) (far : Progress) → children.first.0 + children.count ≤ length nodes → slice_get progress q.0 ≡ Some far → IsFar nodes children far
    → own_count_of progress (Some q) ≡ own_count (joining 0 (children_of (in_table (Some children) (shown_from names 0 nodes))))
noted_own names nodes table progress q children far within there noted =
    ap own_count_so there
    ∙ ap (λ b. if b then 1 else 0) (sym (far_enough names nodes table children within far noted))
    ∙ sym (own_of (joining 0 (children_of (in_table (Some children) (shown_from names 0 nodes)))))

-- ---- what a change opens

-- 1 where a scope ends
abbrev pub ends : Activity → ℕ
ends a = if has_ended a then 1 else 0

among_ready : (names : List (List ℕ)) (visits : List Visit) → open_among (children_of (map (ready_view names) visits)) ≡ length visits
among_ready names [] = refl
among_ready names (visit ∷ visits) = let rest = among_ready names visits in omega (arith, rest)

own_at_most : (j : Joining) → own_count j ≤ 1
own_at_most (AllDone outputs) = omega arith
own_at_most (OneFailed i error cause) = omega arith
own_at_most StillRunning = omega arith

split_opens : (names : List (List ℕ)) (visit : Visit) (visits : List Visit) → open_count (Split (name_in names visit.state) (view visit.raw.value) visit.counts.items (children_of (map (ready_view names) visits))) ≤ 1 + length visits
split_opens names visit visits =
    let children = children_of (map (ready_view names) visits) in
    let whole = split_counted (name_in names visit.state) (view visit.raw.value) visit.counts.items children in
    omega (arith, whole, among_ready names visits, own_at_most (joining 0 children))

pub few_opened : (names : List (List ℕ)) (visit : Visit) (change : Change) → open_count (changed names visit change) + ends (changed names visit change) ≤ 1 + children_in change
few_opened names visit (Enter entered) = omega arith
few_opened names visit (End (outcomes.Output t)) = omega arith
few_opened names visit (End (outcomes.Failed error cause)) = omega arith
few_opened names visit (Ask payload) = omega arith
few_opened names visit (SplitInto visits) = let few = split_opens names visit visits.items in omega (arith, few)
few_opened names visit (Retry retrier) = omega arith

-- the parent's own place is one more only where its child ends
pub own_grows : (k : ℕ) (children : Activities) (child other : Activity) → child_at k children ≡ Some child → has_ended child ≡ false → own_count (joining 0 (set_child k other children)) ≤ own_count (joining 0 children) + ends other
own_grows k children child other e goes = by (has_ended other) refl
  where
    by : (b : Bool) → has_ended other ≡ b → own_count (joining 0 (set_child k other children)) ≤ own_count (joining 0 children) + ends other
    by true f = let one : ends other ≡ 1 = ap (λ c. if c then 1 else 0) f in omega (arith, one, own_at_most (joining 0 (set_child k other children)))
    by false f = let same = ap own_count (same_joining k 0 children child other e goes f) in omega (arith, same)
