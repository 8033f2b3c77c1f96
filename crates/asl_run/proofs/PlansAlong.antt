-- What is planned at a node of a table, over what is shown of its children.
use Rattle.std.proofs.Common.{◌≡◌, ◌<◌, ◌↔◌, sym, ap, subst, arith, ℕ, List, length, slice_get, Bool, true, false, IsTrue, Option, Some, None, Result, Ok, Err, IfOk}
use Rattle.asl_machine_table.specs.declared.machine.Machine.{Machine}
use Rattle.asl_model.specs.Run as model
use Rattle.asl_run.specs.Acting.{Acts}
use Rattle.asl_model.proofs.RunOptions.{none_some}
use Rattle.asl_run.specs.Counting.{open_count}
use Rattle.asl_run.specs.Enabling.{own_place, wanted_by}
use Rattle.asl_run.specs.Nodes.{AreHeads, IsTable, in_table, range_of, shown_at, shown_from, shown_over}
use Rattle.asl_run.specs.Standing.{children_of}
use Rattle.asl_run.specs.Stepping.{IsPlanned, below_node}
use Rattle.asl_run.specs.declared.nodes.Node.{Node}
use Rattle.asl_run.specs.declared.planning.Plan.{Plan}
use Rattle.asl_run.specs.declared.stepping.StepRefusal.TheVariants.{NotEnabled, OutOfMemory}
use Rattle.asl_run.proofs.StepsHere.{no_memory_here, not_here, so_unwanted, so_wanted, unwanted_here}
use Rattle.asl_run.proofs.OpenCounts.{split_counted}
use Rattle.asl_run.proofs.Tables.{heads_below, shown_here}

-- a plan, or none, is right whatever is shown of the children
abbrev pub PlansOver : Machine → List ℕ → model.Action → Node → List Node → Option Plan → Type 0
PlansOver machine at action node children plan = (below : List model.Activity) → AreHeads machine.names children below → Acts machine at action (children_of below) node plan

-- a kind of event is wanted or not, whatever is shown of the children
abbrev pub WantsOver : model.Action → Node → List Node → Bool → Type 0
WantsOver action node children wanted = (names : List (List ℕ)) (below : List model.Activity) → AreHeads names children below → IsTrue wanted ↔ (wanted_by (shown_over names (children_of below) node) ≡ Some (model.want_of action))

heads_there : (names : List (List ℕ)) (nodes : List Node) (node : Node) (children : List Node) → children ≡ in_table (range_of node) nodes → AreHeads names children (in_table (range_of node) (shown_from names 0 nodes))
heads_there names nodes node children are = subst (λ cs. AreHeads names cs (in_table (range_of node) (shown_from names 0 nodes))) (sym are) (heads_below names (range_of node) nodes)

-- one is made
pub plan_made : {E : Type 0} (machine : Machine) (at : List ℕ) (action : model.Action) (nodes : List Node) (i : ℕ) (node : Node) (children : List Node) → slice_get nodes i ≡ Some node → children ≡ in_table (range_of node) nodes
    → (plan : Plan) (made : Result (Option Plan) E) → made ≡ Ok (Some plan) → IfOk made (PlansOver machine at action node children) → IsPlanned machine at action nodes i (Ok plan)
plan_made {E = E} machine at action nodes i node children there are plan made is over =
    let known : IfOk {E = E} (Ok (Some plan)) (PlansOver machine at action node children) = subst (λ r. IfOk r (PlansOver machine at action node children)) is over in
    let names = machine.names in
    record {
      node = node;
      there = there;
      planned = (known (in_table (range_of node) (shown_from names 0 nodes)) (heads_there names nodes node children are)).planned;
      refused = tt;
    }

-- none is
pub plan_missing : {E : Type 0} (machine : Machine) (at : List ℕ) (action : model.Action) (nodes : List Node) (i : ℕ) (node : Node) (children : List Node) → slice_get nodes i ≡ Some node → children ≡ in_table (range_of node) nodes
    → (made : Result (Option Plan) E) → made ≡ Ok None → IfOk made (PlansOver machine at action node children) → IsPlanned machine at action nodes i (Err NotEnabled)
plan_missing {E = E} machine at action nodes i node children there are made is over =
    let known : IfOk {E = E} (Ok None) (PlansOver machine at action node children) = subst (λ r. IfOk r (PlansOver machine at action node children)) is over in
    let names = machine.names in
    record {
      node = node;
      there = there;
      planned = tt;
      refused = not_here machine at action (below_node machine.names nodes node) node (known (in_table (range_of node) (shown_from names 0 nodes)) (heads_there names nodes node children are));
    }

-- none is wanted
pub plan_unwanted : (machine : Machine) (at : List ℕ) (action : model.Action) (nodes : List Node) (i : ℕ) (node : Node) (children : List Node) → slice_get nodes i ≡ Some node → children ≡ in_table (range_of node) nodes
    → (wanted : Bool) → wanted ≡ false → WantsOver action node children wanted → IsPlanned machine at action nodes i (Err NotEnabled)
plan_unwanted machine at action nodes i node children there are wanted is over =
    let names = machine.names in
    record {
      node = node;
      there = there;
      planned = tt;
      refused = unwanted_here machine (shown_over names (below_node machine.names nodes node) node) action
          (so_unwanted wanted _ _ (over names (in_table (range_of node) (shown_from names 0 nodes)) (heads_there names nodes node children are)) is);
    }

-- memory is refused
pub plan_refused : (machine : Machine) (at : List ℕ) (action : model.Action) (nodes : List Node) (i : ℕ) (node : Node) (children : List Node) → slice_get nodes i ≡ Some node → children ≡ in_table (range_of node) nodes
    → (wanted : Bool) → wanted ≡ true → WantsOver action node children wanted → IsPlanned machine at action nodes i (Err OutOfMemory)
plan_refused machine at action nodes i node children there are wanted is over =
    let names = machine.names in
    record {
      node = node;
      there = there;
      planned = tt;
      refused = no_memory_here machine (shown_over names (below_node machine.names nodes node) node) action
          (so_wanted wanted _ _ (over names (in_table (range_of node) (shown_from names 0 nodes)) (heads_there names nodes node children are)) is);
    }

wants_counts : (a : model.Activity) (want : model.Want) → wanted_by a ≡ Some want → 0 < open_count a
wants_counts (model.Ready n raw counts) want e = omega arith
wants_counts (model.Waiting n raw counts payload) want e = omega arith
wants_counts (model.Split n raw counts children) want e =
    let own : length (own_place (wanted_by (model.Split n raw counts children))) ≡ 1 = ap (λ w. length (own_place w)) e in
    let whole = split_counted n raw counts children in
    omega (arith, own, whole)
wants_counts (model.Done output) want e = none_some e
wants_counts (model.Failed error cause) want e = none_some e

-- where an event is wanted, a place is counted
pub plan_wanted : (action : model.Action) (nodes : List Node) → IsTable nodes → (i : ℕ) (node : Node) (children : List Node) → slice_get nodes i ≡ Some node → children ≡ in_table (range_of node) nodes
    → (wanted : Bool) → wanted ≡ true → WantsOver action node children wanted → (names : List (List ℕ)) → 0 < open_count (shown_at names nodes i)
plan_wanted action nodes table i node children there are wanted is over names =
    let below = in_table (range_of node) (shown_from names 0 nodes) in
    let wants = so_wanted wanted _ _ (over names below (heads_there names nodes node children are)) is in
    subst (λ a. 0 < open_count a) (sym (shown_here names nodes table i node there)) (wants_counts (shown_over names (children_of below) node) (model.want_of action) wants)
