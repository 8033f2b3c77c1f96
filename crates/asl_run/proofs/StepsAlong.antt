-- The step at a node, as one of the run: along the place from the machine's own on.
use Rattle.std.proofs.Common.{◌≡◌, refl, sym, ap, ◌∙◌, subst, arith, ℕ, List, [], ◌∷◌, slice_get, Option, Some, None, option_map, option_and_then, Result, Ok, Err, IfOk, IfErr, Vec, Global}
use Rattle.std.specs.Option.{unwrap_or}
use Rattle.asl_machine_table.specs.declared.machine.Machine.{Machine}
use Rattle.asl_model.specs.Run as model
use Rattle.asl_model.specs.Tree.{Null}
use Rattle.asl_model.proofs.RunOptions.{some_inj, none_some}
use Rattle.asl_tree.specs.View.{view}
use Rattle.asl_run.specs.Acting.{ActsSo}
use Rattle.asl_run.specs.Changing.{CanApply, IsApplied, IsChangedAt, changed}
use Rattle.asl_run.specs.Nodes.{IsTable, child_number, in_table, number_from, shown_at, shown_from, shown_over}
use Rattle.asl_run.specs.Standing.{children_of, name_in}
use Rattle.asl_run.specs.Stepping.{IsPlanned, RefusesThere, Steps, StepsAt, below_node}
use Rattle.asl_run.specs.declared.entries.Entry.{Entry}
use Rattle.asl_run.specs.declared.nodes.Node.{Node}
use Rattle.asl_run.specs.declared.planning.Plan.{Plan}
use Rattle.asl_run.specs.declared.stepping.StepRefusal.{StepRefusal}
use Rattle.asl_run.specs.declared.stepping.StepRefusal.TheVariants.{NoSuchPlace, OutOfMemory}
use Rattle.asl_run.proofs.Above.{IsAbove, place_above}
use Rattle.asl_run.proofs.ChangedTables.{child_shown, shown_on_the_way}
use Rattle.asl_run.proofs.StepsBelow.{steps_below}
use Rattle.asl_run.proofs.StepsHere.{refused_here, refused_there, taken_here}
use Rattle.asl_run.proofs.Tables.{IsChild, child_found, place_shown, shown_here}

-- a step at node j is one at its place
pub along : (machine : Machine) (at : List ℕ) (names : List (List ℕ)) (action : model.Action) (r : Result (Vec Entry Global) StepRefusal) (j : ℕ) (before after : List Node) (changed : IsChangedAt j before after)
    → Steps machine at [] (shown_at names before j) (shown_at names after j) action r
    → (place : List ℕ) (i : ℕ) → number_from before i place ≡ Some j → Steps machine at place (shown_at names before i) (shown_at names after i) action r
along machine at names action r j before after changed here [] i e = subst (λ n. Steps machine at [] (shown_at names before n) (shown_at names after n) action r) (sym (some_inj e)) here
along machine at names action r j before after changed here (k ∷ place) i e =
    by_child (child_number before i k) refl e (λ c f. along machine at names action r j before after changed here place c f)
  where
    through : (c : ℕ) → IsChild before i k c → IsAbove changed.table.parents j c → Steps machine at place (shown_at names before c) (shown_at names after c) action r → Steps machine at (k ∷ place) (shown_at names before i) (shown_at names after i) action r
    through c child above inner =
        let visit = child.visit in
        let n = name_in names visit.state in
        let children = children_of (in_table (Some child.children) (shown_from names 0 before)) in
        let shown = shown_on_the_way names j before after changed i k c child above in
        let whole = steps_below machine at place k n (view visit.raw.value) visit.counts.items children (shown_at names before c) (shown_at names after c) action r (child_shown names before changed.table i k c child) inner in
        subst (λ b. Steps machine at (k ∷ place) b (shown_at names after i) action r) (sym shown.0)
        (subst (λ b. Steps machine at (k ∷ place) (model.Split n (view visit.raw.value) visit.counts.items children) b action r) (sym shown.1) whole)

    by_child : (o : Option ℕ) → child_number before i k ≡ o → option_and_then (λ c. number_from before c place) o ≡ Some j → ((c : ℕ) → number_from before c place ≡ Some j → Steps machine at place (shown_at names before c) (shown_at names after c) action r)
        → Steps machine at (k ∷ place) (shown_at names before i) (shown_at names after i) action r
    by_child None f g inner = none_some g
    by_child (Some c) f g inner = through c (child_found before i k c f) (place_above before changed.table place c j g) (inner c g)

-- nothing is changed
unchanged_at : (j : ℕ) (nodes : List Node) → IsTable nodes → IsChangedAt j nodes nodes
unchanged_at j nodes table = record { table = table; still = table; others = λ i less other. refl; no_shorter = omega arith }

-- ---- the answers

-- there is no such place
pub no_such_place : (machine : Machine) (at : List ℕ) (action : model.Action) (nodes : List Node) → IsTable nodes → number_from nodes 0 at ≡ None → StepsAt machine at action nodes nodes (Err NoSuchPlace)
no_such_place machine at action nodes table none = record {
  whole = record {
    steps = λ m scope shown inside stands. record {
      taken = tt;
      refused = place_shown machine.names nodes table at 0 table.some ∙ ap (option_map (shown_at machine.names nodes)) none;
      unchanged = refl;
    };
  };
}

-- it is refused at the node there
pub refused_along : (machine : Machine) (at : List ℕ) (action : model.Action) (nodes : List Node) → IsTable nodes → (j : ℕ) (node : Node) → number_from nodes 0 at ≡ Some j → slice_get nodes j ≡ Some node → (refusal : StepRefusal)
    → RefusesThere machine (shown_over machine.names (below_node machine.names nodes node) node) action refusal → StepsAt machine at action nodes nodes (Err refusal)
refused_along machine at action nodes table j node number there refusal h = record {
  whole =
      let names = machine.names in
      let here : RefusesThere machine (shown_at names nodes j) action refusal = subst (λ a. RefusesThere machine a action refusal) (sym (shown_here names nodes table j node there)) h in
      along machine at names action (Err refusal) j nodes nodes (unchanged_at j nodes table) (refused_there machine at (shown_at names nodes j) action refusal here) at 0 number;
}

-- no plan was made for it
pub unplanned_along : (machine : Machine) (at : List ℕ) (action : model.Action) (nodes : List Node) → IsTable nodes → (j : ℕ) → number_from nodes 0 at ≡ Some j → (r : Result Plan StepRefusal) (refusal : StepRefusal) → r ≡ Err refusal → IsPlanned machine at action nodes j r → StepsAt machine at action nodes nodes (Err refusal)
unplanned_along machine at action nodes table j number r refusal is h =
    refused_along machine at action nodes table j h.node number h.there refusal (subst (λ x. IfErr x (λ f. RefusesThere machine (shown_over machine.names (below_node machine.names nodes h.node) h.node) action f)) is h.refused)

-- what is shown of the first
abbrev first_of : List model.Activity → model.Activity
first_of shown = unwrap_or (slice_get shown 0) (model.Ready [] Null [])

-- the plan that was made
pub planned_so : (machine : Machine) (at : List ℕ) (action : model.Action) (nodes : List Node) (j : ℕ) (r : Result Plan StepRefusal) (plan : Plan) → r ≡ Ok plan → (h : IsPlanned machine at action nodes j r) → ActsSo machine at action (below_node machine.names nodes h.node) h.node plan
planned_so machine at action nodes j r plan is h = subst (λ x. IfOk x (λ p. ActsSo machine at action (below_node machine.names nodes h.node) h.node p)) is h.planned

-- so what it changes can be changed
pub planned_can : (machine : Machine) (at : List ℕ) (action : model.Action) (nodes : List Node) (j : ℕ) (r : Result Plan StepRefusal) (plan : Plan) → r ≡ Ok plan → IsPlanned machine at action nodes j r → (node : Node) → slice_get nodes j ≡ Some node → CanApply node plan.change
planned_can machine at action nodes j r plan is h node e = subst (λ n. CanApply n plan.change) (some_inj (sym h.there ∙ e)) (planned_so machine at action nodes j r plan is h).rises

-- memory is refused when it is carried out
pub no_memory_along : (machine : Machine) (at : List ℕ) (action : model.Action) (nodes after : List Node) → IsTable nodes → (j : ℕ) → number_from nodes 0 at ≡ Some j → (r : Result Plan StepRefusal) (plan : Plan) → r ≡ Ok plan → IsPlanned machine at action nodes j r
    → ((names : List (List ℕ)) → shown_from names 0 after ≡ shown_from names 0 nodes) → StepsAt machine at action nodes after (Err OutOfMemory)
no_memory_along machine at action nodes after table j number r plan is h same =
    let names = machine.names in
    let acts = planned_so machine at action nodes j r plan is h in
    let left = refused_along machine at action nodes table j h.node number h.there OutOfMemory (refused_here machine at action (below_node machine.names nodes h.node) h.node plan acts) in
    record { whole = subst (λ xs. Steps machine at at (shown_at names nodes 0) (first_of xs) action (Err OutOfMemory)) (sym (same names)) left.whole }

-- it is carried out
pub taken_along : (machine : Machine) (at : List ℕ) (action : model.Action) (nodes after : List Node) → IsTable nodes → (j : ℕ) → number_from nodes 0 at ≡ Some j → (r : Result Plan StepRefusal) (plan : Plan) → r ≡ Ok plan → IsPlanned machine at action nodes j r
    → IsApplied j nodes plan.change after → (entries : Vec Entry Global) → entries ≡ plan.entries → StepsAt machine at action nodes after (Ok entries)
taken_along machine at action nodes after table j number r plan is h applied entries same = record {
  whole =
      let names = machine.names in
      let acts = planned_so machine at action nodes j r plan is h in
      let here = taken_here machine at action (below_node machine.names nodes h.node) h.node (shown_at names after j) plan entries same acts (λ visit e. applied.shows names h.node visit h.there e) in
      along machine at names action (Ok entries) j nodes after applied.at
      (subst (λ a. Steps machine at [] a (shown_at names after j) action (Ok entries)) (sym (shown_here names nodes table j h.node h.there)) here) at 0 number;
}
