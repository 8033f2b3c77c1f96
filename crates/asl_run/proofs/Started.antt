-- A run's start, in the machine's table.
use Rattle.std.proofs.Common.{◌≡◌, refl, sym, ap, ◌∙◌, subst, ℕ, List, [], ◌∷◌, bytes_eq, position, slice_get, Option, Some, None, option_map}
use Rattle.std.specs.Option.{unwrap_or}
use Rattle.asl_machine_table.specs.Table.{Shows, table_view}
use Rattle.asl_machine_table.specs.declared.machine.Machine.{Machine}
use Rattle.asl_model.specs.Machine.{Scope, ScopeOf, NoStates, AndState, start_of}
use Rattle.asl_model.specs.Numbering.{Placement, Table, table_of, own_scope, HasNamed, IsWellNamed}
use Rattle.asl_model.specs.Run as model
use Rattle.asl_model.proofs.RunOptions.{some_inj, none_some}
use Rattle.asl_run.specs.Enabling.{Adds, AddsPlaces, open_in}
use Rattle.asl_run.specs.Standing.{name_in, no_name, StandsIn}
use Rattle.asl_run.specs.Nodes.{shown_at}
use Rattle.asl_processing.specs.declared.activities.Visit.{Visit}
use Rattle.asl_run.specs.declared.nodes.Node.{Node}
use Rattle.asl_run.specs.declared.nodes.Node.TheVariants.{Ready}
use Rattle.asl_tree.specs.View.{view}
use Rattle.asl_run.proofs.Leading.{HasNumber, has_number}
use Rattle.asl_run.proofs.OpenPlaces.{adds_to_none, enabled_is_open}

-- the start of the scope in which the first state of a table stands
abbrev first_start : Table → Option ℕ
first_start table = option_map (λ (p : Placement). p.start) (slice_get table.placements 0)

-- the first state stands in the machine's own scope
first_placed : (machine : Scope) → HasNamed machine (start_of machine) → first_start (table_of machine) ≡ Some (unwrap_or (position (bytes_eq (start_of machine)) (table_of machine).names) 0)
first_placed (ScopeOf start NoStates) h = absurd (cc)
first_placed (ScopeOf start (AndState n state others)) h = refl

-- so the start of its scope is the machine's
start_named : (machine : Scope) → IsWellNamed machine → (i : ℕ) → first_start (table_of machine) ≡ Some i → name_in (table_of machine).names i ≡ start_of machine
start_named machine well i e =
    let names = (table_of machine).names in
    let has : HasNumber names (start_of machine) = has_number machine machine well own_scope (start_of machine) well.leads.start in
    let number : has.number ≡ i = sym (ap (λ o. unwrap_or o 0) has.found) ∙ some_inj (sym (first_placed machine well.leads.start) ∙ e) in
    ap (name_in names) (sym number) ∙ ap (λ o. unwrap_or o (no_name names)) has.named

-- the machine's table has that start
pub start_found : (machine : Machine) (m : Scope) → Shows machine m → (p : Placement) → slice_get (table_view machine).placements 0 ≡ Some p → name_in (table_view machine).names p.start ≡ start_of m
start_found machine m shown p e =
    subst (λ (t : Table). slice_get t.placements 0 ≡ Some p → name_in t.names p.start ≡ start_of m) (sym shown.table)
    (λ f. start_named m shown.well_named p.start (ap (option_map (λ (q : Placement). q.start)) f)) e

-- it has one
pub start_missing : {A : Type 0} (machine : Machine) (m : Scope) → Shows machine m → slice_get (table_view machine).placements 0 ≡ None → A
start_missing {A = A} machine m shown e =
    subst (λ (t : Table). slice_get t.placements 0 ≡ None → A) (sym shown.table)
    (λ f. none_some (sym (ap (option_map (λ (q : Placement). q.start)) f) ∙ first_placed m shown.well_named.leads.start)) e

-- the table of one node that is about to enter the start
pub is_start : (m : Scope) (names : List (List ℕ)) (visit : Visit) (nodes : List Node) → nodes ≡ Ready visit ∷ [] → name_in names visit.state ≡ start_of m → visit.counts.items ≡ [] → shown_at names nodes 0 ≡ model.start m (view visit.raw.value)
is_start m names visit nodes is named none = ap (λ (l : List Node). shown_at names l 0) is ∙ ap (λ k. model.Ready k (view visit.raw.value) visit.counts.items) named ∙ ap (model.Ready (start_of m) (view visit.raw.value)) none

-- the places that were added to none are all that want an event
pub all_open : (nodes all : List Node) (i : ℕ) (place : List ℕ) (before after : List (List ℕ × model.Want)) → nodes ≡ all → i ≡ 0 → place ≡ [] → before ≡ [] → AddsPlaces nodes i place before after → (names : List (List ℕ)) → after ≡ open_in (shown_at names all 0)
all_open nodes all i place before after same first own none added names =
    let of : List Node → ℕ → List ℕ → List (List ℕ × model.Want) → Type 0 = λ l j p b. Adds p (open_in (shown_at names l j)) b after in
    adds_to_none (subst (λ b. of all 0 [] b) none (subst (λ p. of all 0 p before) own (subst (λ j. of all j place before) first (subst (λ l. of l i place before) same (added.adds names)))))

-- where all states stand in their scopes, an event is enabled at each of them
pub all_enabled : (m : Scope) (a : model.Activity) (found : List (List ℕ × model.Want)) → StandsIn a m → found ≡ open_in a → found ≡ model.enabled a m
all_enabled m a found stands same = same ∙ sym (enabled_is_open a m stands)
