-- The tasks that wait in a run, and what stands at other places.
use Rattle.std.proofs.Common.{◌≡◌, ◌≢◌, ℕ, Global, List, [], ◌∷◌, Option, Some, None, option_map, option_and_then, slice_get, refl, sym, ap, ◌∙◌, subst}
use Rattle.std.specs.Option.{unwrap_or}
use Rattle.std.specs.declared.rc.Rc.{Rc}
use Rattle.asl_model.specs.Machine.{Scope}
use Rattle.asl_model.specs.Numbering.{IsScopeOf, own_scope, IsWellNamed, table_of}
use Rattle.asl_model.specs.Run as model
use Rattle.asl_model.specs.Run.{activity_at, child_at, scope_below}
use Rattle.asl_model.proofs.RunOptions.{some_inj, none_some}
use Rattle.asl_model.proofs.RunStands.{child_stands, scope_inside}
use Rattle.asl_run.proofs.Leading.{IsFound, is_found}
use Rattle.asl_run.proofs.Tables.{place_shown, shown_here}
use Rattle.asl_run.specs.Nodes.{IsTable, in_table, number_from, range_of, shown_at, shown_from, shown_over}
use Rattle.asl_run.specs.Standing.{StandsIn, children_of, name_in, no_name}
use Rattle.asl_run.specs.Waiting.{WaitsAt, NoneWaitsAt}
use Rattle.asl_processing.specs.declared.activities.Visit.{Visit}
use Rattle.asl_run.specs.declared.entries.Outcome.{Outcome}
use Rattle.asl_run.specs.declared.entries.Outcome.TheVariants as outcomes
use Rattle.asl_run.specs.declared.nodes.Children.{Children}
use Rattle.asl_run.specs.declared.nodes.Node.{Node}
use Rattle.asl_run.specs.declared.nodes.Node.TheVariants as nodes
use Rattle.asl_run.specs.declared.nodes.NodeNumber.{NodeNumber}
use Rattle.asl_run.specs.declared.waiting.Asked.{Asked}
use Rattle.asl_tree.specs.declared.Tree.{Tree}
use Rattle.asl_tree.specs.View as trees

-- ---- what stands at a place

-- the node of its number
pub node_stands : (names : List (List ℕ)) (nodes : List Node) → IsTable nodes → (place : List ℕ) (number : Option NodeNumber) (n : NodeNumber) (node : Node) → option_map (λ m. m.0) number ≡ number_from nodes 0 place → number ≡ Some n → slice_get nodes n.0 ≡ Some node
    → activity_at place (shown_at names nodes 0) ≡ Some (shown_over names (children_of (in_table (range_of node) (shown_from names 0 nodes))) node)
node_stands names nodes table place number n node found is there =
    place_shown names nodes table place 0 table.some ∙ ap (option_map (shown_at names nodes)) (sym found ∙ ap (option_map (λ m. m.0)) is) ∙ ap Some (shown_here names nodes table n.0 node there)

-- none where there is no such place
pub nothing_stands : (names : List (List ℕ)) (nodes : List Node) → IsTable nodes → (place : List ℕ) (number : Option NodeNumber) → option_map (λ m. m.0) number ≡ number_from nodes 0 place → number ≡ None → activity_at place (shown_at names nodes 0) ≡ None
nothing_stands names nodes table place number found is =
    place_shown names nodes table place 0 table.some ∙ ap (option_map (shown_at names nodes)) (sym found ∙ ap (option_map (λ m. m.0)) is)

-- a task that is found at a place waits there
pub task_waits : (names : List (List ℕ)) (place : List ℕ) (a : model.Activity) (below : model.Activities) (node : Node) (visit : Visit) (payload : Rc Tree Global) (asked : Asked)
    → activity_at place a ≡ Some (shown_over names below node) → node ≡ nodes.Waiting visit payload → asked.state ≡ visit.state → slice_get names visit.state ≡ Some asked.name.now → asked.payload.now ≡ payload.value → WaitsAt names place a asked
task_waits names place a below node visit payload asked stands waits same named paid =
    let name : name_in names visit.state ≡ asked.name.now = ap (λ o. unwrap_or o (no_name names)) named in
    let view : shown_over names below node ≡ model.Waiting asked.name.now (trees.view visit.raw.value) visit.counts.items (trees.view asked.payload.now) =
    ap (shown_over names below) waits ∙ rw (name, paid) refl in
    record {
      raw = trees.view visit.raw.value;
      counts = visit.counts.items;
      numbered = ap (slice_get names) same ∙ named;
      waits = stands ∙ ap Some view;
    }

-- ---- where none waits

-- where there is no such place
pub none_without_place : (place : List ℕ) (a : model.Activity) → activity_at place a ≡ None → NoneWaitsAt place a
none_without_place place a stands = record { none = λ n raw counts payload e. none_some (sym stands ∙ e) }

none_at : (place : List ℕ) (a b : model.Activity) → activity_at place a ≡ Some b → ((n : List ℕ) (raw : _) (counts : List ℕ) (payload : _) → b ≢ model.Waiting n raw counts payload) → NoneWaitsAt place a
none_at place a b stands other = record { none = λ n raw counts payload e. other n raw counts payload (some_inj (sym stands ∙ e)) }

-- where a state is ready
pub none_where_ready : (names : List (List ℕ)) (place : List ℕ) (a : model.Activity) (below : model.Activities) (node : Node) (visit : Visit) → activity_at place a ≡ Some (shown_over names below node) → node ≡ nodes.Ready visit → NoneWaitsAt place a
none_where_ready names place a below node visit stands ready =
    none_at place a (shown_over names below (nodes.Ready visit)) (stands ∙ ap (λ n. Some (shown_over names below n)) ready) (λ n raw counts payload e. absurd (cc))

ended_otherwise : (names : List (List ℕ)) (below : model.Activities) (outcome : Outcome) (n : List ℕ) (raw : _) (counts : List ℕ) (payload : _) → shown_over names below (nodes.Ended outcome) ≢ model.Waiting n raw counts payload
ended_otherwise names below (outcomes.Output t) n raw counts payload e = absurd (cc)
ended_otherwise names below (outcomes.Failed error cause) n raw counts payload e = absurd (cc)

-- where a scope has ended
pub none_where_ended : (names : List (List ℕ)) (place : List ℕ) (a : model.Activity) (below : model.Activities) (node : Node) (outcome : Outcome) → activity_at place a ≡ Some (shown_over names below node) → node ≡ nodes.Ended outcome → NoneWaitsAt place a
none_where_ended names place a below node outcome stands ended =
    none_at place a (shown_over names below (nodes.Ended outcome)) (stands ∙ ap (λ n. Some (shown_over names below n)) ended) (ended_otherwise names below outcome)

-- where a state is split
pub none_where_split : (names : List (List ℕ)) (place : List ℕ) (a : model.Activity) (below : model.Activities) (node : Node) (visit : Visit) (children : Children) → activity_at place a ≡ Some (shown_over names below node) → node ≡ nodes.Split visit children → NoneWaitsAt place a
none_where_split names place a below node visit children stands split =
    none_at place a (shown_over names below (nodes.Split visit children)) (stands ∙ ap (λ n. Some (shown_over names below n)) split) (λ n raw counts payload e. absurd (cc))

-- the activity stands in a scope of the machine
record StandsWithin (machine : Scope) (a : model.Activity) : Type 0 where
  scope : Scope
  is : IsScopeOf machine scope
  stands : StandsIn a scope

below : (machine : Scope) (child : Option model.Activity) (p : List ℕ) (b : model.Activity) → option_and_then (activity_at p) child ≡ Some b → ((c : model.Activity) → child ≡ Some c → activity_at p c ≡ Some b → StandsWithin machine b) → StandsWithin machine b
below machine None p b e further = none_some e
below machine (Some c) p b e further = further c refl e

stands_within : (machine : Scope) (p : List ℕ) (scope : Scope) → IsScopeOf machine scope → (a b : model.Activity) → StandsIn a scope → activity_at p a ≡ Some b → StandsWithin machine b
stands_within machine [] scope inside a b h e = record { scope = scope; is = inside; stands = subst (λ x. StandsIn x scope) (some_inj e) h }
stands_within machine (i ∷ p) scope inside (model.Ready n raw counts) b h e = none_some e
stands_within machine (i ∷ p) scope inside (model.Waiting n raw counts payload) b h e = none_some e
stands_within machine (i ∷ p) scope inside (model.Split n raw counts children) b h e =
    below machine (child_at i children) p b e (λ c is f. stands_within machine p (scope_below scope n i) (scope_inside machine scope inside n h.0 i) c b (child_stands i children (scope_below scope n) c is h.1) f)
stands_within machine (i ∷ p) scope inside (model.Done output) b h e = none_some e
stands_within machine (i ∷ p) scope inside (model.Failed error cause) b h e = none_some e

-- a state that waits in a run of a machine has a name there
pub waiting_is_named : (machine : Scope) → IsWellNamed machine → (place : List ℕ) (a : model.Activity) (i : ℕ) (raw : _) (counts : List ℕ) (payload : _) → StandsIn a machine
    → activity_at place a ≡ Some (model.Waiting (name_in (table_of machine).names i) raw counts payload) → slice_get (table_of machine).names i ≡ None → ⊥
waiting_is_named machine well place a i raw counts payload h e none =
    let at : StandsWithin machine (model.Waiting (name_in (table_of machine).names i) raw counts payload) = stands_within machine place machine own_scope a (model.Waiting (name_in (table_of machine).names i) raw counts payload) h e in
    let found : IsFound machine at.scope i = is_found machine at.scope well at.is i at.stands in
    none_some (sym none ∙ found.name)

-- so a task whose state has no name waits nowhere
pub unnamed_waits_nowhere : (m : Scope) (names : List (List ℕ)) (place : List ℕ) (a : model.Activity) (below : model.Activities) (node : Node) (visit : Visit) (payload : Rc Tree Global) → names ≡ (table_of m).names → IsWellNamed m → StandsIn a m
    → activity_at place a ≡ Some (shown_over names below node) → node ≡ nodes.Waiting visit payload → slice_get names visit.state ≡ None → NoneWaitsAt place a
unnamed_waits_nowhere m names place a below node visit payload same well h stands waits none =
    let there : activity_at place a ≡ Some (model.Waiting (name_in names visit.state) (trees.view visit.raw.value) visit.counts.items (trees.view payload.value)) = stands ∙ ap (λ n. Some (shown_over names below n)) waits in
    absurd (waiting_is_named m well place a visit.state (trees.view visit.raw.value) visit.counts.items (trees.view payload.value) h
    (subst (λ ns. activity_at place a ≡ Some (model.Waiting (name_in ns visit.state) (trees.view visit.raw.value) visit.counts.items (trees.view payload.value))) same there)
    (subst (λ ns. slice_get ns visit.state ≡ None) same none))
