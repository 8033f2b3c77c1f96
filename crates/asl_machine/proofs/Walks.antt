-- What a walk over the members of an object finds under a name is what the look-up of that name gives.
use Rattle.std.proofs.Common.{◌≡◌, ℕ, List, [], Bool, true, false, if◌then◌else◌, Option, Some, None, option_map, unwrap_or, bytes_eq, codes, is_eq, Ordering, Less, Equal, Greater, refl, sym, ap, ◌∙◌}
use Rattle.std.specs.Cmp.Lexicographic.{slice_cmp}
use Rattle.std.specs.Ordering.{nat_cmp, match_ordering}
use Rattle.std.proofs.lemmas.Map.Text.{is_eq-slice_cmp}
use Rattle.serde_json.specs.Data as json
use Rattle.serde_json.specs.Data.{Data, Members}
use Rattle.serde_json.specs.Find.{get_member}
use Rattle.asl_model.specs.Machine.{NoScopes, NoStates}
use Rattle.asl_model.specs.StandsFor.{is_processor, states_in, states_under, scopes_in, each_scope, items_in, items_at, branches_under, processor_under, states_complaints, states_complaints_under, branches_complaints, branches_complaints_under}

-- ---- under one name

by_order : {A : Type 0} (f : Data → A) (d : A) (v : Data) (further : Option Data) (o : Ordering)
    → unwrap_or (option_map f (match_ordering o further (Some v) further)) d ≡ (if is_eq o then f v else unwrap_or (option_map f further) d)
by_order f d v further Less = refl
by_order f d v further Equal = refl
by_order f d v further Greater = refl

by_test : {A : Type 0} (here : Bool) (a b c : A) → b ≡ c → (elim here [ true ↦ a | false ↦ b ]) ≡ (if here then a else c)
by_test true a b c e = refl
by_test false a b c e = e

-- the step of such a walk: the first member of that name, or what the walk finds in the others
pub walk_step : {A : Type 0} (f : Data → A) (d : A) (field n : List ℕ) (v : Data) (ms : Members) (rest : A) → rest ≡ unwrap_or (option_map f (get_member field ms)) d
    → (elim (bytes_eq field n) [ true ↦ f v | false ↦ rest ]) ≡ unwrap_or (option_map f (get_member field (json.member n v ms))) d
walk_step f d field n v ms rest e =
    by_test (bytes_eq field n) (f v) rest _ e
    ∙ ap (λ here. if here then f v else unwrap_or (option_map f (get_member field ms)) d) (sym (is_eq-slice_cmp field n))
    ∙ sym (by_order f d v (get_member field ms) (slice_cmp nat_cmp field n))

pub states_under_get : (field : List ℕ) (ms : Members) → states_under field ms ≡ unwrap_or (option_map states_in (get_member field ms)) NoStates
states_under_get field json.no_members = refl
states_under_get field (json.member n v ms) = walk_step states_in NoStates field n v ms (states_under field ms) (states_under_get field ms)

pub branches_under_get : (ms : Members) → branches_under ms ≡ unwrap_or (option_map scopes_in (get_member (codes "Branches") ms)) NoScopes
branches_under_get json.no_members = refl
branches_under_get (json.member n v ms) = walk_step scopes_in NoScopes (codes "Branches") n v ms (branches_under ms) (branches_under_get ms)

pub states_complaints_under_get : (names : List (List ℕ)) (ms : Members) → states_complaints_under names ms ≡ unwrap_or (option_map (states_complaints names) (get_member (codes "States") ms)) []
states_complaints_under_get names json.no_members = refl
states_complaints_under_get names (json.member n v ms) =
    walk_step (states_complaints names) [] (codes "States") n v ms (states_complaints_under names ms) (states_complaints_under_get names ms)

pub branches_complaints_under_get : (state : List ℕ) (ms : Members) → branches_complaints_under state ms ≡ unwrap_or (option_map (branches_complaints state) (get_member (codes "Branches") ms)) []
branches_complaints_under_get state json.no_members = refl
branches_complaints_under_get state (json.member n v ms) =
    walk_step (branches_complaints state) [] (codes "Branches") n v ms (branches_complaints_under state ms) (branches_complaints_under_get state ms)

scopes_listed : (v : Data) → scopes_in v ≡ each_scope (items_in v)
scopes_listed json.null = refl
scopes_listed (json.boolean b) = refl
scopes_listed (json.number n) = refl
scopes_listed (json.string s) = refl
scopes_listed (json.array vs) = refl
scopes_listed (json.object ms) = refl

scopes_or_none : (o : Option Data) → unwrap_or (option_map scopes_in o) NoScopes ≡ each_scope (unwrap_or (option_map items_in o) json.no_items)
scopes_or_none None = refl
scopes_or_none (Some v) = scopes_listed v

-- the branches are the scopes of the elements of the field
pub branches_under_items : (ms : Members) → branches_under ms ≡ each_scope (items_at (codes "Branches") ms)
branches_under_items ms = branches_under_get ms ∙ scopes_or_none (get_member (codes "Branches") ms)

-- a member that isn't a processor is passed over
pub processor_past : (n : List ℕ) (v : Data) (ms : Members) → is_processor n ≡ false → processor_under (json.member n v ms) ≡ processor_under ms
processor_past n v ms other = rw other refl
