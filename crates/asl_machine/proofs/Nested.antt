-- The states of a scope and of a state's branches, where the fields with them are looked up in the maps of their objects.
use Rattle.std.proofs.Common.{◌≡◌, ℕ, ◌+◌, add-one, List, [], ◌∷◌, ◌++◌, Option, Some, is_some, option_map, unwrap_or, true, false, codes, String, Global, BTreeMap, string_bytes, refl, sym, ap, ◌∙◌}
use Rattle.std.specs.BTreeMap.{is_at}
use Rattle.std.specs.Cmp.Lexicographic.{slice_cmp}
use Rattle.std.specs.Map.{lookup}
use Rattle.std.specs.Ordering.{nat_cmp}
use Rattle.serde_json.proofs.Views.{view-Object, view-lookup}
use Rattle.serde_json.specs.Data as json
use Rattle.serde_json.specs.Data.{Data}
use Rattle.serde_json.specs.Find.{get_member, as_object}
use Rattle.serde_json.specs.View.{view, items_view, members_view}
use Rattle.serde_json.specs.declared.value.Value.{Value, Object}
use Rattle.asl_model.specs.Machine.{NoStates, NoScopes}
use Rattle.asl_model.specs.Numbering.{Standing, standing_in, standing_among, standing_each}
use Rattle.asl_model.specs.StandsFor.{members_in, text_at, scope_of, states_in, states_under, state_of, each_state, scopes_in, each_scope, branches_under, processor_under, is_processor}
use Rattle.asl_machine.specs.Built.{owner_view, standing_with, Adds}
use Rattle.asl_machine.specs.declared.building.Home.{Home}
use Rattle.asl_machine.proofs.Added.{AddsBefore, some_more}
use Rattle.asl_machine.proofs.Walks.{states_under_get, branches_under_get, processor_past}

abbrev pub Member : Type 0
Member = String Global × Value

-- what a map that is an object has under a name
pub looked_up : (v : Value) (m : BTreeMap (String Global) Value) (name : List ℕ) (found : Option Value) → v ≡ Object m → found ≡ lookup (is_at (λ k. slice_cmp nat_cmp name (string_bytes k))) m.entries
    → get_member name (members_in (view v)) ≡ option_map view found
looked_up v m name found is e = ap (λ w. get_member name (members_in (view w))) is ∙ (ap (λ d. get_member name (members_in d)) (view-Object m) ∙ (sym (view-lookup name m.entries) ∙ ap (option_map view) (sym e)))

-- the states of a scope are those in its `States`
pub standing_of : (owner : Option (List ℕ × ℕ)) (v : Data) → standing_in owner (scope_of v) ≡ standing_among (unwrap_or (text_at (codes "StartAt") (members_in v)) []) owner (states_under (codes "States") (members_in v))
standing_of owner json.null = refl
standing_of owner (json.boolean b) = refl
standing_of owner (json.number n) = refl
standing_of owner (json.string s) = refl
standing_of owner (json.array vs) = refl
standing_of owner (json.object ms) = refl

-- what is no object has none
pub standing_of_none : (owner : Option (List ℕ × ℕ)) (v : Data) → is_some (as_object v) ≡ false → standing_in owner (scope_of v) ≡ []
standing_of_none owner json.null h = refl
standing_of_none owner (json.boolean b) h = refl
standing_of_none owner (json.number n) h = refl
standing_of_none owner (json.string s) h = refl
standing_of_none owner (json.array vs) h = refl
standing_of_none owner (json.object ms) h = absurd (cc)

pub standing_found : (home : Home) (v : Value) (m : BTreeMap (String Global) Value) (found : Option Value) → v ≡ Object m → found ≡ lookup (is_at (λ k. slice_cmp nat_cmp (codes "States") (string_bytes k))) m.entries
    → standing_among home.start.now (owner_view home.owner) (unwrap_or (option_map states_in (option_map view found)) NoStates) ≡ standing_among home.start.now (owner_view home.owner) (states_under (codes "States") (members_in (view v)))
standing_found home v m found is e =
    ap (standing_among home.start.now (owner_view home.owner)) (ap (λ o. unwrap_or (option_map states_in o) NoStates) (sym (looked_up v m (codes "States") found is e)) ∙ sym (states_under_get (codes "States") (members_in (view v))))

-- those of a Parallel's branches are in its `Branches`
pub standing_each_found : (name : List ℕ) (v : Value) (m : BTreeMap (String Global) Value) (found : Option Value) → v ≡ Object m → found ≡ lookup (is_at (λ k. slice_cmp nat_cmp (codes "Branches") (string_bytes k))) m.entries
    → standing_each name 0 (unwrap_or (option_map scopes_in (option_map view found)) NoScopes) ≡ standing_each name 0 (branches_under (members_in (view v)))
standing_each_found name v m found is e =
    ap (standing_each name 0) (ap (λ o. unwrap_or (option_map scopes_in o) NoScopes) (sym (looked_up v m (codes "Branches") found is e)) ∙ sym (branches_under_get (members_in (view v))))

-- those of a Map's processor are in the first member that is one
pub standing_processor : (owner : Option (List ℕ × ℕ)) (n : List ℕ) (e : Member) (es left others : List Member) → processor_under (members_view es) ≡ processor_under (members_view left) → left ≡ e ∷ others → n ≡ string_bytes e.0 → is_processor n ≡ true
    → standing_in owner (scope_of (view e.1)) ≡ standing_in owner (processor_under (members_view es))
standing_processor owner n e es left others all steps named here =
    let first : is_processor (string_bytes e.0) ≡ true = ap is_processor (sym named) ∙ here in
    ap (standing_in owner) (ap (λ b. elim b [ true ↦ scope_of (view e.1) | false ↦ processor_under (members_view others) ]) (sym first) ∙ (ap (λ es. processor_under (members_view es)) (sym steps) ∙ sym all))

-- a member that isn't one is passed over
pub processor_left : (n : List ℕ) (e : Member) (es left others : List Member) → processor_under (members_view es) ≡ processor_under (members_view left) → left ≡ e ∷ others → n ≡ string_bytes e.0 → is_processor n ≡ false
    → processor_under (members_view es) ≡ processor_under (members_view others)
processor_left n e es left others all steps named other =
    all ∙ ap (λ es. processor_under (members_view es)) steps ∙ processor_past (string_bytes e.0) (view e.1) (members_view others) (ap is_processor (sym named) ∙ other)

-- one more branch
pub each_more : (name : List ℕ) (i : ℕ) (vs more : List Value) (v : Value) (a b c all : List Standing) → vs ≡ v ∷ more → AddsBefore a b all (standing_each name i (each_scope (items_view vs))) → Adds b c (standing_in (Some (name, i)) (scope_of (view v)))
    → AddsBefore a c all (standing_each name (i + 1) (each_scope (items_view more)))
each_more name i vs more v a b c all split so_far added =
    some_more a b c all (standing_each name i (each_scope (items_view vs))) (standing_in (Some (name, i)) (scope_of (view v))) (standing_each name (i + 1) (each_scope (items_view more))) so_far (ap (λ xs. standing_each name i (each_scope (items_view xs))) split ∙ ap (λ j. standing_in (Some (name, i)) (scope_of (view v)) ++ standing_each name j (each_scope (items_view more))) (sym (add-one i))) added

-- those of the members of an object
abbrev pub members_standing : Home → List Member → List Standing
members_standing home es = standing_among home.start.now (owner_view home.owner) (each_state (members_view es))

-- one more state, and those of its own scopes
pub members_more : (home : Home) (e : Member) (es more : List Member) (n : List ℕ) (a b c all : List Standing) → es ≡ e ∷ more → n ≡ string_bytes e.0 → AddsBefore a b all (members_standing home es) → Adds b c (standing_with home n (state_of (view e.1)))
    → AddsBefore a c all (members_standing home more)
members_more home e es more n a b c all split named so_far added =
    some_more a b c all (members_standing home es) (standing_with home n (state_of (view e.1))) (members_standing home more) so_far
    (ap (members_standing home) split ∙ ap (λ m. standing_with home m (state_of (view e.1)) ++ members_standing home more) (sym named)) added
