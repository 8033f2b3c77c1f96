-- The names of the states of scopes, where the fields with them are looked up in the maps of their objects.
use Rattle.std.proofs.Common.{◌≡◌, ℕ, List, [], ◌∷◌, ◌++◌, Option, None, is_some, option_map, unwrap_or, true, false, codes, String, Global, BTreeMap, string_bytes, refl, sym, ap, ◌∙◌}
use Rattle.std.specs.BTreeMap.{is_at}
use Rattle.std.specs.Cmp.Lexicographic.{slice_cmp}
use Rattle.std.specs.Map.{lookup}
use Rattle.std.specs.Ordering.{nat_cmp}
use Rattle.serde_json.specs.Data as json
use Rattle.serde_json.specs.Data.{Data}
use Rattle.serde_json.specs.Find.{as_object}
use Rattle.serde_json.specs.View.{view, members_view}
use Rattle.serde_json.specs.declared.value.Value.{Value, Object}
use Rattle.asl_model.specs.DefinitionTable.{NotObject}
use Rattle.asl_model.specs.Machine.{NoStates, NoScopes}
use Rattle.asl_model.specs.StandsFor.{type_of, state_by, complaint_at, place_of_state, state_complaints, members_in, scope_of, states_in, states_under, state_of, each_state, scopes_in, branches_under, processor_under, is_processor, all_names, names_among, names_within, names_of_scopes}
use Rattle.asl_machine.proofs.Nested.{Member, looked_up}
use Rattle.asl_machine.proofs.Walks.{states_under_get, branches_under_get, processor_past}

-- the names of a scope are those of the states in its `States`
pub names_of_scope : (v : Data) → names_among (states_under (codes "States") (members_in v)) ≡ all_names (scope_of v)
names_of_scope json.null = refl
names_of_scope (json.boolean b) = refl
names_of_scope (json.number n) = refl
names_of_scope (json.string s) = refl
names_of_scope (json.array vs) = refl
names_of_scope (json.object ms) = refl

-- what is no object has none
pub names_of_none : (v : Data) → is_some (as_object v) ≡ false → all_names (scope_of v) ≡ []
names_of_none json.null h = refl
names_of_none (json.boolean b) h = refl
names_of_none (json.number n) h = refl
names_of_none (json.string s) h = refl
names_of_none (json.array vs) h = refl
names_of_none (json.object ms) h = absurd (cc)

pub names_found : (v : Value) (m : BTreeMap (String Global) Value) (found : Option Value) → v ≡ Object m → found ≡ lookup (is_at (λ k. slice_cmp nat_cmp (codes "States") (string_bytes k))) m.entries
    → names_among (unwrap_or (option_map states_in (option_map view found)) NoStates) ≡ names_among (states_under (codes "States") (members_in (view v)))
names_found v m found is e =
    ap names_among (ap (λ o. unwrap_or (option_map states_in o) NoStates) (sym (looked_up v m (codes "States") found is e)) ∙ sym (states_under_get (codes "States") (members_in (view v))))

-- those of a Parallel's branches are in its `Branches`
pub names_of_branches_found : (v : Value) (m : BTreeMap (String Global) Value) (found : Option Value) → v ≡ Object m → found ≡ lookup (is_at (λ k. slice_cmp nat_cmp (codes "Branches") (string_bytes k))) m.entries
    → names_of_scopes (unwrap_or (option_map scopes_in (option_map view found)) NoScopes) ≡ names_of_scopes (branches_under (members_in (view v)))
names_of_branches_found v m found is e =
    ap names_of_scopes (ap (λ o. unwrap_or (option_map scopes_in o) NoScopes) (sym (looked_up v m (codes "Branches") found is e)) ∙ sym (branches_under_get (members_in (view v))))

-- those of a Map's processor are in the first member that is one
pub names_of_processor : (n : List ℕ) (names : List (List ℕ)) (e : Member) (left others : List Member) → names ≡ all_names (processor_under (members_view left)) → left ≡ e ∷ others → n ≡ string_bytes e.0 → is_processor n ≡ true
    → all_names (scope_of (view e.1)) ≡ names
names_of_processor n names e left others all steps named here =
    let first : is_processor (string_bytes e.0) ≡ true = ap is_processor (sym named) ∙ here in
    ap (λ b. all_names (elim b [ true ↦ scope_of (view e.1) | false ↦ processor_under (members_view others) ])) (sym first) ∙ (ap (λ es. all_names (processor_under (members_view es))) (sym steps) ∙ sym all)

-- a member that isn't one is passed over
pub names_left : (n : List ℕ) (names : List (List ℕ)) (e : Member) (left others : List Member) → names ≡ all_names (processor_under (members_view left)) → left ≡ e ∷ others → n ≡ string_bytes e.0 → is_processor n ≡ false
    → names ≡ all_names (processor_under (members_view others))
names_left n names e left others all steps named other =
    all ∙ ap (λ es. all_names (processor_under (members_view es))) steps ∙ ap all_names (processor_past (string_bytes e.0) (view e.1) (members_view others) (ap is_processor (sym named) ∙ other))

-- those of the members left are the first member's, and those behind it
pub names_parts : (n : List ℕ) (rest : List (List ℕ)) (e : Member) (left others : List Member) → rest ≡ names_among (each_state (members_view left)) → left ≡ e ∷ others → n ≡ string_bytes e.0
    → rest ≡ (n ∷ names_within (state_of (view e.1))) ++ names_among (each_state (members_view others))
names_parts n rest e left others all steps named =
    all ∙ ap (λ es. names_among (each_state (members_view es))) steps ∙ ap (λ m. m ∷ (names_within (state_of (view e.1)) ++ names_among (each_state (members_view others)))) (sym named)

-- ---- states

-- a state that is no object has none
pub names_of_no_state : (v : Data) → is_some (as_object v) ≡ false → [] ≡ names_within (state_of v)
names_of_no_state json.null h = refl
names_of_no_state (json.boolean b) h = refl
names_of_no_state (json.number n) h = refl
names_of_no_state (json.string s) h = refl
names_of_no_state (json.array vs) h = refl
names_of_no_state (json.object ms) h = absurd (cc)

-- one without a type has none
pub names_of_untyped : (v : Data) → type_of (members_in v) ≡ None → [] ≡ names_within (state_of v)
names_of_untyped json.null e = refl
names_of_untyped (json.boolean b) e = refl
names_of_untyped (json.number n) e = refl
names_of_untyped (json.string s) e = refl
names_of_untyped (json.array vs) e = refl
names_of_untyped (json.object ms) e = ap (λ t. names_within (state_by t ms (branches_under ms) (processor_under ms))) (sym e)

-- what is told of a state that is no object
pub no_state_told : (names : List (List ℕ)) (state : List ℕ) (v : Data) → is_some (as_object v) ≡ false → complaint_at (place_of_state state) [] NotObject ∷ [] ≡ state_complaints names state v
no_state_told names state json.null h = refl
no_state_told names state (json.boolean b) h = refl
no_state_told names state (json.number n) h = refl
no_state_told names state (json.string s) h = refl
no_state_told names state (json.array vs) h = refl
no_state_told names state (json.object ms) h = absurd (cc)
