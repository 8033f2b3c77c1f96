-- What is told of scopes and of their states, part by part.
use Rattle.std.proofs.Common.{◌≡◌, ℕ, ◌+◌, ◌<◌, List, [], ◌∷◌, ◌++◌, length, drop, get_or, append_assoc, String, Global, BTreeMap, string_bytes, Option, Some, None, is_some, option_map, option_and_then, unwrap_or, map, true, false, codes, refl, sym, ap, ◌∙◌}
use Rattle.std.specs.BTreeMap.{is_at}
use Rattle.std.specs.Cmp.Lexicographic.{slice_cmp}
use Rattle.std.specs.Map.{lookup}
use Rattle.std.specs.Ordering.{nat_cmp}
use Rattle.serde_json.specs.Data as json
use Rattle.serde_json.specs.Data.{Data, Members}
use Rattle.serde_json.specs.Find.{get_member, as_object, as_str}
use Rattle.serde_json.specs.View.{view, items_view, members_view}
use Rattle.serde_json.specs.declared.value.Value.{Value, Object}
use Rattle.asl_model.specs.DefinitionTable.{wrong_kind, branch_rows, processor_rows}
use Rattle.asl_model.specs.DefinitionTable as model
use Rattle.asl_model.specs.StandsFor.{Complaint, Place, members_in, state_names, text_at, type_of, unknown_type, place_within, complaint_at, complain_unless, row_faults, rows_complaints, fields_complaints, target_complaints, is_processor, name_complaints, scope_complaints, states_complaints_under, states_complaints, each_state_complaints, state_complaints, state_complaints_by, branches_complaints_under, branches_complaints, each_branch_complaints, processor_complaints_under}
use Rattle.asl_machine.proofs.Nested.{Member, looked_up}
use Rattle.asl_machine.proofs.Checks.{first_none, unmapped_none}
use Rattle.asl_machine.proofs.Values.{items_parts}
use Rattle.asl_machine.proofs.Walks.{states_complaints_under_get, branches_complaints_under_get}

-- ---- objects

-- what is told of a scope that is an object
abbrev pub object_complaints : Place → List model.Row → Members → List Complaint
object_complaints place rows ms =
    fields_complaints place rows ms
    ++ (target_complaints place (state_names ms) (codes "StartAt") (text_at (codes "StartAt") ms)
    ++ states_complaints_under (state_names ms) ms)

pub scope_object : (place : Place) (rows : List model.Row) (v : Data) → is_some (as_object v) ≡ true → object_complaints place rows (members_in v) ≡ scope_complaints place rows v
scope_object place rows json.null h = absurd (cc)
scope_object place rows (json.boolean b) h = absurd (cc)
scope_object place rows (json.number n) h = absurd (cc)
scope_object place rows (json.string s) h = absurd (cc)
scope_object place rows (json.array vs) h = absurd (cc)
scope_object place rows (json.object ms) h = refl

-- of what is no object nothing is told
pub scope_none : (place : Place) (rows : List model.Row) (v : Data) → is_some (as_object v) ≡ false → scope_complaints place rows v ≡ []
scope_none place rows json.null h = refl
scope_none place rows (json.boolean b) h = refl
scope_none place rows (json.number n) h = refl
scope_none place rows (json.string s) h = refl
scope_none place rows (json.array vs) h = refl
scope_none place rows (json.object ms) h = absurd (cc)

-- of a state that is an object and has no type
pub state_object : (names : List (List ℕ)) (state : List ℕ) (v : Data) (o : Option model.StateType) → is_some (as_object v) ≡ true → o ≡ type_of (members_in v)
    → state_complaints_by o state names (members_in v) (branches_complaints_under state (members_in v)) (processor_complaints_under state (members_in v)) ≡ state_complaints names state v
state_object names state json.null o h e = absurd (cc)
state_object names state (json.boolean b) o h e = absurd (cc)
state_object names state (json.number n) o h e = absurd (cc)
state_object names state (json.string s) o h e = absurd (cc)
state_object names state (json.array vs) o h e = absurd (cc)
state_object names state (json.object ms) o h e = ap (λ t. state_complaints_by t state names ms (branches_complaints_under state ms) (processor_complaints_under state ms)) e

-- ---- look-ups

pub states_found : (names : List (List ℕ)) (v : Value) (m : BTreeMap (String Global) Value) (found : Option Value) → v ≡ Object m → found ≡ lookup (is_at (λ k. slice_cmp nat_cmp (codes "States") (string_bytes k))) m.entries
    → unwrap_or (option_map (states_complaints names) (option_map view found)) [] ≡ states_complaints_under names (members_in (view v))
states_found names v m found is e = ap (λ o. unwrap_or (option_map (states_complaints names) o) []) (sym (looked_up v m (codes "States") found is e)) ∙ sym (states_complaints_under_get names (members_in (view v)))

pub branches_found : (state : List ℕ) (v : Value) (m : BTreeMap (String Global) Value) (found : Option Value) → v ≡ Object m → found ≡ lookup (is_at (λ k. slice_cmp nat_cmp (codes "Branches") (string_bytes k))) m.entries
    → unwrap_or (option_map (branches_complaints state) (option_map view found)) [] ≡ branches_complaints_under state (members_in (view v))
branches_found state v m found is e = ap (λ o. unwrap_or (option_map (branches_complaints state) o) []) (sym (looked_up v m (codes "Branches") found is e)) ∙ sym (branches_complaints_under_get state (members_in (view v)))

-- the first of the members left is the processor
pub processor_found : (state n : List ℕ) (wrong : List Complaint) (e : Member) (left others : List Member) → wrong ≡ processor_complaints_under state (members_view left) → left ≡ e ∷ others → n ≡ string_bytes e.0 → is_processor n ≡ true
    → scope_complaints (place_within state n) processor_rows (view e.1) ≡ wrong
processor_found state n wrong e left others all steps named here =
    let first : is_processor (string_bytes e.0) ≡ true = ap is_processor (sym named) ∙ here in
    ap (λ m. scope_complaints (place_within state m) processor_rows (view e.1)) named
    ∙ (ap (λ b. elim b [ true ↦ scope_complaints (place_within state (string_bytes e.0)) processor_rows (view e.1) | false ↦ processor_complaints_under state (members_view others) ]) (sym first)
    ∙ (ap (λ es. processor_complaints_under state (members_view es)) (sym steps) ∙ sym all))

-- ---- one after another

pub states_parts : (names : List (List ℕ)) (n : List ℕ) (wrong : List Complaint) (e : Member) (left others : List Member) → wrong ≡ each_state_complaints names (members_view left) → left ≡ e ∷ others → n ≡ string_bytes e.0
    → wrong ≡ (name_complaints n ++ state_complaints names n (view e.1)) ++ each_state_complaints names (members_view others)
states_parts names n wrong e left others all steps named =
    all
    ∙ (ap (λ es. each_state_complaints names (members_view es)) steps
    ∙ (ap (λ m. name_complaints m ++ (state_complaints names m (view e.1) ++ each_state_complaints names (members_view others))) (sym named)
    ∙ sym (append_assoc (name_complaints n) (state_complaints names n (view e.1)) (each_state_complaints names (members_view others)))))

-- what is told of an element of `Branches`
abbrev pub branch_complaints : List ℕ → Data → List Complaint
branch_complaints state v =
    complain_unless (is_some (as_object v)) (place_within state (codes "Branches")) (codes "Branches") (wrong_kind v) ++ scope_complaints (place_within state (codes "Branches")) branch_rows v

pub branches_parts : (state : List ℕ) (wrong : List Complaint) (vs : List Value) (i : ℕ) (x : Value) → i < length vs → x ≡ get_or vs i x → wrong ≡ each_branch_complaints state (items_view (drop i vs))
    → wrong ≡ branch_complaints state (view x) ++ each_branch_complaints state (items_view (drop (i + 1) vs))
branches_parts state wrong vs i x h e all =
    items_parts (each_branch_complaints state) wrong vs i x h e all
    ∙ sym (append_assoc (complain_unless (is_some (as_object (view x))) (place_within state (codes "Branches")) (codes "Branches") (wrong_kind (view x))) (scope_complaints (place_within state (codes "Branches")) branch_rows (view x)) (each_branch_complaints state (items_view (drop (i + 1) vs))))

-- a member that is no processor is passed over
pub processor_left : (state n : List ℕ) (wrong : List Complaint) (e : Member) (left others : List Member) → wrong ≡ processor_complaints_under state (members_view left) → left ≡ e ∷ others → n ≡ string_bytes e.0 → is_processor n ≡ false
    → wrong ≡ processor_complaints_under state (members_view others)
processor_left state n wrong e left others all steps named other =
    let past : is_processor (string_bytes e.0) ≡ false = ap is_processor (sym named) ∙ other in
    all ∙ (ap (λ es. processor_complaints_under state (members_view es)) steps
    ∙ ap (λ b. elim b [ true ↦ scope_complaints (place_within state (string_bytes e.0)) processor_rows (view e.1) | false ↦ processor_complaints_under state (members_view others) ]) past)

-- ---- a state without a type

text_given : (v : Data) → model.text_misfits v ≡ [] → is_some (as_str v) ≡ true
text_given json.null e = absurd (cc)
text_given (json.boolean b) e = absurd (cc)
text_given (json.number n) e = absurd (cc)
text_given (json.string s) e = refl
text_given (json.array vs) e = absurd (cc)
text_given (json.object ms) e = absurd (cc)

-- the row of `Type`
abbrev type_row : model.Row
type_row = record { field = codes "Type"; wanted = model.TextValue; required = true }

unknown_text : (place : Place) (s : Option (List ℕ)) → is_some s ≡ true → option_and_then model.type_named s ≡ None → unknown_type place s ≡ complaint_at place (codes "Type") model.UnknownType ∷ []
unknown_text place None given e = absurd (cc)
unknown_text place (Some s) given e = rw e refl

-- where its fields are in order, the text in `Type` is that of no type
pub type_unknown : (place : Place) (ms : Members) → rows_complaints place model.every_state_rows ms ≡ [] → type_of ms ≡ None → unknown_type place (text_at (codes "Type") ms) ≡ complaint_at place (codes "Type") model.UnknownType ∷ []
type_unknown place ms rows none = by (get_member (codes "Type") ms) (first_none _ _ rows) none
  where
    by : (o : Option Data) → map (complaint_at place (codes "Type")) (row_faults type_row o) ≡ [] → option_and_then model.type_named (option_and_then as_str o) ≡ None
        → unknown_type place (option_and_then as_str o) ≡ complaint_at place (codes "Type") model.UnknownType ∷ []
    by None told h = absurd (cc)
    by (Some v) told h = unknown_text place (as_str v) (text_given v (unmapped_none (complaint_at place (codes "Type")) (model.text_misfits v) told)) h
