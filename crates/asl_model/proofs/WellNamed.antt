-- The machine of a definition with which nothing is wrong is well named.
use Rattle.std.proofs.Common.{◌≡◌, refl, sym, ap, ◌∙◌, subst, ℕ, List, [], ◌∷◌, ◌++◌, Bool, true, false, not, ◌&&◌, ◌||◌, if◌then◌else◌, IsTrue, Option, Some, None, is_some, option_map, option_and_then, unwrap_or, slice_get, bytes_eq, codes}
use Rattle.std.proofs.lemmas.List.Elements.{All-weaker}
use Rattle.serde_json.specs.Data as json
use Rattle.serde_json.specs.Data.{Data, Items, Members}
use Rattle.serde_json.specs.Find.{get_member, as_object}
use Rattle.asl_model.specs.DefinitionTable.{Row, NotObject, NoSuchState, UnknownType, wrong_kind, machine_rows, branch_rows, processor_rows, every_state_rows, map_rows, StateType, PassState, TaskState, ChoiceState, WaitState, SucceedState, FailState, ParallelState, MapState, type_named, rows_of}
use Rattle.asl_model.specs.Machine.{Scope, States, NoStates, Scopes, kind_of, state_among}
use Rattle.asl_model.specs.Numbering.{IsWellNamed, targets_of}
use Rattle.asl_model.specs.ShapeSpelling.{is_among, are_distinct}
use Rattle.asl_model.specs.StandsFor.{Complaint, Place, place_of_state, place_within, complain_unless, members_in, names_of, state_names, text_at, type_of, state_by, is_processor, scope_of, states_in, states_under, each_state, state_of, branches_under, scopes_in, each_scope, processor_under, all_names, rows_complaints, foreign_complaints, fields_complaints, target_complaints, next_complaints, processor_complaints, selector_complaints, trouble_complaints, type_complaints, unknown_type, nested_complaints, state_complaints_by, name_complaints, scope_complaints, states_complaints_under, states_complaints, each_state_complaints, state_complaints, branches_complaints_under, branches_complaints, each_branch_complaints, processor_complaints_under, no_object_complaints, duplicate_complaints, number_complaints, complaints, StandsFor}
use Rattle.asl_model.proofs.DefinitionFields.{right_unless, text_row, text_given, has_processor, processor_given}
use Rattle.asl_model.proofs.FindingScopes.{append-none}
use Rattle.asl_model.proofs.NamesLead.{IsNamed, ScopeLeads, StatesLead, StateLeads, InnerLead, ScopesLead, state_leads, leads_well}
use Rattle.asl_model.proofs.ReadingLookups.{states_under-get_member}
use Rattle.asl_model.proofs.RunOptions.{false_true}
use Rattle.asl_model.proofs.TargetsAmong.{targets_among}

-- ---- the names of the states of a scope

among_states : (n : List ℕ) (ms : Members) → is_among n (names_of ms) ≡ is_some (state_among n (each_state ms))
among_states n json.no_members = refl
among_states n (json.member m v ms) = by (bytes_eq m n) (among_states n ms)
  where
    by : (b : Bool) → is_among n (names_of ms) ≡ is_some (state_among n (each_state ms)) → (b || is_among n (names_of ms)) ≡ is_some (if b then Some (state_of v) else state_among n (each_state ms))
    by true e = refl
    by false e = e

among_in : (n : List ℕ) (o : Option Data) → is_among n (names_of (unwrap_or (option_map members_in o) json.no_members)) ≡ is_some (state_among n (unwrap_or (option_map states_in o) NoStates))
among_in n None = refl
among_in n (Some json.null) = refl
among_in n (Some (json.boolean b)) = refl
among_in n (Some (json.number k)) = refl
among_in n (Some (json.string s)) = refl
among_in n (Some (json.array vs)) = refl
among_in n (Some (json.object ms)) = among_states n ms

-- a name is that of a state where it is among the names in `States`
are_named : (ms : Members) (n : List ℕ) → is_among n (state_names ms) ≡ true → IsNamed (states_under (codes "States") ms) n
are_named ms n e = ap (λ (held : States). is_some (state_among n held)) (states_under-get_member (codes "States") ms) ∙ (sym (among_in n (get_member (codes "States") ms)) ∙ e)

-- each of those names is that of a state
abbrev AreNamed : List (List ℕ) → States → Type 0
AreNamed names all = (n : List ℕ) → is_among n names ≡ true → IsNamed all n

-- ---- the parts of a scope

-- the start is one of the states
start_named : (place : Place) (names : List (List ℕ)) (all : States) (o : Option (List ℕ)) → AreNamed names all → IsTrue (is_some o) → target_complaints place names (codes "StartAt") o ≡ [] → IsNamed all (unwrap_or o [])
start_named place names all None named given e = absurd (cc)
start_named place names all (Some n) named given e = named n (right_unless (is_among n names) place (codes "StartAt") NoSuchState e)

-- a scope that is an object, for what is known of its states
object_leads : (place : Place) (rows : List Row) (i : ℕ) → slice_get rows i ≡ Some (text_row (codes "StartAt")) → (ms : Members)
    → fields_complaints place rows ms ++ (target_complaints place (state_names ms) (codes "StartAt") (text_at (codes "StartAt") ms) ++ states_complaints_under (state_names ms) ms) ≡ []
    → (states_complaints_under (state_names ms) ms ≡ [] → StatesLead (states_under (codes "States") ms) (states_under (codes "States") ms)) → ScopeLeads (scope_of (json.object ms))
object_leads place rows i at ms e held =
    let target = target_complaints place (state_names ms) (codes "StartAt") (text_at (codes "StartAt") ms) in
    let states = states_complaints_under (state_names ms) ms in
    let told = append-none (fields_complaints place rows ms) (target ++ states) e in
    let rest = append-none target states told.1 in
    let given = text_given place ms rows i (codes "StartAt") at (append-none (rows_complaints place rows ms) (foreign_complaints place rows ms) told.0).0 in
    (start_named place (state_names ms) (states_under (codes "States") ms) (text_at (codes "StartAt") ms) (are_named ms) given rest.0, held rest.1)

-- ---- the parts of a state

-- a state has a type
typed : (place : Place) (o : Option (List ℕ)) → IsTrue (is_some o) → unknown_type place o ≡ [] → option_and_then type_named o ≡ None → ⊥
typed place None given e none = absurd (cc)
typed place (Some s) given e none = by (type_named s) e none
  where
    by : (t : Option StateType) → complain_unless (is_some t) place (codes "Type") UnknownType ≡ [] → t ≡ None → ⊥
    by None e none = absurd (cc)
    by (Some t) e none = absurd (cc)

-- a Map has a processor
map_processor : (place : Place) (names : List (List ℕ)) (state : List ℕ) (ms : Members) → fields_complaints place map_rows ms ≡ [] → next_complaints place names ms ++ (processor_complaints place ms ++ (selector_complaints place ms ++ trouble_complaints state names ms)) ≡ [] → has_processor ms ≡ true
map_processor place names state ms fields rules =
    let others = selector_complaints place ms ++ trouble_complaints state names ms in
    let told = append-none (next_complaints place names ms) (processor_complaints place ms ++ others) rules in
    processor_given place ms (append-none (rows_complaints place map_rows ms) (foreign_complaints place map_rows ms) fields).0 (append-none (processor_complaints place ms) others told.1).0

-- what is known of the scopes of a state of that type
inner_of : (type : StateType) (state : List ℕ) (names : List (List ℕ)) (ms : Members) (within_branches within_processor : List Complaint) (branches : Scopes) (processor : Scope)
    → (within_branches ≡ [] → ScopesLead branches) → (has_processor ms ≡ true → within_processor ≡ [] → ScopeLeads processor)
    → fields_complaints (place_of_state state) (rows_of type) ms ≡ [] → type_complaints type state names ms ≡ [] → nested_complaints type within_branches within_processor ≡ [] → InnerLead (kind_of (state_by (Some type) ms branches processor))
inner_of PassState state names ms bs ps branches processor f g fields rules nested = tt
inner_of TaskState state names ms bs ps branches processor f g fields rules nested = tt
inner_of ChoiceState state names ms bs ps branches processor f g fields rules nested = tt
inner_of WaitState state names ms bs ps branches processor f g fields rules nested = tt
inner_of SucceedState state names ms bs ps branches processor f g fields rules nested = tt
inner_of FailState state names ms bs ps branches processor f g fields rules nested = tt
inner_of ParallelState state names ms bs ps branches processor f g fields rules nested = f nested
inner_of MapState state names ms bs ps branches processor f g fields rules nested = g (map_processor (place_of_state state) names state ms fields rules) nested

-- a state that is an object, for what is known of its scopes
object_state : (type : Option StateType) (names : List (List ℕ)) (all : States) → AreNamed names all → (state : List ℕ) (ms : Members) (within_branches within_processor : List Complaint) (branches : Scopes) (processor : Scope) → type_of ms ≡ type
    → (within_branches ≡ [] → ScopesLead branches) → (has_processor ms ≡ true → within_processor ≡ [] → ScopeLeads processor)
    → state_complaints_by type state names ms within_branches within_processor ≡ [] → StateLeads all (state_by type ms branches processor)
object_state None names all named state ms bs ps branches processor is f g e =
    let told = append-none (rows_complaints (place_of_state state) every_state_rows ms) (unknown_type (place_of_state state) (text_at (codes "Type") ms)) e in
    absurd (typed (place_of_state state) (text_at (codes "Type") ms) (text_given (place_of_state state) ms every_state_rows 0 (codes "Type") refl told.0) told.1 is)
object_state (Some type) names all named state ms bs ps branches processor is f g e =
    let place = place_of_state state in
    let told = append-none (fields_complaints place (rows_of type) ms) (type_complaints type state names ms ++ nested_complaints type bs ps) e in
    let rest = append-none (type_complaints type state names ms) (nested_complaints type bs ps) told.1 in
    let whole = state_by (Some type) ms branches processor in
    state_leads all whole (All-weaker (λ n. is_among n names ≡ true) (IsNamed all) named (targets_of whole) (targets_among type state names ms branches processor told.0 rest.0)) (inner_of type state names ms bs ps branches processor f g told.0 rest.0 rest.1)

-- ---- walks over fields

-- at the field that is looked for, or further on
chosen : {A : Type 0} (P : A → Type 0) (here : Bool) (told further : List Complaint) (x y : A) → (told ≡ [] → P x) → (further ≡ [] → P y) → ◌≡◌ {A = List Complaint} (elim here [ true ↦ told | false ↦ further ]) [] → P (elim here [ true ↦ x | false ↦ y ])
chosen P true told further x y f g e = f e
chosen P false told further x y f g e = g e

-- so where it has to be an object
chosen_object : {A : Type 0} (P : A → Type 0) (here : Bool) (is_object has_further : Bool) (told further : List Complaint) (x y : A) → (is_object ≡ true → told ≡ [] → P x) → (has_further ≡ true → further ≡ [] → P y)
    → ◌≡◌ {A = Bool} (elim here [ true ↦ is_object | false ↦ has_further ]) true → ◌≡◌ {A = List Complaint} (elim here [ true ↦ told | false ↦ further ]) [] → P (elim here [ true ↦ x | false ↦ y ])
chosen_object P true is_object has_further told further x y f g there e = f there e
chosen_object P false is_object has_further told further x y f g there e = g there e

-- ---- scopes, states, branches and processors of which nothing is told

mutual
  scope_leads : (place : Place) (rows : List Row) (i : ℕ) → slice_get rows i ≡ Some (text_row (codes "StartAt")) → (v : Data) → is_some (as_object v) ≡ true → scope_complaints place rows v ≡ [] → ScopeLeads (scope_of v)
  scope_leads place rows i at json.null is e = false_true is
  scope_leads place rows i at (json.boolean b) is e = false_true is
  scope_leads place rows i at (json.number n) is e = false_true is
  scope_leads place rows i at (json.string s) is e = false_true is
  scope_leads place rows i at (json.array vs) is e = false_true is
  scope_leads place rows i at (json.object ms) is e = object_leads place rows i at ms e (λ h. under_leads (state_names ms) (states_under (codes "States") ms) (are_named ms) ms h)

  under_leads : (names : List (List ℕ)) (all : States) → AreNamed names all → (ms : Members) → states_complaints_under names ms ≡ [] → StatesLead all (states_under (codes "States") ms)
  under_leads names all named json.no_members e = tt
  under_leads names all named (json.member n v ms) e =
      chosen (StatesLead all) (bytes_eq (codes "States") n) (states_complaints names v) (states_complaints_under names ms) (states_in v) (states_under (codes "States") ms) (λ h. value_leads names all named v h) (λ h. under_leads names all named ms h) e

  value_leads : (names : List (List ℕ)) (all : States) → AreNamed names all → (v : Data) → states_complaints names v ≡ [] → StatesLead all (states_in v)
  value_leads names all named json.null e = tt
  value_leads names all named (json.boolean b) e = tt
  value_leads names all named (json.number n) e = tt
  value_leads names all named (json.string s) e = tt
  value_leads names all named (json.array vs) e = tt
  value_leads names all named (json.object ms) e = each_leads names all named ms e

  each_leads : (names : List (List ℕ)) (all : States) → AreNamed names all → (ms : Members) → each_state_complaints names ms ≡ [] → StatesLead all (each_state ms)
  each_leads names all named json.no_members e = tt
  each_leads names all named (json.member n v ms) e =
      let told = append-none (name_complaints n) (state_complaints names n v ++ each_state_complaints names ms) e in
      let rest = append-none (state_complaints names n v) (each_state_complaints names ms) told.1 in
      (one_leads names all named n v rest.0, each_leads names all named ms rest.1)

  one_leads : (names : List (List ℕ)) (all : States) → AreNamed names all → (state : List ℕ) (v : Data) → state_complaints names state v ≡ [] → StateLeads all (state_of v)
  one_leads names all named state json.null e = absurd (cc)
  one_leads names all named state (json.boolean b) e = absurd (cc)
  one_leads names all named state (json.number n) e = absurd (cc)
  one_leads names all named state (json.string s) e = absurd (cc)
  one_leads names all named state (json.array vs) e = absurd (cc)
  one_leads names all named state (json.object ms) e =
      object_state (type_of ms) names all named state ms (branches_complaints_under state ms) (processor_complaints_under state ms) (branches_under ms) (processor_under ms) refl (λ h. branches_lead state ms h) (λ there h. processor_leads state ms there h) e

  branches_lead : (state : List ℕ) (ms : Members) → branches_complaints_under state ms ≡ [] → ScopesLead (branches_under ms)
  branches_lead state json.no_members e = tt
  branches_lead state (json.member n v ms) e =
      chosen ScopesLead (bytes_eq (codes "Branches") n) (branches_complaints state v) (branches_complaints_under state ms) (scopes_in v) (branches_under ms) (λ h. list_leads state v h) (λ h. branches_lead state ms h) e

  list_leads : (state : List ℕ) (v : Data) → branches_complaints state v ≡ [] → ScopesLead (scopes_in v)
  list_leads state json.null e = tt
  list_leads state (json.boolean b) e = tt
  list_leads state (json.number n) e = tt
  list_leads state (json.string s) e = tt
  list_leads state (json.array vs) e = elements_lead state vs e
  list_leads state (json.object ms) e = tt

  elements_lead : (state : List ℕ) (vs : Items) → each_branch_complaints state vs ≡ [] → ScopesLead (each_scope vs)
  elements_lead state json.no_items e = tt
  elements_lead state (json.item v vs) e =
      let place = place_within state (codes "Branches") in
      let object = complain_unless (is_some (as_object v)) place (codes "Branches") (wrong_kind v) in
      let told = append-none object (scope_complaints place branch_rows v ++ each_branch_complaints state vs) e in
      let rest = append-none (scope_complaints place branch_rows v) (each_branch_complaints state vs) told.1 in
      (scope_leads place branch_rows 0 refl v (right_unless (is_some (as_object v)) place (codes "Branches") (wrong_kind v) told.0) rest.0, elements_lead state vs rest.1)

  processor_leads : (state : List ℕ) (ms : Members) → has_processor ms ≡ true → processor_complaints_under state ms ≡ [] → ScopeLeads (processor_under ms)
  processor_leads state json.no_members there e = false_true there
  processor_leads state (json.member n v ms) there e =
      chosen_object ScopeLeads (is_processor n) (is_some (as_object v)) (has_processor ms) (scope_complaints (place_within state n) processor_rows v) (processor_complaints_under state ms) (scope_of v) (processor_under ms) (λ is h. scope_leads (place_within state n) processor_rows 1 refl v is h) (λ further h. processor_leads state ms further h) there e

-- ---- the machine

-- no name stands twice where none is told
none_twice : (names : List (List ℕ)) → duplicate_complaints names ≡ [] → are_distinct names ≡ true
none_twice [] e = refl
none_twice (n ∷ ns) e = by (is_among n ns) _ e (none_twice ns)
  where
    by : (b : Bool) (c : Complaint) → (if b then c ∷ duplicate_complaints ns else duplicate_complaints ns) ≡ [] → (duplicate_complaints ns ≡ [] → are_distinct ns ≡ true) → (not b && are_distinct ns) ≡ true
    by true c h f = absurd (cc)
    by false c h f = f h

-- a definition with which nothing is wrong
none_wrong : (v : Data) → complaints v ≡ [] → IsWellNamed (scope_of v)
none_wrong v e =
    let place = place_of_state [] in
    let names = all_names (scope_of v) in
    let scope = scope_complaints place machine_rows v in
    let twice = duplicate_complaints names in
    let told = append-none (no_object_complaints v) (scope ++ (twice ++ number_complaints names)) e in
    let rest = append-none scope (twice ++ number_complaints names) told.1 in
    leads_well (scope_of v) (scope_leads place machine_rows 2 refl v (right_unless (is_some (as_object v)) place [] NotObject told.0) rest.0) (none_twice names (append-none twice (number_complaints names) rest.1).0)

-- the machine that a value stands for is well named
pub well_named : (v : Data) (machine : Scope) → StandsFor v machine → IsWellNamed machine
well_named v machine stands = subst IsWellNamed stands.same (none_wrong v stands.none_wrong)
