-- Where nothing is told of a state, what follows it is among the names of the states of its scope.
use Rattle.std.proofs.Common.{◌≡◌, refl, sym, subst, ℕ, List, [], ◌∷◌, ◌++◌, map, true, false, IsTrue, Option, Some, None, is_some, option_map, option_and_then, option_to_list, unwrap_or, codes, All}
use Rattle.std.proofs.lemmas.List.Elements.{All-nil, All-cons, All-append}
use Rattle.serde_json.specs.Data as json
use Rattle.serde_json.specs.Data.{Data, Items, Members}
use Rattle.serde_json.specs.Find.{get_member, as_str, as_object}
use Rattle.asl_model.specs.DefinitionTable.{Row, StateType, PassState, TaskState, ChoiceState, WaitState, SucceedState, FailState, ParallelState, MapState, rows_of, catcher_rows, NoSuchState, BadErrorEquals, wrong_kind}
use Rattle.asl_model.specs.Machine.{Catcher, Scope, Scopes}
use Rattle.asl_model.specs.Numbering.{targets_of}
use Rattle.asl_model.specs.ShapeSpelling.{is_among}
use Rattle.asl_model.specs.StandsFor.{Complaint, Place, place_of_state, place_within, complaint_at, complain_unless, members_in, items_in, items_at, listed, text_at, rules_of, catcher_of, state_by, rows_complaints, has_row, foreign_complaints, fields_complaints, target_complaints, next_complaints, heartbeat_complaints, wait_complaints, processor_complaints, selector_complaints, rules_complaints, has_proper_names, is_last_before, element_complaints, retriers_complaints, catchers_complaints, trouble_complaints, type_complaints}
use Rattle.asl_model.specs.Test.{Rule}
use Rattle.asl_model.proofs.DefinitionFields.{right_unless, text_given, foreign_absent}
use Rattle.asl_model.proofs.FindingScopes.{append-none}

-- the name is one of those
abbrev IsOne : List (List ℕ) → List ℕ → Type 0
IsOne names n = is_among n names ≡ true

-- each of the names is one of those
abbrev pub AreAmong : List (List ℕ) → List (List ℕ) → Type 0
AreAmong names ns = All (IsOne names) ns

none_among : (names : List (List ℕ)) → AreAmong names []
none_among names = All-nil (IsOne names)

-- ---- the parts of a state

target_among : (place : Place) (names : List (List ℕ)) (field : List ℕ) (o : Option (List ℕ)) → target_complaints place names field o ≡ [] → AreAmong names (option_to_list o)
target_among place names field None e = none_among names
target_among place names field (Some n) e = All-cons (IsOne names) n [] (right_unless (is_among n names) place field NoSuchState e) (none_among names)

next_among : (place : Place) (names : List (List ℕ)) (ms : Members) → next_complaints place names ms ≡ [] → AreAmong names (option_to_list (text_at (codes "Next") ms))
next_among place names ms e = target_among place names (codes "Next") (text_at (codes "Next") ms) (append-none _ (target_complaints place names (codes "Next") (text_at (codes "Next") ms)) e).1

rules_among : (place : Place) (names : List (List ℕ)) (rules : List Rule) → rules_complaints place names rules ≡ [] → AreAmong names (map (λ (rule : Rule). rule.next) rules)
rules_among place names [] e = none_among names
rules_among place names (rule ∷ rules) e =
    let told = append-none (target_complaints place names (codes "Choices") (Some rule.next)) (rules_complaints place names rules) e in
    All-cons (IsOne names) rule.next (map (λ (r : Rule). r.next) rules) (right_unless (is_among rule.next names) place (codes "Choices") NoSuchState told.0) (rules_among place names rules told.1)

-- an element of which nothing is told has those fields
element_fields : (place : Place) (field : List ℕ) (rows : List Row) (v : Data) → element_complaints place field rows v ≡ [] → fields_complaints place rows (members_in v) ≡ []
element_fields place field rows v e = by (as_object v) e
  where
    by : (o : Option Members) → unwrap_or (option_map (fields_complaints place rows) o) (complaint_at place field (wrong_kind v) ∷ []) ≡ [] → fields_complaints place rows (unwrap_or o json.no_members) ≡ []
    by None h = absurd (cc)
    by (Some ms) h = h

text_among : (place : Place) (names : List (List ℕ)) (field : List ℕ) (o : Option (List ℕ)) → IsTrue (is_some o) → target_complaints place names field o ≡ [] → is_among (unwrap_or o []) names ≡ true
text_among place names field None given e = absurd (cc)
text_among place names field (Some n) given e = right_unless (is_among n names) place field NoSuchState e

-- the states that catchers go on to
abbrev catchers_next : Items → List (List ℕ)
catchers_next vs = map (λ (catcher : Catcher). catcher.next) (map catcher_of (listed vs))

catchers_among : (place : Place) (names : List (List ℕ)) (vs : Items) → catchers_complaints place names vs ≡ [] → AreAmong names (catchers_next vs)
catchers_among place names json.no_items e = none_among names
catchers_among place names (json.item v vs) e =
    let element = element_complaints place (codes "Catch") catcher_rows v in
    let proper = complain_unless (has_proper_names (members_in v) (is_last_before vs)) place (codes "Catch") BadErrorEquals in
    let target = target_complaints place names (codes "Catch") (text_at (codes "Next") (members_in v)) in
    let others = catchers_complaints place names vs in
    let told = append-none element (proper ++ (target ++ others)) e in
    let rest = append-none target others (append-none proper (target ++ others) told.1).1 in
    let rows = append-none (rows_complaints place catcher_rows (members_in v)) (foreign_complaints place catcher_rows (members_in v)) (element_fields place (codes "Catch") catcher_rows v told.0) in
    All-cons (IsOne names) (catcher_of v).next (catchers_next vs) (text_among place names (codes "Catch") (text_at (codes "Next") (members_in v)) (text_given place (members_in v) catcher_rows 1 (codes "Next") refl rows.0) rest.0) (catchers_among place names vs rest.1)

trouble_among : (state : List ℕ) (names : List (List ℕ)) (ms : Members) → trouble_complaints state names ms ≡ [] → AreAmong names (catchers_next (items_at (codes "Catch") ms))
trouble_among state names ms e = catchers_among (place_within state (codes "Catch")) names (items_at (codes "Catch") ms) (append-none (retriers_complaints (place_within state (codes "Retry")) (items_at (codes "Retry") ms)) _ e).1

-- ---- fields that aren't there

next_absent : (names : List (List ℕ)) (ms : Members) → get_member (codes "Next") ms ≡ None → AreAmong names (option_to_list (text_at (codes "Next") ms))
next_absent names ms e = subst (λ (o : Option Data). AreAmong names (option_to_list (option_and_then as_str o))) (sym e) (none_among names)

catch_absent : (names : List (List ℕ)) (ms : Members) → get_member (codes "Catch") ms ≡ None → AreAmong names (catchers_next (items_at (codes "Catch") ms))
catch_absent names ms e = subst (λ (o : Option Data). AreAmong names (catchers_next (unwrap_or (option_map items_in o) json.no_items))) (sym e) (none_among names)

-- ---- by its type

-- a type has no such field
absent : (type : StateType) (state : List ℕ) (field : List ℕ) (ms : Members) → has_row field (rows_of type) ≡ false → fields_complaints (place_of_state state) (rows_of type) ms ≡ [] → get_member field ms ≡ None
absent type state field ms none e = foreign_absent (place_of_state state) (rows_of type) field ms none (append-none (rows_complaints (place_of_state state) (rows_of type) ms) (foreign_complaints (place_of_state state) (rows_of type) ms) e).1

all_among : (names next caught by_type : List (List ℕ)) → AreAmong names next → AreAmong names caught → AreAmong names by_type → AreAmong names (next ++ (caught ++ by_type))
all_among names next caught by_type a b c = All-append (IsOne names) next (caught ++ by_type) a (All-append (IsOne names) caught by_type b c)

-- what follows a state of that type
pub targets_among : (type : StateType) (state : List ℕ) (names : List (List ℕ)) (ms : Members) (branches : Scopes) (processor : Scope) → fields_complaints (place_of_state state) (rows_of type) ms ≡ [] → type_complaints type state names ms ≡ [] → AreAmong names (targets_of (state_by (Some type) ms branches processor))
targets_among type state names ms branches processor fields rules = by type fields rules
  where
    place : Place
    place = place_of_state state

    next : List (List ℕ)
    next = option_to_list (text_at (codes "Next") ms)

    caught : List (List ℕ)
    caught = catchers_next (items_at (codes "Catch") ms)

    following : List Complaint
    following = next_complaints place names ms

    trouble : List Complaint
    trouble = trouble_complaints state names ms

    simple : AreAmong names next → AreAmong names caught → AreAmong names (next ++ (caught ++ []))
    simple a b = all_among names next caught [] a b (none_among names)

    by : (type : StateType) → fields_complaints place (rows_of type) ms ≡ [] → type_complaints type state names ms ≡ [] → AreAmong names (targets_of (state_by (Some type) ms branches processor))
    by PassState f r = simple (next_among place names ms r) (catch_absent names ms (absent PassState state (codes "Catch") ms refl f))
    by TaskState f r =
        let told = append-none following (heartbeat_complaints place ms ++ trouble) r in
        simple (next_among place names ms told.0) (trouble_among state names ms (append-none (heartbeat_complaints place ms) trouble told.1).1)
    by ChoiceState f r =
        let default = text_at (codes "Default") ms in
        let told = append-none (target_complaints place names (codes "Default") default) (rules_complaints place names (rules_of ms)) r in
        all_among names next caught (map (λ (rule : Rule). rule.next) (rules_of ms) ++ option_to_list default)
        (next_absent names ms (absent ChoiceState state (codes "Next") ms refl f))
        (catch_absent names ms (absent ChoiceState state (codes "Catch") ms refl f))
        (All-append (IsOne names) (map (λ (rule : Rule). rule.next) (rules_of ms)) (option_to_list default) (rules_among place names (rules_of ms) told.1) (target_among place names (codes "Default") default told.0))
    by WaitState f r = simple (next_among place names ms (append-none following (wait_complaints place ms) r).0) (catch_absent names ms (absent WaitState state (codes "Catch") ms refl f))
    by SucceedState f r = simple (next_absent names ms (absent SucceedState state (codes "Next") ms refl f)) (catch_absent names ms (absent SucceedState state (codes "Catch") ms refl f))
    by FailState f r = simple (next_absent names ms (absent FailState state (codes "Next") ms refl f)) (catch_absent names ms (absent FailState state (codes "Catch") ms refl f))
    by ParallelState f r =
        let told = append-none following trouble r in
        simple (next_among place names ms told.0) (trouble_among state names ms told.1)
    by MapState f r =
        let told = append-none following (processor_complaints place ms ++ (selector_complaints place ms ++ trouble)) r in
        let rest = append-none (processor_complaints place ms) (selector_complaints place ms ++ trouble) told.1 in
        simple (next_among place names ms told.0) (trouble_among state names ms (append-none (selector_complaints place ms) trouble rest.1).1)
