-- What is told of a state, part by part.
use Rattle.std.proofs.Common.{◌≡◌, ℕ, List, [], ◌++◌, Option, None, option_map, unwrap_or, Result, Ok, Err, codes, refl, sym, ap, ◌∙◌, subst, append-nil, append_assoc}
use Rattle.serde_json.specs.Data as json
use Rattle.serde_json.specs.Data.{Members}
use Rattle.serde_json.specs.Find.{get_member}
use Rattle.asl_model.specs.DefinitionTable as model
use Rattle.asl_model.specs.StandsFor.{Complaint, place_of_state, place_within, items_in, text_at, rows_complaints, foreign_complaints, fields_complaints, type_complaints, trouble_complaints, retriers_complaints, catchers_complaints, next_complaints, heartbeat_complaints, processor_complaints, selector_complaints, target_complaints}
use Rattle.asl_fields.specs.declared.places.Complaint.{Complaint as Objection}
use Rattle.asl_fields.specs.Verdicts.{IsAmong, IsVerdict, complaint_view}
use Rattle.asl_fields.specs.Reading.{checked_complaints}
use Rattle.asl_machine.specs.Reading.{parameters_told, processing_told, kind_told, rules_of_type, rule_targets, state_told}
use Rattle.asl_machine.proofs.Checks.{among_first, among_second, among_either, first_none, second_none}
use Rattle.asl_machine.proofs.OwnFields.{absent, rows_in_order, read_told, fields_told, own_read}

-- nothing is told of retriers and catchers where none are given
no_trouble : (state : List ℕ) (names : List (List ℕ)) (ms : Members) → get_member (codes "Retry") ms ≡ None → get_member (codes "Catch") ms ≡ None → trouble_complaints state names ms ≡ []
no_trouble state names ms retry catch =
    ap (λ o. retriers_complaints (place_within state (codes "Retry")) (unwrap_or (option_map items_in o) json.no_items) ++ catchers_complaints (place_within state (codes "Catch")) names (unwrap_or (option_map items_in (get_member (codes "Catch") ms)) json.no_items)) retry
    ∙ ap (λ o. catchers_complaints (place_within state (codes "Catch")) names (unwrap_or (option_map items_in o) json.no_items)) catch

-- the rules on several fields of a type
own_rules : (t : model.StateType) (state : List ℕ) (names : List (List ℕ)) (ms : Members) → foreign_complaints (place_of_state state) (model.rows_of t) ms ≡ []
    → rules_of_type t state names ms ++ (trouble_complaints state names ms ++ rule_targets t state names ms) ≡ type_complaints t state names ms
own_rules model.PassState state names ms e =
    let next = next_complaints (place_of_state state) names ms in
    let none = no_trouble state names ms (absent (place_of_state state) model.pass_rows (codes "Retry") ms e refl) (absent (place_of_state state) model.pass_rows (codes "Catch") ms e refl) in
    ap (λ xs. next ++ (xs ++ [])) none ∙ append-nil next
own_rules model.TaskState state names ms e =
    let next = next_complaints (place_of_state state) names ms in
    let heartbeat = heartbeat_complaints (place_of_state state) ms in
    let trouble = trouble_complaints state names ms in
    ap (λ xs. (next ++ heartbeat) ++ xs) (append-nil trouble) ∙ append_assoc next heartbeat trouble
own_rules model.ChoiceState state names ms e =
    let default = target_complaints (place_of_state state) names (codes "Default") (text_at (codes "Default") ms) in
    let none = no_trouble state names ms (absent (place_of_state state) model.choice_rows (codes "Retry") ms e refl) (absent (place_of_state state) model.choice_rows (codes "Catch") ms e refl) in
    ap (λ xs. default ++ (xs ++ rule_targets model.ChoiceState state names ms)) none
own_rules model.WaitState state names ms e =
    let rules = rules_of_type model.WaitState state names ms in
    let none = no_trouble state names ms (absent (place_of_state state) model.wait_rows (codes "Retry") ms e refl) (absent (place_of_state state) model.wait_rows (codes "Catch") ms e refl) in
    ap (λ xs. rules ++ (xs ++ [])) none ∙ append-nil rules
own_rules model.SucceedState state names ms e =
    ap (λ xs. xs ++ []) (no_trouble state names ms (absent (place_of_state state) model.path_rows (codes "Retry") ms e refl) (absent (place_of_state state) model.path_rows (codes "Catch") ms e refl))
own_rules model.FailState state names ms e =
    ap (λ xs. xs ++ []) (no_trouble state names ms (absent (place_of_state state) model.fail_rows (codes "Retry") ms e refl) (absent (place_of_state state) model.fail_rows (codes "Catch") ms e refl))
own_rules model.ParallelState state names ms e =
    let next = next_complaints (place_of_state state) names ms in
    ap (λ xs. next ++ xs) (append-nil (trouble_complaints state names ms))
own_rules model.MapState state names ms e =
    let next = next_complaints (place_of_state state) names ms in
    let processor = processor_complaints (place_of_state state) ms in
    let selector = selector_complaints (place_of_state state) ms in
    let trouble = trouble_complaints state names ms in
    ap (λ xs. (next ++ (processor ++ selector)) ++ xs) (append-nil trouble) ∙ (append_assoc next (processor ++ selector) trouble ∙ ap (λ xs. next ++ xs) (append_assoc processor selector trouble))

-- what is told of the fields that are read, or of the rules, is told of the state
of_fields : (t : model.StateType) (state : List ℕ) (names : List (List ℕ)) (ms : Members) (o : Option Complaint) → foreign_complaints (place_of_state state) (model.rows_of t) ms ≡ []
    → IsAmong ((parameters_told t (place_of_state state) ms ++ kind_told t (place_of_state state) ms) ++ processing_told (place_of_state state) ms) o → IsAmong (fields_complaints (place_of_state state) (model.rows_of t) ms ++ type_complaints t state names ms) o
of_fields t state names ms o e h =
    let place = place_of_state state in
    let rows = model.rows_of t in
    let read = subst (λ xs. IsAmong xs o) (sym (own_read t place ms e)) h in
    among_first (fields_complaints place rows ms) (type_complaints t state names ms) o (among_first (rows_complaints place rows ms) (foreign_complaints place rows ms) o (read_told place rows ms o read))

of_rules : (t : model.StateType) (state : List ℕ) (names : List (List ℕ)) (ms : Members) (o : Option Complaint) → foreign_complaints (place_of_state state) (model.rows_of t) ms ≡ []
    → IsAmong (rules_of_type t state names ms ++ (trouble_complaints state names ms ++ rule_targets t state names ms)) o → IsAmong (fields_complaints (place_of_state state) (model.rows_of t) ms ++ type_complaints t state names ms) o
of_rules t state names ms o e h = among_second (fields_complaints (place_of_state state) (model.rows_of t) ms) (type_complaints t state names ms) o (subst (λ xs. IsAmong xs o) (own_rules t state names ms e) h)

-- the parts of what is told after the other fields
part_told : (rules trouble processing parameters kind targets whole : List Complaint) (o : Option Complaint) → (IsAmong ((parameters ++ kind) ++ processing) o → IsAmong whole o) → (IsAmong (rules ++ (trouble ++ targets)) o → IsAmong whole o)
    → IsAmong (rules ++ ((trouble ++ (processing ++ parameters)) ++ (kind ++ targets))) o → IsAmong whole o
part_told rules trouble processing parameters kind targets whole o fields several told =
    among_either rules ((trouble ++ (processing ++ parameters)) ++ (kind ++ targets)) whole o told (λ h. several (among_first rules (trouble ++ targets) o h))
    (λ h. among_either (trouble ++ (processing ++ parameters)) (kind ++ targets) whole o h
    (λ g. among_either trouble (processing ++ parameters) whole o g (λ k. several (among_second rules (trouble ++ targets) o (among_first trouble targets o k)))
    (λ k. among_either processing parameters whole o k (λ l. fields (among_second (parameters ++ kind) processing o l)) (λ l. fields (among_first (parameters ++ kind) processing o (among_first parameters kind o l)))))
    (λ g. among_either kind targets whole o g (λ k. fields (among_first (parameters ++ kind) processing o (among_second parameters kind o k)))
    (λ k. several (among_second rules (trouble ++ targets) o (among_second trouble targets o k)))))

-- where all of these are empty
fields_none : (rules trouble processing parameters kind targets : List Complaint) → rules ++ ((trouble ++ (processing ++ parameters)) ++ (kind ++ targets)) ≡ [] → (parameters ++ kind) ++ processing ≡ []
fields_none rules trouble processing parameters kind targets e =
    let rest = second_none rules _ e in
    let settings = second_none trouble _ (first_none _ (kind ++ targets) rest) in
    let no_kind = first_none kind targets (second_none (trouble ++ (processing ++ parameters)) _ rest) in
    let no_parameters = second_none processing parameters settings in
    let no_processing = first_none processing parameters settings in
    rw (no_parameters, no_kind, no_processing) refl

rules_none : (rules trouble processing parameters kind targets : List Complaint) → rules ++ ((trouble ++ (processing ++ parameters)) ++ (kind ++ targets)) ≡ [] → rules ++ (trouble ++ targets) ≡ []
rules_none rules trouble processing parameters kind targets e =
    let rest = second_none rules _ e in
    let no_rules = first_none rules _ e in
    let no_trouble = first_none trouble _ (first_none _ (kind ++ targets) rest) in
    let no_targets = second_none kind targets (second_none (trouble ++ (processing ++ parameters)) _ rest) in
    rw (no_rules, no_trouble, no_targets) refl

-- where the other fields are in order, what is told of the rest is told of the state
pub own_told : {A : Type 0} (t : model.StateType) (state : List ℕ) (names : List (List ℕ)) (ms : Members) (result : Result A Objection) → checked_complaints (place_of_state state) (model.rows_of t) ms ≡ [] → foreign_complaints (place_of_state state) (model.rows_of t) ms ≡ []
    → IsVerdict (state_told t state names ms) result → IsVerdict (fields_complaints (place_of_state state) (model.rows_of t) ms ++ type_complaints t state names ms) result
own_told t state names ms (Ok read) checked foreign h =
    let place = place_of_state state in
    let rows = model.rows_of t in
    let fields = fields_none (rules_of_type t state names ms) (trouble_complaints state names ms) (processing_told place ms) (parameters_told t place ms) (kind_told t place ms) (rule_targets t state names ms) h.holds in
    let several = rules_none (rules_of_type t state names ms) (trouble_complaints state names ms) (processing_told place ms) (parameters_told t place ms) (kind_told t place ms) (rule_targets t state names ms) h.holds in
    let all = rows_in_order place rows ms checked (own_read t place ms foreign ∙ fields) in
    let type = sym (own_rules t state names ms foreign) ∙ several in
    record { holds = ap (λ xs. (xs ++ foreign_complaints place rows ms) ++ type_complaints t state names ms) all ∙ (ap (λ xs. xs ++ type_complaints t state names ms) foreign ∙ type) }
own_told t state names ms (Err c) checked foreign h =
    let place = place_of_state state in
    let whole = fields_complaints place (model.rows_of t) ms ++ type_complaints t state names ms in
    let told = part_told (rules_of_type t state names ms) (trouble_complaints state names ms) (processing_told place ms) (parameters_told t place ms) (kind_told t place ms) (rule_targets t state names ms) whole (complaint_view c) (of_fields t state names ms (complaint_view c) foreign) (of_rules t state names ms (complaint_view c) foreign) h.holds in
    record { holds = told }

-- what is told of the other fields is told of the state
pub others_told : {A B : Type 0} (t : model.StateType) (state : List ℕ) (names : List (List ℕ)) (ms : Members) (c : Objection) → IsVerdict {A = A} (checked_complaints (place_of_state state) (model.rows_of t) ms ++ foreign_complaints (place_of_state state) (model.rows_of t) ms) (Err c)
    → IsVerdict {A = B} (fields_complaints (place_of_state state) (model.rows_of t) ms ++ type_complaints t state names ms) (Err c)
others_told t state names ms c h = record { holds = among_first (fields_complaints (place_of_state state) (model.rows_of t) ms) (type_complaints t state names ms) (complaint_view c) (fields_told (place_of_state state) (model.rows_of t) ms (complaint_view c) h.holds) }
