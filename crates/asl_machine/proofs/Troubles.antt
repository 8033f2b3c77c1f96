-- What is told of retriers and catchers, one after another.
use Rattle.std.proofs.Common.{◌≡◌, ◌≢◌, ℕ, ◌+◌, ◌<◌, eqb, List, [], ◌++◌, append-nil, Result, Ok, Err, length, drop, drop-cons, get_or, append_assoc, Bool, true, false, codes, sym, ap, ◌∙◌, arith, ◌⊎◌, inl, inr}
use Rattle.std.proofs.Math.ListN.{drop_of_length-le}
use Rattle.std.proofs.lemmas.Bool.Decides.{eqb_tells}
use Rattle.serde_json.specs.Data as json
use Rattle.serde_json.specs.Data.{Data}
use Rattle.serde_json.specs.View.{view, items_view}
use Rattle.serde_json.specs.declared.value.Value.{Value}
use Rattle.asl_model.specs.DefinitionTable.{retrier_rows, catcher_rows, BadErrorEquals, PathOrNullValue}
use Rattle.asl_model.specs.StandsFor.{Complaint, Place, members_in, text_at, is_last_before, has_proper_names, complain_unless, target_complaints, element_complaints, fields_complaints, rows_complaints, foreign_complaints, retriers_complaints, catchers_complaints}
use Rattle.asl_fields.specs.declared.places.Complaint.{Complaint as Objection}
use Rattle.asl_fields.specs.Verdicts.{IsVerdict, complaint_view}
use Rattle.asl_fields.specs.Reading.{checked_complaints, told_at}
use Rattle.asl_machine.specs.Reading.{element_checked}
use Rattle.asl_machine.proofs.Checks.{among_first, among_second, among_either, first_none, second_none}
use Rattle.asl_machine.proofs.OwnFields.{fields_told, read_told, rows_in_order}
use Rattle.asl_machine.proofs.Values.{items_parts}

-- what is told of an element of `Retry`
abbrev pub retrier_complaints : Place → Data → Bool → List Complaint
retrier_complaints place v is_last = element_complaints place (codes "Retry") retrier_rows v ++ complain_unless (has_proper_names (members_in v) is_last) place (codes "Retry") BadErrorEquals

-- of `Catch`
abbrev pub catcher_complaints : Place → List (List ℕ) → Data → Bool → List Complaint
catcher_complaints place names v is_last =
    element_complaints place (codes "Catch") catcher_rows v
    ++ (complain_unless (has_proper_names (members_in v) is_last) place (codes "Catch") BadErrorEquals
    ++ target_complaints place names (codes "Catch") (text_at (codes "Next") (members_in v)))

-- no element follows the last
last_here : (vs : List Value) (i : ℕ) (x : Value) → i < length vs → is_last_before (items_view (drop (i + 1) vs)) ≡ eqb (i + 1) (length vs)
last_here vs i x h = by (eqb_tells (i + 1) (length vs))
  where
    by : ((eqb (i + 1) (length vs) ≡ true) × (i + 1 ≡ length vs)) ⊎ ((eqb (i + 1) (length vs) ≡ false) × (i + 1 ≢ length vs)) → is_last_before (items_view (drop (i + 1) vs)) ≡ eqb (i + 1) (length vs)
    by (inl e) = ap (λ left. is_last_before (items_view left)) (drop_of_length-le vs {i = i + 1} (omega (arith, e.1))) ∙ sym e.0
    by (inr e) = ap (λ left. is_last_before (items_view left)) (drop-cons vs (i + 1) x (omega (arith, e.1))) ∙ sym e.0

retriers_step : (place : Place) (v : Data) (others : json.Items) (is_last : Bool) → is_last_before others ≡ is_last → retriers_complaints place (json.item v others) ≡ retrier_complaints place v is_last ++ retriers_complaints place others
retriers_step place v others is_last e =
    ap (λ b. element_complaints place (codes "Retry") retrier_rows v ++ (complain_unless (has_proper_names (members_in v) b) place (codes "Retry") BadErrorEquals ++ retriers_complaints place others)) e
    ∙ sym (append_assoc (element_complaints place (codes "Retry") retrier_rows v) (complain_unless (has_proper_names (members_in v) is_last) place (codes "Retry") BadErrorEquals) (retriers_complaints place others))

-- the elements of `Retry` that are left are the first of them and those behind it
pub retriers_parts : (place : Place) (wrong : List Complaint) (vs : List Value) (i : ℕ) (x : Value) → i < length vs → x ≡ get_or vs i x → wrong ≡ retriers_complaints place (items_view (drop i vs))
    → wrong ≡ retrier_complaints place (view x) (eqb (i + 1) (length vs)) ++ retriers_complaints place (items_view (drop (i + 1) vs))
retriers_parts place wrong vs i x h e all =
    items_parts (retriers_complaints place) wrong vs i x h e all ∙ retriers_step place (view x) (items_view (drop (i + 1) vs)) (eqb (i + 1) (length vs)) (last_here vs i x h)

catchers_step : (place : Place) (names : List (List ℕ)) (v : Data) (others : json.Items) (is_last : Bool) → is_last_before others ≡ is_last → catchers_complaints place names (json.item v others) ≡ catcher_complaints place names v is_last ++ catchers_complaints place names others
catchers_step place names v others is_last e =
    let element = element_complaints place (codes "Catch") catcher_rows v in
    let proper = complain_unless (has_proper_names (members_in v) is_last) place (codes "Catch") BadErrorEquals in
    let target = target_complaints place names (codes "Catch") (text_at (codes "Next") (members_in v)) in
    let rest = catchers_complaints place names others in
    ap (λ b. element ++ (complain_unless (has_proper_names (members_in v) b) place (codes "Catch") BadErrorEquals ++ (target ++ rest))) e
    ∙ ap (λ xs. element ++ xs) (sym (append_assoc proper target rest)) ∙ sym (append_assoc element (proper ++ target) rest)

-- those of `Catch`
pub catchers_parts : (place : Place) (names : List (List ℕ)) (wrong : List Complaint) (vs : List Value) (i : ℕ) (x : Value) → i < length vs → x ≡ get_or vs i x → wrong ≡ catchers_complaints place names (items_view (drop i vs))
    → wrong ≡ catcher_complaints place names (view x) (eqb (i + 1) (length vs)) ++ catchers_complaints place names (items_view (drop (i + 1) vs))
catchers_parts place names wrong vs i x h e all =
    items_parts (catchers_complaints place names) wrong vs i x h e all ∙ catchers_step place names (view x) (items_view (drop (i + 1) vs)) (eqb (i + 1) (length vs)) (last_here vs i x h)

-- ---- the path of a catcher

-- what is told of an element of `Catch` but for its path is told of it
pub catcher_checked : {A B : Type 0} (place : Place) (v : Data) (rest : List Complaint) (c : Objection) → IsVerdict {A = A} (element_checked place (codes "Catch") catcher_rows v ++ rest) (Err c) → IsVerdict {A = B} (element_complaints place (codes "Catch") catcher_rows v ++ rest) (Err c)
catcher_checked place json.null rest c h = record { holds = h.holds }
catcher_checked place (json.boolean b) rest c h = record { holds = h.holds }
catcher_checked place (json.number n) rest c h = record { holds = h.holds }
catcher_checked place (json.string s) rest c h = record { holds = h.holds }
catcher_checked place (json.array vs) rest c h = record { holds = h.holds }
catcher_checked place (json.object ms) rest c h =
    let checked = checked_complaints place catcher_rows ms ++ foreign_complaints place catcher_rows ms in
    let fields = fields_complaints place catcher_rows ms in
    record { holds = among_either checked rest (fields ++ rest) (complaint_view c) h.holds (λ g. among_first fields rest (complaint_view c) (fields_told place catcher_rows ms (complaint_view c) g)) (λ g. among_second fields rest (complaint_view c) g) }

-- after that, what is told of its path
pub catcher_read : {A : Type 0} (place : Place) (v : Data) (rest : List Complaint) (result : Result A Objection) → element_checked place (codes "Catch") catcher_rows v ++ rest ≡ [] → IsVerdict (told_at place (codes "ResultPath") PathOrNullValue (members_in v)) result
    → IsVerdict (element_complaints place (codes "Catch") catcher_rows v ++ rest) result
catcher_read place json.null rest result none h = absurd (cc)
catcher_read place (json.boolean b) rest result none h = absurd (cc)
catcher_read place (json.number n) rest result none h = absurd (cc)
catcher_read place (json.string s) rest result none h = absurd (cc)
catcher_read place (json.array vs) rest result none h = absurd (cc)
catcher_read place (json.object ms) rest (Ok read) none h =
    let fields = first_none (checked_complaints place catcher_rows ms ++ foreign_complaints place catcher_rows ms) rest none in
    let checked = first_none (checked_complaints place catcher_rows ms) (foreign_complaints place catcher_rows ms) fields in
    let foreign = second_none (checked_complaints place catcher_rows ms) (foreign_complaints place catcher_rows ms) fields in
    let others = second_none (checked_complaints place catcher_rows ms ++ foreign_complaints place catcher_rows ms) rest none in
    let rows = rows_in_order place catcher_rows ms checked (append-nil (told_at place (codes "ResultPath") PathOrNullValue ms) ∙ h.holds) in
    record { holds = ap (λ xs. (xs ++ foreign_complaints place catcher_rows ms) ++ rest) rows ∙ (ap (λ xs. xs ++ rest) foreign ∙ others) }
catcher_read place (json.object ms) rest (Err c) none h =
    let told = read_told place catcher_rows ms (complaint_view c) (among_first (told_at place (codes "ResultPath") PathOrNullValue ms) [] (complaint_view c) h.holds) in
    record { holds = among_first (fields_complaints place catcher_rows ms) rest (complaint_view c) (among_first (rows_complaints place catcher_rows ms) (foreign_complaints place catcher_rows ms) (complaint_view c) told) }
