-- The fields of an object that are read, and the others.
use Rattle.std.proofs.Common.{◌≡◌, List, [], ◌∷◌, ◌++◌, map, Bool, true, false, if◌then◌else◌, Option, Some, None, bytes_eq, codes, refl, sym, ap, ◌∙◌, append-nil, append_assoc, subst, is_eq, Ordering, Less, Equal, Greater, ℕ}
use Rattle.std.specs.Ordering.{nat_cmp, match_ordering}
use Rattle.std.specs.Cmp.Lexicographic.{slice_cmp}
use Rattle.std.proofs.lemmas.Map.Text.{is_eq-slice_cmp}
use Rattle.std.proofs.lemmas.Slice.Eq.{bytes_eq-Decides}
use Rattle.serde_json.specs.Data as json
use Rattle.serde_json.specs.Data.{Data, Members}
use Rattle.serde_json.specs.Find.{get_member}
use Rattle.asl_model.specs.DefinitionTable as model
use Rattle.asl_model.specs.ShapeSpelling.{is_among}
use Rattle.asl_model.specs.StandsFor.{Complaint, Place, complaint_at, row_faults, rows_complaints, foreign_complaints, fields_complaints, has_row}
use Rattle.asl_fields.specs.Verdicts.{IsAmong}
use Rattle.asl_fields.specs.Reading.{is_read, checked_complaints, given_faults, told_at, rules_told}
use Rattle.asl_machine.specs.Reading.{read_complaints, parameters_told, processing_told, kind_told}
use Rattle.asl_machine.proofs.Checks.{among_first, among_second, among_either}

-- ---- all rows

by_row : (row : model.Row) (o : Option Data) → given_faults row.required row.wanted o ≡ row_faults row o
by_row row None = refl
by_row row (Some v) = refl

-- where nothing is wrong with the fields that are checked and with those that are read, nothing is with any
pub rows_in_order : (place : Place) (rows : List model.Row) (ms : Members) → checked_complaints place rows ms ≡ [] → read_complaints place rows ms ≡ [] → rows_complaints place rows ms ≡ []
rows_in_order place [] ms c r = refl
rows_in_order place (row ∷ rows) ms c r = by (is_read row.wanted) (get_member row.field ms) c r (rows_in_order place rows ms)
  where
    both : (xs ys : List Complaint) → xs ++ ys ≡ [] → (ys ≡ [] → rows_complaints place rows ms ≡ []) → xs ++ rows_complaints place rows ms ≡ []
    both [] ys e others = others e
    both (x ∷ xs) ys e others = absurd (cc)

    by : (b : Bool) (o : Option Data) → map (complaint_at place row.field) (if b then [] else row_faults row o) ++ checked_complaints place rows ms ≡ []
        → map (complaint_at place row.field) (if b then given_faults row.required row.wanted o else []) ++ read_complaints place rows ms ≡ []
        → (checked_complaints place rows ms ≡ [] → read_complaints place rows ms ≡ [] → rows_complaints place rows ms ≡ [])
        → map (complaint_at place row.field) (row_faults row o) ++ rows_complaints place rows ms ≡ []
    by true o g h others = let same = ap (map (complaint_at place row.field)) (by_row row o) in both (map (complaint_at place row.field) (row_faults row o)) (read_complaints place rows ms) (ap (λ xs. xs ++ read_complaints place rows ms) (sym same) ∙ h) (others g)
    by false o g h others = both (map (complaint_at place row.field) (row_faults row o)) (checked_complaints place rows ms) g (λ c. others c h)

-- what is told of those that are checked is told of all
pub checked_told : (place : Place) (rows : List model.Row) (ms : Members) (told : Option Complaint) → IsAmong (checked_complaints place rows ms) told → IsAmong (rows_complaints place rows ms) told
checked_told place [] ms told h = h
checked_told place (row ∷ rows) ms told h = by (is_read row.wanted) h (checked_told place rows ms told)
  where
    by : (b : Bool) → IsAmong (map (complaint_at place row.field) (if b then [] else row_faults row (get_member row.field ms)) ++ checked_complaints place rows ms) told
        → (IsAmong (checked_complaints place rows ms) told → IsAmong (rows_complaints place rows ms) told) → IsAmong (map (complaint_at place row.field) (row_faults row (get_member row.field ms)) ++ rows_complaints place rows ms) told
    by true g others = among_second (map (complaint_at place row.field) (row_faults row (get_member row.field ms))) (rows_complaints place rows ms) told (others g)
    by false g others = among_either (map (complaint_at place row.field) (row_faults row (get_member row.field ms))) (checked_complaints place rows ms) (map (complaint_at place row.field) (row_faults row (get_member row.field ms)) ++ rows_complaints place rows ms) told g
        (among_first (map (complaint_at place row.field) (row_faults row (get_member row.field ms))) (rows_complaints place rows ms) told)
        (λ k. among_second (map (complaint_at place row.field) (row_faults row (get_member row.field ms))) (rows_complaints place rows ms) told (others k))

-- with the fields that it may not have
pub fields_told : (place : Place) (rows : List model.Row) (ms : Members) (told : Option Complaint) → IsAmong (checked_complaints place rows ms ++ foreign_complaints place rows ms) told → IsAmong (fields_complaints place rows ms) told
fields_told place rows ms told h =
    among_either (checked_complaints place rows ms) (foreign_complaints place rows ms) (fields_complaints place rows ms) told h (λ g. among_first (rows_complaints place rows ms) (foreign_complaints place rows ms) told (checked_told place rows ms told g)) (λ g. among_second (rows_complaints place rows ms) (foreign_complaints place rows ms) told g)

-- so of those that are read
pub read_told : (place : Place) (rows : List model.Row) (ms : Members) (told : Option Complaint) → IsAmong (read_complaints place rows ms) told → IsAmong (rows_complaints place rows ms) told
read_told place [] ms told h = h
read_told place (row ∷ rows) ms told h = by (is_read row.wanted) (get_member row.field ms) h (read_told place rows ms told)
  where
    by : (b : Bool) (o : Option Data) → IsAmong (map (complaint_at place row.field) (if b then given_faults row.required row.wanted o else []) ++ read_complaints place rows ms) told
        → (IsAmong (read_complaints place rows ms) told → IsAmong (rows_complaints place rows ms) told) → IsAmong (map (complaint_at place row.field) (row_faults row o) ++ rows_complaints place rows ms) told
    by true o g others = among_either (map (complaint_at place row.field) (given_faults row.required row.wanted o)) (read_complaints place rows ms) (map (complaint_at place row.field) (row_faults row o) ++ rows_complaints place rows ms) told g
        (λ k. among_first (map (complaint_at place row.field) (row_faults row o)) (rows_complaints place rows ms) told (subst (λ fs. IsAmong (map (complaint_at place row.field) fs) told) (by_row row o) k))
        (λ k. among_second (map (complaint_at place row.field) (row_faults row o)) (rows_complaints place rows ms) told (others k))
    by false o g others = among_second (map (complaint_at place row.field) (row_faults row o)) (rows_complaints place rows ms) told (others g)

-- ---- absent fields

-- a field without a row is absent where no field is foreign
pub absent : (place : Place) (rows : List model.Row) (n : List ℕ) (ms : Members) → foreign_complaints place rows ms ≡ [] → has_row n rows ≡ false → get_member n ms ≡ None
absent place rows n json.no_members e h = refl
absent place rows n (json.member m v ms) e h = by (has_row m rows) refl e (λ g. absent place rows n ms g h) (slice_cmp nat_cmp n m) (is_eq-slice_cmp n m)
  where
    by : (b : Bool) → has_row m rows ≡ b → (if b then foreign_complaints place rows ms else complaint_at place m (if is_among m model.left_out_fields then model.LeftOut else model.UnknownField) ∷ foreign_complaints place rows ms) ≡ []
        → (foreign_complaints place rows ms ≡ [] → get_member n ms ≡ None) → (o : Ordering) → is_eq o ≡ bytes_eq n m → match_ordering o (get_member n ms) (Some v) (get_member n ms) ≡ None
    by false f g others o k = absurd (cc)
    by true f g others Less k = others g
    by true f g others Greater k = others g
    by true f g others Equal k =
        let same : n ≡ m = (bytes_eq-Decides n m).0 (sym k) in
        let there : has_row n rows ≡ true = ap (λ j. has_row j rows) same ∙ f in
        absurd (cc)

-- of such a field nothing is told
told_none : (place : Place) (field : List ℕ) (wanted : model.Wanted) (ms : Members) → get_member field ms ≡ None → told_at place field wanted ms ≡ []
told_none place field wanted ms e = ap (λ o. map (complaint_at place field) (given_faults false wanted o)) e

-- ---- the fields of a state that are read, in the order of the table

-- the last four are those of several types
last_four : (a b c d : List Complaint) → a ++ (b ++ (c ++ (d ++ []))) ≡ a ++ (b ++ (c ++ d))
last_four a b c d = ap (λ xs. a ++ (b ++ (c ++ xs))) (append-nil d)

all_four : (place : Place) (ms : Members) → told_at place (codes "ResultSelector") model.TemplateValue ms ++ (told_at place (codes "ResultPath") model.PathOrNullValue ms ++ (told_at place (codes "InputPath") model.PathOrNullValue ms ++ (told_at place (codes "OutputPath") model.PathOrNullValue ms ++ []))) ≡ processing_told place ms
all_four place ms = last_four (told_at place (codes "ResultSelector") model.TemplateValue ms) (told_at place (codes "ResultPath") model.PathOrNullValue ms) (told_at place (codes "InputPath") model.PathOrNullValue ms) (told_at place (codes "OutputPath") model.PathOrNullValue ms)

with_parameters : (place : Place) (ms : Members) → told_at place (codes "Parameters") model.TemplateValue ms ++ (told_at place (codes "ResultSelector") model.TemplateValue ms ++ (told_at place (codes "ResultPath") model.PathOrNullValue ms ++ (told_at place (codes "InputPath") model.PathOrNullValue ms ++ (told_at place (codes "OutputPath") model.PathOrNullValue ms ++ [])))) ≡ (told_at place (codes "Parameters") model.TemplateValue ms ++ []) ++ processing_told place ms
with_parameters place ms =
    let parameters = told_at place (codes "Parameters") model.TemplateValue ms in
    ap (λ xs. parameters ++ xs) (all_four place ms) ∙ ap (λ xs. xs ++ processing_told place ms) (sym (append-nil parameters))

-- two of them alone
paths_alone : (place : Place) (ms : Members) → get_member (codes "ResultSelector") ms ≡ None → get_member (codes "ResultPath") ms ≡ None → told_at place (codes "InputPath") model.PathOrNullValue ms ++ (told_at place (codes "OutputPath") model.PathOrNullValue ms ++ []) ≡ processing_told place ms
paths_alone place ms selector result =
    let input = told_at place (codes "InputPath") model.PathOrNullValue ms in
    let output = told_at place (codes "OutputPath") model.PathOrNullValue ms in
    let no_selector = told_none place (codes "ResultSelector") model.TemplateValue ms selector in
    let no_result = told_none place (codes "ResultPath") model.PathOrNullValue ms result in
    last_four [] [] input output ∙ (ap (λ xs. xs ++ (input ++ output)) (sym no_result) ∙ ap (λ xs. xs ++ (told_at place (codes "ResultPath") model.PathOrNullValue ms ++ (input ++ output))) (sym no_selector))

pub own_read : (t : model.StateType) (place : Place) (ms : Members) → foreign_complaints place (model.rows_of t) ms ≡ [] → read_complaints place (model.rows_of t) ms ≡ (parameters_told t place ms ++ kind_told t place ms) ++ processing_told place ms
own_read model.PassState place ms e =
    let parameters = told_at place (codes "Parameters") model.TemplateValue ms in
    let result = told_at place (codes "ResultPath") model.PathOrNullValue ms in
    let input = told_at place (codes "InputPath") model.PathOrNullValue ms in
    let output = told_at place (codes "OutputPath") model.PathOrNullValue ms in
    let no_selector = told_none place (codes "ResultSelector") model.TemplateValue ms (absent place model.pass_rows (codes "ResultSelector") ms e refl) in
    ap (λ xs. parameters ++ xs) (last_four [] result input output ∙ ap (λ xs. xs ++ (result ++ (input ++ output))) (sym no_selector)) ∙ ap (λ xs. xs ++ processing_told place ms) (sym (append-nil parameters))
own_read model.TaskState place ms e = with_parameters place ms
own_read model.ChoiceState place ms e =
    let rules = rules_told place ms in
    ap (λ xs. rules ++ xs) (paths_alone place ms (absent place model.choice_rows (codes "ResultSelector") ms e refl) (absent place model.choice_rows (codes "ResultPath") ms e refl))
own_read model.WaitState place ms e =
    let seconds = told_at place (codes "SecondsPath") model.PathValue ms in
    let timestamp = told_at place (codes "TimestampPath") model.PathValue ms in
    ap (λ xs. seconds ++ (timestamp ++ xs)) (paths_alone place ms (absent place model.wait_rows (codes "ResultSelector") ms e refl) (absent place model.wait_rows (codes "ResultPath") ms e refl))
    ∙ sym (append_assoc seconds timestamp (processing_told place ms))
own_read model.SucceedState place ms e = paths_alone place ms (absent place model.path_rows (codes "ResultSelector") ms e refl) (absent place model.path_rows (codes "ResultPath") ms e refl)
own_read model.FailState place ms e =
    let none : (n : List ℕ) (wanted : model.Wanted) → has_row n model.fail_rows ≡ false → told_at place n wanted ms ≡ [] = λ n wanted h. told_none place n wanted ms (absent place model.fail_rows n ms e h) in
    sym (ap (λ xs. xs ++ (told_at place (codes "ResultPath") model.PathOrNullValue ms ++ (told_at place (codes "InputPath") model.PathOrNullValue ms ++ told_at place (codes "OutputPath") model.PathOrNullValue ms))) (none (codes "ResultSelector") model.TemplateValue refl)
    ∙ (ap (λ xs. xs ++ (told_at place (codes "InputPath") model.PathOrNullValue ms ++ told_at place (codes "OutputPath") model.PathOrNullValue ms)) (none (codes "ResultPath") model.PathOrNullValue refl)
    ∙ (ap (λ xs. xs ++ told_at place (codes "OutputPath") model.PathOrNullValue ms) (none (codes "InputPath") model.PathOrNullValue refl)
    ∙ none (codes "OutputPath") model.PathOrNullValue refl)))
own_read model.ParallelState place ms e = with_parameters place ms
own_read model.MapState place ms e =
    let items = told_at place (codes "ItemsPath") model.PathValue ms in
    let selector = told_at place (codes "ItemSelector") model.ItemTemplateValue ms in
    let parameters = told_at place (codes "Parameters") model.ItemTemplateValue ms in
    ap (λ xs. items ++ (selector ++ (parameters ++ xs))) (all_four place ms)
    ∙ (ap (λ xs. items ++ xs) (sym (append_assoc selector parameters (processing_told place ms))) ∙ sym (append_assoc items (selector ++ parameters) (processing_told place ms)))
