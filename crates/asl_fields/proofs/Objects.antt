-- What is told of the fields of an object, one after another.
use Rattle.std.proofs.Common.{◌≡◌, ℕ, ◌+◌, ◌<◌, List, ◌∷◌, ◌++◌, length, map, drop, drop-cons, get_or, add-one, Option, Some, option_map, Err, Bool, true, false, if◌then◌else◌, refl, sym, ap, ◌∙◌, subst, arith}
use Rattle.std.specs.List.{Contains}
use Rattle.serde_json.specs.Data as json
use Rattle.serde_json.specs.Data.{Data, Members}
use Rattle.serde_json.specs.Find.{get, get_member}
use Rattle.asl_model.specs.DefinitionTable as model
use Rattle.asl_model.specs.Json.{tree_of}
use Rattle.asl_model.specs.ShapeSpelling.{is_among}
use Rattle.asl_model.specs.StandsFor.{Complaint, Place, members_in, complaint_at, foreign_complaints, has_row}
use Rattle.asl_fields.specs.declared.rows.Row.{Row}
use Rattle.asl_fields.specs.declared.places.Complaint.{Complaint as Objection}
use Rattle.asl_fields.specs.Reading.{checked_faults, checked_complaints, given_faults, template_wanted}
use Rattle.asl_fields.specs.Rows.{row_view, rows_view}
use Rattle.asl_fields.specs.Verdicts.{complaint_view, IsAmong, IsVerdict}

-- a field of a value is one of its members
pub got_among : (field : List ℕ) (v : Data) → get field v ≡ get_member field (members_in v)
got_among field json.null = refl
got_among field (json.boolean b) = refl
got_among field (json.number n) = refl
got_among field (json.string s) = refl
got_among field (json.array vs) = refl
got_among field (json.object ms) = refl

-- what is wrong with the field of a row that isn't read
abbrev pub row_complaints : Place → Row → Data → List Complaint
row_complaints place row v = map (complaint_at place row.name.now) (checked_faults (row_view row) (get row.name.now v))

-- with those behind it
abbrev pub rows_behind : Place → List Row → ℕ → Data → List Complaint
rows_behind place rows i v = checked_complaints place (rows_view (drop (i + 1) rows)) (members_in v)

-- the rows left are the first of them and those behind it
pub rows_parts : (place : Place) (rows : List Row) (i : ℕ) (d : Row) (v : Data) (wrong : List Complaint) → i < length rows → wrong ≡ checked_complaints place (rows_view (drop i rows)) (members_in v)
    → wrong ≡ row_complaints place (get_or rows i d) v ++ rows_behind place rows i v
rows_parts place rows i d v wrong h all =
    all ∙ ap (λ left. checked_complaints place (rows_view left) (members_in v)) (drop-cons rows i d h)
    ∙ (rw (add-one, got_among (get_or rows i d).name.now v) refl)

-- a complaint that heads a list
pub told_head : {A : Type 0} (x : Complaint) (xs wrong : List Complaint) (c : Objection) → wrong ≡ x ∷ xs → complaint_view c ≡ Some x → IsVerdict {A = A} wrong (Err c)
told_head x xs wrong c all told = record { holds = subst (λ o. IsAmong wrong o) (sym told) (subst (λ cs. Contains cs x) (sym all) (0, omega arith, refl)) }

-- a field without a row is told as the first of those left
pub foreign_told : {A : Type 0} (place : Place) (rows : List model.Row) (wrong : List Complaint) (n : List ℕ) (v : Data) (others : Members) (fault : Option model.DefFault) (c : Objection)
    → wrong ≡ foreign_complaints place rows (json.member n v others) → has_row n rows ≡ false
    → fault ≡ Some (if is_among n model.left_out_fields then model.LeftOut else model.UnknownField) → complaint_view c ≡ option_map (complaint_at place n) fault → IsVerdict {A = A} wrong (Err c)
foreign_told place rows wrong n v others fault c all none is told =
    told_head (complaint_at place n (if is_among n model.left_out_fields then model.LeftOut else model.UnknownField)) (foreign_complaints place rows others) wrong c (all ∙ (rw none refl)) (told ∙ ap (option_map (complaint_at place n)) is)

-- what is wrong with the value of a field is told of the field
pub told_given : {A : Type 0} (place : Place) (field : List ℕ) (required : Bool) (wanted : model.Wanted) (v value : Data) (c : Objection) → get field v ≡ Some value → IsAmong (map (complaint_at place field) (model.misfits wanted value)) (complaint_view c)
    → IsVerdict {A = A} (map (complaint_at place field) (given_faults required wanted (get_member field (members_in v)))) (Err c)
told_given place field required wanted v value c e h =
    record { holds = subst (λ o. IsAmong (map (complaint_at place field) (given_faults required wanted o)) (complaint_view c)) (sym (sym (got_among field v) ∙ e)) h }

-- the misfits of a template
pub template_same : (item : Bool) (v : Data) → model.misfits (template_wanted item) v ≡ model.template_misfits item (tree_of v)
template_same true v = refl
template_same false v = refl
