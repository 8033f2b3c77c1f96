-- What is wrong with an object, by its parts: its fields and those that it shouldn't have.
use Rattle.std.proofs.Common.{◌≡◌, ℕ, List, [], ◌∷◌, ◌++◌, map, ◌||◌, if◌then◌else◌, bytes_eq, Some, refl, sym, ap, ◌∙◌}
use Rattle.serde_json.specs.Data as json
use Rattle.serde_json.specs.Data.{Data, Members}
use Rattle.serde_json.specs.Find.{as_object}
use Rattle.asl_model.specs.ShapeSpelling.{is_among}
use Rattle.asl_model.specs.Records.{Reading, RecordComplaint, RecordRow, UnknownField, has_row, object_complaints, rows_complaints, unknown_complaints}
use Rattle.asl_records.specs.Parts.{TellsOneOf, complaint_of, foreign_complaints}
use Rattle.asl_records.specs.declared.refusals.ReadFault.{ReadFault}
use Rattle.asl_records.proofs.Telling.{told_left, told_right, told_same}

-- the names of rows
abbrev pub names_of : List RecordRow → List (List ℕ)
names_of rows = map (λ row. row.field) rows

named : (n : List ℕ) (rows : List RecordRow) → has_row n rows ≡ is_among n (names_of rows)
named n [] = refl
named n (row ∷ rows) = ap (λ b. bytes_eq row.field n || b) (named n rows)

-- the fields that have no row are those that aren't known by its name
pub unknown_are_foreign : (name : List ℕ) (rows : List RecordRow) (ms : Members) → unknown_complaints name rows ms ≡ foreign_complaints name (names_of rows) ms
unknown_are_foreign name rows json.no_members = refl
unknown_are_foreign name rows (json.member n v ms) =
    ap (λ b. if b then unknown_complaints name rows ms else complaint_of name n UnknownField ∷ unknown_complaints name rows ms) (named n rows)
    ∙ ap (λ cs. if is_among n (names_of rows) then cs else complaint_of name n UnknownField ∷ cs) (unknown_are_foreign name rows ms)

-- the complaints about an object, that of its members known
abbrev pub parts : Reading → List ℕ → List RecordRow → Members → List RecordComplaint
parts reading name rows ms = rows_complaints reading name rows ms ++ foreign_complaints name (names_of rows) ms

pub shown : (reading : Reading) (name : List ℕ) (rows : List RecordRow) (v : Data) (ms : Members) → as_object v ≡ Some ms → object_complaints reading name rows v ≡ parts reading name rows ms
shown reading name rows v ms is = (rw is refl) ∙ ap (λ cs. rows_complaints reading name rows ms ++ cs) (unknown_are_foreign name rows ms)

pub foreign_told_of : (reading : Reading) (name : List ℕ) (rows : List RecordRow) (v : Data) (ms : Members) (f : ReadFault) → as_object v ≡ Some ms → TellsOneOf (foreign_complaints name (names_of rows) ms) f → TellsOneOf (object_complaints reading name rows v) f
foreign_told_of reading name rows v ms f is told =
    told_same f _ _ (told_right f (rows_complaints reading name rows ms) (foreign_complaints name (names_of rows) ms) told) (sym (shown reading name rows v ms is))

pub rows_told_of : (reading : Reading) (name : List ℕ) (rows : List RecordRow) (v : Data) (ms : Members) (f : ReadFault) → as_object v ≡ Some ms → TellsOneOf (rows_complaints reading name rows ms) f → TellsOneOf (object_complaints reading name rows v) f
rows_told_of reading name rows v ms f is told =
    told_same f _ _ (told_left f (rows_complaints reading name rows ms) (foreign_complaints name (names_of rows) ms) told) (sym (shown reading name rows v ms is))
