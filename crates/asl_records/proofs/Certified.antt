-- What is wrong with a certificate, by the parts in which it is read.
use Rattle.std.proofs.Common.{◌≡◌, ◌<◌, List, length, refl, Option, [], ◌∷◌, ◌++◌, codes, pos, Some, None, unwrap_or, Bool, true, ℕ, Bor, Vec, Global, ⊎_elim, sym, ap, subst, ◌∙◌}
use Rattle.std.specs.List.{Contains}
use Rattle.std.proofs.lemmas.List.Elements.{Contains-append_left, Contains-append_right, Contains-append_cases}
use Rattle.serde_json.specs.Data as json
use Rattle.serde_json.specs.Data.{Data, Members}
use Rattle.serde_json.specs.Find.{as_object, get_member}
use Rattle.asl_model.specs.Tree.{Tree}
use Rattle.asl_model.specs.Records.{Reading, RecordComplaint, certificate_reading, certificate_rows, state_rows, listed_complaints, listed_from, listed_in, entries_complaints, members_in, members_under}
use Rattle.asl_records.specs.Parts.{TellsOneOf, certified, field_complaints, foreign_complaints, is_number, listed_row, reading_of, shape_row, entries_row, version_row, members_there, shape_there, states_there, trees_there, unlisted}
use Rattle.asl_records.specs.declared.refusals.ReadFault.{ReadFault}
use Rattle.asl_numbered.specs.Expansion.{IsNumberOf, Keeps}
use Rattle.asl_model.specs.Shape.{Shape}
use Rattle.asl_numbered.specs.References.{numbers_given}
use Rattle.asl_numbered.specs.Laws.{kept_shape}
use Rattle.asl_records.specs.Listed.{IsReading}
use Rattle.asl_records.specs.Numbered.{numbered_view}
use Rattle.asl_records.specs.Numbering.{AreStatesOf}
use Rattle.asl_records.specs.declared.records.NumberedCertificate.{NumberedCertificate}
use Rattle.asl_records.proofs.Meant.{IsLent, kept_items, lent_meant}
use Rattle.asl_records.proofs.Objects.{names_of, parts, shown}
use Rattle.asl_records.proofs.Telling.{told_all, told_same}

-- ---- what references don't change

pub same_list : (reading : Reading) (o : Option Data) → field_complaints (unlisted reading.several) [] listed_row o ≡ field_complaints reading [] listed_row o
same_list reading None = refl
same_list reading (Some v) = refl

-- about fields that aren't known
abbrev pub of_others : Members → List RecordComplaint
of_others ms = foreign_complaints [] (names_of certificate_rows) ms

-- ---- where shapes are read so

module _ (reading : Reading) where
  -- about the version, the list of shapes, the output, the states as a field, and the states' entries
  abbrev pub of_version : Members → List RecordComplaint
  of_version ms = field_complaints reading [] version_row (get_member (codes "version") ms)

  abbrev pub of_list : Members → List RecordComplaint
  of_list ms = field_complaints reading [] listed_row (get_member (codes "shapes") ms)

  abbrev pub of_output : Members → List RecordComplaint
  of_output ms = field_complaints reading [] (shape_row (codes "output") true) (get_member (codes "output") ms)

  abbrev pub of_states : Members → List RecordComplaint
  of_states ms = field_complaints reading [] (entries_row (codes "states") true) (get_member (codes "states") ms)

  abbrev pub of_entries : Members → List RecordComplaint
  of_entries ms = entries_complaints reading state_rows (members_there (get_member (codes "states") ms))

  -- about the fields behind the list
  abbrev pub of_parts : Members → List RecordComplaint
  of_parts ms = of_output ms ++ (of_states ms ++ of_entries ms)

  -- about all fields, and about all of it
  abbrev of_rows : Members → List RecordComplaint
  of_rows ms = of_version ms ++ (of_list ms ++ (of_output ms ++ (of_states ms ++ [])))

  abbrev of_all : Members → List RecordComplaint
  of_all ms = (of_rows ms ++ of_others ms) ++ of_entries ms

  all_of : (v : Data) (ms : Members) → as_object v ≡ Some ms → listed_complaints reading v ≡ of_all ms
  all_of v ms is =
      ap (λ cs. cs ++ entries_complaints reading state_rows (members_under (codes "states") v)) (shown reading [] certificate_rows v ms is)
      ∙ ap (λ o. parts reading [] certificate_rows ms ++ entries_complaints reading state_rows (members_there (get_member (codes "states") (unwrap_or o json.no_members)))) is

  -- where no part has a complaint, there is none
  pub none_wrong : (v : Data) (ms : Members) → as_object v ≡ Some ms → of_others ms ≡ [] → of_version ms ≡ [] → of_list ms ≡ [] → of_parts ms ≡ [] → listed_complaints reading v ≡ []
  none_wrong v ms is others version list further = all_of v ms is ∙ (rw (version, list) (by (of_output ms) (of_states ms) (of_others ms) (of_entries ms) others further))
    where
      by : (xs ys zs us : List RecordComplaint) → zs ≡ [] → xs ++ (ys ++ us) ≡ [] → ((xs ++ (ys ++ [])) ++ zs) ++ us ≡ []
      by [] [] zs us e h = rw e h
      by [] (y ∷ ys) zs us e h = absurd (cc)
      by (x ∷ xs) ys zs us e h = absurd (cc)

  -- what is told of a part is told of the whole
  told_of : (v : Data) (ms : Members) (xs : List RecordComplaint) (f : ReadFault) → as_object v ≡ Some ms → ((c : RecordComplaint) → Contains xs c → Contains (of_all ms) c) → TellsOneOf xs f → TellsOneOf (listed_complaints reading v) f
  told_of v ms xs f is all told = told_same f _ _ (told_all f xs _ all told) (sym (all_of v ms is))

  in_rows : (ms : Members) (c : RecordComplaint) → Contains (of_rows ms) c → Contains (of_all ms) c
  in_rows ms c h = Contains-append_left (of_rows ms ++ of_others ms) (of_entries ms) c (Contains-append_left (of_rows ms) (of_others ms) c h)

  pub others_told : (v : Data) (ms : Members) (f : ReadFault) → as_object v ≡ Some ms → TellsOneOf (of_others ms) f → TellsOneOf (listed_complaints reading v) f
  others_told v ms f is told =
      told_of v ms (of_others ms) f is (λ c h. Contains-append_left (of_rows ms ++ of_others ms) (of_entries ms) c (Contains-append_right (of_rows ms) (of_others ms) c h)) told

  pub version_told : (v : Data) (ms : Members) (f : ReadFault) → as_object v ≡ Some ms → TellsOneOf (of_version ms) f → TellsOneOf (listed_complaints reading v) f
  version_told v ms f is told = told_of v ms (of_version ms) f is (λ c h. in_rows ms c (Contains-append_left (of_version ms) (of_list ms ++ (of_output ms ++ (of_states ms ++ []))) c h)) told

  behind_version : (ms : Members) (c : RecordComplaint) → Contains (of_list ms ++ (of_output ms ++ (of_states ms ++ []))) c → Contains (of_all ms) c
  behind_version ms c h = in_rows ms c (Contains-append_right (of_version ms) (of_list ms ++ (of_output ms ++ (of_states ms ++ []))) c h)

  pub list_told : (v : Data) (ms : Members) (f : ReadFault) → as_object v ≡ Some ms → TellsOneOf (of_list ms) f → TellsOneOf (listed_complaints reading v) f
  list_told v ms f is told = told_of v ms (of_list ms) f is (λ c h. behind_version ms c (Contains-append_left (of_list ms) (of_output ms ++ (of_states ms ++ [])) c h)) told

  behind_list : (ms : Members) (c : RecordComplaint) → Contains (of_output ms ++ (of_states ms ++ [])) c → Contains (of_all ms) c
  behind_list ms c h = behind_version ms c (Contains-append_right (of_list ms) (of_output ms ++ (of_states ms ++ [])) c h)

  pub parts_told : (v : Data) (ms : Members) (f : ReadFault) → as_object v ≡ Some ms → TellsOneOf (of_parts ms) f → TellsOneOf (listed_complaints reading v) f
  parts_told v ms f is told = told_of v ms (of_parts ms) f is (λ c h. ⊎_elim (as_output c) (as_state c) (Contains-append_cases (of_output ms) (of_states ms ++ of_entries ms) c h)) told
    where
      as_output : (c : RecordComplaint) → Contains (of_output ms) c → Contains (of_all ms) c
      as_output c h = behind_list ms c (Contains-append_left (of_output ms) (of_states ms ++ []) c h)

      as_row : (c : RecordComplaint) → Contains (of_states ms) c → Contains (of_all ms) c
      as_row c h = behind_list ms c (Contains-append_right (of_output ms) (of_states ms ++ []) c (Contains-append_left (of_states ms) [] c h))

      as_entry : (c : RecordComplaint) → Contains (of_entries ms) c → Contains (of_all ms) c
      as_entry c h = Contains-append_right (of_rows ms ++ of_others ms) (of_entries ms) c h

      as_state : (c : RecordComplaint) → Contains (of_states ms ++ of_entries ms) c → Contains (of_all ms) c
      as_state c h = ⊎_elim (as_row c) (as_entry c) (Contains-append_cases (of_states ms) (of_entries ms) c h)

  pub stands_for : (v : Data) (ms : Members) → as_object v ≡ Some ms → certified reading.listed ms ≡ listed_from reading.listed v
  stands_for v ms is = rw is refl

-- what was read of the output and of the states makes the certificate, in a table that grew between
pub numbered_for : (listed : Option (List Tree)) (one : List Shape) (numbered : NumberedCertificate) (ms : Members) → IsNumberOf one (shape_there listed (get_member (codes "output") ms)) numbered.output → Keeps one numbered.shapes
    → AreStatesOf numbered.shapes (states_there listed (get_member (codes "states") ms)) numbered.states.entries → numbered_view numbered ≡ certified listed ms
numbered_for listed one numbered ms output keeps states =
    let below : numbered.output < length one = output.within in
    rw (kept_shape one numbered.shapes numbered.output keeps below, output.same, states.same) refl

-- ---- how its shapes are read

-- as its version and its list say
pub is_its_reading : (several : Bool) (v : Data) (ms : Members) → as_object v ≡ Some ms → several ≡ is_number (pos 2) (get_member (codes "version") ms) → reading_of several (listed_in (members_in v)) ≡ certificate_reading (members_in v)
is_its_reading several v ms is version = rw (version, is) refl

-- the numbers of its list mean its trees
pub reading_meant : (several : Bool) (table : List Shape) (kept : Option (Vec ℕ Global)) (lent : Option (Bor (List ℕ))) (v : Data) (ms : Members) → as_object v ≡ Some ms
    → IsLent kept lent → IsReading several table (kept_items kept) (reading_of several (trees_there (get_member (codes "shapes") ms))) → IsReading several table (numbers_given lent) (reading_of several (listed_in (members_in v)))
reading_meant several table kept lent v ms is lends means =
    let same : trees_there (get_member (codes "shapes") ms) ≡ listed_in (members_in v) = ap listed_in (sym (ap (λ o. unwrap_or o json.no_members) is)) in
    lent_meant several table kept lent (reading_of several (listed_in (members_in v))) lends (subst (λ ts. IsReading several table (kept_items kept) (reading_of several ts)) same means)
