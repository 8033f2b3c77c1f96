-- What is said of a value as a record hangs on the tree that it is, not on how its numbers are spelled.
use Rattle.std.proofs.Common.{◌≡◌, ℕ, ℤ, pos, List, [], ◌∷◌, ◌++◌, Bool, false, Option, Some, None, option_map, option_and_then, is_some, if◌then◌else◌, codes, refl, ap, ◌∙◌}
use Rattle.std.specs.Option.{unwrap_or}
use Rattle.std.specs.Ordering.{int_eq}
use Rattle.serde_json.specs.Data as json
use Rattle.serde_json.specs.Data.{Data, Items, Members, Num}
use Rattle.serde_json.specs.Find.{as_array, as_i64, as_number, as_object, get_member}
use Rattle.asl_model.specs.Records.{Reading, RecordRow, VersionValue, ShapeValue, ShapesValue, ListedValue, EntriesValue, RecordValue, WrongKind, plain_tree, listed_after, listed_in, is_version, certificate_reading, shape_misfits, shapes_misfits, listed_misfits, version_misfits, misfits, record_row_faults, rows_complaints, unknown_complaints, object_complaints, members_in, members_under, entries_complaints, declared_complaints, listed_complaints, certificate_complaints, shape_from, shape_at, shapes_from, task_from, state_from, entries_from, declared_from, listed_from, certificate_from, certificate_rows, declared_rows, state_rows, task_rows, declared_reading}
use Rattle.asl_model.specs.Tree.{Tree}
use Rattle.asl_records.specs.Parts.{is_number}
use Rattle.asl_records.proofs.Signed.{signed, signed_items, signed_members, signed_number, as_i64-signed, tree_of-signed, get_member-signed}

-- a function of what is there that doesn't tell what is signed
again : {A B : Type 0} (h : A → A) (f : A → B) (same : (x : A) → f (h x) ≡ f x) (o : Option A) → option_map f (option_map h o) ≡ option_map f o
again h f same None = refl
again h f same (Some x) = ap Some (same x)

-- ---- what a value is

as_number-signed : (v : Data) → as_number (signed v) ≡ option_map signed_number (as_number v)
as_number-signed json.null = refl
as_number-signed (json.boolean b) = refl
as_number-signed (json.number n) = refl
as_number-signed (json.string s) = refl
as_number-signed (json.array vs) = refl
as_number-signed (json.object ms) = refl

as_array-signed : (v : Data) → as_array (signed v) ≡ option_map signed_items (as_array v)
as_array-signed json.null = refl
as_array-signed (json.boolean b) = refl
as_array-signed (json.number n) = refl
as_array-signed (json.string s) = refl
as_array-signed (json.array vs) = refl
as_array-signed (json.object ms) = refl

as_object-signed : (v : Data) → as_object (signed v) ≡ option_map signed_members (as_object v)
as_object-signed json.null = refl
as_object-signed (json.boolean b) = refl
as_object-signed (json.number n) = refl
as_object-signed (json.string s) = refl
as_object-signed (json.array vs) = refl
as_object-signed (json.object ms) = refl

members_in-signed : (v : Data) → members_in (signed v) ≡ signed_members (members_in v)
members_in-signed v = rw (as_object-signed v) (by (as_object v))
  where
    by : (o : Option Members) → unwrap_or (option_map signed_members o) json.no_members ≡ signed_members (unwrap_or o json.no_members)
    by None = refl
    by (Some ms) = refl

members_under-signed : (field : List ℕ) (v : Data) → members_under field (signed v) ≡ signed_members (members_under field v)
members_under-signed field v = rw (members_in-signed v, get_member-signed field (members_in v)) (by (get_member field (members_in v)))
  where
    by : (part : Option Data) → unwrap_or (option_map members_in (option_map signed part)) json.no_members ≡ signed_members (unwrap_or (option_map members_in part) json.no_members)
    by None = refl
    by (Some w) = members_in-signed w

-- ---- what is wrong

shape_misfits-signed : (reading : Reading) (v : Data) → shape_misfits reading (signed v) ≡ shape_misfits reading v
shape_misfits-signed reading v = rw (tree_of-signed v) refl

shapes_misfits-signed : (reading : Reading) (vs : Items) → shapes_misfits reading (signed_items vs) ≡ shapes_misfits reading vs
shapes_misfits-signed reading json.no_items = refl
shapes_misfits-signed reading (json.item v vs) = rw (tree_of-signed v, shapes_misfits-signed reading vs) refl

listed_misfits-signed : (several : Bool) (listed : List Tree) (vs : Items) → listed_misfits several listed (signed_items vs) ≡ listed_misfits several listed vs
listed_misfits-signed several listed json.no_items = refl
listed_misfits-signed several listed (json.item v vs) = rw (tree_of-signed v, listed_misfits-signed several (listed ++ plain_tree listed v ∷ []) vs) refl

pub misfits-signed : (reading : Reading) (value : RecordValue) (v : Data) → misfits reading value (signed v) ≡ misfits reading value v
misfits-signed reading VersionValue v = rw (as_number-signed v, again signed_number (λ n. version_misfits (as_i64 n)) (λ n. ap version_misfits (as_i64-signed n)) (as_number v)) refl
misfits-signed reading ShapeValue v = shape_misfits-signed reading v
misfits-signed reading ShapesValue v = rw (as_array-signed v, again signed_items (shapes_misfits reading) (shapes_misfits-signed reading) (as_array v)) refl
misfits-signed reading ListedValue v = rw (as_array-signed v, again signed_items (listed_misfits reading.several []) (listed_misfits-signed reading.several []) (as_array v)) refl
misfits-signed reading EntriesValue v = rw (as_object-signed v) (by (as_object v))
  where
    by : (o : Option Members) → (if is_some (option_map signed_members o) then [] else WrongKind ∷ []) ≡ (if is_some o then [] else WrongKind ∷ [])
    by None = refl
    by (Some ms) = refl

row_faults-signed : (reading : Reading) (row : RecordRow) (part : Option Data) → record_row_faults reading row (option_map signed part) ≡ record_row_faults reading row part
row_faults-signed reading row None = refl
row_faults-signed reading row (Some v) = misfits-signed reading row.value v

rows_complaints-signed : (reading : Reading) (name : List ℕ) (rows : List RecordRow) (ms : Members) → rows_complaints reading name rows (signed_members ms) ≡ rows_complaints reading name rows ms
rows_complaints-signed reading name [] ms = refl
rows_complaints-signed reading name (row ∷ rows) ms = rw (get_member-signed row.field ms, row_faults-signed reading row (get_member row.field ms), rows_complaints-signed reading name rows ms) refl

unknown_complaints-signed : (name : List ℕ) (rows : List RecordRow) (ms : Members) → unknown_complaints name rows (signed_members ms) ≡ unknown_complaints name rows ms
unknown_complaints-signed name rows json.no_members = refl
unknown_complaints-signed name rows (json.member n v ms) = rw (unknown_complaints-signed name rows ms) refl

object_parts-signed : (reading : Reading) (name : List ℕ) (rows : List RecordRow) (ms : Members) → rows_complaints reading name rows (signed_members ms) ++ unknown_complaints name rows (signed_members ms) ≡ rows_complaints reading name rows ms ++ unknown_complaints name rows ms
object_parts-signed reading name rows ms = rw (rows_complaints-signed reading name rows ms, unknown_complaints-signed name rows ms) refl

pub object_complaints-signed : (reading : Reading) (name : List ℕ) (rows : List RecordRow) (v : Data) → object_complaints reading name rows (signed v) ≡ object_complaints reading name rows v
object_complaints-signed reading name rows v =
    rw (as_object-signed v, again signed_members (λ ms. rows_complaints reading name rows ms ++ unknown_complaints name rows ms) (object_parts-signed reading name rows) (as_object v)) refl

entries_complaints-signed : (reading : Reading) (rows : List RecordRow) (ms : Members) → entries_complaints reading rows (signed_members ms) ≡ entries_complaints reading rows ms
entries_complaints-signed reading rows json.no_members = refl
entries_complaints-signed reading rows (json.member n v ms) = rw (object_complaints-signed reading n rows v, entries_complaints-signed reading rows ms) refl

pub declared_complaints-signed : (v : Data) → declared_complaints (signed v) ≡ declared_complaints v
declared_complaints-signed v = rw (object_complaints-signed declared_reading [] declared_rows v, members_under-signed (codes "tasks") v, entries_complaints-signed declared_reading task_rows (members_under (codes "tasks") v)) refl

-- ---- how a certificate is read

pub is_number-signed : (n : ℤ) (v : Data) → is_number n (Some (signed v)) ≡ is_number n (Some v)
is_number-signed n v = rw (as_number-signed v) (by (as_number v))
  where
    by : (o : Option Num) → unwrap_or (option_map (int_eq n) (option_and_then as_i64 (option_map signed_number o))) false ≡ unwrap_or (option_map (int_eq n) (option_and_then as_i64 o)) false
    by None = refl
    by (Some m) = rw (as_i64-signed m) refl

is_version-signed : (n : ℤ) (ms : Members) → is_version n (signed_members ms) ≡ is_version n ms
is_version-signed n ms = rw (get_member-signed (codes "version") ms) (by (get_member (codes "version") ms))
  where
    by : (part : Option Data) → is_number n (option_map signed part) ≡ is_number n part
    by None = refl
    by (Some v) = is_number-signed n v

plain_tree-signed : (listed : List Tree) (v : Data) → plain_tree listed (signed v) ≡ plain_tree listed v
plain_tree-signed listed v = rw (tree_of-signed v) refl

listed_after-signed : (listed : List Tree) (vs : Items) → listed_after listed (signed_items vs) ≡ listed_after listed vs
listed_after-signed listed json.no_items = refl
listed_after-signed listed (json.item v vs) = ap (λ t. listed_after (listed ++ t ∷ []) (signed_items vs)) (plain_tree-signed listed v) ∙ listed_after-signed (listed ++ plain_tree listed v ∷ []) vs

list-signed : (v : Data) → listed_after [] (unwrap_or (as_array (signed v)) json.no_items) ≡ listed_after [] (unwrap_or (as_array v) json.no_items)
list-signed v = rw (as_array-signed v) (by (as_array v))
  where
    by : (o : Option Items) → listed_after [] (unwrap_or (option_map signed_items o) json.no_items) ≡ listed_after [] (unwrap_or o json.no_items)
    by None = refl
    by (Some vs) = listed_after-signed [] vs

listed_in-signed : (ms : Members) → listed_in (signed_members ms) ≡ listed_in ms
listed_in-signed ms = rw (get_member-signed (codes "shapes") ms, again signed (λ v. listed_after [] (unwrap_or (as_array v) json.no_items)) list-signed (get_member (codes "shapes") ms)) refl

certificate_reading-signed : (v : Data) → certificate_reading (members_in (signed v)) ≡ certificate_reading (members_in v)
certificate_reading-signed v = rw (members_in-signed v, is_version-signed (pos 2) (members_in v), listed_in-signed (members_in v)) refl

listed_complaints-signed : (reading : Reading) (v : Data) → listed_complaints reading (signed v) ≡ listed_complaints reading v
listed_complaints-signed reading v = rw (object_complaints-signed reading [] certificate_rows v, members_under-signed (codes "states") v, entries_complaints-signed reading state_rows (members_under (codes "states") v)) refl

pub certificate_complaints-signed : (v : Data) → certificate_complaints (signed v) ≡ certificate_complaints v
certificate_complaints-signed v = ap (λ reading. listed_complaints reading (signed v)) (certificate_reading-signed v) ∙ listed_complaints-signed (certificate_reading (members_in v)) v

-- ---- what is read

shape_from-signed : (listed : Option (List Tree)) (v : Data) → shape_from listed (signed v) ≡ shape_from listed v
shape_from-signed listed v = rw (tree_of-signed v) refl

shape_at-signed : (listed : Option (List Tree)) (field : List ℕ) (v : Data) → shape_at listed field (signed v) ≡ shape_at listed field v
shape_at-signed listed field v = rw (members_in-signed v, get_member-signed field (members_in v), again signed (shape_from listed) (shape_from-signed listed) (get_member field (members_in v))) refl

shapes_from-signed : (listed : Option (List Tree)) (vs : Items) → shapes_from listed (signed_items vs) ≡ shapes_from listed vs
shapes_from-signed listed json.no_items = refl
shapes_from-signed listed (json.item v vs) = rw (tree_of-signed v, shapes_from-signed listed vs) refl

lists-signed : (listed : Option (List Tree)) (part : Option Data) → option_map (shapes_from listed) (option_and_then as_array (option_map signed part)) ≡ option_map (shapes_from listed) (option_and_then as_array part)
lists-signed listed None = refl
lists-signed listed (Some v) = rw (as_array-signed v, again signed_items (shapes_from listed) (shapes_from-signed listed) (as_array v)) refl

task_from-signed : (v : Data) → task_from (signed v) ≡ task_from v
task_from-signed v = rw (shape_at-signed None (codes "takes") v, shape_at-signed None (codes "gives") v) refl

pub state_from-signed : (listed : Option (List Tree)) (v : Data) → state_from listed (signed v) ≡ state_from listed v
state_from-signed listed v =
    rw (
      shape_at-signed listed (codes "input") v,
      shape_at-signed listed (codes "output") v,
      members_in-signed v,
      get_member-signed (codes "branches") (members_in v),
      get_member-signed (codes "item") (members_in v),
      lists-signed listed (get_member (codes "branches") (members_in v)),
      again signed (shape_from listed) (shape_from-signed listed) (get_member (codes "item") (members_in v)),
    ) refl

entries_from-signed : {A : Type 0} (f : Data → A) (same : (v : Data) → f (signed v) ≡ f v) (ms : Members) → entries_from f (signed_members ms) ≡ entries_from f ms
entries_from-signed f same json.no_members = refl
entries_from-signed f same (json.member n v ms) = rw (same v, entries_from-signed f same ms) refl

pub declared_from-signed : (v : Data) → declared_from (signed v) ≡ declared_from v
declared_from-signed v = rw (shape_at-signed None (codes "input") v, members_under-signed (codes "tasks") v, entries_from-signed task_from task_from-signed (members_under (codes "tasks") v)) refl

pub certificate_from-signed : (v : Data) → certificate_from (signed v) ≡ certificate_from v
certificate_from-signed v = ap (λ ms. listed_from (listed_in ms) (signed v)) (members_in-signed v) ∙ ap (λ listed. listed_from listed (signed v)) (listed_in-signed (members_in v)) ∙ by (listed_in (members_in v))
  where
    by : (listed : Option (List Tree)) → listed_from listed (signed v) ≡ listed_from listed v
    by listed = rw (shape_at-signed listed (codes "output") v, members_under-signed (codes "states") v, entries_from-signed (state_from listed) (state_from-signed listed) (members_under (codes "states") v)) refl
