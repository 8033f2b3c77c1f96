-- What is known of the fields of an object of a definition where nothing is told of them.
use Rattle.std.proofs.Common.{◌≡◌, refl, sym, ap, ◌∙◌, subst, ℕ, zero, suc, List, [], ◌∷◌, map, Bool, true, false, ◌||◌, if◌then◌else◌, IsTrue, Option, Some, None, is_some, option_and_then, slice_get, bytes_eq, codes}
use Rattle.std.proofs.lemmas.Slice.Eq.{bytes_eq-Decides}
use Rattle.serde_json.specs.Data as json
use Rattle.serde_json.specs.Data.{Data, Members}
use Rattle.serde_json.specs.Find.{get_member, as_str, as_object}
use Rattle.asl_model.specs.DefinitionTable.{DefFault, Row, TextValue, ScopeValue, unless, wrong_kind, map_rows}
use Rattle.asl_model.specs.StandsFor.{Complaint, Place, complaint_at, complain_unless, row_faults, rows_complaints, has_row, foreign_complaints, is_given, text_at, one_of_complaints, processor_complaints, is_processor}
use Rattle.asl_model.proofs.FindingScopes.{append-none, map-none}
use Rattle.asl_model.proofs.ReadingLookups.{first_member}
use Rattle.asl_model.proofs.RunOptions.{some_inj, none_some, false_true}

-- a test of which nothing is told holds
pub right_unless : (right : Bool) (place : Place) (field : List ℕ) (fault : DefFault) → complain_unless right place field fault ≡ [] → right ≡ true
right_unless true place field fault e = refl
right_unless false place field fault e = absurd (cc)

-- ---- fields with a row

-- nothing is wrong with the field of the row at a position
pub row_right : (place : Place) (ms : Members) (rows : List Row) (i : ℕ) (row : Row) → slice_get rows i ≡ Some row → rows_complaints place rows ms ≡ [] → row_faults row (get_member row.field ms) ≡ []
row_right place ms [] i row at e = none_some at
row_right place ms (first ∷ rows) zero row at e =
    let told = append-none (map (complaint_at place first.field) (row_faults first (get_member first.field ms))) (rows_complaints place rows ms) e in
    subst (λ (r : Row). row_faults r (get_member r.field ms) ≡ []) (some_inj at) (map-none (complaint_at place first.field) (row_faults first (get_member first.field ms)) told.0)
row_right place ms (first ∷ rows) (suc i) row at e =
    let told = append-none (map (complaint_at place first.field) (row_faults first (get_member first.field ms))) (rows_complaints place rows ms) e in
    row_right place ms rows i row at told.1

-- the row of a text that has to be there
abbrev pub text_row : List ℕ → Row
text_row field = record { field = field; wanted = TextValue; required = true }

text_in : (field : List ℕ) (o : Option Data) → row_faults (text_row field) o ≡ [] → IsTrue (is_some (option_and_then as_str o))
text_in field None e = absurd (cc)
text_in field (Some v) e = by (as_str v) e
  where
    by : (s : Option (List ℕ)) → unless (is_some s) (wrong_kind v) ≡ [] → IsTrue (is_some s)
    by None h = absurd (cc)
    by (Some s) h = refl

-- a text that has to be there is there
pub text_given : (place : Place) (ms : Members) (rows : List Row) (i : ℕ) (field : List ℕ) → slice_get rows i ≡ Some (text_row field) → rows_complaints place rows ms ≡ [] → IsTrue (is_some (text_at field ms))
text_given place ms rows i field at e = text_in field (get_member field ms) (row_right place ms rows i (text_row field) at e)

-- ---- fields without one

-- a field without a row isn't there
pub foreign_absent : (place : Place) (rows : List Row) (field : List ℕ) (ms : Members) → has_row field rows ≡ false → foreign_complaints place rows ms ≡ [] → get_member field ms ≡ None
foreign_absent place rows field json.no_members none e = refl
foreign_absent place rows field (json.member n v ms) none e = by (has_row n rows) refl _ e (foreign_absent place rows field ms none)
  where
    other : (b : Bool) → bytes_eq field n ≡ b → has_row n rows ≡ true → bytes_eq field n ≡ false
    other true f g = false_true (sym none ∙ (ap (λ (m : List ℕ). has_row m rows) ((bytes_eq-Decides field n).0 f) ∙ g))
    other false f g = f

    by : (b : Bool) → has_row n rows ≡ b → (c : Complaint) → (if b then foreign_complaints place rows ms else c ∷ foreign_complaints place rows ms) ≡ [] → (foreign_complaints place rows ms ≡ [] → get_member field ms ≡ None) → get_member field (json.member n v ms) ≡ None
    by true g c h further = first_member field n v ms ∙ (ap (λ b. elim b [ true ↦ Some v | false ↦ get_member field ms ]) (other (bytes_eq field n) refl g) ∙ further h)
    by false g c h further = absurd (cc)

-- ---- a Map's processor

-- the value, where there is one, is an object
abbrev pub IfObject : Option Data → Type 0
IfObject None = Unit {0}
IfObject (Some v) = IsTrue (is_some (as_object v))

-- the row of a scope that may be absent
abbrev scope_row : List ℕ → Row
scope_row field = record { field = field; wanted = ScopeValue; required = false }

object_in : (field : List ℕ) (o : Option Data) → row_faults (scope_row field) o ≡ [] → IfObject o
object_in field None e = tt
object_in field (Some v) e = by (as_object v) e
  where
    by : (s : Option Members) → unless (is_some s) (wrong_kind v) ≡ [] → IsTrue (is_some s)
    by None h = absurd (cc)
    by (Some s) h = refl

-- the first member that is a processor is an object
abbrev pub has_processor : Members → Bool
has_processor json.no_members = false
has_processor (json.member n v ms) = elim (is_processor n) [ true ↦ is_some (as_object v) | false ↦ has_processor ms ]

first_processor : (ms : Members) → IfObject (get_member (codes "ItemProcessor") ms) → IfObject (get_member (codes "Iterator") ms) → (is_given (codes "ItemProcessor") ms || is_given (codes "Iterator") ms) ≡ true → has_processor ms ≡ true
first_processor json.no_members a b given = absurd (cc)
first_processor (json.member n v ms) a b given =
    by (bytes_eq (codes "ItemProcessor") n) (bytes_eq (codes "Iterator") n) (subst IfObject first a) (subst IfObject second b) (ap (λ o. is_some o || is_some (elim (bytes_eq (codes "Iterator") n) [ true ↦ Some v | false ↦ get_member (codes "Iterator") ms ])) (sym first) ∙ (ap (λ o. is_some (get_member (codes "ItemProcessor") (json.member n v ms)) || is_some o) (sym second) ∙ given)) (first_processor ms)
  where
    first : get_member (codes "ItemProcessor") (json.member n v ms) ≡ (elim (bytes_eq (codes "ItemProcessor") n) [ true ↦ Some v | false ↦ get_member (codes "ItemProcessor") ms ])
    first = first_member (codes "ItemProcessor") n v ms

    second : get_member (codes "Iterator") (json.member n v ms) ≡ (elim (bytes_eq (codes "Iterator") n) [ true ↦ Some v | false ↦ get_member (codes "Iterator") ms ])
    second = first_member (codes "Iterator") n v ms

    by : (x y : Bool) → IfObject (elim x [ true ↦ Some v | false ↦ get_member (codes "ItemProcessor") ms ]) → IfObject (elim y [ true ↦ Some v | false ↦ get_member (codes "Iterator") ms ])
        → (is_some (elim x [ true ↦ Some v | false ↦ get_member (codes "ItemProcessor") ms ]) || is_some (elim y [ true ↦ Some v | false ↦ get_member (codes "Iterator") ms ])) ≡ true
        → (IfObject (get_member (codes "ItemProcessor") ms) → IfObject (get_member (codes "Iterator") ms) → (is_given (codes "ItemProcessor") ms || is_given (codes "Iterator") ms) ≡ true → has_processor ms ≡ true)
        → (elim (x || y) [ true ↦ is_some (as_object v) | false ↦ has_processor ms ]) ≡ true
    by true y p q g further = p
    by false true p q g further = q
    by false false p q g further = further p q g

-- one of both names is given
one_given : (place : Place) (a b : Bool) → one_of_complaints place (codes "ItemProcessor") (if a then codes "ItemProcessor" ∷ (if b then codes "Iterator" ∷ [] else []) else (if b then codes "Iterator" ∷ [] else [])) ≡ [] → (a || b) ≡ true
one_given place true b e = refl
one_given place false true e = refl
one_given place false false e = absurd (cc)

-- a Map has a processor
pub processor_given : (place : Place) (ms : Members) → rows_complaints place map_rows ms ≡ [] → processor_complaints place ms ≡ [] → has_processor ms ≡ true
processor_given place ms rows one =
    first_processor ms
    (object_in (codes "ItemProcessor") (get_member (codes "ItemProcessor") ms) (row_right place ms map_rows 0 (scope_row (codes "ItemProcessor")) refl rows))
    (object_in (codes "Iterator") (get_member (codes "Iterator") ms) (row_right place ms map_rows 1 (scope_row (codes "Iterator")) refl rows))
    (one_given place (is_given (codes "ItemProcessor") ms) (is_given (codes "Iterator") ms) one)
