-- What is wrong with declared shapes and with the entry of a task, by the parts that are told.
use Rattle.std.proofs.Common.{◌≡◌, ℕ, List, [], ◌∷◌, ◌++◌, length, map, codes, Bool, true, false, Option, Some, None, option_map, String, BTreeMap, Global, string_bytes, refl, sym, ap, ◌∙◌, subst, append-nil, append_assoc, arith}
use Rattle.std.proofs.lemmas.List.{map-append}
use Rattle.serde_json.specs.Data as json
use Rattle.serde_json.specs.Data.{Data, Members}
use Rattle.serde_json.specs.Find.{as_object, get_member}
use Rattle.asl_model.specs.Records as model
use Rattle.asl_model.specs.Records.{RecordComplaint, BadShape, MissingField, NotObject, UnknownField, WrongKind, declared_complaints, declared_reading, declared_rows, entries_complaints, members_under, object_complaints, task_rows}
use Rattle.asl_model.specs.ShapeSpelling.{ShapeFault, is_among}
use Rattle.asl_model.specs.Tree as model_tree
use Rattle.asl_tree.specs.View.{entries_view, view}
use Rattle.asl_tree.specs.declared.Tree.{Tree}
use Rattle.asl_tree.specs.declared.Tree as code
use Rattle.asl_tree.proofs.Wholes.{view_object}
use Rattle.asl_records.specs.Parts.{complaint_of, entries_row, field_complaints, foreign_complaints, members_there, shape_row, tree_complaints}
use Rattle.asl_records.specs.Values.{as_members, as_value}
use Rattle.asl_records.specs.View.{complaint_view, record_fault_view}
use Rattle.asl_records.specs.declared.refusals.RecordRefusal.{RecordRefusal}
use Rattle.asl_records.specs.declared.refusals.RecordFault.TheVariants as refusals
use Rattle.asl_shape.specs.Refusal.{fault_named}
use Rattle.asl_shape.specs.declared.ShapeRefusal.{ShapeRefusal}
use Rattle.asl_records.proofs.FieldParts.{complaints_there}
use Rattle.asl_records.proofs.Objects.{names_of, shown}
use Rattle.asl_complaints.specs.Told.{Tells, TellsComplaints}
use Rattle.asl_complaints.proofs.Telling.{TellsOf, all_left, less_left, none_left}

-- a complaint that goes behind the others
pub told_one : (before after : List RecordRefusal) (refusal : RecordRefusal) (name field : List ℕ) (f : model.RecordFault) → after ≡ before ++ refusal ∷ [] → string_bytes refusal.name ≡ name → string_bytes refusal.field ≡ field → record_fault_view refusal.fault ≡ Some f → TellsComplaints before after (complaint_of name field f ∷ [])
told_one before after refusal name field f pushed named at fault = record {
  holds =
      let seen : complaint_view refusal ≡ Some (complaint_of name field f) = rw (fault, named, at) refl in
      ap (map complaint_view) pushed ∙ map-append complaint_view before (refusal ∷ []) ∙ ap (λ o. map complaint_view before ++ o ∷ []) seen;
}

-- ---- fields that aren't known

abbrev pub Stated : Type 0
Stated = String Global × Tree

abbrev pub members : List Stated → Members
members es = as_members (entries_view es)

module _ (name : List ℕ) (known : List (List ℕ)) where
  abbrev pub foreign : List Stated → List RecordComplaint
  foreign es = foreign_complaints name known (members es)

  pub known_on : {a b : List (Option RecordComplaint)} {all : List RecordComplaint} (left rest : List Stated) (e : Stated) → TellsOf a b all (foreign left) → left ≡ e ∷ rest → is_among (string_bytes e.0) known ≡ true → TellsOf a b all (foreign rest)
  known_on {a} {b} {all} left rest e so_far split among = subst (TellsOf a b all) (ap foreign split ∙ (rw among refl)) so_far

  pub foreign_on : {a b c : List (Option RecordComplaint)} {all : List RecordComplaint} (left rest : List Stated) (e : Stated) (n : List ℕ) → TellsOf a b all (foreign left) → left ≡ e ∷ rest → is_among (string_bytes e.0) known ≡ false → n ≡ string_bytes e.0 → Tells b c (complaint_of name n UnknownField ∷ []) → TellsOf a c all (foreign rest)
  foreign_on {a} {b} {c} {all} left rest e n so_far split among named told = less_left so_far (ap foreign split ∙ (rw among refl)) (subst (λ m. Tells b c (complaint_of name m UnknownField ∷ [])) named told)

-- ---- the entry of a task

abbrev pub of_shape : List ℕ → List ℕ → Bool → Members → List RecordComplaint
of_shape name field required ms = field_complaints declared_reading name (shape_row field required) (get_member field ms)

-- a shape in a field
module _ (name field : List ℕ) (required : Bool) (part : Option Data) where
  pub shape_stated : (t : model_tree.Tree) → Some (as_value t) ≡ part → tree_complaints declared_reading name field t ≡ field_complaints declared_reading name (shape_row field required) part
  shape_stated t stands = sym (complaints_there declared_reading name field required t part stands)

  pub shape_lacking : None ≡ part → required ≡ true → complaint_of name field MissingField ∷ [] ≡ field_complaints declared_reading name (shape_row field required) part
  shape_lacking none is = rw (sym none, is) refl

  pub shape_absent : None ≡ part → required ≡ false → [] ≡ field_complaints declared_reading name (shape_row field required) part
  shape_absent none is = rw (sym none, is) refl

two_rows : {A : Type 0} (xs ys zs : List A) → xs ++ (ys ++ zs) ≡ (xs ++ (ys ++ [])) ++ zs
two_rows xs ys zs = ap (λ us. xs ++ (us ++ zs)) (sym (append-nil ys)) ∙ sym (append_assoc xs (ys ++ []) zs)

pub task_parts : (name : List ℕ) (ms : Members) → of_shape name (codes "takes") false ms ++ (of_shape name (codes "gives") true ms ++ foreign_complaints name (names_of task_rows) ms) ≡ object_complaints declared_reading name task_rows (json.object ms)
task_parts name ms =
    two_rows (of_shape name (codes "takes") false ms) (of_shape name (codes "gives") true ms) (foreign_complaints name (names_of task_rows) ms)
    ∙ sym (shown declared_reading name task_rows (json.object ms) ms refl)

-- ---- declared shapes

abbrev pub of_tasks : List ℕ → Option Data → List RecordComplaint
of_tasks name tasks = field_complaints declared_reading name (entries_row (codes "tasks") false) tasks

abbrev pub of_entries : Option Data → List RecordComplaint
of_entries tasks = entries_complaints declared_reading task_rows (members_there tasks)

pub declared_parts : (name : List ℕ) (ms : Members) (tasks : Option Data) → name ≡ [] → tasks ≡ get_member (codes "tasks") ms
    → of_shape name (codes "input") true ms ++ (of_tasks name tasks ++ (foreign_complaints name (names_of declared_rows) ms ++ of_entries tasks)) ≡ declared_complaints (json.object ms)
declared_parts name ms tasks whole there =
    let inputs = of_shape [] (codes "input") true ms in
    let own = of_tasks [] (get_member (codes "tasks") ms) in
    let others = foreign_complaints [] (names_of declared_rows) ms in
    let entries = of_entries (get_member (codes "tasks") ms) in
    rw (whole, there) (two_rows inputs own (others ++ entries)
    ∙ sym (append_assoc (inputs ++ (own ++ [])) others entries)
    ∙ sym (ap (λ cs. cs ++ entries) (shown declared_reading [] declared_rows (json.object ms) ms refl)))

-- what is no object
pub no_task : (name : List ℕ) (v : Data) → as_object v ≡ None → complaint_of name [] NotObject ∷ [] ≡ object_complaints declared_reading name task_rows v
no_task name v is = rw is refl

pub no_record : (v : Data) → as_object v ≡ None → complaint_of [] [] NotObject ∷ [] ≡ declared_complaints v
no_record v is = rw is refl

pub object_there : (t : Tree) (fields : BTreeMap (String Global) Tree) → t ≡ code.Object fields → json.object (members fields.entries) ≡ as_value (view t)
object_there t fields is = sym (ap (λ x. as_value (view x)) is ∙ ap as_value (view_object fields))

-- what is wrong with it as `tasks`
pub kind_wrong : (name : List ℕ) (v : Data) → as_object v ≡ None → complaint_of name (codes "tasks") WrongKind ∷ [] ≡ of_tasks name (Some v)
kind_wrong name v is = rw is refl

-- ---- the faults of a shape

-- those left, and what is told of them
pub record FaultsLeft (left : List ShapeRefusal) (faults : List ShapeFault) (before after : List (Option RecordComplaint)) (name field : List ℕ) : Type 0 where
  pub rest : List ShapeFault
  pub remain : map fault_named left ≡ map Some rest
  pub told : TellsOf before after (map (complaint_of name field) (map BadShape faults)) (map (complaint_of name field) (map BadShape rest))

-- the next of them
next : (fault : ShapeRefusal) (more : List ShapeRefusal) (rest : List ShapeFault) → map fault_named (fault ∷ more) ≡ map Some rest → (f : ShapeFault) × (fs : List ShapeFault) × (rest ≡ f ∷ fs) × (fault_named fault ≡ Some f) × (map fault_named more ≡ map Some fs)
next fault more [] e = absurd (cc)
next fault more (f ∷ fs) e =
    let one : fault_named fault ≡ Some f = cc in
    let others : map fault_named more ≡ map Some fs = cc in
    (f, fs, refl, one, others)

module _ (faults : List ShapeFault) (name field : List ℕ) where
  pub faults_begun : (refusals : List ShapeRefusal) (told : List (Option RecordComplaint)) → map fault_named refusals ≡ map Some faults → FaultsLeft refusals faults told told name field
  faults_begun refusals told are = record { rest = faults; remain = are; told = all_left told (map (complaint_of name field) (map BadShape faults)) }

  pub faults_on : (left more : List ShapeRefusal) (fault : ShapeRefusal) (a : List (Option RecordComplaint)) (before after : List RecordRefusal) → FaultsLeft left faults a (map complaint_view before) name field → left ≡ fault ∷ more
      → ((f : model.RecordFault) → record_fault_view (refusals.BadShape fault) ≡ Some f → TellsComplaints before after (complaint_of name field f ∷ [])) → FaultsLeft more faults a (map complaint_view after) name field
  faults_on left more fault a before after so_far split told =
      let ahead = next fault more so_far.rest (sym (ap (map fault_named) split) ∙ so_far.remain) in
      record {
        rest = ahead.1;
        remain = ahead.4;
        told = less_left so_far.told (ap (λ fs. map (complaint_of name field) (map BadShape fs)) ahead.2) (told (BadShape ahead.0) (ap (option_map BadShape) ahead.3));
      }

  pub faults_told : (left : List ShapeRefusal) (a b : List (Option RecordComplaint)) → FaultsLeft left faults a b name field → length left ≡ 0 → Tells a b (map (complaint_of name field) (map BadShape faults))
  faults_told [] a b so_far none = none_left so_far.told (ap (λ fs. map (complaint_of name field) (map BadShape fs)) (no_more so_far.rest (sym so_far.remain)))
    where
      no_more : (rest : List ShapeFault) → map Some rest ≡ [] → rest ≡ []
      no_more [] e = refl
      no_more (f ∷ rest) e = absurd (cc)
  faults_told (refusal ∷ left) a b so_far none = absurd (omega (arith, none))
