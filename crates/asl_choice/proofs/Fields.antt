-- The fields of an object: looking them up, and the one that says what is tested.
use Rattle.std.proofs.Common.{◌≡◌, ℕ, zero, suc, ◌<◌, ◌≤◌, List, [], ◌∷◌, ◌++◌, length, get_or, map, take, drop, drop-cons, Bool, true, false, if◌then◌else◌, Option, Some, None, option_map, option_and_then, is_some, String, Global, string_bytes, bytes_eq, codes, append_assoc, refl, sym, ap, ◌∙◌, arith}
use denote.Param.Weighed.{most}
use Rattle.std.proofs.lemmas.List.{take-append-drop}
use Rattle.std.proofs.lemmas.List.Elements.{Contains-append_right}
use Rattle.std.proofs.lemmas.Slice.Eq.{bytes_eq-Decides}
use Rattle.std.specs.List.{Contains}
use Rattle.std.specs.Option.{unwrap_or}
use Rattle.serde_json.specs.View.{view as json_view, members_view}
use Rattle.asl_model.specs.Json.{tree_of, members_of}
use Rattle.asl_model.specs.Tree as model
use Rattle.asl_model.specs.Tree.{NoFields, AndField, field_named, fields_of}
use Rattle.asl_model.specs.PathSpelling.{path_of}
use Rattle.asl_model.specs.Test.{Test, as_text, NoTests, And, Or, Not}
use Rattle.asl_model.specs.RuleSpelling.{main_fields, variable_in, test_faults, test_of, test_under, tests_of, tests_under, no_test, list_faults, list_faults_under, nested_faults, nested_faults_under, object_faults}
use Rattle.serde_json.proofs.value.Value.TheLaws.{the_size}
use Rattle.serde_json.specs.declared.value.Value.{Value}
use Rattle.asl_tree.proofs.Texts.{members_none}
use Rattle.asl_tree.specs.Values.{tree_in, fields_in}
use Rattle.asl_choice.specs.Single.{is_beside, joined_test, one_joined_faults, variable_path, variable_test, one_variable_faults}

abbrev Entry : Type 0
Entry = String Global × Value

-- what stands in a map is smaller than the map
pub smaller : (es : List Entry) (i : ℕ) (e : Entry) → i < length es → get_or es i e ≡ e → the_size e.1 ≤ most the_size (map (λ x. x.1) es)
smaller [] i e within is = absurd (omega arith)
smaller (x ∷ es) zero e within is = omega (arith, ap (λ (y : Entry). the_size y.1) is)
smaller (x ∷ es) (suc i) e within is = let further = smaller es i e (omega arith) is in omega arith

-- where a value in a map is no tree, the map is none
pub member_lost : (es : List Entry) (e : Entry) → Contains es e → tree_of (json_view e.1) ≡ None → members_of (members_view es) ≡ None
member_lost es e (i, within, is) none =
    let split : es ≡ take i es ++ e ∷ drop (suc i) es = sym (take-append-drop i es) ∙ ap (λ ds. take i es ++ ds) (drop-cons es i e within ∙ ap (λ x. x ∷ drop (suc i) es) is) in
    rw split (members_none (take i es) e (drop (suc i) es) none)

-- one that is seen on the way stands in the whole, and the way goes on
pub one_seen : (whole done now left : List Entry) (e : Entry) → whole ≡ done ++ now → now ≡ e ∷ left → Contains whole e × ((more : List Entry) × (whole ≡ more ++ left))
one_seen whole done now left e so_far split =
    let all : whole ≡ done ++ (e ∷ left) = so_far ∙ ap (λ es. done ++ es) split in
    (rw all (Contains-append_right done (e ∷ left) e (zero, omega arith, refl)), (done ++ (e ∷ []), all ∙ sym (append_assoc done (e ∷ []) left)))

-- ---- one field beside `Variable`, `Next` and `Comment`

-- the main fields of what is left, with one more in front
pub one_beside : (e : Entry) (now left : List Entry) (n : List ℕ) → now ≡ e ∷ left → n ≡ string_bytes e.0 → true ≡ is_beside n → main_fields (fields_in now) ≡ main_fields (fields_in left)
one_beside e now left n split same is = rw (split, ← same, ← is) refl

pub one_main : (e : Entry) (now left : List Entry) (n : List ℕ) → now ≡ e ∷ left → n ≡ string_bytes e.0 → false ≡ is_beside n → main_fields (fields_in now) ≡ (string_bytes e.0, tree_in e.1) ∷ main_fields (fields_in left)
one_main e now left n split same is =
    let is_main : is_beside (string_bytes e.0) ≡ false = ap is_beside (sym same) ∙ sym is in
    rw (split, is_main) refl

-- a field of another name is found among the main fields
in_main : (q m : List ℕ) (t : model.Tree) (fs : model.Fields) (beside : Bool) → is_beside m ≡ beside → is_beside q ≡ false → field_named q fs ≡ field_named q (fields_of (main_fields fs))
    → field_named q (AndField m t fs) ≡ field_named q (fields_of (if beside then main_fields fs else (m, t) ∷ main_fields fs))
in_main q m t fs false is not further = rw further refl
in_main q m t fs true is not further = rw (other (bytes_eq m q) refl) further
  where
    other : (same : Bool) → bytes_eq m q ≡ same → bytes_eq m q ≡ false
    other false e = e
    other true e =
        let one : m ≡ q = (bytes_eq-Decides m q).0 e in
        let both : true ≡ false = sym is ∙ ap is_beside one ∙ not in
        absurd (cc)

-- looking a field up among the main fields
main_lookup : (q : List ℕ) (fs : model.Fields) → is_beside q ≡ false → field_named q fs ≡ field_named q (fields_of (main_fields fs))
main_lookup q NoFields not = refl
main_lookup q (AndField m t fs) not = in_main q m t fs (is_beside m) refl not (main_lookup q fs not)

-- where there is one main field, it is found by its name alone
one_lookup : (q n : List ℕ) (t : model.Tree) (fs : model.Fields) → is_beside q ≡ false → main_fields fs ≡ (n, t) ∷ [] → field_named q fs ≡ (if bytes_eq n q then Some t else None)
one_lookup q n t fs not one = main_lookup q fs not ∙ ap (λ ms. field_named q (fields_of ms)) one

-- what stands under a name is what its look-up gives
under : {A : Type 0} (f : model.Tree → A) (d : A) (t : model.Tree) (further : Option model.Tree) (rest : A) (here : Bool) → rest ≡ unwrap_or (option_map f further) d → (elim here [ true ↦ f t | false ↦ rest ]) ≡ unwrap_or (option_map f (if here then Some t else further)) d
under f d t further rest true e = refl
under f d t further rest false e = e

tests_found : (n : List ℕ) (fs : model.Fields) → tests_under n fs ≡ unwrap_or (option_map tests_of (field_named n fs)) NoTests
tests_found n NoFields = refl
tests_found n (AndField m t fs) = under tests_of NoTests t (field_named n fs) (tests_under n fs) (bytes_eq m n) (tests_found n fs)

test_found : (n : List ℕ) (fs : model.Fields) → test_under n fs ≡ unwrap_or (option_map test_of (field_named n fs)) no_test
test_found n NoFields = refl
test_found n (AndField m t fs) = under test_of no_test t (field_named n fs) (test_under n fs) (bytes_eq m n) (test_found n fs)

list_faults_found : (n : List ℕ) (fs : model.Fields) → list_faults_under n fs ≡ unwrap_or (option_map list_faults (field_named n fs)) []
list_faults_found n NoFields = refl
list_faults_found n (AndField m t fs) = under list_faults [] t (field_named n fs) (list_faults_under n fs) (bytes_eq m n) (list_faults_found n fs)

nested_faults_found : (n : List ℕ) (fs : model.Fields) → nested_faults_under n fs ≡ unwrap_or (option_map nested_faults (field_named n fs)) []
nested_faults_found n NoFields = refl
nested_faults_found n (AndField m t fs) = under nested_faults [] t (field_named n fs) (nested_faults_under n fs) (bytes_eq m n) (nested_faults_found n fs)

-- ---- what an object with one main field spells

-- by whether `Variable` is there, and by what stands under `And`, `Or` and `Not`
pub faults_by : (fs : model.Fields) → object_faults fs ≡ test_faults (field_named (codes "Variable") fs) fs (list_faults_under (codes "And") fs) (list_faults_under (codes "Or") fs) (nested_faults_under (codes "Not") fs)
faults_by NoFields = refl
faults_by (AndField n t fs) = refl

-- the first of several names that is there decides
picked : {A : Type 0} (f : model.Tree → A) (d : A) (t : model.Tree) (here : Bool) (rest other : A) → rest ≡ other → (if here then unwrap_or (option_map f (if here then Some t else None)) d else rest) ≡ (if here then f t else other)
picked f d t true rest other e = refl
picked f d t false rest other e = e

picked_test : {A : Type 0} (f : model.Tree → A) (d : A) (g : A → Test) (t : model.Tree) (here : Bool) (rest other : Test) → rest ≡ other → (if is_some (if here then Some t else None) then g (unwrap_or (option_map f (if here then Some t else None)) d) else rest) ≡ (if here then g (f t) else other)
picked_test f d g t true rest other e = refl
picked_test f d g t false rest other e = e

not_test : (t : model.Tree) (here : Bool) → Not (unwrap_or (option_map test_of (if here then Some t else None)) no_test) ≡ Not (if here then test_of t else no_test)
not_test t true = refl
not_test t false = refl

-- without `Variable`
pub joined_faults_one : (fs : model.Fields) (n : List ℕ) (t : model.Tree) → field_named (codes "Variable") fs ≡ None → main_fields fs ≡ (n, t) ∷ [] → object_faults fs ≡ one_joined_faults n t
joined_faults_one fs n t none one =
    rw (faults_by fs, none, one, list_faults_found (codes "And") fs, list_faults_found (codes "Or") fs, nested_faults_found (codes "Not") fs, one_lookup (codes "And") n t fs refl one, one_lookup (codes "Or") n t fs refl one, one_lookup (codes "Not") n t fs refl one)
    (picked list_faults [] t (bytes_eq n (codes "And")) _ _ (picked list_faults [] t (bytes_eq n (codes "Or")) _ _ (picked nested_faults [] t (bytes_eq n (codes "Not")) _ _ refl)))

pub joined_test_one : (fs : model.Fields) (n : List ℕ) (t : model.Tree) → field_named (codes "Variable") fs ≡ None → main_fields fs ≡ (n, t) ∷ [] → test_of (model.Object fs) ≡ joined_test n t
joined_test_one fs n t none one =
    rw (none, tests_found (codes "And") fs, tests_found (codes "Or") fs, test_found (codes "Not") fs, one_lookup (codes "And") n t fs refl one, one_lookup (codes "Or") n t fs refl one, one_lookup (codes "Not") n t fs refl one)
    (picked_test tests_of NoTests And t (bytes_eq n (codes "And")) _ _ (picked_test tests_of NoTests Or t (bytes_eq n (codes "Or")) _ _ (not_test t (bytes_eq n (codes "Not")))))

-- with `Variable`
variable_found : (fs : model.Fields) (v : model.Tree) → field_named (codes "Variable") fs ≡ Some v → unwrap_or (variable_in fs) [] ≡ variable_path v
variable_found fs v some = ap (λ o. unwrap_or (option_and_then path_of (option_and_then as_text o)) []) some

pub variable_faults_one : (fs : model.Fields) (v : model.Tree) (n : List ℕ) (t : model.Tree) → field_named (codes "Variable") fs ≡ Some v → main_fields fs ≡ (n, t) ∷ [] → object_faults fs ≡ one_variable_faults v n t
variable_faults_one fs v n t some one = rw (faults_by fs, some, one, variable_found fs v some) refl

pub variable_test_one : (fs : model.Fields) (v : model.Tree) (n : List ℕ) (t : model.Tree) → field_named (codes "Variable") fs ≡ Some v → main_fields fs ≡ (n, t) ∷ [] → test_of (model.Object fs) ≡ variable_test v n t
variable_test_one fs v n t some one = rw (some, one) refl
