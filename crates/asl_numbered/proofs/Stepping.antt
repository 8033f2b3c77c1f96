-- The steps to a tree of one shape of a table that lacks another, as they are found one by one, and as the tree is built.
use Rattle.std.proofs.Common.{◌≡◌, ◌<◌, ◌+◌, ◌-◌, ℕ, zero, suc, List, [], ◌∷◌, ◌++◌, length, map, replicate, Bool, true, false, ◌||◌, Option, Some, None, Result, Ok, Err, option_map, is_some, String, Global, Ordering, Less, Equal, Greater, string_bytes, string_cmp, nat_cmp, bytes_eq, refl, sym, ap, ◌∙◌, subst, arith}
use Rattle.std.proofs.lemmas.Map.Text.{is_eq-slice_cmp}
use Rattle.std.proofs.lemmas.Slice.Eq.{bytes_eq-Decides}
use Rattle.std.specs.BTreeMap.{insert_entry, is_at}
use Rattle.std.specs.Cmp.Lexicographic.{slice_cmp}
use Rattle.std.specs.Map.{lookup}
use Rattle.std.specs.Ordering.{is_eq}
use Rattle.std.specs.Prelude.{◌↔◌, IfOk, IfSome, IsTrue, codes}
use Rattle.asl_model.proofs.ShapeExample.{proper-ordered}
use Rattle.asl_model.specs.Examples.{fresh_name, outside, unmentioned_name, IsOutside}
use Rattle.asl_model.specs.Examples as counting
use Rattle.asl_model.specs.Placing.{insert_field, set_field, without_field}
use Rattle.asl_model.specs.Shape.{Shape, Inside, IsOrdered, IsProperShape}
use Rattle.asl_model.specs.ShapeOrder.{sub}
use Rattle.asl_model.specs.Tree as model
use Rattle.asl_model.specs.Tree.{Fields, NoFields, AndField}
use Rattle.asl_tree.proofs.Views.{Entry, entries_view-insert_entry, put}
use Rattle.asl_tree.specs.View.{view, entries_view}
use Rattle.asl_tree.specs.declared.OutOfMemory.{OutOfMemory}
use Rattle.asl_tree.specs.declared.Tree.{Tree}
use Rattle.asl_numbered.specs.declared.finding.Found.{Found}
use Rattle.asl_numbered.specs.declared.finding.Sought.{Sought}
use Rattle.asl_numbered.specs.declared.finding.Step.{Step}
use Rattle.asl_numbered.specs.declared.node.NodeField.{NodeField}
use Rattle.asl_numbered.specs.Examples.{examples_at}
use Rattle.asl_numbered.specs.Expansion.{fields_at, AreBelow}
use Rattle.asl_numbered.specs.Outside.{IsSought, sought_tree, steps_left, step_over, steps_over, numbers_of, AreStepsWithin, IsFound}
use Rattle.asl_numbered.proofs.Comparisons.{mentions_under}
use Rattle.asl_numbered.specs.Names.{Name, text_cmp}

-- ---- the steps that are found

over-last : (table : List Shape) (steps : List Step) (step : Step) (t : model.Tree) → steps_over table (steps ++ step ∷ []) t ≡ steps_over table steps (step_over table step t)
over-last table [] step t = refl
over-last table (first ∷ steps) step t = ap (step_over table first) (over-last table steps step t)

within-more : (table : List Shape) (steps : List Step) (step : Step) → AreStepsWithin table steps → AreBelow (length table) (numbers_of step) → AreStepsWithin table (steps ++ step ∷ [])
within-more table [] step are is = (is, tt)
within-more table (first ∷ steps) step are is = (are.0, within-more table steps step are.1 is)

within-front : (table : List Shape) (steps : List Step) (step : Step) → AreStepsWithin table (steps ++ step ∷ []) → AreStepsWithin table steps × AreBelow (length table) (numbers_of step)
within-front table [] step are = (tt, are.0)
within-front table (first ∷ steps) step are = let behind = within-front table steps step are.1 in ((are.0, behind.0), behind.1)

-- one more step, with what is sought next
pub step_more : (table : List Shape) (root next : Sought) (left : Option Sought) (found : Found) (steps new : List Step) → left ≡ Some next → sought_tree table (Some root) ≡ option_map (steps_over table steps) (sought_tree table left)
    → IsFound table next.second (sought_tree table (Some next)) (Some found) → new ≡ steps ++ found.step ∷ [] → sought_tree table (Some root) ≡ option_map (steps_over table new) (sought_tree table found.next)
step_more table root next left found steps new is so_far own made =
    so_far ∙ ap (λ s. option_map (steps_over table steps) (sought_tree table s)) is ∙ ap (option_map (steps_over table steps)) own.same ∙ rw made (go (sought_tree table found.next))
  where
    go : (o : Option model.Tree) → option_map (steps_over table steps) (option_map (step_over table found.step) o) ≡ option_map (steps_over table (steps ++ found.step ∷ [])) o
    go None = refl
    go (Some t) = ap Some (sym (over-last table steps found.step t))

pub steps_within : (table : List Shape) (bound : ℕ) (tree : Option model.Tree) (found : Found) (steps new : List Step) → AreStepsWithin table steps → IsFound table bound tree (Some found) → new ≡ steps ++ found.step ∷ [] → AreStepsWithin table new
steps_within table bound tree found steps new are own made = rw made (within-more table steps found.step are own.step)

pub next_sought : (table : List Shape) (next : Sought) (left : Option Sought) (tree : Option model.Tree) (found : Found) → left ≡ Some next → IfSome left (IsSought table (length table)) → IsFound table next.second tree (Some found) → IfSome found.next (IsSought table (length table)) × (steps_left found.next < steps_left left)
next_sought table next left tree found is within own = go found.next own.next
  where
    here : IsSought table (length table) next
    here = subst (λ s. IfSome s (IsSought table (length table))) is within

    go : (s : Option Sought) → IfSome s (IsSought table next.second) → IfSome s (IsSought table (length table)) × (steps_left s < steps_left left)
    go None behind = (tt, rw is (omega arith))
    go (Some s) behind = (record { first = behind.first; second = omega (arith, behind.second, here.second) }, rw is (omega (arith, behind.second)))

-- ---- the tree that is built

-- the bound of all numbers of a table
pub below_len : (table : List Shape) (n : ℕ) (ms : List ℕ) → n ≡ length table → AreBelow (length table) ms → AreBelow n ms
below_len table n ms e below = rw e below

-- the last step is taken
pub step_taken : (table : List Shape) (whole : model.Tree) (steps front : List Step) (step : Step) (t new : Tree) → whole ≡ steps_over table steps (view t) → steps ≡ front ++ step ∷ [] → view new ≡ step_over table step (view t) → whole ≡ steps_over table front (view new)
step_taken table whole steps front step t new so_far split own = so_far ∙ rw (split, own) (over-last table front step (view t))

pub step_within : (table : List Shape) (steps front : List Step) (step : Step) → steps ≡ front ++ step ∷ [] → AreStepsWithin table steps → AreStepsWithin table front × AreBelow (length table) (numbers_of step)
step_within table steps front step split are = within-front table front step (subst (AreStepsWithin table) split are)

-- a tree between examples
pub between_built : (table : List Shape) (none first second third : List Tree) (t : Tree) (before behind : List ℕ) → none ≡ [] → map view first ≡ map view none ++ examples_at table before → second ≡ first ++ t ∷ [] → map view third ≡ map view second ++ examples_at table behind → map view third ≡ examples_at table before ++ view t ∷ examples_at table behind
between_built table none first second third t before behind empty led put_one put_behind =
    let start : map view first ≡ examples_at table before = led ∙ rw empty refl in
    put_behind ∙ ap (λ ts. map view ts ++ examples_at table behind) put_one ∙ go first (examples_at table before) start
  where
    go : (ts : List Tree) (us : List model.Tree) → map view ts ≡ us → map view (ts ++ t ∷ []) ++ examples_at table behind ≡ us ++ view t ∷ examples_at table behind
    go [] [] e = refl
    go [] (u ∷ us) e = absurd (cc)
    go (x ∷ ts) [] e = absurd (cc)
    go (x ∷ ts) (u ∷ us) e =
        let here : view x ≡ u = cc in
        let later : map view ts ≡ us = cc in
        rw (here, go ts us later) refl

-- a field that isn't there is put where it is inserted
equal_same : (n m : List ℕ) → slice_cmp nat_cmp n m ≡ Equal → bytes_eq m n ≡ true
equal_same n m e = (bytes_eq-Decides m n).1 (sym ((bytes_eq-Decides n m).0 (sym (is_eq-slice_cmp n m) ∙ ap is_eq e)))

put-without : (n : List ℕ) (t : model.Tree) (fs : Fields) → put n t (without_field n fs) ≡ set_field n t fs
put-without n t NoFields = refl
put-without n t (AndField m u fs) = go (bytes_eq m n) refl (put-without n t fs)
  where
    apart : (order : Ordering) → slice_cmp nat_cmp n m ≡ order → bytes_eq m n ≡ false → put n t (without_field n fs) ≡ set_field n t fs → put n t (AndField m u (without_field n fs)) ≡ insert_field n t (AndField m u (without_field n fs))
    apart Less is other below = rw is refl
    apart Equal is other below = absurd (let same : true ≡ false = sym (equal_same n m is) ∙ other in cc)
    apart Greater is other below = rw is (ap (AndField m u) below)

    go : (same : Bool) → bytes_eq m n ≡ same → put n t (without_field n fs) ≡ set_field n t fs → put n t (without_field n (AndField m u fs)) ≡ set_field n t (AndField m u fs)
    go true is below = rw is below
    go false is below = rw is (apart (slice_cmp nat_cmp n m) refl is below)

pub field_set : (n : List ℕ) (k : String Global) (t : Tree) (fs : Fields) (es new : List Entry) → entries_view es ≡ without_field n fs → string_bytes k ≡ n → new ≡ insert_entry string_cmp es k t → entries_view new ≡ set_field n (view t) fs
field_set n k t fs es new so_far named inserted =
    ap entries_view inserted ∙ entries_view-insert_entry es k t ∙ rw (named, so_far) (put-without n (view t) fs)

-- ---- a new name

counted : (table : List Shape) (fs : List (Name × NodeField)) → counting.count_mentions (fields_at table fs) ≡ length fs
counted table [] = refl
counted table (f ∷ fs) = ap suc (counted table fs)

-- whether one of the fields has the name
abbrev pub is_taken : List ℕ → List (Name × NodeField) → List (Name × NodeField) → Bool
is_taken n fs others = is_some (lookup (is_at (text_cmp n)) fs) || is_some (lookup (is_at (text_cmp n)) others)

pub name_begun : (table : List Shape) (fs others : List (Name × NodeField)) (k : String Global) (end : ℕ) → end ≡ length fs + length others → string_bytes k ≡ codes "a" → fresh_name (fields_at table fs) (fields_at table others) ≡ unmentioned_name (end - 0) (string_bytes k) (fields_at table fs) (fields_at table others)
name_begun table fs others k end e named =
    let all : counting.count_mentions (fields_at table fs) + counting.count_mentions (fields_at table others) ≡ end - 0 = rw (counted table fs, counted table others, e) (omega arith) in
    rw (all, named) refl

-- the name is free
pub name_free : (table : List Shape) (fs others : List (Name × NodeField)) (k : String Global) (whole : List ℕ) (i end : ℕ) → i < end → whole ≡ unmentioned_name (end - i) (string_bytes k) (fields_at table fs) (fields_at table others) → is_some (lookup (is_at (text_cmp (string_bytes k))) fs) ≡ false → is_some (lookup (is_at (text_cmp (string_bytes k))) others) ≡ false → whole ≡ string_bytes k
name_free table fs others k whole i end h so_far first second =
    let step : end - i ≡ suc (end - (i + 1)) = omega (arith, h) in
    so_far ∙ rw (step, mentions_under table (string_bytes k) fs, mentions_under table (string_bytes k) others, first, second) refl

-- it isn't, and is made longer
pub name_longer : (k new : String Global) (i : ℕ) → string_bytes k ≡ replicate (i + 1) 97 → string_bytes new ≡ string_bytes k ++ 97 ∷ [] → (string_bytes new ≡ 97 ∷ string_bytes k) × (string_bytes new ≡ replicate (i + 1 + 1) 97)
name_longer k new i letters made =
    let more : string_bytes new ≡ 97 ∷ string_bytes k = made ∙ rw letters (turned (i + 1)) in
    let size : i + 1 + 1 ≡ suc (i + 1) = omega arith in
    (more, more ∙ rw (letters, size) refl)
  where
    turned : (n : ℕ) → replicate {A = ℕ} n 97 ++ 97 ∷ [] ≡ 97 ∷ replicate {A = ℕ} n 97
    turned zero = refl
    turned (suc n) = ap (λ cs. 97 ∷ cs) (turned n)

pub name_taken : (table : List Shape) (fs others : List (Name × NodeField)) (k new : String Global) (whole : List ℕ) (i end : ℕ) → i < end → whole ≡ unmentioned_name (end - i) (string_bytes k) (fields_at table fs) (fields_at table others) → is_taken (string_bytes k) fs others ≡ true → string_bytes new ≡ 97 ∷ string_bytes k → whole ≡ unmentioned_name (end - (i + 1)) (string_bytes new) (fields_at table fs) (fields_at table others)
name_taken table fs others k new whole i end h so_far taken more =
    let step : end - i ≡ suc (end - (i + 1)) = omega (arith, h) in
    so_far ∙ rw (step, mentions_under table (string_bytes k) fs, mentions_under table (string_bytes k) others, taken, more) refl

pub taken_first : (a b there : Bool) → there ≡ a → there ≡ true → (a || b) ≡ true
taken_first a b there is holds = rw (sym is ∙ holds) refl

pub taken_second : (a b there : Bool) → there ≡ b → there ≡ true → (a || b) ≡ true
taken_second true b there is holds = refl
taken_second false b there is holds = sym is ∙ holds

-- ---- what is told of a tree that is found

pub told_outside : (a b : Shape) (r : Result (Option Tree) OutOfMemory) → IsProperShape a → ((a b : Shape) (t : model.Tree) → IsOrdered a → outside a b ≡ Some t → IsOutside a b t) → IfOk r (λ found. option_map view found ≡ outside a b) → IfOk r (λ found. IfSome found (λ t. IsOutside a b (view t)))
told_outside a b (Ok (Some t)) proper law is = law a b (view t) (proper-ordered a proper) (sym is)
told_outside a b (Ok None) proper law is = tt
told_outside a b (Err fault) proper law is = tt

pub told_inside : (a b : Shape) (m n l k : ℕ) (r : Result (Option Tree) OutOfMemory) → ((a b : Shape) → (outside a b ≡ None) ↔ IsTrue (sub a b)) → ((a b : Shape) → IsTrue (sub a b) → Inside a b) → IfOk r (λ found. option_map view found ≡ outside a b) → IfOk r (λ found. m < l → n < k → found ≡ None → Inside a b)
told_inside a b m n l k (Ok found) law inside is = λ first second none. inside a b ((law a b).0 (sym is ∙ ap (option_map view) none))
told_inside a b m n l k (Err fault) law inside is = tt
