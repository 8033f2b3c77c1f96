-- What is wrong with the names of tasks: that whose name comes first.
use Rattle.std.proofs.Common.{◌≡◌, ℕ, suc, List, [], ◌∷◌, ◌++◌, Bool, true, false, ◌||◌, ◌&&◌, cond, bytes_eq, position, IsTrue, slice_get, zip, if◌then◌else◌, Option, Some, None, option_map, Ordering, Less, Equal, Greater, nat_cmp, refl, sym, ap, ◌∙◌, subst}
use Rattle.std.specs.Ordering.{match_ordering, ordering_reverse}
use Rattle.std.specs.Cmp.Lexicographic.{slice_cmp}
use Rattle.std.proofs.lemmas.Bool.{false≢true}
use Rattle.std.proofs.lemmas.Cmp.{nat_list_cmp_total}
use Rattle.std.proofs.lemmas.Slice.Eq.{bytes_eq-Decides}
use Rattle.asl_model.specs.Finding.{Finding}
use Rattle.asl_model.specs.Machine.{State, kind_of, is_task}
use Rattle.asl_model.specs.Numbering.{Table}
use Rattle.asl_model.specs.ShapeSpelling.{is_among, are_distinct}
use Rattle.asl_model.specs.Tree.{comes_before}
use Rattle.asl_model.proofs.ShapeWitness.{comes_before-trans}
use Rattle.asl_draft_laws.specs.Drafts.{Row, in_name_order, rows_from, rows_of, with_named}
use Rattle.asl_draft_laws.proofs.CertifiedRows.{name_of}
use Rattle.asl_draft_laws.proofs.SettledClosed.{have_task}
use Rattle.asl_check.proofs.TableNames.{equal-swapped, first-position, not-first, or-false, second}
use Rattle.asl_check.specs.Rules.{is_task_at, names_task_in}
use Rattle.asl_infer.specs.Declarations.{earlier, first_by_name, first_of}

-- ---- the first by name of two lists

-- a name that isn't before another one comes after a third where the other does
not-before : (a b c : List ℕ) → comes_before b a ≡ false → IsTrue (comes_before b c) → IsTrue (comes_before a c)
not-before a b c fails holds = by (slice_cmp nat_cmp a b) refl
  where
    back : slice_cmp nat_cmp b a ≡ ordering_reverse (slice_cmp nat_cmp a b)
    back = nat_list_cmp_total.antisymm b a

    by : (o : Ordering) → slice_cmp nat_cmp a b ≡ o → IsTrue (comes_before a c)
    by Less is = comes_before-trans a b c (rw is refl) holds
    by Equal is =
        let same : a ≡ b = equal a b is in
        subst (λ n. IsTrue (comes_before n c)) (sym same) holds
      where
        equal : (m n : List ℕ) → slice_cmp nat_cmp m n ≡ Equal → m ≡ n
        equal m n h = (bytes_eq-Decides m n).0 (sym (Rattle.std.proofs.lemmas.Map.Text.is_eq-slice_cmp m n) ∙ ap Rattle.std.specs.Ordering.is_eq h)
    by Greater is =
        let less : slice_cmp nat_cmp b a ≡ Less = back ∙ ap ordering_reverse is in
        let before : comes_before b a ≡ true = ap (λ o. match_ordering o true false false) less in
        absurd (false≢true (sym fails ∙ before))

pub earlier-first : (x : Finding) (o p : Option Finding) → Some (earlier x (first_of o p)) ≡ first_of (Some (earlier x o)) p
earlier-first x None p = refl
earlier-first x (Some a) None = refl
earlier-first x (Some a) (Some b) = by (comes_before b.state a.state) (comes_before a.state x.state) (comes_before b.state x.state) refl refl refl
  where
    by : (ba ax bx : Bool) → comes_before b.state a.state ≡ ba → comes_before a.state x.state ≡ ax → comes_before b.state x.state ≡ bx → Some (earlier x (Some (if ba then b else a))) ≡ Some (earlier (if ax then a else x) (Some b))
    by true true bx is_ba is_ax is_bx =
        let yes : comes_before b.state x.state ≡ true = comes_before-trans b.state a.state x.state is_ba is_ax in
        rw (yes, is_ba) refl
    by true false bx is_ba is_ax is_bx = refl
    by false true bx is_ba is_ax is_bx = rw (is_ax, is_ba) refl
    by false false true is_ba is_ax is_bx = absurd (false≢true (sym is_ax ∙ not-before a.state b.state x.state is_ba is_bx))
    by false false false is_ba is_ax is_bx = rw (is_ax, is_bx) refl

pub first-append : (xs ys : List Finding) → first_by_name (xs ++ ys) ≡ first_of (first_by_name xs) (first_by_name ys)
first-append [] ys = refl
first-append (x ∷ xs) ys = ap (λ o. Some (earlier x o)) (first-append xs ys) ∙ earlier-first x (first_by_name xs) (first_by_name ys)

-- the name of a finding's state
abbrev pub state_in : Finding → List ℕ
state_in found = found.state

-- it is the first in byte order of names
head-named : (x : Finding) (xs : List Finding) → slice_get (with_named state_in x xs) 0 ≡ Some (earlier x (slice_get xs 0))
head-named x [] = refl
head-named x (y ∷ ys) = by (comes_before y.state x.state)
  where
    by : (b : Bool) → slice_get (if b then y ∷ with_named state_in x ys else x ∷ (y ∷ ys)) 0 ≡ Some (if b then y else x)
    by true = refl
    by false = refl

pub first-ordered : (xs : List Finding) → slice_get (in_name_order state_in xs) 0 ≡ first_by_name xs
first-ordered [] = refl
first-ordered (x ∷ xs) = head-named x (in_name_order state_in xs) ∙ ap (λ o. Some (earlier x o)) (first-ordered xs)

-- ---- a Task has a name

or-swap : (a b c : Bool) → a || (b || c) ≡ b || (a || c)
or-swap true true c = refl
or-swap true false c = refl
or-swap false true c = refl
or-swap false false c = refl

-- the row is a Task of that name
abbrev is_named : List ℕ → Row → Bool
is_named n row = bytes_eq row.name n && is_task (kind_of row.state)

have-with : (n : List ℕ) (row : Row) (rows : List Row) → have_task n (with_named name_of row rows) ≡ is_named n row || have_task n rows
have-with n row [] = refl
have-with n row (other ∷ others) = by (comes_before other.name row.name) (have-with n row others)
  where
    by : (b : Bool) → have_task n (with_named name_of row others) ≡ is_named n row || have_task n others → have_task n (if b then other ∷ with_named name_of row others else row ∷ (other ∷ others)) ≡ is_named n row || (is_named n other || have_task n others)
    by true below = ap (λ c. is_named n other || c) below ∙ or-swap (is_named n other) (is_named n row) (have_task n others)
    by false below = refl

have-ordered : (n : List ℕ) (rows : List Row) → have_task n (in_name_order name_of rows) ≡ have_task n rows
have-ordered n [] = refl
have-ordered n (row ∷ rows) = have-with n row (in_name_order name_of rows) ∙ ap (λ c. is_named n row || c) (have-ordered n rows)

no-task : (o : Option ℕ) → is_task_at [] o ≡ false
no-task None = refl
no-task (Some i) = refl

-- no row is a Task of a name that isn't there
none-named : (n : List ℕ) (i : ℕ) (names : List (List ℕ)) (states : List State) → is_among n names ≡ false → have_task n (rows_from i (zip names states)) ≡ false
none-named n i [] states h = refl
none-named n i (m ∷ names) [] h = refl
none-named n i (m ∷ names) (state ∷ states) h = by (bytes_eq m n) h (none-named n (suc i) names states)
  where
    by : (b : Bool) → b || is_among n names ≡ false → (is_among n names ≡ false → have_task n (rows_from (suc i) (zip names states)) ≡ false) → (b && is_task (kind_of state)) || have_task n (rows_from (suc i) (zip names states)) ≡ false
    by true g below = absurd (cc)
    by false g below = below g

have-from : (n : List ℕ) (i : ℕ) (names : List (List ℕ)) (states : List State) → are_distinct names ≡ true → have_task n (rows_from i (zip names states)) ≡ is_task_at states (position (bytes_eq n) names)
have-from n i [] states d = refl
have-from n i (m ∷ names) [] d = sym (no-task (position (bytes_eq n) (m ∷ names)))
have-from n i (m ∷ names) (state ∷ states) d =
    go (bytes_eq m n) refl (have-from n (suc i) names states (second (is_among m names) (are_distinct names) d))
    ∙ ap (is_task_at (state ∷ states)) (ap (λ b. cond b (Some 0) (option_map suc (position (bytes_eq n) names))) (equal-swapped m n) ∙ sym (first-position (bytes_eq n) m names))
  where
    others : Bool
    others = have_task n (rows_from (suc i) (zip names states))

    further : (o : Option ℕ) → is_task_at states o ≡ is_task_at (state ∷ states) (option_map suc o)
    further None = refl
    further (Some j) = refl

    alone : m ≡ n → is_among n names ≡ false
    alone is = subst (λ k. is_among k names ≡ false) is (not-first (is_among m names) (are_distinct names) d)

    go : (b : Bool) → bytes_eq m n ≡ b → others ≡ is_task_at states (position (bytes_eq n) names) → (b && is_task (kind_of state)) || others ≡ is_task_at (state ∷ states) (cond b (Some 0) (option_map suc (position (bytes_eq n) names)))
    go true is below = or-false (is_task (kind_of state)) others (none-named n (suc i) names states (alone ((bytes_eq-Decides m n).0 is)))
    go false is below = below ∙ further (position (bytes_eq n) names)

-- where no name stands twice, as it is looked up by position
pub have-named : (table : Table) (n : List ℕ) → are_distinct table.names ≡ true → have_task n (rows_of table) ≡ names_task_in table n
have-named table n d = have-ordered n (rows_from 0 (zip table.names table.states)) ∙ have-from n 0 table.names table.states d
