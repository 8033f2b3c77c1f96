-- The names of a machine's states are those of its table.
use Rattle.std.proofs.Common.{◌≡◌, refl, sym, ap, ◌∙◌, subst, ℕ, suc, ◌+◌, length, List, [], ◌∷◌, ◌++◌, map, Bool, true, false, not, ◌||◌, ◌&&◌, cond, bytes_eq, position, nat_lt, lt-ltb, arith, Option, Some, None, is_some, option_map}
use Rattle.std.specs.List.{position_or_len}
use lib.Dec.{leb-suc-suc}
use Rattle.std.proofs.lemmas.Slice.Eq.{bytes_eq-Decides}
use Rattle.asl_model.specs.Machine.{Scope, ScopeOf, States, NoStates, AndState, State, StateOf, Kind, Pass, Task, Choice, Wait, Succeed, Fail, Parallel, Map, Scopes, NoScopes, AndScope, kind_of, is_task, some_state, some_of_states, some_inside, some_in_kind, some_in_scopes, names_state, names_task}
use Rattle.asl_model.specs.ShapeSpelling.{is_among, are_distinct}
use Rattle.asl_model.specs.Numbering.{Standing, standing, standing_in, standing_among, standing_inside, standing_by, standing_each, outline, outlined, table_of}
use Rattle.asl_model.proofs.Numbering.{outlined_names}
use Rattle.asl_check.specs.Rules.{names_state_in, names_task_in, is_task_at}

-- ---- the states that stand in a machine

-- one of the states passes the test
abbrev some_of_each : (List ℕ → State → Bool) → List Standing → Bool
some_of_each test [] = false
some_of_each test (s ∷ states) = test s.name s.state || some_of_each test states

-- one of three, however they are grouped
or-assoc : (a b c : Bool) → (a || b) || c ≡ a || (b || c)
or-assoc true b c = refl
or-assoc false b c = refl

some-of-both : (test : List ℕ → State → Bool) (xs ys : List Standing) → some_of_each test (xs ++ ys) ≡ some_of_each test xs || some_of_each test ys
some-of-both test [] ys = refl
some-of-both test (x ∷ xs) ys = ap (λ b. test x.name x.state || b) (some-of-both test xs ys) ∙ sym (or-assoc (test x.name x.state) (some_of_each test xs) (some_of_each test ys))

-- one of two lists
in-both : (test : List ℕ → State → Bool) (xs ys : List Standing) (a b : Bool) → a ≡ some_of_each test xs → b ≡ some_of_each test ys → a || b ≡ some_of_each test (xs ++ ys)
in-both test xs ys a b e f = ap (λ c. c || b) e ∙ (ap (λ c. some_of_each test xs || c) f ∙ sym (some-of-both test xs ys))

mutual
  some-in-scope : (test : List ℕ → State → Bool) (owner : Option (List ℕ × ℕ)) (scope : Scope) → some_state test scope ≡ some_of_each test (standing_in owner scope)
  some-in-scope test owner (ScopeOf start held) = some-of-states test start owner held

  some-of-states : (test : List ℕ → State → Bool) (start : List ℕ) (owner : Option (List ℕ × ℕ)) (held : States) → some_of_states test held ≡ some_of_each test (standing_among start owner held)
  some-of-states test start owner NoStates = refl
  some-of-states test start owner (AndState n state others) = ap (λ b. test n state || b) (in-both test (standing_inside n state) (standing_among start owner others) (some_inside test state) (some_of_states test others) (some-in-state test n state) (some-of-states test start owner others))

  some-in-state : (test : List ℕ → State → Bool) (n : List ℕ) (state : State) → some_inside test state ≡ some_of_each test (standing_inside n state)
  some-in-state test n (StateOf settings kind) = some-by-kind test n kind

  some-by-kind : (test : List ℕ → State → Bool) (n : List ℕ) (kind : Kind) → some_in_kind test kind ≡ some_of_each test (standing_by n kind)
  some-by-kind test n (Pass result) = refl
  some-by-kind test n (Task resource) = refl
  some-by-kind test n (Choice rules default) = refl
  some-by-kind test n (Wait delay) = refl
  some-by-kind test n Succeed = refl
  some-by-kind test n (Fail error cause) = refl
  some-by-kind test n (Parallel branches) = some-in-branches test n 0 branches
  some-by-kind test n (Map items selector processor) = some-in-scope test (Some (n, 0)) processor

  some-in-branches : (test : List ℕ → State → Bool) (n : List ℕ) (i : ℕ) (branches : Scopes) → some_in_scopes test branches ≡ some_of_each test (standing_each n i branches)
  some-in-branches test n i NoScopes = refl
  some-in-branches test n i (AndScope scope others) = in-both test (standing_in (Some (n, i)) scope) (standing_each n (suc i) others) (some_state test scope) (some_in_scopes test others) (some-in-scope test (Some (n, i)) scope) (some-in-branches test n (suc i) others)

-- so without the states of their scopes
some-outlined : (test : List ℕ → State → Bool) → ((n : List ℕ) (state : State) → test n (outline state) ≡ test n state) → (states : List Standing) → some_of_each test (map outlined states) ≡ some_of_each test states
some-outlined test same [] = refl
some-outlined test same (s ∷ states) = ap (λ b. b || some_of_each test (map outlined states)) (same s.name s.state) ∙ ap (λ b. test s.name s.state || b) (some-outlined test same states)

-- ---- positions

-- a position is the first, or one further on
pub first-position : {A : Type 0} (p : A → Bool) (x : A) (xs : List A) → position p (x ∷ xs) ≡ cond (p x) (Some 0) (option_map suc (position p xs))
first-position p x xs = by (p x)
  where
    one_more : 1 + position_or_len p xs ≡ suc (position_or_len p xs)
    one_more = omega arith

    further : (b : Bool) → cond b (Some (suc (position_or_len p xs))) None ≡ option_map suc (cond b (Some (position_or_len p xs)) None)
    further true = refl
    further false = refl

    by : (b : Bool) → cond (nat_lt (cond (not b) (1 + position_or_len p xs) 0) (length (x ∷ xs))) (Some (cond (not b) (1 + position_or_len p xs) 0)) None ≡ cond b (Some 0) (option_map suc (position p xs))
    by true = ap (λ b. cond b (Some 0) None) (lt-ltb 0 (suc (length xs)) (omega arith))
    by false = ap (λ i. cond (nat_lt i (length (x ∷ xs))) (Some i) None) one_more ∙ (ap (λ b. cond b (Some (suc (position_or_len p xs))) None) (leb-suc-suc (suc (position_or_len p xs)) (length xs)) ∙ further (nat_lt (position_or_len p xs) (length xs)))

-- names are equal whichever comes first
pub equal-swapped : (m n : List ℕ) → bytes_eq m n ≡ bytes_eq n m
equal-swapped m n = by (bytes_eq m n) (bytes_eq n m) (λ h. (bytes_eq-Decides n m).1 (sym ((bytes_eq-Decides m n).0 h))) (λ h. (bytes_eq-Decides m n).1 (sym ((bytes_eq-Decides n m).0 h)))
  where
    by : (a b : Bool) → (a ≡ true → b ≡ true) → (b ≡ true → a ≡ true) → a ≡ b
    by true b f g = sym (f refl)
    by false true f g = g refl
    by false false f g = refl

-- the names of the states
abbrev names : List Standing → List (List ℕ)
names states = map (λ s. s.name) states

-- the first has the name, or one further on
named-first : (b : Bool) (o : Option ℕ) (c : Bool) → c ≡ is_some o → b || c ≡ is_some (cond b (Some 0) (option_map suc o))
named-first true o c e = refl
named-first false None c e = e
named-first false (Some i) c e = e

-- a state has a name where the name has a position
named-at : (n : List ℕ) (states : List Standing) → some_of_each (λ m state. bytes_eq m n) states ≡ is_some (position (bytes_eq n) (names states))
named-at n [] = refl
named-at n (s ∷ states) =
    ap (λ b. b || some_of_each (λ m state. bytes_eq m n) states) (equal-swapped s.name n)
    ∙ (named-first (bytes_eq n s.name) (position (bytes_eq n) (names states)) (some_of_each (λ m state. bytes_eq m n) states) (named-at n states)
    ∙ ap is_some (sym (first-position (bytes_eq n) s.name (names states))))

-- no state passes a test with a name that isn't there
none-named : (n : List ℕ) (test : State → Bool) (states : List Standing) → is_among n (names states) ≡ false → some_of_each (λ m state. bytes_eq m n && test state) states ≡ false
none-named n test [] h = refl
none-named n test (s ∷ states) h = by (bytes_eq s.name n) h (none-named n test states)
  where
    by : (b : Bool) → b || is_among n (names states) ≡ false → (is_among n (names states) ≡ false → some_of_each (λ m state. bytes_eq m n && test state) states ≡ false) → (b && test s.state) || some_of_each (λ m state. bytes_eq m n && test state) states ≡ false
    by true g below = absurd (cc)
    by false g below = below g

-- where both hold, each does
pub not-first : (a b : Bool) → not a && b ≡ true → a ≡ false
not-first true b h = absurd (cc)
not-first false b h = refl

pub second : (a b : Bool) → not a && b ≡ true → b ≡ true
second true b h = absurd (cc)
second false b h = h

pub or-false : (a b : Bool) → b ≡ false → a || b ≡ a
or-false true b h = refl
or-false false b h = h

-- where no name stands twice, a Task has a name where the state at its position is one
task-at : (n : List ℕ) (states : List Standing) → are_distinct (names states) ≡ true → some_of_each (λ m state. bytes_eq m n && is_task (kind_of state)) states ≡ is_task_at (map (λ s. s.state) states) (position (bytes_eq n) (names states))
task-at n [] d = refl
task-at n (s ∷ states) d =
    go (bytes_eq s.name n) refl (task-at n states (second (is_among s.name (names states)) (are_distinct (names states)) d))
    ∙ ap (is_task_at (map (λ t. t.state) (s ∷ states))) (ap (λ b. cond b (Some 0) (option_map suc (position (bytes_eq n) (names states)))) (equal-swapped s.name n) ∙ sym (first-position (bytes_eq n) s.name (names states)))
  where
    others : Bool
    others = some_of_each (λ m state. bytes_eq m n && is_task (kind_of state)) states

    further : (o : Option ℕ) → is_task_at (map (λ t. t.state) states) o ≡ is_task_at (map (λ t. t.state) (s ∷ states)) (option_map suc o)
    further None = refl
    further (Some i) = refl

    alone : s.name ≡ n → is_among n (names states) ≡ false
    alone is = subst (λ m. is_among m (names states) ≡ false) is (not-first (is_among s.name (names states)) (are_distinct (names states)) d)

    go : (b : Bool) → bytes_eq s.name n ≡ b → others ≡ is_task_at (map (λ t. t.state) states) (position (bytes_eq n) (names states)) → (b && is_task (kind_of s.state)) || others ≡ is_task_at (map (λ t. t.state) (s ∷ states)) (cond b (Some 0) (option_map suc (position (bytes_eq n) (names states))))
    go true is below = or-false (is_task (kind_of s.state)) others (none-named n (λ state. is_task (kind_of state)) states (alone ((bytes_eq-Decides s.name n).0 is)))
    go false is below = below ∙ further (position (bytes_eq n) (names states))

-- ---- in the table of a machine

-- a state of the machine has the name where one of the table has it
pub state-named : (machine : Scope) (n : List ℕ) → names_state_in (table_of machine) n ≡ names_state machine n
state-named machine n =
    sym (named-at n (map outlined (standing machine))) ∙ (some-outlined (λ m state. bytes_eq m n) (λ m state. refl) (standing machine) ∙ sym (some-in-scope (λ m state. bytes_eq m n) None machine))

-- a state is a Task without the states of its scopes too
task-outlined : (state : State) → is_task (kind_of (outline state)) ≡ is_task (kind_of state)
task-outlined (StateOf settings (Pass result)) = refl
task-outlined (StateOf settings (Task resource)) = refl
task-outlined (StateOf settings (Choice rules default)) = refl
task-outlined (StateOf settings (Wait delay)) = refl
task-outlined (StateOf settings Succeed) = refl
task-outlined (StateOf settings (Fail error cause)) = refl
task-outlined (StateOf settings (Parallel branches)) = refl
task-outlined (StateOf settings (Map items selector processor)) = refl

-- so for a Task, where no name stands twice
pub task-named : (machine : Scope) (n : List ℕ) → are_distinct (names (standing machine)) ≡ true → names_task_in (table_of machine) n ≡ names_task machine n
task-named machine n d =
    sym (task-at n (map outlined (standing machine)) (ap are_distinct (outlined_names (standing machine)) ∙ d))
    ∙ (some-outlined (λ m state. bytes_eq m n && is_task (kind_of state)) (λ m state. ap (λ b. bytes_eq m n && b) (task-outlined state)) (standing machine)
    ∙ sym (some-in-scope (λ m state. bytes_eq m n && is_task (kind_of state)) None machine))
