-- The places that want an event, and those that are defined to have one.
use Rattle.std.proofs.Common.{◌≡◌, ◌≢◌, refl, sym, ap, ◌∙◌, subst, arith, ℕ, suc, ◌+◌, List, [], ◌∷◌, ◌++◌, map, Option, Some, None, is_some, IsTrue, append_assoc}
use Rattle.std.specs.Option.{IsSome}
use Rattle.asl_model.specs.Tree.{Tree}
use Rattle.asl_model.specs.Machine.{Scope, State, state_named}
use Rattle.asl_model.specs.Numbering.{HasNamed}
use Rattle.asl_model.specs.Run.{Activity, Ready, Waiting, Split, Done, Failed, Activities, NoActivities, AndActivity, Action, Move, Gives, FailsTask, Joining, AllDone, OneFailed, StillRunning, joining, joins, acts, scope_below, Want, WantsMove, WantsAnswer, want_of, wanted_here, join_wanted, down_from, enabled, enabled_below}
use Rattle.asl_model.proofs.RunOptions.{some_there}
use Rattle.asl_run.specs.Standing.{StandsIn, EachStandsIn}
use Rattle.asl_run.specs.Enabling.{wanted_by_join, wanted_by, own_place, open_in, open_below, seen_from, Adds}

-- ---- one activity

here : (want : Want) (n : List ℕ) (scope : Scope) → HasNamed scope n → wanted_here want (state_named n scope) ≡ own_place (Some want)
here want n scope h = go (state_named n scope) h
  where
    go : (found : Option State) → IsTrue (is_some found) → wanted_here want found ≡ own_place (Some want)
    go None some = absurd (cc)
    go (Some state) some = refl

here_joining : (n : List ℕ) (scope : Scope) (j : Joining) → HasNamed scope n → join_wanted j (state_named n scope) ≡ own_place (wanted_by_join j)
here_joining n scope (AllDone outputs) h = here WantsMove n scope h
here_joining n scope (OneFailed i error cause) h = here WantsMove n scope h
here_joining n scope StillRunning h = refl

-- ---- all that stands below

from_none : (scopes : ℕ → Scope) (j : ℕ) → scopes j ≡ scopes (0 + j)
from_none scopes j = let e : j ≡ 0 + j = omega arith in ap scopes e

further : (scopes below : ℕ → Scope) (k : ℕ) → ((j : ℕ) → below j ≡ scopes (k + j)) → (j : ℕ) → below (suc j) ≡ scopes (suc k + j)
further scopes below k same j = let e : k + suc j ≡ suc k + j = omega arith in same (suc j) ∙ ap scopes e

first_stands : (scopes below : ℕ → Scope) (k : ℕ) (a : Activity) → ((j : ℕ) → below j ≡ scopes (k + j)) → StandsIn a (below 0) → StandsIn a (scopes k)
first_stands scopes below k a same h = let e : k + 0 ≡ k = omega arith in subst (StandsIn a) (same 0 ∙ ap scopes e) h

-- the children's places, where they are numbered from k on
enabled_of_children : (children : Activities) (scopes below : ℕ → Scope) (k : ℕ) → ((j : ℕ) → below j ≡ scopes (k + j)) → EachStandsIn children below → enabled_below children scopes k ≡ open_below children k
enabled_of_children NoActivities scopes below k same h = refl
enabled_of_children (AndActivity (Ready n raw counts) others) scopes below k same h =
    rw (here WantsMove n (scopes k) (first_stands scopes below k (Ready n raw counts) same h.0)) (ap (λ v. map (down_from k) (own_place (Some WantsMove)) ++ v) (enabled_of_children others scopes (λ j. below (suc j)) (suc k) (further scopes below k same) h.1))
enabled_of_children (AndActivity (Waiting n raw counts payload) others) scopes below k same h =
    rw (here WantsAnswer n (scopes k) (first_stands scopes below k (Waiting n raw counts payload) same h.0)) (ap (λ v. map (down_from k) (own_place (Some WantsAnswer)) ++ v) (enabled_of_children others scopes (λ j. below (suc j)) (suc k) (further scopes below k same) h.1))
enabled_of_children (AndActivity (Split n raw counts children) others) scopes below k same h =
    let first = first_stands scopes below k (Split n raw counts children) same h.0 in
    let inner = scope_below (scopes k) n in
    let own = here_joining n (scopes k) (joining 0 children) first.0 in
    let inside = enabled_of_children children inner inner 0 (from_none inner) first.1 in
    let behind = enabled_of_children others scopes (λ j. below (suc j)) (suc k) (further scopes below k same) h.1 in
    ap (λ v. map (down_from k) (v ++ enabled_below children inner 0) ++ enabled_below others scopes (suc k)) own
    ∙ ap (λ v. map (down_from k) (own_place (wanted_by_join (joining 0 children)) ++ v) ++ enabled_below others scopes (suc k)) inside
    ∙ ap (λ v. map (down_from k) (own_place (wanted_by_join (joining 0 children)) ++ open_below children 0) ++ v) behind
enabled_of_children (AndActivity (Done output) others) scopes below k same h = enabled_of_children others scopes (λ j. below (suc j)) (suc k) (further scopes below k same) h.1
enabled_of_children (AndActivity (Failed error cause) others) scopes below k same h = enabled_of_children others scopes (λ j. below (suc j)) (suc k) (further scopes below k same) h.1

-- where all states stand in their scopes, the places that want an event are those where one is enabled
pub enabled_is_open : (a : Activity) (scope : Scope) → StandsIn a scope → enabled a scope ≡ open_in a
enabled_is_open (Ready n raw counts) scope h = here WantsMove n scope h
enabled_is_open (Waiting n raw counts payload) scope h = here WantsAnswer n scope h
enabled_is_open (Split n raw counts children) scope h =
    let inner = scope_below scope n in
    ap (λ v. v ++ enabled_below children inner 0) (here_joining n scope (joining 0 children) h.0) ∙ ap (λ v. own_place (wanted_by_join (joining 0 children)) ++ v) (enabled_of_children children inner inner 0 (from_none inner) h.1)
enabled_is_open (Done output) scope h = refl
enabled_is_open (Failed error cause) scope h = refl

-- ---- an activity acts exactly where it wants that kind of event

-- what the activity itself does, as its kind is wanted or not
pub record ActsAsWanted (scope : Scope) (a : Activity) (action : Action) : Type 0 where
  pub acts_where_wanted : wanted_by a ≡ Some (want_of action) → IsSome (acts scope a action)
  pub acts_nowhere_else : wanted_by a ≢ Some (want_of action) → acts scope a action ≡ None

no_answer : {B : Type 0} (j : Joining) → wanted_by_join j ≡ Some WantsAnswer → B
no_answer (AllDone outputs) e = absurd (cc)
no_answer (OneFailed i error cause) e = absurd (cc)
no_answer StillRunning e = absurd (cc)

pub acts_as_wanted : (scope : Scope) (a : Activity) (action : Action) → StandsIn a scope → ActsAsWanted scope a action
acts_as_wanted scope (Ready n raw counts) Move h = let found = some_there (state_named n scope) h in
    record { acts_where_wanted = λ e. rw found.1 refl; acts_nowhere_else = λ ne. absurd (ne refl) }
acts_as_wanted scope (Ready n raw counts) (Gives answer) h = let found = some_there (state_named n scope) h in
    record { acts_where_wanted = λ e. absurd (cc); acts_nowhere_else = λ ne. rw found.1 refl }
acts_as_wanted scope (Ready n raw counts) (FailsTask error cause) h = let found = some_there (state_named n scope) h in
    record { acts_where_wanted = λ e. absurd (cc); acts_nowhere_else = λ ne. rw found.1 refl }
acts_as_wanted scope (Waiting n raw counts payload) Move h = let found = some_there (state_named n scope) h in
    record { acts_where_wanted = λ e. absurd (cc); acts_nowhere_else = λ ne. rw found.1 refl }
acts_as_wanted scope (Waiting n raw counts payload) (Gives answer) h = let found = some_there (state_named n scope) h in
    record { acts_where_wanted = λ e. rw found.1 refl; acts_nowhere_else = λ ne. absurd (ne refl) }
acts_as_wanted scope (Waiting n raw counts payload) (FailsTask error cause) h = let found = some_there (state_named n scope) h in
    record { acts_where_wanted = λ e. rw found.1 refl; acts_nowhere_else = λ ne. absurd (ne refl) }
acts_as_wanted scope (Split n raw counts children) Move h = let found = some_there (state_named n scope) h.0 in
    record { acts_where_wanted = λ e. rw found.1 (joins_where n found.0 raw counts (joining 0 children) e); acts_nowhere_else = λ ne. rw found.1 (joins_nowhere n found.0 raw counts (joining 0 children) ne) }
  where
    joins_where : (n : List ℕ) (state : State) (raw : Tree) (counts : List ℕ) (j : Joining) → wanted_by_join j ≡ Some WantsMove → IsSome (joins n state raw counts j)
    joins_where n state raw counts (AllDone outputs) e = refl
    joins_where n state raw counts (OneFailed i error cause) e = refl
    joins_where n state raw counts StillRunning e = absurd (cc)

    joins_nowhere : (n : List ℕ) (state : State) (raw : Tree) (counts : List ℕ) (j : Joining) → wanted_by_join j ≢ Some WantsMove → joins n state raw counts j ≡ None
    joins_nowhere n state raw counts (AllDone outputs) ne = absurd (ne refl)
    joins_nowhere n state raw counts (OneFailed i error cause) ne = absurd (ne refl)
    joins_nowhere n state raw counts StillRunning ne = refl
acts_as_wanted scope (Split n raw counts children) (Gives answer) h = let found = some_there (state_named n scope) h.0 in
    record { acts_where_wanted = λ e. no_answer (joining 0 children) e; acts_nowhere_else = λ ne. rw found.1 refl }
acts_as_wanted scope (Split n raw counts children) (FailsTask error cause) h = let found = some_there (state_named n scope) h.0 in
    record { acts_where_wanted = λ e. no_answer (joining 0 children) e; acts_nowhere_else = λ ne. rw found.1 refl }
acts_as_wanted scope (Done output) action h = record { acts_where_wanted = λ e. absurd (cc); acts_nowhere_else = λ ne. refl }
acts_as_wanted scope (Failed error cause) action h = record { acts_where_wanted = λ e. absurd (cc); acts_nowhere_else = λ ne. refl }

-- ---- adding places to a list

map_append : {A B : Type 0} (f : A → B) (xs ys : List A) → map f (xs ++ ys) ≡ map f xs ++ map f ys
map_append f [] ys = refl
map_append f (x ∷ xs) ys = ap (λ v. f x ∷ v) (map_append f xs ys)

-- no place
pub adds_none : (place : List ℕ) (found : List (List ℕ × Want)) → Adds place [] found found
adds_none place found = record { added = sym (append_none found) }
  where
    append_none : {A : Type 0} (xs : List A) → xs ++ [] ≡ xs
    append_none [] = refl
    append_none (x ∷ xs) = ap (λ v. x ∷ v) (append_none xs)

-- one's own
pub adds_own : (place : List ℕ) (want : Want) (found : List (List ℕ × Want)) → Adds place (own_place (Some want)) found (found ++ (place, want) ∷ [])
adds_own place want found = record { added = ap (λ (p : List ℕ). found ++ (p, want) ∷ []) (sym (append_none place)) }
  where
    append_none : {A : Type 0} (xs : List A) → xs ++ [] ≡ xs
    append_none [] = refl
    append_none (x ∷ xs) = ap (λ v. x ∷ v) (append_none xs)

-- some, and then others
pub adds_then : {place : List ℕ} {more others before between after : List (List ℕ × Want)} → Adds place more before between → Adds place others between after → Adds place (more ++ others) before after
adds_then {place = place} {more = more} {others = others} {before = before} d e =
    record { added = e.added ∙ ap (λ v. v ++ map (seen_from place) others) d.added ∙ append_assoc before (map (seen_from place) more) (map (seen_from place) others) ∙ ap (λ v. before ++ v) (sym (map_append (seen_from place) more others)) }

-- those of a child are seen from one level higher
pub adds_of_child : {place : List ℕ} {more before after : List (List ℕ × Want)} (i : ℕ) → Adds (place ++ i ∷ []) more before after → Adds place (map (down_from i) more) before after
adds_of_child {place = place} {more = more} {before = before} i d = record { added = d.added ∙ ap (λ v. before ++ v) (lifted more) }
  where
    lifted : (xs : List (List ℕ × Want)) → map (seen_from (place ++ i ∷ [])) xs ≡ map (seen_from place) (map (down_from i) xs)
    lifted [] = refl
    lifted (x ∷ xs) = let e : (place ++ i ∷ []) ++ x.0 ≡ place ++ i ∷ x.0 = append_assoc place (i ∷ []) x.0 in
        let one : List ℕ × Want → List (List ℕ × Want) → List (List ℕ × Want) = λ y ys. y ∷ ys in
        ap (λ p. one (p, x.1) (map (seen_from (place ++ i ∷ [])) xs)) e ∙ ap (λ v. one (place ++ i ∷ x.0, x.1) v) (lifted xs)

-- from the machine's own place nothing is seen otherwise
pub adds_to_none : {more after : List (List ℕ × Want)} → Adds [] more [] after → after ≡ more
adds_to_none {more = more} d = d.added ∙ same more
  where
    same : (xs : List (List ℕ × Want)) → map (seen_from []) xs ≡ xs
    same [] = refl
    same (x ∷ xs) = ap (λ v. x ∷ v) (same xs)
