-- A run that hasn't ended goes on: an event is enabled.
use Rattle.std.proofs.Common.{◌≡◌, ℕ, suc, ◌<◌, ◌+◌, List, [], ◌∷◌, ◌++◌, map, length, Option, Some, None, refl, ap, ◌∙◌, subst, arith, is_some, IsTrue}
use Rattle.asl_model.specs.Machine.{Scope, State, state_named}
use Rattle.asl_model.specs.Numbering.{HasNamed}
use Rattle.asl_model.specs.Run.{Activity, Ready, Waiting, Split, Done, Failed, Activities, NoActivities, AndActivity, Joining, AllDone, OneFailed, StillRunning, joining, done_before, scope_below, Want, WantsMove, WantsAnswer, wanted_here, join_wanted, down_from, enabled, enabled_below, outcome_of}
use Rattle.asl_run.specs.Standing.{StandsIn, EachStandsIn}

-- the list has elements
record IsFilled (l : List (List ℕ × Want)) : Type 0 where
  some : 0 < length l

wanted : (want : Want) (n : List ℕ) (scope : Scope) → HasNamed scope n → IsFilled (wanted_here want (state_named n scope))
wanted want n scope h = go (state_named n scope) h
  where
    go : (found : Option State) → IsTrue (is_some found) → IsFilled (wanted_here want found)
    go None some = absurd (cc)
    go (Some state) some = record { some = omega arith }

in_front : (xs ys : List (List ℕ × Want)) → IsFilled xs → IsFilled (xs ++ ys)
in_front [] ys h = let f : 0 < 0 = h.some in absurd (omega arith)
in_front (x ∷ xs) ys h = record { some = omega arith }

in_back : (xs ys : List (List ℕ × Want)) → IsFilled ys → IsFilled (xs ++ ys)
in_back [] ys h = h
in_back (x ∷ xs) ys h = record { some = omega arith }

raised : (i : ℕ) (xs : List (List ℕ × Want)) → IsFilled xs → IsFilled (map (down_from i) xs)
raised i [] h = let f : 0 < 0 = h.some in absurd (omega arith)
raised i (x ∷ xs) h = record { some = omega arith }

still : (output : _) (j : Joining) → done_before output j ≡ StillRunning → j ≡ StillRunning
still output (AllDone outputs) e = absurd (cc)
still output (OneFailed i error cause) e = absurd (cc)
still output StillRunning e = refl

-- by what a Split waits for
split : (n : List ℕ) (scope : Scope) (children : Activities) (j : Joining) → joining 0 children ≡ j → HasNamed scope n
    → (joining 0 children ≡ StillRunning → IsFilled (enabled_below children (scope_below scope n) 0))
    → IsFilled (join_wanted j (state_named n scope) ++ enabled_below children (scope_below scope n) 0)
split n scope children (AllDone outputs) is h below = in_front (wanted_here WantsMove (state_named n scope)) (enabled_below children (scope_below scope n) 0) (wanted WantsMove n scope h)
split n scope children (OneFailed i error cause) is h below = in_front (wanted_here WantsMove (state_named n scope)) (enabled_below children (scope_below scope n) 0) (wanted WantsMove n scope h)
split n scope children StillRunning is h below = below is

from_none : (scopes : ℕ → Scope) (j : ℕ) → scopes j ≡ scopes (0 + j)
from_none scopes j = let e : j ≡ 0 + j = omega arith in ap scopes e

further : (scopes below : ℕ → Scope) (k : ℕ) → ((j : ℕ) → below j ≡ scopes (k + j)) → (j : ℕ) → below (suc j) ≡ scopes (suc k + j)
further scopes below k same j = let e : k + suc j ≡ suc k + j = omega arith in same (suc j) ∙ ap scopes e

first_stands : (scopes below : ℕ → Scope) (k : ℕ) (a : Activity) → ((j : ℕ) → below j ≡ scopes (k + j)) → StandsIn a (below 0) → StandsIn a (scopes k)
first_stands scopes below k a same h = let e : k + 0 ≡ k = omega arith in subst (StandsIn a) (same 0 ∙ ap scopes e) h

-- where the children are still running, an event is enabled at one of them; they are numbered from k on
some_below : (children : Activities) (scopes : ℕ → Scope) (below : ℕ → Scope) (i k : ℕ) → ((j : ℕ) → below j ≡ scopes (k + j)) → EachStandsIn children below → joining i children ≡ StillRunning → IsFilled (enabled_below children scopes k)
some_below NoActivities scopes below i k same h e = absurd (cc)
some_below (AndActivity (Ready n raw counts) others) scopes below i k same h e =
    in_front (map (down_from k) (wanted_here WantsMove (state_named n (scopes k)))) (enabled_below others scopes (suc k)) (raised k (wanted_here WantsMove (state_named n (scopes k))) (wanted WantsMove n (scopes k) (first_stands scopes below k (Ready n raw counts) same h.0)))
some_below (AndActivity (Waiting n raw counts payload) others) scopes below i k same h e =
    in_front (map (down_from k) (wanted_here WantsAnswer (state_named n (scopes k)))) (enabled_below others scopes (suc k)) (raised k (wanted_here WantsAnswer (state_named n (scopes k))) (wanted WantsAnswer n (scopes k) (first_stands scopes below k (Waiting n raw counts payload) same h.0)))
some_below (AndActivity (Split n raw counts children) others) scopes below i k same h e =
    let first = first_stands scopes below k (Split n raw counts children) same h.0 in
    let inner = scope_below (scopes k) n in
    in_front (map (down_from k) (join_wanted (joining 0 children) (state_named n (scopes k)) ++ enabled_below children inner 0)) (enabled_below others scopes (suc k))
    (raised k (join_wanted (joining 0 children) (state_named n (scopes k)) ++ enabled_below children inner 0)
    (split n (scopes k) children (joining 0 children) refl first.0 (λ f. some_below children inner inner 0 0 (from_none inner) first.1 f)))
some_below (AndActivity (Done output) others) scopes below i k same h e =
    in_back (map (down_from k) []) (enabled_below others scopes (suc k)) (some_below others scopes (λ j. below (suc j)) (suc i) (suc k) (further scopes below k same) h.1 (still output (joining (suc i) others) e))
some_below (AndActivity (Failed error cause) others) scopes below i k same h e = absurd (cc)

some_here : (a : Activity) (scope : Scope) → StandsIn a scope → outcome_of a ≡ None → IsFilled (enabled a scope)
some_here (Ready n raw counts) scope h going = wanted WantsMove n scope h
some_here (Waiting n raw counts payload) scope h going = wanted WantsAnswer n scope h
some_here (Split n raw counts children) scope h going = split n scope children (joining 0 children) refl h.0 (λ e. some_below children (scope_below scope n) (scope_below scope n) 0 0 (from_none (scope_below scope n)) h.1 e)
some_here (Done output) scope h going = absurd (cc)
some_here (Failed error cause) scope h going = absurd (cc)

-- where the activity hasn't ended, an event is enabled
pub some_enabled : (a : Activity) (scope : Scope) → StandsIn a scope → outcome_of a ≡ None → 0 < length (enabled a scope)
some_enabled a scope h going = let f = some_here a scope h going in f.some
