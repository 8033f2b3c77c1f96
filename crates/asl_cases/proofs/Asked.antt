-- The first place where an event is enabled: where a task was asked there, it is the one that waits.
use Rattle.std.proofs.Common.{◌≡◌, ◌≤◌, refl, sym, ap, ◌∙◌, subst, arith, ℕ, zero, suc, ◌+◌, false, List, [], ◌∷◌, ◌++◌, map, Option, Some, None, option_and_then, is_some, IsTrue, Result, Ok, Err}
use Rattle.asl_model.specs.Tree.{Tree, Trees, NoTrees, AndTree, Array}
use Rattle.asl_model.specs.Faults.{Fault, error_name}
use Rattle.asl_model.specs.Machine.{Scope, State, Settings, settings_of, kind_of, state_named, child_scope, HasNamed}
use Rattle.asl_model.specs.Flow.{Work, Finishes, Leaves, FailsWith, Asks, Splits, Raises, at_output_path, output_of, first_move}
use Rattle.asl_model.specs.Run.{Activity, Ready, Waiting, Split, Done, Failed, Activities, NoActivities, AndActivity, Action, Move, Gives, FailsTask, Entry, Entered, Asked, Raised, TaskFailed, BranchFailed, Ended, Outcome, Output, FailedWith, Step, Trouble, Retries, Catches, Misfits, Escapes, trouble_of, by_trouble, troubled, faulted, leaves_with, by_work, started, Joining, AllDone, OneFailed, StillRunning, joining, join_error, joins, moves_ready, moves_waiting, moves_split, acts, scope_below, child_at, set_child, activity_at, step_at, outcome_of, Want, WantsAnswer, wanted_here, join_wanted, down_from, enabled, enabled_below}
use Rattle.asl_model.proofs.RunOptions.{some_inj, none_some}
use Rattle.asl_model.proofs.RunApart.{step_below}
pub use Rattle.asl_run.specs.Enabling.{has_ended}
use Rattle.asl_run.proofs.FirstOpen.{first_in}
use Rattle.asl_run.proofs.OpenCounts.{same_joining}
use Rattle.asl_cases.specs.Asking.{last_of}
use Rattle.asl_cases.specs.Stepping.{NoneWaits, NoneWait, NoneWaitBut, NoOtherWaits}

-- ---- the last of a list

last_more : {A : Type 0} {y : A} (x : A) (xs : List A) → last_of xs ≡ Some y → last_of (x ∷ xs) ≡ Some y
last_more x [] h = none_some h
last_more x (z ∷ zs) h = h

-- ---- what waits

none_but : (i : ℕ) (children : Activities) → NoneWait children → NoneWaitBut i children
none_but i NoActivities h = tt
none_but zero (AndActivity child others) h = h.1
none_but (suc i) (AndActivity child others) h = (h.0, none_but i others h.1)

none_at : (i : ℕ) (children : Activities) (child : Activity) → child_at i children ≡ Some child → NoneWait children → NoneWaits child
none_at i NoActivities child e h = none_some e
none_at zero (AndActivity first others) child e h = subst NoneWaits (some_inj e) h.0
none_at (suc i) (AndActivity first others) child e h = none_at i others child e h.1

-- where none waits at all
pub none_other : (p : List ℕ) (a : Activity) → NoneWaits a → NoOtherWaits p a
none_other [] (Ready n raw counts) h = tt
none_other [] (Waiting n raw counts payload) h = tt
none_other [] (Split n raw counts children) h = h
none_other [] (Done output) h = tt
none_other [] (Failed error cause) h = tt
none_other (i ∷ p) (Ready n raw counts) h = tt
none_other (i ∷ p) (Waiting n raw counts payload) h = h
none_other (i ∷ p) (Split n raw counts children) h = (none_but i children h, λ child e. none_other p child (none_at i children child e h))
none_other (i ∷ p) (Done output) h = tt
none_other (i ∷ p) (Failed error cause) h = tt

-- where none waits, none waits at a place
pub none_there : (p : List ℕ) (a : Activity) (n : List ℕ) (raw : Tree) (counts : List ℕ) (payload : Tree) → NoneWaits a → activity_at p a ≡ Some (Waiting n raw counts payload) → ⊥
none_there [] (Ready m raw' counts') n raw counts payload h e = let f : Ready m raw' counts' ≡ Waiting n raw counts payload = some_inj e in absurd (cc)
none_there [] (Waiting m raw' counts' payload') n raw counts payload h e = h
none_there [] (Split m raw' counts' children) n raw counts payload h e = let f : Split m raw' counts' children ≡ Waiting n raw counts payload = some_inj e in absurd (cc)
none_there [] (Done output) n raw counts payload h e = let f : Done output ≡ Waiting n raw counts payload = some_inj e in absurd (cc)
none_there [] (Failed error cause) n raw counts payload h e = let f : Failed error cause ≡ Waiting n raw counts payload = some_inj e in absurd (cc)
none_there (i ∷ p) (Ready m raw' counts') n raw counts payload h e = none_some e
none_there (i ∷ p) (Waiting m raw' counts' payload') n raw counts payload h e = h
none_there (i ∷ p) (Split m raw' counts' children) n raw counts payload h e = go (child_at i children) refl e (λ child k. none_there p child n raw counts payload k)
  where
    go : (found : Option Activity) → child_at i children ≡ found → option_and_then (activity_at p) found ≡ Some (Waiting n raw counts payload) → ((child : Activity) → NoneWaits child → activity_at p child ≡ Some (Waiting n raw counts payload) → ⊥) → ⊥
    go None f g below = none_some g
    go (Some child) f g below = below child (none_at i children child f h) g
none_there (i ∷ p) (Done output) n raw counts payload h e = none_some e
none_there (i ∷ p) (Failed error cause) n raw counts payload h e = none_some e

-- a child is replaced
but_set : (i : ℕ) (a : Activity) (children : Activities) → NoneWaitBut i children → NoneWaitBut i (set_child i a children)
but_set i a NoActivities h = tt
but_set zero a (AndActivity child others) h = h
but_set (suc i) a (AndActivity child others) h = (h.0, but_set i a others h.1)

none_set : (i : ℕ) (a : Activity) (children : Activities) → NoneWaitBut i children → NoneWaits a → NoneWait (set_child i a children)
none_set i a NoActivities h none = tt
none_set zero a (AndActivity child others) h none = (none, h)
none_set (suc i) a (AndActivity child others) h none = (h.0, none_set i a others h.1 none)

there_set : (i : ℕ) (a child : Activity) (children : Activities) → child_at i (set_child i a children) ≡ Some child → a ≡ child
there_set i a child NoActivities e = none_some e
there_set zero a child (AndActivity first others) e = some_inj e
there_set (suc i) a child (AndActivity first others) e = there_set i a child others e

-- ---- what a step of an activity itself leaves

-- what the entries of a step tell last of what stands there after it: no task waits below; one that waits there was
-- asked, and its state is there; an end is told
abbrev IsToldSo : Scope → Activity → List Entry → Type 0
IsToldSo scope (Ready n raw counts) entries = Unit {0}
IsToldSo scope (Waiting n raw counts payload) entries = HasNamed scope n × (last_of entries ≡ Some (Asked n payload))
IsToldSo scope (Split n raw counts children) entries = NoneWait children
IsToldSo scope (Done output) entries = last_of entries ≡ Some (Ended (Output output))
IsToldSo scope (Failed error cause) entries = last_of entries ≡ Some (Ended (FailedWith error cause))

more : (scope : Scope) (a : Activity) (entry : Entry) (entries : List Entry) → IsToldSo scope a entries → IsToldSo scope a (entry ∷ entries)
more scope (Ready n raw counts) entry entries h = tt
more scope (Waiting n raw counts payload) entry entries h = (h.0, last_more entry entries h.1)
more scope (Split n raw counts children) entry entries h = h
more scope (Done output) entry entries h = last_more entry entries h
more scope (Failed error cause) entry entries h = last_more entry entries h

abbrev IsSo : Scope → Step → Type 0
IsSo scope s = IsToldSo scope s.after s.entries

in_trouble : (scope : Scope) (n : List ℕ) (raw : Tree) (counts error cause : List ℕ) (t : Trouble) → IsSo scope (by_trouble n raw counts error cause t)
in_trouble scope n raw counts error cause (Retries i) = tt
in_trouble scope n raw counts error cause (Catches i next input) = tt
in_trouble scope n raw counts error cause Misfits = refl
in_trouble scope n raw counts error cause Escapes = refl

with_error : (scope : Scope) (n : List ℕ) (settings : Settings) (raw : Tree) (counts error cause : List ℕ) → IsSo scope (troubled n settings raw counts error cause)
with_error scope n settings raw counts error cause = in_trouble scope n raw counts error cause (trouble_of settings raw counts error cause)

with_fault : (scope : Scope) (n : List ℕ) (settings : Settings) (raw : Tree) (counts : List ℕ) (fault : Fault) → IsSo scope (faulted n settings raw counts fault)
with_fault scope n settings raw counts fault =
    let s = troubled n settings raw counts (error_name fault.error) fault.field in
    more scope s.after (Raised n fault) s.entries (with_error scope n settings raw counts (error_name fault.error) fault.field)

leaving : (scope : Scope) (n : List ℕ) (settings : Settings) (raw : Tree) (counts : List ℕ) (next : Option (List ℕ)) (output : Result Tree Fault) → IsSo scope (leaves_with n settings raw counts next output)
leaving scope n settings raw counts None (Ok output) = refl
leaving scope n settings raw counts (Some next) (Ok output) = tt
leaving scope n settings raw counts next (Err fault) = with_fault scope n settings raw counts fault

none_started : (scopes : ℕ → Scope) (inputs : Trees) → NoneWait (started scopes inputs)
none_started scopes NoTrees = tt
none_started scopes (AndTree input inputs) = (tt, none_started (λ i. scopes (suc i)) inputs)

working : (scope : Scope) (n : List ℕ) (state : State) (raw : Tree) (counts : List ℕ) (work : Work) → HasNamed scope n → IsSo scope (by_work n state raw counts work)
working scope n state raw counts (Finishes result) here = leaving scope n (settings_of state) raw counts (settings_of state).next (output_of (settings_of state) raw result)
working scope n state raw counts (Leaves next v) here = leaving scope n (settings_of state) raw counts next (at_output_path (settings_of state) v)
working scope n state raw counts (FailsWith error cause) here = refl
working scope n state raw counts (Asks payload) here = (here, refl)
working scope n state raw counts (Splits inputs) here = none_started (child_scope (kind_of state)) inputs
working scope n state raw counts (Raises fault) here = with_fault scope n (settings_of state) raw counts fault

-- so it is, where there is a step
abbrev IsSoIfAny : Scope → Option Step → Type 0
IsSoIfAny scope None = Unit {0}
IsSoIfAny scope (Some s) = IsSo scope s

when_joining : (scope : Scope) (n : List ℕ) (state : State) (raw : Tree) (counts : List ℕ) (j : Joining) → IsSoIfAny scope (joins n state raw counts j)
when_joining scope n state raw counts (AllDone outputs) = leaving scope n (settings_of state) raw counts (settings_of state).next (output_of (settings_of state) raw (Array outputs))
when_joining scope n state raw counts (OneFailed i error cause) =
    let s = troubled n (settings_of state) raw counts (join_error (kind_of state) error) cause in
    more scope s.after (BranchFailed n i error cause) s.entries (with_error scope n (settings_of state) raw counts (join_error (kind_of state) error) cause)
when_joining scope n state raw counts StillRunning = tt

when_ready : (scope : Scope) (n : List ℕ) (raw : Tree) (counts : List ℕ) (action : Action) (state : Option State) → state_named n scope ≡ state → IsSoIfAny scope (option_and_then (moves_ready n raw counts action) state)
when_ready scope n raw counts action None e = tt
when_ready scope n raw counts Move (Some state) e =
    let s = by_work n state raw counts (first_move state raw) in
    more scope s.after (Entered n raw) s.entries (working scope n state raw counts (first_move state raw) (ap is_some e))
when_ready scope n raw counts (Gives answer) (Some state) e = tt
when_ready scope n raw counts (FailsTask error cause) (Some state) e = tt

when_waiting : (scope : Scope) (n : List ℕ) (raw : Tree) (counts : List ℕ) (action : Action) (state : Option State) → IsSoIfAny scope (option_and_then (moves_waiting n raw counts action) state)
when_waiting scope n raw counts action None = tt
when_waiting scope n raw counts Move (Some state) = tt
when_waiting scope n raw counts (Gives answer) (Some state) = leaving scope n (settings_of state) raw counts (settings_of state).next (output_of (settings_of state) raw answer)
when_waiting scope n raw counts (FailsTask error cause) (Some state) =
    let s = troubled n (settings_of state) raw counts error cause in
    more scope s.after (TaskFailed n error cause) s.entries (with_error scope n (settings_of state) raw counts error cause)

when_split : (scope : Scope) (n : List ℕ) (raw : Tree) (counts : List ℕ) (children : Activities) (action : Action) (state : Option State) → IsSoIfAny scope (option_and_then (moves_split n raw counts children action) state)
when_split scope n raw counts children action None = tt
when_split scope n raw counts children Move (Some state) = when_joining scope n state raw counts (joining 0 children)
when_split scope n raw counts children (Gives answer) (Some state) = tt
when_split scope n raw counts children (FailsTask error cause) (Some state) = tt

when_acting : (scope : Scope) (a : Activity) (action : Action) → IsSoIfAny scope (acts scope a action)
when_acting scope (Ready n raw counts) action = when_ready scope n raw counts action (state_named n scope) refl
when_acting scope (Waiting n raw counts payload) action = when_waiting scope n raw counts action (state_named n scope)
when_acting scope (Split n raw counts children) action = when_split scope n raw counts children action (state_named n scope)
when_acting scope (Done output) action = tt
when_acting scope (Failed error cause) action = tt

-- ---- an end is told

end_told_here : (scope : Scope) (a : Activity) (entries : List Entry) (outcome : Outcome) → IsToldSo scope a entries → outcome_of a ≡ Some outcome → last_of entries ≡ Some (Ended outcome)
end_told_here scope (Ready n raw counts) entries outcome h e = none_some e
end_told_here scope (Waiting n raw counts payload) entries outcome h e = none_some e
end_told_here scope (Split n raw counts children) entries outcome h e = none_some e
end_told_here scope (Done output) entries outcome h e = h ∙ ap (λ o. Some (Ended o)) (some_inj e)
end_told_here scope (Failed error cause) entries outcome h e = h ∙ ap (λ o. Some (Ended o)) (some_inj e)

-- the last entry of a step that ends the run tells the end, at the machine's own place
pub end_told : (p : List ℕ) (scope : Scope) (a : Activity) (action : Action) (s : Step) (outcome : Outcome) → step_at p scope a action ≡ Some s → outcome_of s.after ≡ Some outcome → (p ≡ []) × (last_of s.entries ≡ Some (Ended outcome))
end_told [] scope a action s outcome h e = (refl, end_told_here scope s.after s.entries outcome (subst (IsSoIfAny scope) h (when_acting scope a action)) e)
end_told (i ∷ p) scope (Ready n raw counts) action s outcome h e = none_some h
end_told (i ∷ p) scope (Waiting n raw counts payload) action s outcome h e = none_some h
end_told (i ∷ p) scope (Split n raw counts children) action s outcome h e =
    let b = step_below i p scope n raw counts children action s h in
    none_some (ap (λ (t : Step). outcome_of t.after) b.whole ∙ e)
end_told (i ∷ p) scope (Done output) action s outcome h e = none_some h
end_told (i ∷ p) scope (Failed error cause) action s outcome h e = none_some h

-- ---- the first place

abbrev Wanted : Type 0
Wanted = List (List ℕ × Want)

head_of : {m k : ℕ} {p q : List ℕ} → Some (m ∷ p) ≡ Some (k ∷ q) → m ≡ k
head_of e = cc

tail_of : {m k : ℕ} {p q : List ℕ} → Some (m ∷ p) ≡ Some (k ∷ q) → p ≡ q
tail_of e = cc

here_or_below : {B : Type 0} {m : ℕ} {p : List ℕ} → ◌≡◌ {A = Option (List ℕ)} (Some []) (Some (m ∷ p)) → B
here_or_below e = absurd (cc)

-- the first of the children's places is that of a child from number k on
from_there : (children : Activities) (scopes : ℕ → Scope) (k m : ℕ) (p : List ℕ) → first_in (enabled_below children scopes k) ≡ Some (m ∷ p) → k ≤ m
from_there NoActivities scopes k m p h = none_some h
from_there (AndActivity child others) scopes k m p h = go (enabled child (scopes k)) h (λ f. from_there others scopes (suc k) m p f)
  where
    go : (wanted : Wanted) → first_in (map (down_from k) wanted ++ enabled_below others scopes (suc k)) ≡ Some (m ∷ p) → (first_in (enabled_below others scopes (suc k)) ≡ Some (m ∷ p) → suc k ≤ m) → k ≤ m
    go [] f further = let above = further f in omega (arith, above)
    go (w ∷ ws) f further = let same = head_of f in omega (arith, same)

-- it is the first of the child's own, and so it is where another child with that first place stands there
record IsFirstOf (i : ℕ) (children : Activities) (scopes : ℕ → Scope) (k m : ℕ) (p : List ℕ) (child : Activity) : Type 0 where
  inner : first_in (enabled child (scopes m)) ≡ Some p
  again : (other : Activity) → first_in (enabled other (scopes m)) ≡ Some p → first_in (enabled_below (set_child i other children) scopes k) ≡ Some (m ∷ p)

first_raised : (k : ℕ) (wanted others : Wanted) (p : List ℕ) → first_in wanted ≡ Some p → first_in (map (down_from k) wanted ++ others) ≡ Some (k ∷ p)
first_raised k [] others p h = none_some h
first_raised k (w ∷ ws) others p h = ap (λ q. Some (k ∷ q)) (some_inj h)

first_below : (i : ℕ) (children : Activities) (scopes : ℕ → Scope) (k m : ℕ) (p : List ℕ) (child : Activity) → m ≡ k + i → child_at i children ≡ Some child → first_in (enabled_below children scopes k) ≡ Some (m ∷ p) → IsFirstOf i children scopes k m p child
first_below i NoActivities scopes k m p child counted stands h = none_some stands
first_below zero (AndActivity first others) scopes k m p child counted stands h =
    let same : k ≡ m = omega (arith, counted) in
    let P : ℕ → Type 0 = λ j. IsFirstOf zero (AndActivity first others) scopes k j p child in
    subst P same (go (enabled first (scopes k)) refl (subst (λ j. first_in (enabled_below (AndActivity first others) scopes k) ≡ Some (j ∷ p)) (sym same) h))
  where
    go : (wanted : Wanted) → enabled first (scopes k) ≡ wanted → first_in (map (down_from k) wanted ++ enabled_below others scopes (suc k)) ≡ Some (k ∷ p) → IsFirstOf zero (AndActivity first others) scopes k k p child
    go [] e f = let above = from_there others scopes (suc k) k p f in absurd (omega (arith, above))
    go (w ∷ ws) e f = record {
      inner = ap (λ c. first_in (enabled c (scopes k))) (sym (some_inj stands)) ∙ ap first_in e ∙ ap Some (tail_of f);
      again = λ other g. first_raised k (enabled other (scopes k)) (enabled_below others scopes (suc k)) p g;
    }
first_below (suc i) (AndActivity first others) scopes k m p child counted stands h =
    let further : m ≡ suc k + i = omega (arith, counted) in
    go (enabled first (scopes k)) refl h (λ f. first_below i others scopes (suc k) m p child further stands f)
  where
    go : (wanted : Wanted) → enabled first (scopes k) ≡ wanted → first_in (map (down_from k) wanted ++ enabled_below others scopes (suc k)) ≡ Some (m ∷ p) → (first_in (enabled_below others scopes (suc k)) ≡ Some (m ∷ p) → IsFirstOf i others scopes (suc k) m p child) → IsFirstOf (suc i) (AndActivity first others) scopes k m p child
    go [] e f below =
        let found = below f in
        record {
          inner = found.inner;
          again = λ other g. ap (λ wanted. first_in (map (down_from k) wanted ++ enabled_below (set_child i other others) scopes (suc k))) e ∙ found.again other g;
        }
    go (w ∷ ws) e f below = let same = head_of f in absurd (omega (arith, same, counted))

-- a Split whose first place is a child's doesn't join
not_joined : (j : Joining) (state : Option State) (others : Wanted) (i : ℕ) (p : List ℕ) → first_in (join_wanted j state ++ others) ≡ Some (i ∷ p) → join_wanted j state ≡ []
not_joined (AllDone outputs) None others i p h = refl
not_joined (AllDone outputs) (Some state) others i p h = here_or_below h
not_joined (OneFailed k error cause) None others i p h = refl
not_joined (OneFailed k error cause) (Some state) others i p h = here_or_below h
not_joined StillRunning state others i p h = refl

-- ---- a task that is asked is the next to be answered

-- what steps hasn't ended, nor what wants an event
pub steps_on : (p : List ℕ) (scope : Scope) (a : Activity) (action : Action) (s : Step) → step_at p scope a action ≡ Some s → has_ended a ≡ false
steps_on p scope (Ready n raw counts) action s h = refl
steps_on p scope (Waiting n raw counts payload) action s h = refl
steps_on p scope (Split n raw counts children) action s h = refl
steps_on [] scope (Done output) action s h = none_some h
steps_on (i ∷ p) scope (Done output) action s h = none_some h
steps_on [] scope (Failed error cause) action s h = none_some h
steps_on (i ∷ p) scope (Failed error cause) action s h = none_some h

wants_on : (scope : Scope) (a : Activity) (p : List ℕ) → first_in (enabled a scope) ≡ Some p → has_ended a ≡ false
wants_on scope (Ready n raw counts) p h = refl
wants_on scope (Waiting n raw counts payload) p h = refl
wants_on scope (Split n raw counts children) p h = refl
wants_on scope (Done output) p h = none_some h
wants_on scope (Failed error cause) p h = none_some h

-- after a step at that place no task waits, or one waits there alone, was asked last, and its turn is next
pub data IsLeftSo (scope : Scope) (p : List ℕ) (after : Activity) (entries : List Entry) : Type 0 where
  none_waits : NoneWaits after → IsLeftSo scope p after entries
  one_waits : {n : List ℕ} {payload : Tree} → NoOtherWaits p after → first_in (enabled after scope) ≡ Some p → last_of entries ≡ Some (Asked n payload) → IsLeftSo scope p after entries

left_here : (scope : Scope) (a : Activity) (entries : List Entry) → IsToldSo scope a entries → IsLeftSo scope [] a entries
left_here scope (Ready n raw counts) entries h = none_waits tt
left_here scope (Waiting n raw counts payload) entries h = one_waits tt (go (state_named n scope) h.0) h.1
  where
    go : (state : Option State) → IsTrue (is_some state) → first_in (wanted_here WantsAnswer state) ≡ Some []
    go None e = absurd (cc)
    go (Some state) e = refl
left_here scope (Split n raw counts children) entries h = none_waits h
left_here scope (Done output) entries h = none_waits tt
left_here scope (Failed error cause) entries h = none_waits tt

-- so below a Split
left_below : (scope : Scope) (n : List ℕ) (raw : Tree) (counts : List ℕ) (children : Activities) (i : ℕ) (p : List ℕ) (child : Activity) (inner : Step) → child_at i children ≡ Some child → has_ended child ≡ false → NoneWaitBut i children → first_in (enabled (Split n raw counts children) scope) ≡ Some (i ∷ p)
    → IsFirstOf i children (scope_below scope n) 0 i p child → IsLeftSo (scope_below scope n i) p inner.after inner.entries → IsLeftSo scope (i ∷ p) (Split n raw counts (set_child i inner.after children)) inner.entries
left_below scope n raw counts children i p child inner stands on none turn first (none_waits h) = none_waits (none_set i inner.after children none h)
left_below scope n raw counts children i p child inner stands on none turn first (one_waits others next last) =
    let same = same_joining i 0 children child inner.after stands on (wants_on (scope_below scope n i) inner.after p next) in
    let apart = not_joined (joining 0 children) (state_named n scope) (enabled_below children (scope_below scope n) 0) i p turn in
    let P : List ℕ → Type 0 = λ q. NoOtherWaits q inner.after in
    one_waits (but_set i inner.after children none, λ other e. subst (NoOtherWaits p) (there_set i inner.after other children e) others)
    (ap (λ j. first_in (join_wanted j (state_named n scope) ++ enabled_below (set_child i inner.after children) (scope_below scope n) 0)) same
    ∙ ap (λ wanted. first_in (wanted ++ enabled_below (set_child i inner.after children) (scope_below scope n) 0)) apart
    ∙ first.again inner.after next) last

pub left_so : (p : List ℕ) (scope : Scope) (a : Activity) (action : Action) (s : Step) → step_at p scope a action ≡ Some s → first_in (enabled a scope) ≡ Some p → NoOtherWaits p a → IsLeftSo scope p s.after s.entries
left_so [] scope a action s h turn others = left_here scope s.after s.entries (subst (IsSoIfAny scope) h (when_acting scope a action))
left_so (i ∷ p) scope (Ready n raw counts) action s h turn others = none_some h
left_so (i ∷ p) scope (Waiting n raw counts payload) action s h turn others = none_some h
left_so (i ∷ p) scope (Split n raw counts children) action s h turn others =
    let b = step_below i p scope n raw counts children action s h in
    let apart = not_joined (joining 0 children) (state_named n scope) (enabled_below children (scope_below scope n) 0) i p turn in
    let counted : i ≡ 0 + i = omega arith in
    let first = first_below i children (scope_below scope n) 0 i p b.child counted b.stands (ap (λ wanted. first_in (wanted ++ enabled_below children (scope_below scope n) 0)) (sym apart) ∙ turn) in
    let inner = left_so p (scope_below scope n i) b.child action b.inner b.steps first.inner (others.1 b.child b.stands) in
    subst (λ (t : Step). IsLeftSo scope (i ∷ p) t.after t.entries) b.whole
    (left_below scope n raw counts children i p b.child b.inner b.stands (steps_on p (scope_below scope n i) b.child action b.inner b.steps) others.0 turn first inner)
left_so (i ∷ p) scope (Done output) action s h turn others = none_some h
left_so (i ∷ p) scope (Failed error cause) action s h turn others = none_some h
