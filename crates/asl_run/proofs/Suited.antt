-- An event of the kind that an enabled place wants has a step.
use Rattle.std.proofs.Common.{◌≡◌, refl, sym, ap, ◌∙◌, subst, arith, ℕ, zero, suc, ◌+◌, List, [], ◌∷◌, ◌++◌, map, slice_get, Option, Some, None, option_map, option_and_then, inl, inr}
use Rattle.std.specs.Option.{IsSome}
use Rattle.asl_model.specs.Machine.{Scope}
use Rattle.asl_model.specs.Run.{Action, Activities, Activity, AllDone, AndActivity, Done, Enables, Event, Failed, FailsTask, Gives, Joining, Move, NoActivities, OneFailed, Ready, Split, StillRunning, Waiting, Want, WantsAnswer, WantsMove, activity_at, child_at, down_from, enabled, joining, step, want_of}
use Rattle.asl_model.specs.Tree.{Tree}
use Rattle.asl_model.proofs.RunEnabled.{enabled_exactly}
use Rattle.asl_model.proofs.RunOptions.{some_inj, none_some}
use Rattle.asl_run.specs.Driving.{IsPicked, IsWaiting, Suits}
use Rattle.asl_run.specs.Enabling.{open_below, open_in, own_place, wanted_by, wanted_by_join}
use Rattle.asl_run.specs.Entries.{answer_view}
use Rattle.asl_run.specs.Standing.{StandsIn}
use Rattle.asl_run.specs.Waiting.{NoneWaitsAt}
use Rattle.asl_run.specs.declared.entries.Answer.{Answer}
use Rattle.asl_run.specs.declared.entries.Answer.TheVariants as answers
use Rattle.asl_run.proofs.OpenPlaces.{enabled_is_open}

-- what stands at the place wants that kind of event
record WantsAt (root : Activity) (wanted : List ℕ × Want) : Type 0 where
  here : Activity
  stands : activity_at wanted.0 root ≡ Some here
  wants : wanted_by here ≡ Some wanted.1

-- so for each of a list
abbrev AllWant : Activity → List (List ℕ × Want) → Type 0
AllWant root [] = Unit {0}
AllWant root (wanted ∷ others) = WantsAt root wanted × AllWant root others

all_in_row : (root : Activity) (front back : List (List ℕ × Want)) → AllWant root front → AllWant root back → AllWant root (front ++ back)
all_in_row root [] back h further = further
all_in_row root (wanted ∷ front) back h further = (h.0, all_in_row root front back h.1 further)

-- the places of a child, seen from its parent
all_seen : (n : List ℕ) (raw : Tree) (counts : List ℕ) (all : Activities) (k : ℕ) (child : Activity) → child_at k all ≡ Some child → (places : List (List ℕ × Want)) → AllWant child places → AllWant (Split n raw counts all) (map (down_from k) places)
all_seen n raw counts all k child at [] h = tt
all_seen n raw counts all k child at (wanted ∷ places) h = (
  record {
    here = h.0.here;
    stands = ap (option_and_then (activity_at wanted.0)) at ∙ h.0.stands;
    wants = h.0.wants;
  },
  all_seen n raw counts all k child at places h.1,
)

own_wants : (root : Activity) (o : Option Want) → wanted_by root ≡ o → AllWant root (own_place o)
own_wants root None e = tt
own_wants root (Some want) e = (record { here = root; stands = refl; wants = e }, tt)

mutual
  all_want : (a : Activity) → AllWant a (open_in a)
  all_want (Ready n raw counts) = own_wants (Ready n raw counts) (Some WantsMove) refl
  all_want (Waiting n raw counts payload) = own_wants (Waiting n raw counts payload) (Some WantsAnswer) refl
  all_want (Split n raw counts children) =
      all_in_row (Split n raw counts children) (own_place (wanted_by_join (joining 0 children))) (open_below children 0)
      (own_wants (Split n raw counts children) (wanted_by_join (joining 0 children)) refl)
      (below_want n raw counts children children 0 (λ i c e. let same : 0 + i ≡ i = omega arith in ap (λ k. child_at k children) same ∙ e))
  all_want (Done output) = tt
  all_want (Failed error cause) = tt

  below_want : (n : List ℕ) (raw : Tree) (counts : List ℕ) (all children : Activities) (k : ℕ) → ((i : ℕ) (c : Activity) → child_at i children ≡ Some c → child_at (k + i) all ≡ Some c) → AllWant (Split n raw counts all) (open_below children k)
  below_want n raw counts all NoActivities k at = tt
  below_want n raw counts all (AndActivity child others) k at =
      let first : k + 0 ≡ k = omega arith in
      all_in_row (Split n raw counts all) (map (down_from k) (open_in child)) (open_below others (suc k))
      (all_seen n raw counts all k child (ap (λ i. child_at i all) (sym first) ∙ at 0 child refl) (open_in child) (all_want child))
      (below_want n raw counts all others (suc k) (λ i c e. let next : suc k + i ≡ k + suc i = omega arith in ap (λ j. child_at j all) next ∙ at (suc i) c e))

-- ---- one of them

one_wants : (root : Activity) (places : List (List ℕ × Want)) (number : ℕ) (wanted : List ℕ × Want) → AllWant root places → slice_get places number ≡ Some wanted → WantsAt root wanted
one_wants root [] number wanted h e = none_some e
one_wants root (first ∷ places) zero wanted h e = subst (WantsAt root) (some_inj e) h.0
one_wants root (first ∷ places) (suc number) wanted h e = one_wants root places number wanted h.1 e

one_enabled : (places : List (List ℕ × Want)) (number : ℕ) (wanted : List ℕ × Want) → slice_get places number ≡ Some wanted → Enables places wanted.0 wanted.1
one_enabled [] number wanted e = none_some e
one_enabled (first ∷ places) zero wanted e = inl (some_inj e)
one_enabled (first ∷ places) (suc number) wanted e = inr (one_enabled places number wanted e)

-- a task that waits wants an answer, and what else wants an event wants a move
kind_wanted : (here : Activity) (want : Want) → wanted_by here ≡ Some want → ((n : List ℕ) (raw : Tree) (counts : List ℕ) (payload : Tree) → here ≡ Waiting n raw counts payload → ⊥) → WantsMove ≡ want
kind_wanted (Ready n raw counts) want e none = some_inj e
kind_wanted (Waiting n raw counts payload) want e none = absurd (none n raw counts payload refl)
kind_wanted (Split n raw counts children) want e none = by (joining 0 children) e
  where
    by : (far : Joining) → wanted_by_join far ≡ Some want → WantsMove ≡ want
    by (AllDone outputs) f = some_inj f
    by (OneFailed i error cause) f = some_inj f
    by StillRunning f = none_some f
kind_wanted (Done output) want e none = none_some e
kind_wanted (Failed error cause) want e none = none_some e

waits : (root : Activity) (wanted : List ℕ × Want) → WantsAt root wanted → IsWaiting (activity_at wanted.0 root) → wanted.1 ≡ WantsAnswer
waits root wanted h waiting =
    let is : h.here ≡ Waiting waiting.name waiting.raw waiting.counts waiting.payload = some_inj (sym h.stands ∙ waiting.is) in
    some_inj (sym h.wants ∙ ap wanted_by is)

-- the event is of that kind
suits : (root : Activity) (wanted : List ℕ × Want) (action : Action) → WantsAt root wanted → Suits (activity_at wanted.0 root) action → wanted.1 ≡ want_of action
suits root wanted Move h suited = sym (kind_wanted h.here wanted.1 h.wants (λ n raw counts payload e. suited n raw counts payload (h.stands ∙ ap Some e)))
suits root wanted (Gives answer) h suited = waits root wanted h suited
suits root wanted (FailsTask error cause) h suited = waits root wanted h suited

-- so it has a step
pub suited_steps : (MayPick : ℕ → ℕ → Type 0) (machine : Scope) (root : Activity) (event : Event) → StandsIn root machine → IsPicked MayPick machine root event.place → Suits (activity_at event.place root) event.action → IsSome (step machine root event)
suited_steps MayPick machine root event stands picked suited = by (slice_get (enabled root machine) picked.number) refl picked.stands
  where
    by : (o : Option (List ℕ × Want)) → slice_get (enabled root machine) picked.number ≡ o → option_map (λ wanted. wanted.0) o ≡ Some event.place → IsSome (step machine root event)
    by None e f = none_some f
    by (Some wanted) e f =
        let all : slice_get (open_in root) picked.number ≡ Some wanted = ap (λ places. slice_get places picked.number) (sym (enabled_is_open root machine stands)) ∙ e in
        let place : wanted.0 ≡ event.place = some_inj f in
        let wants = one_wants root (open_in root) picked.number wanted (all_want root) all in
        let kind = suits root wanted event.action wants (subst (λ p. Suits (activity_at p root) event.action) (sym place) suited) in
        let there = one_enabled (enabled root machine) picked.number wanted e in
        (enabled_exactly event.place machine root event.action).1 (subst (λ w. Enables (enabled root machine) event.place w) kind (subst (λ p. Enables (enabled root machine) p wanted.1) place there))

-- ---- the event that comes next

pub move_suits : (place : List ℕ) (root : Activity) → NoneWaitsAt place root → Suits (activity_at place root) Move
move_suits place root h = h.none

pub answer_suits : (here : Option Activity) (answer : Answer) → IsWaiting here → Suits here (answer_view answer)
answer_suits here (answers.Gives t) h = h
answer_suits here (answers.Fails error cause) h = h
