-- How driving stops, or is broken off.
use Rattle.std.proofs.Common.{◌≡◌, ℕ, ◌<◌, ◌≤◌, List, Option, Some, None, slice_get, sym, ap, ◌∙◌, subst, arith}
use Rattle.asl_machine_table.specs.Held.{Held}
use Rattle.asl_machine_table.specs.Table.{scope_in}
use Rattle.asl_model.specs.Tree.{Tree}
use Rattle.asl_model.specs.Machine.{Scope}
use Rattle.asl_model.specs.Numbering.{table_of}
use Rattle.asl_model.specs.Run.{Action, Activity, outcome_of}
use Rattle.asl_run.specs.Driving.{BreaksOff, Drives, EndsSo, IsLeft, IsPicked, IsUnanswered, Pauses, Policy, Stage, Stops, StopsSo, TurnIsUnanswered, with_unused}
use Rattle.asl_run.specs.declared.driving.Pause.{Pause}
use Rattle.asl_run.specs.declared.driving.Pause.TheVariants as pauses
use Rattle.asl_run.specs.declared.driving.Stop.{Stop}
use Rattle.asl_run.specs.declared.driving.Stop.TheVariants as stops
use Rattle.asl_run.specs.declared.entries.Answer.{Answer}
use Rattle.asl_run.proofs.Driven.{no_turn_more}
use Rattle.asl_run.proofs.Turns.{IsWithin, drives_for}

-- ---- the same machine

pub same_drives : {policy : Policy} {count : ℕ} {before after : Stage} {one other : Held} → one ≡ other → Drives policy (scope_in one) count before after → Drives policy (scope_in other) count before after
same_drives {policy = policy} {count = count} {before = before} {after = after} same = subst (λ held. Drives policy (scope_in held) count before after) same

pub same_pauses : (policy : Policy) (a : Activity) (names : List (List ℕ)) (given left : List Action) (pause : Pause) (one other : Held) → one ≡ other
    → Pauses (TurnIsUnanswered policy (scope_in one) a) names given left pause → Pauses (TurnIsUnanswered policy (scope_in other) a) names given left pause
same_pauses policy a names given left pause one other same =
    subst (λ held. Pauses (TurnIsUnanswered policy (scope_in held) a) names given left pause) same

-- ---- how it stops

ends : (policy : Policy) (machine : Scope) (most count : ℕ) (a : Activity) (stop : Stop) → EndsSo (Some stop) (outcome_of a) → StopsSo policy machine most count a stop
ends policy machine most count a stops.Output h = h
ends policy machine most count a stops.Failed h = h
ends policy machine most count a (stops.NoAnswer state) h = absurd h
ends policy machine most count a stops.StepsSpent h = absurd h

-- the run has ended
pub stopped_at_end : {policy : Policy} {machine : Scope} {before after : Stage} {count : ℕ} (most : ℕ) (stop : Stop)
    → count ≤ most → Drives policy machine count before after → EndsSo (Some stop) (outcome_of after.activity)
    → Stops policy machine most before stop after
stopped_at_end {policy = policy} {machine = machine} {after = after} {count = count} most stop within so_far h =
    record { count = count; within = within; drives = so_far; why = ends policy machine most count after.activity stop h }

-- as many events were taken as there may be
pub stopped_when_spent : {policy : Policy} {machine : Scope} {before after : Stage} {count : ℕ} (most : ℕ)
    → count ≡ most → Drives policy machine count before after → outcome_of after.activity ≡ None
    → Stops policy machine most before stops.StepsSpent after
stopped_when_spent {count = count} most spent so_far going =
    let within : count ≤ most = omega arith in
    record { count = count; within = within; drives = so_far; why = (going, spent) }

-- the source is silent at the place whose turn it is
pub pauses_in_turn : (policy : Policy) (machine : Scope) (a : Activity) (place : List ℕ) (names : List (List ℕ)) (given left : List Action) (pause : Pause)
    → IsPicked policy.may_pick machine a place → Pauses (IsUnanswered policy.may_be_silent place a) names given left pause
    → Pauses (TurnIsUnanswered policy machine a) names given left pause
pauses_in_turn policy machine a place names given left (pauses.NoAnswer state) picked paused = (record { place = place; picked = picked; unanswered = paused.0 }, paused.1)
pauses_in_turn policy machine a place names given left (pauses.OutOfMemory answer) picked paused = paused

-- so it is where more may happen
pub unanswered_for : {narrow wide : Policy} {machine : Scope} {a : Activity} {state : Option (List ℕ)} → IsWithin narrow wide
    → ((n : List ℕ) (payload : Tree) → narrow.may_be_silent n payload → wide.may_be_silent n payload)
    → TurnIsUnanswered narrow machine a state → TurnIsUnanswered wide machine a state
unanswered_for within silent turn =
    let u = turn.unanswered in
    record {
      place = turn.place;
      picked = record { number = turn.picked.number; picks = within.picks _ turn.picked.number turn.picked.picks; stands = turn.picked.stands };
      unanswered = record {
        name = u.name;
        raw = u.raw;
        counts = u.counts;
        payload = u.payload;
        named = u.named;
        waits = u.waits;
        silent = silent u.name u.payload u.silent;
      };
    }

pub stopped_unanswered : {policy other : Policy} {machine : Scope} {before here after : Stage} {count : ℕ}
    (narrow : Policy) (names : List (List ℕ)) (most state : ℕ)
    → count < most → names ≡ (table_of machine).names → Drives other machine count before here
    → IsWithin other policy → IsWithin narrow policy
    → ((n : List ℕ) (payload : Tree) → narrow.may_be_silent n payload → policy.may_be_silent n payload)
    → outcome_of here.activity ≡ None
    → Pauses (TurnIsUnanswered narrow machine here.activity) names here.answers after.answers (pauses.NoAnswer state)
    → IsLeft here.activity here.told after.activity after.told
    → Stops policy machine most before (stops.NoAnswer state) after
stopped_unanswered {policy = policy} {machine = machine} {here = here} {after = after} {count = count} narrow names most state more same so_far within also silent going paused still =
    let fewer : count ≤ most = omega arith in
    let unanswered : TurnIsUnanswered policy machine after.activity (slice_get (table_of machine).names state) =
    subst (λ a. TurnIsUnanswered policy machine a (slice_get (table_of machine).names state)) (sym still.stands)
    (subst (λ ns. TurnIsUnanswered policy machine here.activity (slice_get ns state)) same (unanswered_for also silent paused.0)) in
    record {
      count = count;
      within = fewer;
      drives = no_turn_more after (drives_for so_far within) still (sym paused.1);
      why = (ap outcome_of still.stands ∙ going, more, unanswered);
    }

-- memory runs out
pub broken_off_there : {policy other : Policy} {machine : Scope} {before here after : Stage} {count : ℕ}
    (Unanswered : Option (List ℕ) → Type 0) (names : List (List ℕ)) (most : ℕ) (answer : Option Answer)
    → count < most → Drives other machine count before here
    → IsWithin other policy
    → outcome_of here.activity ≡ None
    → Pauses Unanswered names here.answers after.answers (pauses.OutOfMemory answer)
    → IsLeft here.activity here.told after.activity after.told
    → BreaksOff policy machine most before answer after
broken_off_there {policy = policy} {after = after} {count = count} Unanswered names most answer more so_far within going paused still = record {
  count = count;
  fewer = more;
  going = ap outcome_of still.stands ∙ going;
  drives = no_turn_more (with_unused answer after) (drives_for so_far within) still paused;
}
