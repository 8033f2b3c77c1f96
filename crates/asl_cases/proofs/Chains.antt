-- Turns of a case, one after the other.
use Rattle.std.proofs.Common.{◌≡◌, refl, sym, ap, ◌∙◌, subst, ℕ, ◌+◌, true, List, [], ◌∷◌, ◌++◌, map, length, Option, Some, None, option_map, option_and_then, slice_get, append_assoc, append-nil, length-append}
use Rattle.std.specs.Prelude.{All}
use Rattle.std.specs.Option.{unwrap_or}
use Rattle.std.proofs.lemmas.List.Elements.{All-head, All-tail}
use Rattle.asl_model.specs.Certificate.{Declared, waiting_at, waiting_name}
use Rattle.asl_model.specs.Machine.{Scope}
use Rattle.asl_model.specs.Run.{Activity, Ready, Waiting, Split, Done, Failed, Action, Move, Gives, FailsTask, Entry, Asked, Ended, Event, Outcome, Step, Turn, activity_at, after_step, enabled, entries_of, last_activity, outcome_of, run, step, trace}
use Rattle.asl_model.specs.Tree.{Tree}
use Rattle.asl_model.proofs.RunOptions.{some_inj, none_some}
use Rattle.asl_run.specs.Driving.{Drives, Policy, Told, answer_in, answers_among}
use Rattle.asl_run.specs.Driving.{IsTaken as IsDriven}
use Rattle.asl_run.proofs.Turns.{last_append, run_append, trace_append}
use Rattle.asl_cases.specs.Asking.{last_of}
use Rattle.asl_cases.specs.Playing.{ActionFits, Answers, AreTurns, no_turns, turn_then, Plays, Stage, Takes, takes_none, WaitsInTurn, place_of_turn, stage_of}
use Rattle.asl_cases.specs.Stepping.{IsAlone, none_waits, one_waits, NoOtherWaits, place_asked, place_in}
use Rattle.asl_cases.proofs.Asked as asked
use Rattle.asl_cases.proofs.Asked.{IsLeftSo, end_told, left_so, none_other, none_there, steps_on}

-- ---- lists in a row

-- what is told last is the last of what was told
last_told : {A B : Type 0} (f : A → B) (before : List B) (xs : List A) (x : A) → last_of xs ≡ Some x → last_of (before ++ map f xs) ≡ Some (f x)
last_told {A = A} {B = B} f before [] x h = none_some h
last_told {A = A} {B = B} f before (y ∷ ys) x h = behind before (y ∷ ys) (mapped y ys h)
  where
    mapped : (y : A) (ys : List A) → last_of (y ∷ ys) ≡ Some x → last_of (map f (y ∷ ys)) ≡ Some (f x)
    mapped y [] h = ap (option_map f) h
    mapped y (z ∷ zs) h = mapped z zs h

    behind : (before : List B) (xs : List A) → last_of (map f xs) ≡ Some (f x) → last_of (before ++ map f xs) ≡ Some (f x)
    behind [] xs h = h
    behind (b ∷ []) [] h = none_some h
    behind (b ∷ []) (y ∷ ys) h = h
    behind (b ∷ c ∷ before) xs h = behind (c ∷ before) xs h

-- ---- turns in a row

pub turns_append : {machine : Scope} {shapes : Option Declared} {xs : List Turn} (ys : List Turn) {a b c : Answers} → AreTurns machine shapes xs a b → AreTurns machine shapes ys b c → AreTurns machine shapes (xs ++ ys) a c
turns_append ys no_turns further = further
turns_append ys (turn_then turn turns) further = turn_then turn (turns_append ys turns further)

-- no event leaves all as it is
pub plays_none : (machine : Scope) (shapes : Option Declared) (stage : Stage) → Plays machine shapes 0 stage stage
plays_none machine shapes stage = record {
  events = [];
  counted = refl;
  turns = no_turns;
  traced = sym (append-nil stage.told);
  stands = refl;
}

-- one event
pub plays_one : (machine : Scope) (shapes : Option Declared) (before after : Stage) (event : Event) (taken : Step)
    → step machine before.activity event ≡ Some taken → place_of_turn machine before.activity ≡ Some event.place
    → Takes machine (record { before = before.activity; event = event; taken = step machine before.activity event }) before.answers after.answers
    → ActionFits shapes event.place before.activity event.action
    → after.told ≡ before.told ++ map (λ entry. (event.place, entry)) taken.entries → after.activity ≡ taken.after
    → Plays machine shapes 1 before after
plays_one machine shapes before after event taken is picked takes fits told stands =
    let placed : trace (run machine before.activity (event ∷ [])) ≡ map (λ entry. (event.place, entry)) taken.entries =
    rw is (append-nil (map (λ entry. (event.place, entry)) taken.entries)) in
    record {
      events = event ∷ [];
      counted = refl;
      turns = turn_then (record { step = taken; is_enabled = is; picked = picked; takes = takes; fits = fits }) no_turns;
      traced = told ∙ ap (λ v. before.told ++ v) (sym placed);
      stands = rw is (sym stands);
    }

-- events after events
pub plays_then : {machine : Scope} {shapes : Option Declared} {a b c : Stage} {m n : ℕ}
    → Plays machine shapes m a b → Plays machine shapes n b c → Plays machine shapes (m + n) a c
plays_then {machine = machine} {shapes = shapes} {a = a} {b = b} {c = c} {m = m} d e =
    let s = run machine a.activity d.events in
    let t = run machine b.activity e.events in
    let rows : run machine a.activity (d.events ++ e.events) ≡ s ++ t = run_append machine a.activity b.activity d.events e.events d.stands in
    let entries : trace s ++ trace t ≡ trace (run machine a.activity (d.events ++ e.events)) = sym (trace_append s t) ∙ ap trace (sym rows) in
    record {
      events = d.events ++ e.events;
      counted = length-append d.events e.events ∙ ap (λ k. k + length e.events) d.counted ∙ ap (λ k. m + k) e.counted;
      turns = subst (λ v. AreTurns machine shapes v a.answers c.answers) (sym rows) (turns_append t d.turns e.turns);
      traced = e.traced ∙ ap (λ v. v ++ trace t) d.traced ∙ append_assoc a.told (trace s) (trace t) ∙ ap (λ v. a.told ++ v) entries;
      stands = ap (last_activity a.activity) rows ∙ last_append a.activity s t ∙ ap (λ x. last_activity x t) d.stands ∙ e.stands;
    }

-- ---- moves

no_answer : (action : Action) (others : List Action) → answer_in action ++ others ≡ [] → (action ≡ Move) × (others ≡ [])
no_answer Move others h = (refl, h)
no_answer (Gives answer) others h = absurd (cc)
no_answer (FailsTask error cause) others h = absurd (cc)

move_fits : (shapes : Option Declared) (place : List ℕ) (a : Activity) (action : Action) → action ≡ Move → ActionFits shapes place a action
move_fits None place a action is = tt
move_fits (Some declared) place a action is = rw is tt

-- moves at the first places are turns of a case, and take none of the answers
moves_are_turns : (policy : Policy) (machine : Scope) (shapes : Option Declared) (answers : Answers) → ((n k : ℕ) → policy.may_pick n k → k ≡ 0)
    → (a : Activity) (events : List Event) → All (IsDriven policy machine) (run machine a events) → answers_among events ≡ [] → AreTurns machine shapes (run machine a events) answers answers
moves_are_turns policy machine shapes answers first a [] all none = no_turns
moves_are_turns policy machine shapes answers first a (event ∷ events) all none =
    let taken = step machine a event in
    let turn : Turn = record { before = a; event = event; taken = taken } in
    let P : Turn → Type 0 = IsDriven policy machine in
    let here = All-head P turn (run machine (after_step a taken) events) all in
    let moves = no_answer event.action (answers_among events) none in
    turn_then (record {
      step = here.step;
      is_enabled = here.enabled;
      picked = ap (λ k. option_map (λ w. w.0) (slice_get (enabled a machine) k)) (sym (first _ here.picked.number here.picked.picks)) ∙ here.picked.stands;
      takes = takes_none moves.0;
      fits = move_fits shapes event.place a event.action moves.0;
    }) (moves_are_turns policy machine shapes answers first (after_step a taken) events (All-tail P turn (run machine (after_step a taken) events) all) moves.1)

front_empty : {A : Type 0} (xs ys : List A) → [] ≡ xs ++ ys → xs ≡ []
front_empty [] ys h = refl
front_empty (x ∷ xs) ys h = absurd (cc)

-- so a run that was driven by moves is played
pub driven_is_played : {policy : Policy} {machine : Scope} {count : ℕ} {a b : Activity} {left : List Action} {told : Told} (shapes : Option Declared) (answers : Answers) (before : Told) → ((n k : ℕ) → policy.may_pick n k → k ≡ 0)
    → Drives policy machine count (record { activity = a; answers = []; told = [] }) (record { activity = b; answers = left; told = told })
    → Plays machine shapes count (stage_of a answers before) (stage_of b answers (before ++ told))
driven_is_played {policy = policy} {machine = machine} {a = a} shapes answers before first d = record {
  events = d.events;
  counted = d.counted;
  turns = moves_are_turns policy machine shapes answers first a d.events d.taken (front_empty (answers_among d.events) _ d.answered);
  traced = ap (λ v. before ++ v) d.traced;
  stands = d.stands;
}

-- ---- which task waits

-- after a turn no task waits but one that was asked in it
alone_after : (machine : Scope) (a : Activity) (told : Told) (event : Event) (taken : Step) → step machine a event ≡ Some taken → place_of_turn machine a ≡ Some event.place → IsAlone machine a told
    → IsAlone machine taken.after (told ++ map (λ entry. (event.place, entry)) taken.entries)
alone_after machine a told event taken is picked alone = go (left_so event.place machine a event.action taken is picked (others alone))
  where
    others : IsAlone machine a told → NoOtherWaits event.place a
    others (none_waits h) = none_other event.place a h
    others (one_waits h turn last) = subst (λ p. NoOtherWaits p a) (some_inj (sym turn ∙ picked)) h

    go : IsLeftSo machine event.place taken.after taken.entries → IsAlone machine taken.after (told ++ map (λ entry. (event.place, entry)) taken.entries)
    go (asked.none_waits h) = none_waits h
    go (asked.one_waits {n = n} {payload = payload} h next last) = one_waits h next (last_told (λ entry. (event.place, entry)) told taken.entries (Asked n payload) last)

alone_along : (machine : Scope) (shapes : Option Declared) (a : Activity) (events : List Event) (told : Told) (x y : Answers) → AreTurns machine shapes (run machine a events) x y → IsAlone machine a told
    → IsAlone machine (last_activity a (run machine a events)) (told ++ trace (run machine a events))
alone_along machine shapes a [] told x y turns alone = subst (IsAlone machine a) (sym (append-nil told)) alone
alone_along machine shapes a (event ∷ events) told x y (turn_then turn turns) alone =
    let taken = step machine a event in
    let after = after_step a taken in
    let here = map (λ entry. (event.place, entry)) (entries_of taken) in
    let next : IsAlone machine after (told ++ here) = rw turn.is_enabled (alone_after machine a told event turn.step turn.is_enabled turn.picked alone) in
    subst (IsAlone machine (last_activity after (run machine after events))) (append_assoc told here (trace (run machine after events))) (alone_along machine shapes after events (told ++ here) _ y turns next)

pub plays_alone : {machine : Scope} {shapes : Option Declared} {count : ℕ} {before after : Stage} → Plays machine shapes count before after → IsAlone machine before.activity before.told → IsAlone machine after.activity after.told
plays_alone {machine = machine} {shapes = shapes} {before = before} {after = after} plays alone =
    let h = alone_along machine shapes before.activity plays.events before.told before.answers after.answers plays.turns alone in
    subst (λ a. IsAlone machine a after.told) plays.stands (subst (IsAlone machine (last_activity before.activity (run machine before.activity plays.events))) (sym plays.traced) h)

-- ---- an end is told

ends_on : (a : Activity) (outcome : Outcome) → outcome_of a ≡ Some outcome → asked.has_ended a ≡ true
ends_on (Ready n raw counts) outcome h = none_some h
ends_on (Waiting n raw counts payload) outcome h = none_some h
ends_on (Split n raw counts children) outcome h = none_some h
ends_on (Done output) outcome h = refl
ends_on (Failed error cause) outcome h = refl

-- the end of a step is told last
last_here : (machine : Scope) (a : Activity) (told : Told) (event : Event) (taken : Step) (found : Outcome) → step machine a event ≡ Some taken → outcome_of taken.after ≡ Some found → last_of (told ++ map (λ entry. (event.place, entry)) taken.entries) ≡ Some ([], Ended found)
last_here machine a told event taken found is ended =
    let h = end_told event.place machine a event.action taken found is ended in
    let at : List ℕ → Option (List ℕ × Entry) = λ p. Some (p, Ended found) in
    last_told (λ entry. (event.place, entry)) told taken.entries (Ended found) h.1 ∙ ap at h.0

-- and nothing comes behind it
none_behind : (machine : Scope) (shapes : Option Declared) (a : Activity) (events : List Event) (told : Told) (x y : Answers) (found outcome : Outcome) → outcome_of a ≡ Some found → last_of told ≡ Some ([], Ended found)
    → AreTurns machine shapes (run machine a events) x y → outcome_of (last_activity a (run machine a events)) ≡ Some outcome → last_of (told ++ trace (run machine a events)) ≡ Some ([], Ended outcome)
none_behind machine shapes a [] told x y found outcome ended last turns h =
    let at : Outcome → Option (List ℕ × Entry) = λ o. Some ([], Ended o) in
    ap last_of (append-nil told) ∙ last ∙ ap at (some_inj (sym ended ∙ h))
none_behind machine shapes a (event ∷ events) told x y found outcome ended last (turn_then turn turns) h =
    let on = steps_on event.place machine a event.action turn.step turn.is_enabled in
    let over = ends_on a found ended in
    absurd (cc)

ended_along : (machine : Scope) (shapes : Option Declared) (a : Activity) (events : List Event) (told : Told) (x y : Answers) (outcome : Outcome) → AreTurns machine shapes (run machine a events) x y → outcome_of a ≡ None
    → outcome_of (last_activity a (run machine a events)) ≡ Some outcome → last_of (told ++ trace (run machine a events)) ≡ Some ([], Ended outcome)
ended_along machine shapes a [] told x y outcome turns going h = none_some (sym going ∙ h)
ended_along machine shapes a (event ∷ events) told x y outcome (turn_then {between = between} turn turns) going h =
    let taken = step machine a event in
    let after = after_step a taken in
    let here = map (λ entry. (event.place, entry)) (entries_of taken) in
    let last : (found : Outcome) → outcome_of after ≡ Some found → last_of (told ++ here) ≡ Some ([], Ended found) =
    rw turn.is_enabled (λ found e. last_here machine a told event turn.step found turn.is_enabled e) in
    ap last_of (sym (append_assoc told here (trace (run machine after events)))) ∙ whether (outcome_of after) refl
    (λ on. ended_along machine shapes after events (told ++ here) between y outcome turns on h)
    (λ found e. none_behind machine shapes after events (told ++ here) between y found outcome e (last found e) turns h)
  where
    whether : {B : Type 0} (found : Option Outcome) {actual : Option Outcome} → actual ≡ found → (actual ≡ None → B) → ((o : Outcome) → actual ≡ Some o → B) → B
    whether None e on over = on e
    whether (Some o) e on over = over o e

-- where a case that was going on has ended, the last entry tells how
pub plays_ended : {machine : Scope} {shapes : Option Declared} {count : ℕ} {before after : Stage} (outcome : Outcome) → Plays machine shapes count before after → outcome_of before.activity ≡ None → outcome_of after.activity ≡ Some outcome
    → last_of after.told ≡ Some ([], Ended outcome)
plays_ended {machine = machine} {shapes = shapes} {before = before} {after = after} outcome plays going ended =
    ap last_of plays.traced ∙ ended_along machine shapes before.activity plays.events before.told before.answers after.answers outcome plays.turns going (ap outcome_of plays.stands ∙ ended)

-- ---- the task that waits

-- what waits at a place
pub record WaitsThere (place : List ℕ) (a : Activity) (name : List ℕ) : Type 0 where
  pub raw : Tree
  pub counts : List ℕ
  pub payload : Tree
  pub is : activity_at place a ≡ Some (Waiting name raw counts payload)

pub waits_there : (place : List ℕ) (a : Activity) (name : List ℕ) → waiting_at place a ≡ Some name → WaitsThere place a name
waits_there place a name h = go (activity_at place a) refl h
  where
    go : (there : Option Activity) → activity_at place a ≡ there → option_and_then waiting_name there ≡ Some name → WaitsThere place a name
    go None e h = none_some h
    go (Some (Ready n raw counts)) e h = none_some h
    go (Some (Waiting n raw counts payload)) e h = record { raw = raw; counts = counts; payload = payload; is = e ∙ ap (λ m. Some (Waiting m raw counts payload)) (some_inj h) }
    go (Some (Split n raw counts children)) e h = none_some h
    go (Some (Done output)) e h = none_some h
    go (Some (Failed error cause)) e h = none_some h

-- the one whose turn it is was asked last
pub asked_last : (machine : Scope) (a : Activity) (told : Told) (number : ℕ) (name place : List ℕ) → IsAlone machine a told → WaitsInTurn machine a number name place → place_asked told ≡ place
asked_last machine a told number name place (none_waits none) waits =
    let there = waits_there place a name waits.waits in
    absurd (none_there place a name there.raw there.counts there.payload none there.is)
asked_last machine a told number name place (one_waits {place = p} {name = n} {payload = payload} others turn last) waits =
    ap (λ o. unwrap_or (option_map place_in o) []) last ∙ some_inj (sym turn ∙ waits.turn)
