-- Turns of a run, one after the other.
use Rattle.std.proofs.Common.{◌≡◌, ℕ, ◌+◌, List, [], ◌∷◌, ◌++◌, map, length, Option, Some, refl, sym, ap, ◌∙◌, subst, append_assoc, append-nil, length-append}
use Rattle.std.specs.Prelude.{All}
use Rattle.std.proofs.lemmas.List.Elements.{All-append, All-nil, All-cons, All-weaker}
use Rattle.asl_model.specs.Tree.{Tree}
use Rattle.asl_model.specs.Machine.{Scope}
use Rattle.asl_model.specs.Run.{Activity, Action, Event, Step, Turn, activity_at, after_step, run, step, trace, entries_of, last_activity}
use Rattle.asl_run.specs.Driving.{answer_in, answers_among, Policy, Stage, MayHappen, any_move, answer_given, IsPicked, IsTaken, Drives}

-- the turns of events in a row
pub run_append : (machine : Scope) (a b : Activity) (xs ys : List Event) → last_activity a (run machine a xs) ≡ b → run machine a (xs ++ ys) ≡ run machine a xs ++ run machine b ys
run_append machine a b [] ys e = ap (λ c. run machine c ys) e
run_append machine a b (x ∷ xs) ys e =
    let turn : Turn = record { before = a; event = x; taken = step machine a x } in
    ap (λ (v : List Turn). turn ∷ v) (run_append machine (after_step a (step machine a x)) b xs ys e)

-- and what they tell and leave
pub trace_append : (s t : List Turn) → trace (s ++ t) ≡ trace s ++ trace t
trace_append [] t = refl
trace_append (turn ∷ s) t =
    let here = map (λ entry. (turn.event.place, entry)) (entries_of turn.taken) in
    ap (λ v. here ++ v) (trace_append s t) ∙ sym (append_assoc here (trace s) (trace t))

pub last_append : (a : Activity) (s t : List Turn) → last_activity a (s ++ t) ≡ last_activity (last_activity a s) t
last_append a [] t = refl
last_append a (turn ∷ s) t = last_append (after_step turn.before turn.taken) s t

answers_append : (xs ys : List Event) → answers_among (xs ++ ys) ≡ answers_among xs ++ answers_among ys
answers_append [] ys = refl
answers_append (x ∷ xs) ys = ap (λ v. answer_in x.action ++ v) (answers_append xs ys) ∙ sym (append_assoc (answer_in x.action) (answers_among xs) (answers_among ys))

-- no event leaves all as it is
pub drives_none : (policy : Policy) (machine : Scope) (stage : Stage) → Drives policy machine 0 stage stage
drives_none policy machine stage = record {
  events = [];
  counted = refl;
  taken = All-nil (IsTaken policy machine);
  answered = refl;
  traced = sym (append-nil stage.told);
  stands = refl;
}

-- one event
pub drives_one : (policy : Policy) (machine : Scope) (before after : Stage) (event : Event) (taken : Step)
    → step machine before.activity event ≡ Some taken → IsPicked policy.may_pick machine before.activity event.place
    → MayHappen policy.may_give (activity_at event.place before.activity) event.action
    → before.answers ≡ answer_in event.action ++ after.answers
    → after.told ≡ before.told ++ map (λ entry. (event.place, entry)) taken.entries → taken.after ≡ after.activity
    → Drives policy machine 1 before after
drives_one policy machine before after event taken is picked may answered told stands =
    let turn : Turn = record { before = before.activity; event = event; taken = step machine before.activity event } in
    let P : Turn → Type 0 = IsTaken policy machine in
    let placed : trace (run machine before.activity (event ∷ [])) ≡ map (λ entry. (event.place, entry)) taken.entries =
    rw is (append-nil (map (λ entry. (event.place, entry)) taken.entries)) in
    record {
      events = event ∷ [];
      counted = refl;
      taken = All-cons P turn [] (record { step = taken; enabled = is; picked = picked; allowed = may }) (All-nil P);
      answered = answered ∙ ap (λ v. v ++ after.answers) (sym (append-nil (answer_in event.action)));
      traced = told ∙ ap (λ v. before.told ++ v) (sym placed);
      stands = rw is stands;
    }

-- events after events
pub drives_then : {policy : Policy} {machine : Scope} {a b c : Stage} {m n : ℕ}
    → Drives policy machine m a b → Drives policy machine n b c → Drives policy machine (m + n) a c
drives_then {policy = policy} {machine = machine} {a = a} {b = b} {c = c} {m = m} d e =
    let s = run machine a.activity d.events in
    let t = run machine b.activity e.events in
    let rows : run machine a.activity (d.events ++ e.events) ≡ s ++ t = run_append machine a.activity b.activity d.events e.events d.stands in
    let entries : trace s ++ trace t ≡ trace (run machine a.activity (d.events ++ e.events)) = sym (trace_append s t) ∙ ap trace (sym rows) in
    record {
      events = d.events ++ e.events;
      counted = length-append d.events e.events ∙ ap (λ k. k + length e.events) d.counted ∙ ap (λ k. m + k) e.counted;
      taken = subst (All (IsTaken policy machine)) (sym rows) (All-append (IsTaken policy machine) s t d.taken e.taken);
      answered = d.answered ∙ ap (λ v. answers_among d.events ++ v) e.answered
          ∙ sym (append_assoc (answers_among d.events) (answers_among e.events) c.answers)
          ∙ ap (λ v. v ++ c.answers) (sym (answers_append d.events e.events));
      traced = e.traced ∙ ap (λ v. v ++ trace t) d.traced ∙ append_assoc a.told (trace s) (trace t) ∙ ap (λ v. a.told ++ v) entries;
      stands = ap (last_activity a.activity) rows ∙ last_append a.activity s t ∙ ap (λ x. last_activity x t) d.stands ∙ e.stands;
    }

-- what one policy lets be picked and given, the other lets too
pub record IsWithin (policy wider : Policy) : Type 0 where
  pub picks : (n k : ℕ) → policy.may_pick n k → wider.may_pick n k
  pub gives : (n : List ℕ) (payload : Tree) (answer : Action) → policy.may_give n payload answer → wider.may_give n payload answer

-- what was driven by the one was driven by the other
pub drives_for : {policy wider : Policy} {machine : Scope} {a b : Stage} {n : ℕ}
    → Drives policy machine n a b → IsWithin policy wider → Drives wider machine n a b
drives_for {policy = policy} {wider = wider} {machine = machine} {a = a} d within = record {
  events = d.events;
  counted = d.counted;
  taken = All-weaker (IsTaken policy machine) (IsTaken wider machine) wide (run machine a.activity d.events) d.taken;
  answered = d.answered;
  traced = d.traced;
  stands = d.stands;
}
  where
    may : {here : Option Activity} {action : Action} → MayHappen policy.may_give here action → MayHappen wider.may_give here action
    may any_move = any_move
    may (answer_given {n = n} {payload = payload} {answer = answer} is h) = answer_given is (within.gives n payload answer h)

    wide : (turn : Turn) → IsTaken policy machine turn → IsTaken wider machine turn
    wide turn h = record {
      step = h.step;
      enabled = h.enabled;
      picked = record { number = h.picked.number; picks = within.picks _ h.picked.number h.picked.picks; stands = h.picked.stands };
      allowed = may h.allowed;
    }
