-- What turns add to what was driven so far.
use Rattle.std.proofs.Common.{◌≡◌, ℕ, ◌+◌, ◌<◌, List, [], ◌∷◌, ◌++◌, map, length, sym, ap, ◌∙◌, refl, arith}
use Rattle.std.proofs.lemmas.List.{length-map}
use Rattle.asl_model.specs.Tree.{Tree}
use Rattle.asl_model.specs.Machine.{Scope}
use Rattle.asl_model.specs.Run.{Activity, Action, Event, activity_at}
use Rattle.asl_run.specs.Driving.{answer_in, answer_given, answers_among, ComesNext, Drives, IsLeft, IsPicked, IsTold, Policy, Stage}
use Rattle.asl_run.specs.Entries.{answer_view, entry_view}
use Rattle.asl_run.specs.Stepping.{Takes}
use Rattle.asl_run.specs.Waiting.{WaitsAt}
use Rattle.asl_run.specs.declared.entries.Answer.{Answer}
use Rattle.asl_run.specs.declared.entries.Answer.TheVariants as answers
use Rattle.asl_run.specs.declared.entries.Entry as code
use Rattle.asl_run.specs.declared.waiting.Asked.{Asked}
use Rattle.asl_run.proofs.FewEntries.{few_entries}
use Rattle.asl_run.proofs.Turns.{IsWithin, drives_one, drives_then, drives_for}
use Rattle.asl_tree.specs.View.{view}

-- the event that comes next is taken and told
pub turn_taken : (policy : Policy) (machine : Scope) (before after : Stage) (event : Event)
    → IsPicked policy.may_pick machine before.activity event.place
    → ComesNext policy.may_give before.activity before.answers event after.answers
    → IsTold machine before.activity event before.told after.told after.activity → Drives policy machine 1 before after
turn_taken policy machine before after event picked next taken =
    drives_one policy machine before after event taken.step taken.enabled picked next.allowed next.answered taken.grown (sym taken.stands)

-- a turn more
pub one_turn_more : {policy other wider : Policy} {machine : Scope} {a b c : Stage} {count : ℕ}
    → Drives policy machine count a b → Drives other machine 1 b c → IsWithin policy wider → IsWithin other wider
    → Drives wider machine (count + 1) a c
one_turn_more so_far turn before second = drives_then (drives_for so_far before) (drives_for turn second)

-- a turn that has no event
pub no_turn_more : {policy : Policy} {machine : Scope} {a b : Stage} {count : ℕ} (c : Stage)
    → Drives policy machine count a b → IsLeft b.activity b.told c.activity c.told → b.answers ≡ c.answers
    → Drives policy machine count a c
no_turn_more c so_far still same = record {
  events = so_far.events;
  counted = so_far.counted;
  taken = so_far.taken;
  answered = so_far.answered ∙ ap (λ v. answers_among so_far.events ++ v) same;
  traced = still.tells ∙ so_far.traced;
  stands = so_far.stands ∙ sym still.stands;
}

-- ---- one event

-- a step is told by at most four entries
pub few_are_told : (machine : Scope) (before after : Activity) (event : Event) (entries : List code.Entry) → Takes machine before event (map entry_view entries) after → 4 < length entries → ⊥
few_are_told machine before after event entries taken many =
    let few = few_entries machine before event taken.step taken.is in
    let same : length entries ≡ length taken.step.entries = sym (length-map entries entry_view) ∙ ap length taken.tells ∙ length-map taken.step.entries (λ entry. (event.place, entry)) in
    omega arith

answer_alone : (answer : Answer) → answer_in (answer_view answer) ≡ answer_view answer ∷ []
answer_alone (answers.Gives t) = refl
answer_alone (answers.Fails error cause) = refl

-- the front of the answers comes next where its task waits
pub answer_comes_next : (MayGive : List ℕ → Tree → Action → Type 0) (names : List (List ℕ)) (place same : List ℕ) (a : Activity) (asked : Asked) (answer : Answer) (given left : List Action) → same ≡ place → WaitsAt names same a asked
    → MayGive asked.name.now (view asked.payload.now) (answer_view answer) → given ≡ answer_view answer ∷ left → ComesNext MayGive a given (record { place = place; action = answer_view answer }) left
answer_comes_next MayGive names place same a asked answer given left is waits may front = record {
  allowed = answer_given (ap (λ p. activity_at p a) (sym is) ∙ waits.waits) may;
  answered = front ∙ ap (λ v. v ++ left) (sym (answer_alone answer));
}
