-- What drives a case by one step, and what answers the task that waits.
use Rattle.std.proofs.Common.{◌≡◌, ◌≢◌, ◌≤◌, refl, sym, ap, ◌∙◌, subst, arith, ℕ, true, false, if◌then◌else◌, List, [], ◌++◌, Option, Some, None, option_map, option_and_then, slice_get, Bor}
use Rattle.std.specs.Option.{unwrap_or}
use Rattle.asl_model.specs.Certificate.{Declared, waiting_name}
use Rattle.asl_model.specs.Machine.{Scope}
use Rattle.asl_model.specs.Numbering.{Table, table_of, IsWellNamed}
use Rattle.asl_model.specs.Run.{Activity, Action, StandsIn, enabled, outcome_of}
use Rattle.asl_model.proofs.RunOptions.{some_inj}
use Rattle.asl_run.specs.Driving as driving
use Rattle.asl_run.specs.Driving.{Drives, Policy, Told}
use Rattle.asl_run.specs.Entries.{answer_view}
use Rattle.asl_run.specs.declared.driving.Stop.{Stop}
use Rattle.asl_run.specs.declared.driving.Stop.TheVariants as stops
use Rattle.asl_run.specs.declared.entries.Answer as code
use Rattle.asl_suites.specs.Scripts.{StateScripts, ByAttempt, ByItem, answer_of, left_of}
use Rattle.asl_cases.specs.Asking.{IsTurnOf, are_by_item, item_at, item_of}
use Rattle.asl_cases.specs.Playing.{Answers, IsTaken, Plays, Stage, WaitsInTurn, stage_of}
use Rattle.asl_cases.specs.Stepping.{GoesOn, IsAsked, IsGoing, StepsTo, Stops, TakesSo, fits_task, place_asked}
use Rattle.asl_cases.specs.declared.playing.End.{End}
use Rattle.asl_cases.specs.declared.playing.End.TheVariants as ends
use Rattle.asl_cases.proofs.Chains.{asked_last, driven_is_played, plays_alone, plays_none}
use Rattle.asl_cases.proofs.Items.{item_known}
use Rattle.asl_cases.proofs.Steps.{answer_taken, misfits, none_taken, stepped, stops_there}

-- ---- driven by one step

-- driving by one step plays a case by one move or none, and stops so
pub record IsDriven (policy : Policy) (machine : Scope) (shapes : Option Declared) (before after : Stage) (stop : Stop) : Type 0 where
  pub count : ℕ
  pub few : count ≤ 1
  pub plays : Plays machine shapes count before after
  pub why : driving.StopsSo policy machine 1 count after.activity stop

pub driven : (policy : Policy) (machine : Scope) (shapes : Option Declared) (answers : Answers) (a b : Activity) (given left : List Action) (told entries longer : Told) (stop : Stop)
    → ((n k : ℕ) → policy.may_pick n k → k ≡ 0) → given ≡ [] → longer ≡ told ++ entries
    → driving.Stops policy machine 1 (driving.stage_of a given []) stop (driving.stage_of b left entries)
    → IsDriven policy machine shapes (stage_of a answers told) (stage_of b answers longer) stop
driven policy machine shapes answers a b given left told entries longer stop first none grown stopped =
    let drives = subst (λ l. Drives policy machine stopped.count (driving.stage_of a l []) (driving.stage_of b left entries)) none stopped.drives in
    record {
      count = stopped.count;
      few = stopped.within;
      plays = subst (λ t. Plays machine shapes stopped.count (stage_of a answers told) (stage_of b answers t)) (sym grown) (driven_is_played shapes answers told first drives);
      why = stopped.why;
    }

pub driven_to_output : {policy : Policy} {machine : Scope} {shapes : Option Declared} {before after : Stage} (stop : Stop) → stop ≡ stops.Output → IsDriven policy machine shapes before after stop → Stops machine shapes before ends.Output after
driven_to_output {policy = policy} {machine = machine} {after = after} stop is d = stops_there ends.Output d.few d.plays (subst (driving.StopsSo policy machine 1 d.count after.activity) is d.why)

pub driven_to_failure : {policy : Policy} {machine : Scope} {shapes : Option Declared} {before after : Stage} (stop : Stop) → stop ≡ stops.Failed → IsDriven policy machine shapes before after stop → Stops machine shapes before ends.Failed after
driven_to_failure {policy = policy} {machine = machine} {after = after} stop is d = stops_there ends.Failed d.few d.plays (subst (driving.StopsSo policy machine 1 d.count after.activity) is d.why)

pub driven_on : {policy : Policy} {machine : Scope} {shapes : Option Declared} {before after : Stage} (stop : Stop) → stop ≡ stops.StepsSpent → IsDriven policy machine shapes before after stop → GoesOn machine shapes before after
driven_on {policy = policy} {machine = machine} {shapes = shapes} {before = before} {after = after} stop is d =
    let why = subst (driving.StopsSo policy machine 1 d.count after.activity) is d.why in
    record { plays = subst (λ n. Plays machine shapes n before after) why.1 d.plays; goes_on = why.0 }

-- a task waits that was asked last
pub record IsHeld (machine : Scope) (shapes : Option Declared) (before after : Stage) (number : ℕ) : Type 0 where
  pub count : ℕ
  pub none : count ≡ 0
  pub plays : Plays machine shapes count before after
  pub asked : IsAsked machine after number

pub driven_to_task : {policy : Policy} {machine : Scope} {shapes : Option Declared} {before after : Stage} (stop : Stop) (number : ℕ) → ((n k : ℕ) → policy.may_pick n k → k ≡ 0) → stop ≡ stops.NoAnswer number → IsGoing machine before → IsDriven policy machine shapes before after stop → IsHeld machine shapes before after number
driven_to_task {policy = policy} {machine = machine} {after = after} stop number first is going d =
    let why = subst (driving.StopsSo policy machine 1 d.count after.activity) is d.why in
    let less = why.1 in
    let turn = why.2 in
    let u = turn.unanswered in
    record {
      count = d.count;
      none = omega arith;
      plays = d.plays;
      asked = record {
        name = u.name;
        place = turn.place;
        going = record { goes_on = why.0; alone = plays_alone d.plays going.alone };
        waits = record {
          turn = ap (λ k. option_map (λ w. w.0) (slice_get (enabled after.activity machine) k)) (sym (first _ turn.picked.number turn.picked.picks)) ∙ turn.picked.stands;
          waits = ap (option_and_then waiting_name) u.waits;
          numbered = u.named;
        };
      };
    }

-- what it comes to
abbrev pub DrivenTo : Scope → Option Declared → Stage → Stage → Stop → Type 0
DrivenTo machine shapes before after stops.Output = Stops machine shapes before ends.Output after
DrivenTo machine shapes before after stops.Failed = Stops machine shapes before ends.Failed after
DrivenTo machine shapes before after (stops.NoAnswer number) = IsHeld machine shapes before after number
DrivenTo machine shapes before after stops.StepsSpent = GoesOn machine shapes before after

pub driven_to : {policy : Policy} {machine : Scope} {shapes : Option Declared} {before after : Stage} (stop : Stop) → ((n k : ℕ) → policy.may_pick n k → k ≡ 0) → IsGoing machine before → IsDriven policy machine shapes before after stop → DrivenTo machine shapes before after stop
driven_to stops.Output first going d = driven_to_output stops.Output refl d
driven_to stops.Failed first going d = driven_to_failure stops.Failed refl d
driven_to (stops.NoAnswer number) first going d = driven_to_task (stops.NoAnswer number) number first refl going d
driven_to stops.StepsSpent first going d = driven_on stops.StepsSpent refl d

-- ---- the task that is answered

-- the state of that name waits at that place, in that item
pub record IsMeant (machine : Scope) (before : Stage) (number : ℕ) (name place : List ℕ) (item : Option ℕ) : Type 0 where
  pub goes_on : outcome_of before.activity ≡ None
  pub waits : WaitsInTurn machine before.activity number name place
  pub in_item : item ≡ item_of machine place before.activity

-- the name that is looked up
pub name_known : (found : Option (Bor (List ℕ))) (other name : Bor (List ℕ)) (n : List ℕ) → name ≡ unwrap_or found other → option_map (λ b. b.now) found ≡ Some n → name.now ≡ n
name_known None other name n is named = absurd (cc)
name_known (Some b) other name n is named = ap (λ c. c.now) is ∙ some_inj named

pub meant : (machine : Scope) (table : Table) (before : Stage) (number : ℕ) (found : Option (List ℕ)) (name place : List ℕ) (item : Option ℕ) → table ≡ table_of machine → IsWellNamed machine → StandsIn before.activity machine → IsAsked machine before number
    → found ≡ slice_get table.names number → ((n : List ℕ) → found ≡ Some n → name ≡ n) → place ≡ place_asked before.told → item ≡ item_at table number place → IsMeant machine before number name place item
meant machine table before number found name place item same well stands asked looked named at is_item =
    let here : place ≡ asked.place = at ∙ asked_last machine before.activity before.told number asked.name asked.place asked.going.alone asked.waits in
    let called : name ≡ asked.name = named asked.name (looked ∙ ap (λ t. slice_get t.names number) same ∙ asked.waits.numbered) in
    let waits : WaitsInTurn machine before.activity number name place = subst (λ n. WaitsInTurn machine before.activity number n place) (sym called) (subst (WaitsInTurn machine before.activity number asked.name) (sym here) asked.waits) in
    record {
      goes_on = asked.going.goes_on;
      waits = waits;
      in_item = is_item ∙ ap (λ t. item_at t number place) same ∙ item_known machine well place before.activity number name stands waits.waits waits.numbered;
    }

-- what next gave, where it gave that answer
taken_so : (machine : Scope) (before : Stage) (after : Answers) (number : ℕ) (name place : List ℕ) (item : Option ℕ) (answer : Action) → IsMeant machine before number name place item → Some answer ≡ answer_of (before.answers name) item
    → after name ≡ option_map (λ own. left_of own item) (before.answers name) → ((n : List ℕ) → n ≢ name → after n ≡ before.answers n) → IsTaken before.answers name (item_of machine place before.activity) answer after
taken_so machine before after number name place item answer is given left others =
    subst (λ i. IsTaken before.answers name i answer after) is.in_item (record { next = sym given; left = left; others = others })

-- it is taken
pub answered : (machine : Scope) (shapes : Option Declared) (before after : Stage) (number : ℕ) (name place : List ℕ) (item : Option ℕ) (answer : Action) (end : Option End) → IsMeant machine before number name place item → Some answer ≡ answer_of (before.answers name) item
    → after.answers name ≡ option_map (λ own. left_of own item) (before.answers name) → ((n : List ℕ) → n ≢ name → after.answers n ≡ before.answers n) → fits_task shapes name answer ≡ true
    → TakesSo machine before.activity (record { place = place; action = answer }) before.told end after.activity after.told → StepsTo machine shapes before end after
answered machine shapes before after number name place item answer end is given left others fits takes =
    stepped end (answer_taken machine shapes before after number name place answer is.waits (taken_so machine before after.answers number name place item answer is given left others) fits takes.is_told) takes.ends

-- ---- what is told of it

same_kind : (own : Option StateScripts) (item : Option ℕ) → are_by_item (option_map (λ o. left_of o item) own) ≡ are_by_item own
same_kind None item = refl
same_kind (Some (ByAttempt script)) item = refl
same_kind (Some (ByItem scripts)) (Some i) = refl
same_kind (Some (ByItem scripts)) None = refl

-- the turn that is told, by the answers that are left
turn_told : (machine : Scope) (table : Table) (before : Stage) (after : Answers) (number : ℕ) (name place : List ℕ) (item : Option ℕ) (attempt : ℕ) (told_item : Option ℕ) → table ≡ table_of machine → IsMeant machine before number name place item
    → after name ≡ option_map (λ own. left_of own item) (before.answers name) → IsTurnOf table number name (after name) item before.told attempt told_item
    → IsTurnOf (table_of machine) number name (before.answers name) (item_of machine place before.activity) before.told attempt told_item
turn_told machine table before after number name place item attempt told_item same is left turn =
    let kind : are_by_item (after name) ≡ are_by_item (before.answers name) = ap are_by_item left ∙ same_kind (before.answers name) item in
    subst (λ t. IsTurnOf t number name (before.answers name) (item_of machine place before.activity) before.told attempt told_item) same (record {
      of_item = turn.of_item ∙ ap (λ b. if b then item else None) kind ∙ ap (λ i. if are_by_item (before.answers name) then i else None) is.in_item;
      counted = turn.counted;
    })

-- none is left
pub unanswered : (machine : Scope) (shapes : Option Declared) (table : Table) (before : Stage) (after : Answers) (number : ℕ) (name place : List ℕ) (item : Option ℕ) (attempt : ℕ) (told_item : Option ℕ) → table ≡ table_of machine → IsMeant machine before number name place item → None ≡ answer_of (before.answers name) item
    → after name ≡ option_map (λ own. left_of own item) (before.answers name) → ((n : List ℕ) → n ≢ name → after n ≡ before.answers n) → IsTurnOf table number name (after name) item before.told attempt told_item
    → Stops machine shapes before (ends.NoAnswer number attempt told_item) (stage_of before.activity after before.told)
unanswered machine shapes table before after number name place item attempt told_item same is given left others turn = record {
  count = 0;
  answers = before.answers;
  few = omega arith;
  plays = plays_none machine shapes before;
  why = (
    refl,
    record {
      name = name;
      place = place;
      goes_on = is.goes_on;
      waits = is.waits;
      none = ap (answer_of (before.answers name)) (sym is.in_item) ∙ sym given;
      turn = turn_told machine table before after number name place item attempt told_item same is left turn;
    },
    none_taken before.answers after name item given left others,
  );
}

-- one is left that doesn't fit
pub misfit : (machine : Scope) (shapes : Option Declared) (table : Table) (before : Stage) (after : Answers) (number : ℕ) (name place : List ℕ) (item : Option ℕ) (answer : code.Answer) (attempt : ℕ) (told_item : Option ℕ) → table ≡ table_of machine → IsMeant machine before number name place item → Some (answer_view answer) ≡ answer_of (before.answers name) item
    → after name ≡ option_map (λ own. left_of own item) (before.answers name) → ((n : List ℕ) → n ≢ name → after n ≡ before.answers n) → fits_task shapes name (answer_view answer) ≡ false → IsTurnOf table number name (after name) item before.told attempt told_item
    → Stops machine shapes before (ends.AnswerShape number attempt told_item answer) (stage_of before.activity after before.told)
misfit machine shapes table before after number name place item answer attempt told_item same is given left others unfit turn =
    let wrong = misfits shapes name (answer_view answer) unfit in
    record {
      count = 0;
      answers = before.answers;
      few = omega arith;
      plays = plays_none machine shapes before;
      why = (
        refl,
        record {
          name = name;
          place = place;
          given = wrong.given;
          declared = wrong.declared;
          goes_on = is.goes_on;
          waits = is.waits;
          taken = taken_so machine before after number name place item (answer_view answer) is given left others;
          gives = wrong.is;
          is_declared = wrong.is_declared;
          misfit = wrong.misfit;
          turn = turn_told machine table before after number name place item attempt told_item same is left turn;
        },
      );
    }
