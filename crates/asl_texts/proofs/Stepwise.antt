-- A run that is driven one step after another, its history written after each.
use Rattle.std.proofs.Common.{◌≡◌, ◌<◌, ◌≤◌, ◌+◌, ℕ, List, [], ◌∷◌, ◌++◌, None, refl, sym, ap, subst, ◌∙◌, append_assoc, arith}
use Rattle.asl_model.specs.Machine.{Scope}
use Rattle.asl_model.specs.Run.{Activity, Action, outcome_of, run, trace}
use Rattle.asl_model.specs.Tree.{Tree}
use Rattle.asl_model.specs.TracePrinted.{entry_line, trace_text}
use Rattle.asl_run.specs.Driving.{Drives, Policy, Stage, Stops, StopsSo, Told, stage_of}
use Rattle.asl_run.specs.declared.driving.Stop.{Stop}
use Rattle.asl_run.specs.declared.driving.Stop.TheVariants as stops
use Rattle.asl_run.proofs.Stopping.{unanswered_for}
use Rattle.asl_run.proofs.Turns.{IsWithin, drives_none, drives_then, drives_for}
use Rattle.asl_texts.specs.Tracing.{Traces}

-- that many events were taken, and the text is that of their history
pub record Written (policy : Policy) (machine : Scope) (count : ℕ) (before : Stage) (text : List ℕ) (after : Activity) (left : List Action) : Type 0 where
  pub told : Told
  pub drives : Drives policy machine count before (stage_of after left told)
  pub traced : text ≡ trace_text told

-- nothing has happened
pub none_written : (policy : Policy) (machine : Scope) (a : Activity) (given : List Action) → Written policy machine 0 (stage_of a given []) [] a given
none_written policy machine a given = record { told = []; drives = drives_none policy machine (stage_of a given []); traced = refl }

lines_append : (s t : Told) → trace_text (s ++ t) ≡ trace_text s ++ trace_text t
lines_append [] t = refl
lines_append (e ∷ s) t = ap (λ v. entry_line e ++ v) (lines_append s t) ∙ sym (append_assoc (entry_line e) (trace_text s) (trace_text t))

-- the text grows where more is driven
pub written_more : {policy other wider : Policy} {machine : Scope} {before : Stage} {b c : Activity} {count more : ℕ} {between left : List Action} {text longer : List ℕ} {told : Told}
    → Written policy machine count before text b between → Drives other machine more (stage_of b between []) (stage_of c left told)
    → IsWithin policy wider → IsWithin other wider → longer ≡ text ++ trace_text told
    → Written wider machine (count + more) before longer c left
written_more {wider = wider} {machine = machine} {b = b} {c = c} {more = more} {between = between} {left = left} {text = text} so_far further first second added =
    let turns = drives_for further second in
    let events = trace (run machine b turns.events) in
    let both : Drives wider machine more (stage_of b between so_far.told) (stage_of c left (so_far.told ++ events)) = record {
      events = turns.events;
      counted = turns.counted;
      taken = turns.taken;
      answered = turns.answered;
      traced = refl;
      stands = turns.stands;
    } in
    record {
      told = so_far.told ++ events;
      drives = drives_then (drives_for so_far.drives first) both;
      traced = added ∙ ap (λ v. text ++ trace_text v) turns.traced ∙ ap (λ v. v ++ trace_text events) so_far.traced ∙ sym (lines_append so_far.told events);
    }

-- why one step more was the last is why the run stops
last_step : (policy wider : Policy) (machine : Scope) (most before here : ℕ) (a : Activity) (stop : Stop) → before < most → (stop ≡ stops.StepsSpent → ⊥)
    → IsWithin policy wider → ((n : List ℕ) (payload : Tree) → policy.may_be_silent n payload → wider.may_be_silent n payload)
    → StopsSo policy machine 1 here a stop → StopsSo wider machine most (before + here) a stop
last_step policy wider machine most before here a stops.Output fewer going within silent why = why
last_step policy wider machine most before here a stops.Failed fewer going within silent why = why
last_step policy wider machine most before here a (stops.NoAnswer state) fewer going within silent why =
    (why.0, omega arith, unanswered_for within silent why.2)
last_step policy wider machine most before here a stops.StepsSpent fewer going within silent why = absurd (going refl)

-- it stops at that step
pub stopped_there : {policy other wider : Policy} {machine : Scope} {before : Stage} {b c : Activity} {count : ℕ} {between left : List Action} {text longer : List ℕ} {told : Told} (most : ℕ) (stop : Stop)
    → count < most → (stop ≡ stops.StepsSpent → ⊥)
    → Written policy machine count before text b between → Stops other machine 1 (stage_of b between []) stop (stage_of c left told)
    → IsWithin policy wider → IsWithin other wider
    → ((n : List ℕ) (payload : Tree) → other.may_be_silent n payload → wider.may_be_silent n payload)
    → longer ≡ text ++ trace_text told
    → Traces wider machine most before stop longer left
stopped_there {other = other} {wider = wider} {machine = machine} {c = c} {count = count} most stop fewer going so_far last first second silent added =
    let all = written_more so_far last.drives first second added in
    let within : count + last.count ≤ most = let one : last.count ≤ 1 = last.within in omega arith in
    record {
      told = all.told;
      after = c;
      stops = record {
        count = count + last.count;
        within = within;
        drives = all.drives;
        why = last_step other wider machine most count last.count c stop fewer going second silent last.why;
      };
      traced = all.traced;
    }

-- one step was taken, and it goes on
pub goes_on : {policy other wider : Policy} {machine : Scope} {before : Stage} {b c : Activity} {count : ℕ} {between left : List Action} {text longer : List ℕ} {told : Told} (stop : Stop)
    → stop ≡ stops.StepsSpent
    → Written policy machine count before text b between → Stops other machine 1 (stage_of b between []) stop (stage_of c left told)
    → IsWithin policy wider → IsWithin other wider → longer ≡ text ++ trace_text told
    → Written wider machine (count + 1) before longer c left × (outcome_of c ≡ None)
goes_on {other = other} {wider = wider} {machine = machine} {before = before} {c = c} {count = count} {left = left} {longer = longer} stop spent so_far last first second added =
    let why : StopsSo other machine 1 last.count c stops.StepsSpent = subst (StopsSo other machine 1 last.count c) spent last.why in
    (subst (λ n. Written wider machine (count + n) before longer c left) why.1 (written_more so_far last.drives first second added), why.0)

-- all steps were taken
