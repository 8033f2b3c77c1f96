-- Where a run hasn't ended, some place of it wants an event.
use Rattle.std.proofs.Common.{◌≡◌, ◌≢◌, refl, sym, ap, ◌∙◌, ℕ, suc, List, [], ◌∷◌, ◌++◌, map, None}
use Rattle.asl_model.specs.Machine.{Scope}
use Rattle.asl_model.specs.Run.{Activity, Ready, Waiting, Split, Done, Failed, Activities, NoActivities, AndActivity, Joining, AllDone, OneFailed, StillRunning, joining, done_before, outcome_of, enabled, down_from}
use Rattle.asl_model.specs.Tree.{Tree}
use Rattle.asl_run.specs.Enabling.{wanted_by_join, own_place, open_in, open_below}
use Rattle.asl_run.specs.Standing.{StandsIn}
use Rattle.asl_run.proofs.OpenPlaces.{enabled_is_open}

-- where a list with others behind it is empty, so is what it was made of
made_of_none : {A B : Type 0} (f : A → B) (xs : List A) (ys : List B) → map f xs ++ ys ≡ [] → xs ≡ []
made_of_none f [] ys e = refl
made_of_none f (x ∷ xs) ys e = absurd (cc)

-- where one child is done and the children are still running, some of the others are
others_run : (output : Tree) (others : Joining) → done_before output others ≡ StillRunning → others ≡ StillRunning
others_run output (AllDone outputs) e = absurd (cc)
others_run output (OneFailed i error cause) e = absurd (cc)
others_run output StillRunning e = refl

mutual
  pub some_open : (a : Activity) → outcome_of a ≡ None → open_in a ≢ []
  some_open (Ready n raw counts) going e = absurd (cc)
  some_open (Waiting n raw counts payload) going e = absurd (cc)
  some_open (Split n raw counts children) going e = by (joining 0 children) refl e (some_open_below children 0 0)
    where
      by : (far : Joining) → joining 0 children ≡ far → own_place (wanted_by_join far) ++ open_below children 0 ≡ [] → (joining 0 children ≡ StillRunning → open_below children 0 ≢ []) → ⊥
      by (AllDone outputs) is none below = absurd (cc)
      by (OneFailed i error cause) is none below = absurd (cc)
      by StillRunning is none below = below is none
  some_open (Done output) going e = absurd (cc)
  some_open (Failed error cause) going e = absurd (cc)

  some_open_below : (children : Activities) (i k : ℕ) → joining i children ≡ StillRunning → open_below children k ≢ []
  some_open_below NoActivities i k running e = absurd (cc)
  some_open_below (AndActivity (Ready n raw counts) others) i k running e = absurd (cc)
  some_open_below (AndActivity (Waiting n raw counts payload) others) i k running e = absurd (cc)
  some_open_below (AndActivity (Split n raw counts children) others) i k running e = some_open (Split n raw counts children) refl (made_of_none (down_from k) (open_in (Split n raw counts children)) (open_below others (suc k)) e)
  some_open_below (AndActivity (Done output) others) i k running e = some_open_below others (suc i) (suc k) (others_run output (joining (suc i) others) running) e
  some_open_below (AndActivity (Failed error cause) others) i k running e = absurd (cc)

-- so an event is enabled at some place
pub some_enabled : (m : Scope) (a : Activity) → StandsIn a m → outcome_of a ≡ None → enabled a m ≢ []
some_enabled m a stands going e = some_open a going (sym (enabled_is_open a m stands) ∙ e)

-- which is found, where all of them are
pub some_found : {A B : Type 0} (view : A → B) (found : List A) (all : List B) → map view found ≡ all → all ≢ [] → found ≢ []
some_found view found all same some e = some (sym same ∙ ap (map view) e)
