-- The place whose turn it is, of those of a run that goes on.
use Rattle.std.proofs.Common.{◌≡◌, ◌≢◌, ◌<◌, refl, sym, ap, ◌∙◌, subst, arith, ℕ, false, Vec, get_or, List, [], ◌∷◌, map, length, slice_get, Some, None, option_map}
use Rattle.std.specs.declared.alloc.Global.{Global}
use Rattle.std.proofs.lemmas.List.{length-map}
use Rattle.std.proofs.lemmas.Option.{slice_get-map}
use Rattle.asl_model.specs.Machine.{Scope}
use Rattle.asl_model.specs.Run.{Activities, Activity, outcome_of}
use Rattle.asl_model.proofs.RunOptions.{some_inj, none_some}
use Rattle.asl_run.specs.Changing.{node_ended}
use Rattle.asl_run.specs.Counting.{IsGoing, open_count}
use Rattle.asl_run.specs.Driving.{IsPicked}
use Rattle.asl_run.specs.Enabling.{found_view, open_in}
use Rattle.asl_run.specs.Nodes.{in_range, range_of, shown_at, shown_from, shown_over}
use Rattle.asl_run.specs.Standing.{StandsIn, children_of}
use Rattle.asl_run.specs.declared.entries.Outcome.TheVariants as outcomes
use Rattle.asl_run.specs.declared.entries.Want.{Want}
use Rattle.asl_run.specs.declared.nodes.Node.{Node}
use Rattle.asl_run.specs.declared.nodes.Node.TheVariants as nodes
use Rattle.asl_run.proofs.OpenPlaces.{enabled_is_open}
use Rattle.asl_run.proofs.Parts.{read_there}
use Rattle.asl_run.proofs.SomeEnabled.{some_open}

-- ---- a run that goes on

-- some place of it wants an event
pub some_counted : (a : Activity) (count : ℕ) → count ≡ open_count a → outcome_of a ≡ None → 0 < count
some_counted a count same going = by (open_in a) same (some_open a going)
  where
    by : {A : Type 0} (found : List A) → count ≡ length found → found ≢ [] → 0 < count
    by [] e some = absurd (some refl)
    by (x ∷ found) e some = omega (arith, e)

-- what stands at the machine's own place hasn't ended
going_over : (names : List (List ℕ)) (below : Activities) (node : Node) → outcome_of (shown_over names below node) ≡ None → node_ended node ≡ false
going_over names below (nodes.Ready visit) going = refl
going_over names below (nodes.Waiting visit payload) going = refl
going_over names below (nodes.Split visit children) going = refl
going_over names below (nodes.Ended (outcomes.Output t)) going = absurd (cc)
going_over names below (nodes.Ended (outcomes.Failed error cause)) going = absurd (cc)

pub run_goes : (names : List (List ℕ)) (all : List Node) → outcome_of (shown_at names all 0) ≡ None → IsGoing all
run_goes names [] going node e = none_some e
run_goes names (first ∷ others) going node e = ap node_ended (sym (some_inj e)) ∙ going_over names (children_of (in_range 0 (range_of first) (shown_from names 1 others))) first going

-- ---- the place

-- the place of that number, of those that want an event, may be picked
pub is_picked : (MayPick : ℕ → ℕ → Type 0) (machine : Scope) (a : Activity) (count number : ℕ) (place : List ℕ) → StandsIn a machine → count ≡ open_count a → MayPick count number → option_map (λ wanted. wanted.0) (slice_get (open_in a) number) ≡ Some place → IsPicked MayPick machine a place
is_picked MayPick machine a count number place stands same may there =
    let all = enabled_is_open a machine stands in
    record {
      number = number;
      picks = subst (λ n. MayPick n number) (same ∙ ap length (sym all)) may;
      stands = ap (λ found. option_map (λ wanted. wanted.0) (slice_get found number)) all ∙ there;
    }

-- as it is found in a list of them all
pub found_picked : (MayPick : ℕ → ℕ → Type 0) (machine : Scope) (a : Activity) (count number : ℕ) (found : List (Vec ℕ Global × Want)) (picked : Vec ℕ Global × Want)
    → StandsIn a machine → count ≡ open_count a → MayPick count number → map found_view found ≡ open_in a → number < count → picked ≡ get_or found number picked → IsPicked MayPick machine a picked.0.items
found_picked MayPick machine a count number found picked stands same may all below is =
    let many : length found ≡ count = sym (length-map found found_view) ∙ ap length all ∙ sym same in
    is_picked MayPick machine a count number picked.0.items stands same may
    (ap (λ l. option_map (λ wanted. wanted.0) (slice_get l number)) (sym all) ∙ ap (option_map (λ wanted. wanted.0)) (slice_get-map found_view found number ∙ ap (option_map found_view) (read_there found number picked (omega (arith, below, many)) is)))
