-- The way down from the machine's own place to the first or the last place that wants an event.
use Rattle.std.proofs.Common.{◌≡◌, ◌<◌, ◌≤◌, refl, sym, ap, ◌∙◌, subst, arith, ℕ, suc, ◌+◌, get_or, true, false, List, [], ◌∷◌, ◌++◌, append_assoc, append-nil, length, slice_get, Option, Some}
use Rattle.asl_model.specs.Run.{Activity, Ready, Waiting, Split, Done, Failed, Joining, AllDone, OneFailed, StillRunning, Want, WantsMove, WantsAnswer}
use Rattle.asl_run.specs.Changing.{node_ended}
use Rattle.asl_run.specs.Counting.{IsFar, IsGoing, IsKept, open_count}
use Rattle.asl_run.specs.Enabling.{has_ended, is_joinable, open_below, open_in, own_place, wanted_by_join}
use Rattle.asl_run.specs.Nodes.{IsTable, shown_at}
use Rattle.asl_run.specs.Standing.{children_of}
use Rattle.asl_processing.specs.declared.activities.Visit.{Visit}
use Rattle.asl_run.specs.declared.entries.Outcome.TheVariants as outcomes
use Rattle.asl_run.specs.declared.nodes.Children.{Children}
use Rattle.asl_run.specs.declared.nodes.Node.{Node}
use Rattle.asl_run.specs.declared.nodes.Node.TheVariants as nodes
use Rattle.asl_run.specs.declared.standing.Progress.{Progress}
use Rattle.asl_run.proofs.Parts.{read_there}
use Rattle.asl_run.proofs.Tables.{shown_here}

-- ---- what wants an event

-- none does where all have ended
pub none_open : (a : Activity) → has_ended a ≡ true → open_in a ≡ []
none_open (Ready n raw counts) h = absurd (cc)
none_open (Waiting n raw counts payload) h = absurd (cc)
none_open (Split n raw counts children) h = absurd (cc)
none_open (Done output) h = refl
none_open (Failed error cause) h = refl

pub none_open_below : (xs : List Activity) (i : ℕ) → ((k : ℕ) (a : Activity) → slice_get xs k ≡ Some a → has_ended a ≡ true) → open_below (children_of xs) i ≡ []
none_open_below [] i h = refl
none_open_below (x ∷ xs) i h = rw (none_open x (h 0 x refl)) (none_open_below xs (suc i) (λ k a e. h (suc k) a e))

-- a Split's own place does where its children are far enough
pub own_wanted : (far : Joining) → is_joinable far ≡ true → own_place (wanted_by_join far) ≡ own_place (Some WantsMove)
own_wanted (AllDone outputs) h = refl
own_wanted (OneFailed i error cause) h = refl
own_wanted StillRunning h = absurd (cc)

pub own_unwanted : (far : Joining) → is_joinable far ≡ false → own_place (wanted_by_join far) ≡ []
own_unwanted (AllDone outputs) h = absurd (cc)
own_unwanted (OneFailed i error cause) h = absurd (cc)
own_unwanted StillRunning h = refl

-- ---- a Split

-- it stands in a table, with what is noted of its children
pub record IsNoted (all : List Node) (here : ℕ) (children : Children) (progress : Progress) : Type 0 where
  pub visit : Visit
  pub table : IsTable all
  pub stands : slice_get all here ≡ Some (nodes.Split visit children)
  pub far : IsFar all children progress
  pub behind : here < children.first.0
  pub within : children.first.0 + children.count ≤ length all

-- as all is kept
pub is_noted : (inside all : List Node) (progress : List Progress) (counted here : ℕ) (node : Node) (visit : Visit) (children : Children) (far : Progress) → inside ≡ all → IsKept inside progress counted → here < length all
    → slice_get inside here ≡ Some node → node ≡ nodes.Split visit children → far ≡ get_or progress here far → IsNoted all here children far
is_noted inside all progress counted here node visit children far same kept below found is read =
    let stands = found ∙ ap Some is in
    let many = kept.long in
    let as_many = ap (λ (l : List Node). length l) same in
    let range = kept.table.ranges here (nodes.Split visit children) children stands refl in
    let noted : IsNoted inside here children far = record {
      visit = visit;
      table = kept.table;
      stands = stands;
      far = kept.far here (nodes.Split visit children) children far stands refl (read_there progress here far (omega (arith, below, many, as_many)) read);
      behind = range.behind;
      within = range.within;
    } in
    subst (λ l. IsNoted l here children far) same noted

-- and as it is counted
pub counted_in : (inside all : List Node) (progress : List Progress) (counted : ℕ) → inside ≡ all → IsKept inside progress counted → (names : List (List ℕ)) → counted ≡ open_count (shown_at names all 0)
counted_in inside all progress counted same kept names = kept.same names ∙ ap (λ (l : List Node). open_count (shown_at names l 0)) same

-- ---- the way

-- The node goes on, and the place that is picked of those below it, behind this one, is the one that is picked of all.
pub record IsOnTheWay (pick : List (List ℕ × Want) → Option (List ℕ)) (all : List Node) (place : List ℕ) (here : ℕ) : Type 0 where
  pub below : here < length all
  pub runs : (node : Node) → slice_get all here ≡ Some node → node_ended node ≡ false
  pub leads : (names : List (List ℕ)) (rest : List ℕ) → pick (open_in (shown_at names all here)) ≡ Some rest → pick (open_in (shown_at names all 0)) ≡ Some (place ++ rest)

-- it begins at the machine's own place
pub at_first : (pick : List (List ℕ × Want) → Option (List ℕ)) (all : List Node) → IsTable all → IsGoing all → (place : List ℕ) (here : ℕ) → place ≡ [] → here ≡ 0 → IsOnTheWay pick all place here
at_first pick all table goes place here own first =
    subst (λ p. IsOnTheWay pick all p here) (sym own) (subst (IsOnTheWay pick all []) (sym first) (record { below = table.some; runs = goes; leads = λ names rest e. e }))

-- one level more
pub further_down : (pick : List (List ℕ × Want) → Option (List ℕ)) (all : List Node) (place : List ℕ) (here child k : ℕ) → IsOnTheWay pick all place here → child < length all → ((node : Node) → slice_get all child ≡ Some node → node_ended node ≡ false)
    → ((names : List (List ℕ)) (rest : List ℕ) → pick (open_in (shown_at names all child)) ≡ Some rest → pick (open_in (shown_at names all here)) ≡ Some (k ∷ rest)) → IsOnTheWay pick all (place ++ k ∷ []) child
further_down pick all place here child k way below runs leads =
    record { below = below; runs = runs; leads = λ names rest e. way.leads names (k ∷ rest) (leads names rest e) ∙ ap Some (sym (append_assoc place (k ∷ []) rest)) }

-- it ends where the node's own place is picked
pub arrived : (pick : List (List ℕ × Want) → Option (List ℕ)) (all : List Node) (place : List ℕ) (here : ℕ) → IsOnTheWay pick all place here → ((names : List (List ℕ)) → pick (open_in (shown_at names all here)) ≡ Some []) → (names : List (List ℕ)) → pick (open_in (shown_at names all 0)) ≡ Some place
arrived pick all place here way own names = way.leads names [] (own names) ∙ ap Some (append-nil place)

-- as it is of a node that goes on and is no Split
pub own_alone : (pick : List (List ℕ × Want) → Option (List ℕ)) → ((want : Want) → pick (own_place (Some want)) ≡ Some []) → (all : List Node) → IsTable all → (here : ℕ) (node : Node) → slice_get all here ≡ Some node
    → ((visit : Visit) (children : Children) → node ≡ nodes.Split visit children → ⊥) → node_ended node ≡ false → (names : List (List ℕ)) → pick (open_in (shown_at names all here)) ≡ Some []
own_alone pick one all table here (nodes.Ready visit) e none runs names = ap (λ a. pick (open_in a)) (shown_here names all table here (nodes.Ready visit) e) ∙ one WantsMove
own_alone pick one all table here (nodes.Waiting visit payload) e none runs names = ap (λ a. pick (open_in a)) (shown_here names all table here (nodes.Waiting visit payload) e) ∙ one WantsAnswer
own_alone pick one all table here (nodes.Split visit children) e none runs names = absurd (none visit children refl)
own_alone pick one all table here (nodes.Ended (outcomes.Output t)) e none runs names = absurd (cc)
own_alone pick one all table here (nodes.Ended (outcomes.Failed error cause)) e none runs names = absurd (cc)
