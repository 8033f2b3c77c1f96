-- The last place of a run that wants an event.
use Rattle.std.proofs.Common.{◌≡◌, ◌<◌, ◌≤◌, inr, refl, sym, ap, ◌∙◌, arith, ℕ, zero, suc, ◌+◌, true, ◌||◌, List, [], ◌∷◌, ◌++◌, map, length, slice_get, Option, Some, None, option_map}
use Rattle.std.specs.Option.{unwrap_or}
use Rattle.std.proofs.lemmas.Bool.{le-leb}
use Rattle.asl_model.specs.Run.{Activity, Want, joining, down_from}
use Rattle.asl_model.proofs.RunOptions.{some_inj, none_some}
use Rattle.asl_run.specs.Counting.{IsOpenAt, is_joinable_so, open_count}
use Rattle.asl_run.specs.Enabling.{has_ended, open_below, open_in, own_place, wanted_by_join}
use Rattle.asl_run.specs.Nodes.{IsTable, in_table, shown_at, shown_from}
use Rattle.asl_run.specs.Standing.{children_of}
use Rattle.asl_processing.specs.declared.activities.Visit.{Visit}
use Rattle.asl_run.specs.declared.nodes.Children.{Children}
use Rattle.asl_run.specs.declared.nodes.Node.{Node}
use Rattle.asl_run.specs.declared.nodes.Node.TheVariants.{Split}
use Rattle.asl_run.specs.declared.standing.Progress.{Progress}
use Rattle.asl_run.proofs.FarEnough.{child_there, far_enough, on_a_side, or_true, outside_ended}
use Rattle.asl_run.proofs.OnTheWay.{IsNoted, IsOnTheWay, arrived, further_down, none_open_below, own_alone, own_wanted}
use Rattle.asl_run.proofs.Tables.{shown_here}

-- the place of the last of a list
abbrev pub last_in : List (List ℕ × Want) → Option (List ℕ)
last_in [] = None
last_in (wanted ∷ others) = Some (unwrap_or (last_in others) wanted.0)

-- by its number
last_by_number : (wanted : List (List ℕ × Want)) (last : ℕ) → last + 1 ≡ length wanted → option_map (λ w. w.0) (slice_get wanted last) ≡ last_in wanted
last_by_number [] last e = absurd (omega arith)
last_by_number (w ∷ []) zero e = refl
last_by_number (w ∷ []) (suc last) e = absurd (omega arith)
last_by_number (w ∷ v ∷ wanted) zero e = absurd (omega arith)
last_by_number (w ∷ v ∷ wanted) (suc last) e = last_by_number (v ∷ wanted) last (omega arith)

-- it is that of those behind, where there are some
last_behind : (wanted others : List (List ℕ × Want)) (p : List ℕ) → last_in others ≡ Some p → last_in (wanted ++ others) ≡ Some p
last_behind [] others p h = h
last_behind (w ∷ wanted) others p h = ap (λ o. Some (unwrap_or o w.0)) (last_behind wanted others p h)

-- else that of those in front
last_in_front : (wanted others : List (List ℕ × Want)) → others ≡ [] → last_in (wanted ++ others) ≡ last_in wanted
last_in_front [] others none = ap last_in none
last_in_front (w ∷ wanted) others none = ap (λ o. Some (unwrap_or o w.0)) (last_in_front wanted others none)

-- seen from one level higher
last_of_child : (i : ℕ) (wanted : List (List ℕ × Want)) → last_in (map (down_from i) wanted) ≡ option_map (λ p. i ∷ p) (last_in wanted)
last_of_child i [] = refl
last_of_child i (w ∷ wanted) = ap (λ o. Some (unwrap_or o (i ∷ w.0))) (last_of_child i wanted) ∙ lifted (last_in wanted)
  where
    lifted : (o : Option (List ℕ)) → Some (unwrap_or (option_map (λ p. i ∷ p) o) (i ∷ w.0)) ≡ Some (i ∷ unwrap_or o w.0)
    lifted None = refl
    lifted (Some p) = refl

-- the last one of a child is the last of all where those behind it have none
last_below : (xs : List Activity) (i k : ℕ) (a : Activity) (rest : List ℕ) → ((n : ℕ) (b : Activity) → k < n → slice_get xs n ≡ Some b → has_ended b ≡ true) → slice_get xs k ≡ Some a → last_in (open_in a) ≡ Some rest → last_in (open_below (children_of xs) i) ≡ Some ((i + k) ∷ rest)
last_below [] i k a rest behind e h = none_some e
last_below (x ∷ xs) i zero a rest behind e h =
    let here : i ≡ i + 0 = omega arith in
    last_in_front (map (down_from i) (open_in x)) (open_below (children_of xs) (suc i)) (none_open_below xs (suc i) (λ n b f. behind (suc n) b (omega arith) f))
    ∙ last_of_child i (open_in x) ∙ ap (option_map (λ p. i ∷ p)) (ap (λ b. last_in (open_in b)) (some_inj e) ∙ h) ∙ ap (λ j. Some (j ∷ rest)) here
last_below (x ∷ xs) i (suc k) a rest behind e h =
    let here : suc i + k ≡ i + suc k = omega arith in
    last_behind (map (down_from i) (open_in x)) (open_below (children_of xs) (suc i)) ((suc i + k) ∷ rest) (last_below xs (suc i) k a rest (λ n b less f. behind (suc n) b (omega (arith, less)) f) e h) ∙ ap (λ j. Some (j ∷ rest)) here

-- the child to go on with stands behind its parent, in the table
pub last_child_stands : (all : List Node) (here : ℕ) (children : Children) (far : Progress) (last : ℕ) → IsNoted all here children far → suc last ≡ far.behind_last → (here < children.first.0 + last) × (children.first.0 + last < length all)
last_child_stands all here children far last noted is = (omega (arith, noted.behind), omega (arith, noted.within, noted.far.inside, is))

-- the way goes on with it
pub last_down : (all : List Node) (here : ℕ) (children : Children) (far : Progress) (last : ℕ) → IsNoted all here children far → suc last ≡ far.behind_last → far.first ≤ last
    → (place : List ℕ) → IsOnTheWay last_in all place here → IsOnTheWay last_in all (place ++ last ∷ []) (children.first.0 + last)
last_down all here children far last noted is lower place way =
    let inside = noted.far.inside in
    let child = children.first.0 + last in
    further_down last_in all place here child last way (last_child_stands all here children far last noted is).1 (λ node f. noted.far.last_runs last node is lower f)
    (λ names rest f.
    let xs = in_table (Some children) (shown_from names 0 all) in
    let from_none : 0 + last ≡ last = omega arith in
    ap (λ a. last_in (open_in a)) (shown_here names all noted.table here (Split noted.visit children) noted.stands)
    ∙ last_behind (own_place (wanted_by_join (joining 0 (children_of xs)))) (open_below (children_of xs) 0) (last ∷ rest)
    (last_below xs 0 last (shown_at names all child) rest (λ n b higher g. outside_ended names all noted.table children noted.within far noted.far n b (inr (omega (arith, is, higher))) g) (child_there names all noted.table children noted.within last (omega (arith, is, inside))) f
    ∙ ap (λ j. Some (j ∷ rest)) from_none))

-- its number is one less than how many there are, whatever the states are called
last_of_all : (all : List Node) (counted : ℕ) (place : List ℕ) → ((names : List (List ℕ)) → counted ≡ open_count (shown_at names all 0)) → ((names : List (List ℕ)) → last_in (open_in (shown_at names all 0)) ≡ Some place)
    → (names : List (List ℕ)) (last : ℕ) → last + 1 ≡ open_count (shown_at names all 0) → IsOpenAt all last place
last_of_all all counted place same is names last many = record { at = λ others. last_by_number (open_in (shown_at others all 0)) last (many ∙ sym (same names) ∙ same others) ∙ is others }

-- it ends at a Split of which all children have ended
pub last_at_split : (all : List Node) (counted here : ℕ) (children : Children) (far : Progress) → ((names : List (List ℕ)) → counted ≡ open_count (shown_at names all 0)) → IsNoted all here children far → far.behind_last ≤ far.first → (place : List ℕ) → IsOnTheWay last_in all place here
    → (names : List (List ℕ)) (last : ℕ) → last + 1 ≡ open_count (shown_at names all 0) → IsOpenAt all last place
last_at_split all counted here children far same noted none place way =
    last_of_all all counted place same
    (arrived last_in all place here way
    (λ names.
    let xs = in_table (Some children) (shown_from names 0 all) in
    let enough : is_joinable_so far ≡ true = ap (λ b. far.failed || b) (le-leb far.behind_last far.first none) ∙ or_true far.failed in
    ap (λ a. last_in (open_in a)) (shown_here names all noted.table here (Split noted.visit children) noted.stands)
    ∙ last_in_front (own_place (wanted_by_join (joining 0 (children_of xs)))) (open_below (children_of xs) 0)
    (none_open_below xs 0 (λ k shown e. outside_ended names all noted.table children noted.within far noted.far k shown (on_a_side far.first far.behind_last k none) e))
    ∙ ap last_in (own_wanted (joining 0 (children_of xs)) (far_enough names all noted.table children noted.within far noted.far ∙ enough))))

-- and at a node that is no Split
pub last_alone : (all : List Node) → IsTable all → (counted here : ℕ) (node : Node) → ((names : List (List ℕ)) → counted ≡ open_count (shown_at names all 0)) → slice_get all here ≡ Some node → ((visit : Visit) (children : Children) → node ≡ Split visit children → ⊥) → (place : List ℕ) → IsOnTheWay last_in all place here
    → (names : List (List ℕ)) (last : ℕ) → last + 1 ≡ open_count (shown_at names all 0) → IsOpenAt all last place
last_alone all table counted here node same e none place way = last_of_all all counted place same (arrived last_in all place here way (own_alone last_in (λ want. refl) all table here node e none (way.runs node e)))
