-- The first place of a run that wants an event.
use Rattle.std.proofs.Common.{◌≡◌, ◌<◌, inl, refl, ap, ◌∙◌, arith, ℕ, zero, suc, ◌+◌, Bool, true, false, ◌||◌, nat_le, List, [], ◌∷◌, ◌++◌, map, length, slice_get, Option, Some, option_map}
use Rattle.std.proofs.lemmas.Bool.{leb-false}
use Rattle.asl_model.specs.Run.{Activity, Want, joining, down_from}
use Rattle.asl_model.proofs.RunOptions.{some_inj, none_some}
use Rattle.asl_run.specs.Counting.{IsOpenAt, is_joinable_so}
use Rattle.asl_run.specs.Enabling.{has_ended, open_below, open_in}
use Rattle.asl_run.specs.Nodes.{IsTable, in_table, shown_at, shown_from}
use Rattle.asl_run.specs.Standing.{children_of}
use Rattle.asl_processing.specs.declared.activities.Visit.{Visit}
use Rattle.asl_run.specs.declared.nodes.Children.{Children}
use Rattle.asl_run.specs.declared.nodes.Node.{Node}
use Rattle.asl_run.specs.declared.nodes.Node.TheVariants.{Split}
use Rattle.asl_run.specs.declared.standing.Progress.{Progress}
use Rattle.asl_run.proofs.FarEnough.{child_there, far_enough, outside_ended}
use Rattle.asl_run.proofs.OnTheWay.{IsNoted, IsOnTheWay, arrived, further_down, none_open, own_alone, own_unwanted, own_wanted}
use Rattle.asl_run.proofs.Tables.{shown_here}

-- the place of the first of a list
abbrev pub first_in : List (List ℕ × Want) → Option (List ℕ)
first_in wanted = option_map (λ w. w.0) (slice_get wanted 0)

-- the first one of a child is the first of all where those before it have none
first_of_child : (i : ℕ) (wanted others : List (List ℕ × Want)) (rest : List ℕ) → first_in wanted ≡ Some rest → first_in (map (down_from i) wanted ++ others) ≡ Some (i ∷ rest)
first_of_child i [] others rest e = none_some e
first_of_child i (w ∷ wanted) others rest e = ap (λ p. Some (i ∷ p)) (some_inj e)

first_below : (xs : List Activity) (i k : ℕ) (a : Activity) (rest : List ℕ) → ((n : ℕ) (b : Activity) → n < k → slice_get xs n ≡ Some b → has_ended b ≡ true) → slice_get xs k ≡ Some a → first_in (open_in a) ≡ Some rest → first_in (open_below (children_of xs) i) ≡ Some ((i + k) ∷ rest)
first_below [] i k a rest before e h = none_some e
first_below (x ∷ xs) i zero a rest before e h =
    let here : i ≡ i + 0 = omega arith in
    first_of_child i (open_in x) (open_below (children_of xs) (suc i)) rest (ap (λ b. first_in (open_in b)) (some_inj e) ∙ h) ∙ ap (λ j. Some (j ∷ rest)) here
first_below (x ∷ xs) i (suc k) a rest before e h =
    let here : suc i + k ≡ i + suc k = omega arith in
    ap (λ wanted. first_in (map (down_from i) wanted ++ open_below (children_of xs) (suc i))) (none_open x (before 0 x (omega arith) refl))
    ∙ first_below xs (suc i) k a rest (λ n b less f. before (suc n) b (omega (arith, less)) f) e h ∙ ap (λ j. Some (j ∷ rest)) here

-- some go on where they aren't far enough
some_go_on : (far : Progress) → is_joinable_so far ≡ false → far.first < far.behind_last
some_go_on far h = leb-false far.behind_last far.first (second far.failed h)
  where
    second : (b : Bool) → (b || nat_le far.behind_last far.first) ≡ false → nat_le far.behind_last far.first ≡ false
    second true e = absurd (cc)
    second false e = e

-- the child to go on with stands behind its parent, in the table
pub first_child_stands : (all : List Node) (here : ℕ) (children : Children) (far : Progress) → IsNoted all here children far → is_joinable_so far ≡ false → (here < children.first.0 + far.first) × (children.first.0 + far.first < length all)
first_child_stands all here children far noted not =
    let less = some_go_on far not in
    (omega (arith, noted.behind), omega (arith, noted.within, noted.far.inside, less))

-- the way goes on with it
pub first_down : (all : List Node) (here : ℕ) (children : Children) (far : Progress) → IsNoted all here children far → is_joinable_so far ≡ false → (place : List ℕ) → IsOnTheWay first_in all place here → IsOnTheWay first_in all (place ++ far.first ∷ []) (children.first.0 + far.first)
first_down all here children far noted not place way =
    let less = some_go_on far not in
    let inside = noted.far.inside in
    let child = children.first.0 + far.first in
    further_down first_in all place here child far.first way (first_child_stands all here children far noted not).1 (λ node f. noted.far.first_runs node less f)
    (λ names rest f.
    let xs = in_table (Some children) (shown_from names 0 all) in
    let from_none : 0 + far.first ≡ far.first = omega arith in
    ap (λ a. first_in (open_in a)) (shown_here names all noted.table here (Split noted.visit children) noted.stands)
    ∙ ap (λ own. first_in (own ++ open_below (children_of xs) 0)) (own_unwanted (joining 0 (children_of xs)) (far_enough names all noted.table children noted.within far noted.far ∙ not))
    ∙ first_below xs 0 far.first (shown_at names all child) rest (λ n b lower g. outside_ended names all noted.table children noted.within far noted.far n b (inl lower) g) (child_there names all noted.table children noted.within far.first (omega (arith, less, inside))) f
    ∙ ap (λ j. Some (j ∷ rest)) from_none)

-- it ends at a Split of which the children are far enough
pub first_at_split : (all : List Node) (here : ℕ) (children : Children) (far : Progress) → IsNoted all here children far → is_joinable_so far ≡ true → (place : List ℕ) → IsOnTheWay first_in all place here → IsOpenAt all 0 place
first_at_split all here children far noted enough place way = record {
  at = arrived first_in all place here way
      (λ names.
      let xs = in_table (Some children) (shown_from names 0 all) in
      ap (λ a. first_in (open_in a)) (shown_here names all noted.table here (Split noted.visit children) noted.stands)
      ∙ ap (λ own. first_in (own ++ open_below (children_of xs) 0)) (own_wanted (joining 0 (children_of xs)) (far_enough names all noted.table children noted.within far noted.far ∙ enough)));
}

-- and at a node that is no Split
pub first_alone : (all : List Node) → IsTable all → (here : ℕ) (node : Node) → slice_get all here ≡ Some node → ((visit : Visit) (children : Children) → node ≡ Split visit children → ⊥) → (place : List ℕ) → IsOnTheWay first_in all place here → IsOpenAt all 0 place
first_alone all table here node e none place way = record { at = arrived first_in all place here way (own_alone first_in (λ want. refl) all table here node e none (way.runs node e)) }
