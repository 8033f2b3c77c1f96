-- The places that want an event, added to a list.
use Rattle.std.proofs.Common.{Vec, Global, ◌≡◌, ℕ, zero, suc, ◌+◌, ◌-◌, ◌<◌, ◌≤◌, List, [], ◌∷◌, ◌++◌, length, drop, take, map, slice_get, Option, Some, None, Result, Ok, Err, IfOk, refl, sym, ap, ◌∙◌, subst, arith}
use Rattle.std.proofs.lemmas.List.{map-append, length-append}
use Rattle.asl_model.specs.Run as model
use Rattle.asl_model.specs.Run.{Want}
use Rattle.asl_model.proofs.RunOptions.{some_inj, none_some}
use Rattle.asl_run.specs.Enabling.{found_view, Adds, AddsOwn, AddsPlaces, AddsPlacesBelow, open_in, open_below, own_place, wanted_by}
use Rattle.asl_run.specs.Entries.{want_view}
use Rattle.asl_run.specs.Nodes.{AreHeads, IsTable, in_table, range_of, shown_at, shown_from, shown_over}
use Rattle.asl_run.specs.Standing.{children_of}
use Rattle.asl_processing.specs.declared.activities.Visit.{Visit}
use Rattle.asl_run.specs.declared.entries.Outcome.TheVariants as outcomes
use Rattle.asl_run.specs.declared.entries.Want as code
use Rattle.asl_run.specs.declared.nodes.Children.{Children}
use Rattle.asl_run.specs.declared.nodes.Node.{Node}
use Rattle.asl_run.specs.declared.nodes.Node.TheVariants.{Ready, Waiting, Split, Ended}
use Rattle.asl_run.proofs.OpenPlaces.{adds_none, adds_own, adds_then, adds_of_child}
use Rattle.asl_run.proofs.Parts.{in_part}
use Rattle.asl_run.proofs.Tables.{heads_below, shown_here, some_shown}

-- ---- the node's own place

-- it wants no event
pub own_none : (node : Node) (children : List Node) (place : List ℕ) (found : List (List ℕ × Want)) → ((names : List (List ℕ)) (below : List model.Activity) → AreHeads names children below → None ≡ wanted_by (shown_over names (children_of below) node)) → AddsOwn node children place found found
own_none node children place found none = record { adds = λ names below heads. subst (λ (w : Option Want). Adds place (own_place w) found found) (none names below heads) (adds_none place found) }

-- it wants one
pub own_some : (node : Node) (children : List Node) (place : List ℕ) (want : Want) (before after : List (List ℕ × Want)) → ((names : List (List ℕ)) (below : List model.Activity) → AreHeads names children below → Some want ≡ wanted_by (shown_over names (children_of below) node)) → after ≡ before ++ (place, want) ∷ [] → AddsOwn node children place before after
own_some node children place want before after wants e = record {
  adds = λ names below heads. subst (λ (w : Option Want). Adds place (own_place w) before after) (wants names below heads) (subst (Adds place (own_place (Some want)) before) (sym e) (adds_own place want before));
}

-- one more place is found
pub one_found : (before after : List (Vec ℕ Global × code.Want)) (own : Vec ℕ Global) (want : code.Want) (place : List ℕ) → after ≡ before ++ (own, want) ∷ [] → own.items ≡ place → map found_view after ≡ map found_view before ++ (place, want_view want) ∷ []
one_found before after own want place e same = ap (map found_view) e ∙ map-append found_view before ((own, want) ∷ []) ∙ ap (λ (p : List ℕ). map found_view before ++ (p, want_view want) ∷ []) same

-- ---- those of its children

-- the element of that number, in front of those behind it
pub drop_here : {A : Type 0} (xs : List A) (i : ℕ) (x : A) → slice_get xs i ≡ Some x → drop i xs ≡ x ∷ drop (suc i) xs
drop_here [] i x e = none_some e
drop_here (y ∷ xs) zero x e = ap (λ z. z ∷ xs) (some_inj e)
drop_here (y ∷ xs) (suc i) x e = drop_here xs i x e

pub drop_past : {A : Type 0} (i n : ℕ) (xs : List A) → n ≤ i → drop i (take n xs) ≡ []
drop_past zero zero xs h = refl
drop_past (suc i) zero xs h = refl
drop_past zero (suc n) xs h = absurd (omega arith)
drop_past (suc i) (suc n) [] h = refl
drop_past (suc i) (suc n) (x ∷ xs) h = drop_past i n xs (omega arith)

-- those of the children before number i are added
pub record AreAdded (nodes : List Node) (children : Children) (place : List ℕ) (before : List (List ℕ × Want)) (i : ℕ) (now : List (List ℕ × Want)) : Type 0 where
  pub goes_on : (names : List (List ℕ)) (after : List (List ℕ × Want)) → Adds place (open_below (children_of (drop i (in_table (Some children) (shown_from names 0 nodes)))) i) now after
      → Adds place (open_below (children_of (in_table (Some children) (shown_from names 0 nodes))) 0) before after

-- those of one more child
pub one_added : (nodes : List Node) → IsTable nodes → (children : Children) (i c : ℕ) (place below : List ℕ) (before now more : List (List ℕ × Want)) → children.first.0 + children.count ≤ length nodes → i < children.count → c ≡ children.first.0 + i → below ≡ place ++ i ∷ []
    → AddsPlaces nodes c below now more → AreAdded nodes children place before i now → AreAdded nodes children place before (i + 1) more
one_added nodes table children i c place below before now more within less is under added h = record {
  goes_on = λ names after rest.
      let all = in_table (Some children) (shown_from names 0 nodes) in
      let here = shown_at names nodes c in
      let lower : c < length nodes = omega (arith, within, less, is) in
      let found : slice_get all i ≡ Some here = in_part children (shown_from names 0 nodes) i less ∙ ap (slice_get (shown_from names 0 nodes)) (sym is) ∙ some_shown names nodes table c lower in
      let behind = children_of (drop (suc i) all) in
      let next : i + 1 ≡ suc i = omega arith in
      let inside : Adds (place ++ i ∷ []) (open_in here) now more = subst (λ p. Adds p (open_in here) now more) under (added.adds names) in
      let others : Adds place (open_below behind (suc i)) more after = subst (λ k. Adds place (open_below (children_of (drop k all)) k) more after) next rest in
      let whole : Adds place (open_below (model.AndActivity here behind) i) now after = adds_then (adds_of_child i inside) others in
      h.goes_on names after (subst (λ xs. Adds place (open_below (children_of xs) i) now after) (sym (drop_here all i here found)) whole);
}

-- those of all children
pub all_added : (nodes : List Node) (children : Children) (i : ℕ) (place : List ℕ) (before now : List (List ℕ × Want)) → children.count ≤ i → AreAdded nodes children place before i now → AddsPlacesBelow nodes children place before now
all_added nodes children i place before now end h = record {
  adds = λ names. h.goes_on names now (subst (λ xs. Adds place (open_below (children_of xs) i) now now) (sym (drop_past i children.count (drop children.first.0 (shown_from names 0 nodes)) end)) (adds_none place now));
}

-- before the first
pub none_added : (nodes : List Node) (children : Children) (place : List ℕ) (before : List (List ℕ × Want)) → AreAdded nodes children place before 0 before
none_added nodes children place before = record { goes_on = λ names after h. h }

-- the number of a child is taken off its place
pub taken_off : (place below left : List ℕ) (i n : ℕ) → below ≡ place ++ i ∷ [] → n ≡ length below → left ≡ take (n - 1) below → left ≡ place
taken_off place below left i n is count e = e ∙ rw (count, is) (go place (length (place ++ i ∷ []) - 1) (omega (arith, length-append place (i ∷ []))))
  where
    take_front : (xs : List ℕ) → take (length xs) (xs ++ i ∷ []) ≡ xs
    take_front [] = refl
    take_front (x ∷ xs) = ap (λ l. x ∷ l) (take_front xs)

    go : (xs : List ℕ) (k : ℕ) → k ≡ length xs → take k (xs ++ i ∷ []) ≡ xs
    go xs k same = rw same (take_front xs)

-- ---- all of them

pub own_open : (names : List (List ℕ)) (below : model.Activities) (node : Node) → range_of node ≡ None → own_place (wanted_by (shown_over names below node)) ≡ open_in (shown_over names below node)
own_open names below (Ready visit) e = refl
own_open names below (Waiting visit payload) e = refl
own_open names below (Split visit children) e = none_some (sym e)
own_open names below (Ended (outcomes.Output t)) e = refl
own_open names below (Ended (outcomes.Failed error cause)) e = refl

-- those of a node without children
pub alone_added : (nodes : List Node) → IsTable nodes → (i : ℕ) (node : Node) (children : List Node) (place : List ℕ) (before after : List (List ℕ × Want)) → slice_get nodes i ≡ Some node → range_of node ≡ None → children ≡ in_table (range_of node) nodes
    → AddsOwn node children place before after → AddsPlaces nodes i place before after
alone_added nodes table i node children place before after there alone are own = record {
  adds = λ names.
      let below = in_table (range_of node) (shown_from names 0 nodes) in
      let heads = subst (λ cs. AreHeads names cs below) (sym are) (heads_below names (range_of node) nodes) in
      subst (λ a. Adds place (open_in a) before after) (sym (shown_here names nodes table i node there))
      (subst (λ (l : List (List ℕ × Want)). Adds place l before after) (own_open names (children_of below) node alone) (own.adds names below heads));
}

-- those of a Split
pub split_added : (nodes : List Node) → IsTable nodes → (i : ℕ) (node : Node) (visit : Visit) (range : Children) (children : List Node) (place : List ℕ) (before between after : List (List ℕ × Want)) → slice_get nodes i ≡ Some node → node ≡ Split visit range → children ≡ in_table (range_of node) nodes
    → AddsOwn node children place before between → AddsPlacesBelow nodes range place between after → AddsPlaces nodes i place before after
split_added nodes table i node visit range children place before between after there is are own further = record {
  adds = λ names.
      let below = in_table (Some range) (shown_from names 0 nodes) in
      let same : in_table (range_of node) nodes ≡ in_table (Some range) nodes = ap (λ n. in_table (range_of n) nodes) is in
      let heads = subst (λ cs. AreHeads names cs below) (sym (are ∙ same)) (heads_below names (Some range) nodes) in
      let split = Split visit range in
      let first = subst (λ n. Adds place (own_place (wanted_by (shown_over names (children_of below) n))) before between) is (own.adds names below heads) in
      subst (λ a. Adds place (open_in a) before after) (sym (shown_here names nodes table i split (there ∙ ap Some is)))
      (adds_then first (further.adds names));
}

-- what holds where a call gives its value leads to what is to hold there
pub where_ok : {A E P Q : Type 0} (r : Result A E) → (P → Q) → IfOk r (λ _. P) → IfOk r (λ _. Q)
where_ok (Ok a) go h = go h
where_ok (Err e) go h = tt
