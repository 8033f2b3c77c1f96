-- How far the children of a node are, by what is noted of them and by what is shown of them.
use Rattle.std.proofs.Common.{◌≡◌, ◌<◌, ◌≤◌, ◌⊎◌, inl, inr, refl, sym, ap, ◌∙◌, arith, ℕ, zero, suc, ◌+◌, Bool, true, false, ◌||◌, nat_lt, nat_le, List, [], ◌∷◌, length, slice_get, Some}
use Rattle.std.proofs.lemmas.Bool.{leb-true, leb-false, ltb-true, ltb-false}
use Rattle.asl_model.specs.Run.{Activity, Activities, Ready, Waiting, Split, Done, Failed, Joining, AllDone, OneFailed, StillRunning, joining, child_before}
use Rattle.asl_model.proofs.RunOptions.{some_inj, none_some}
use Rattle.asl_run.specs.Changing.{node_ended}
use Rattle.asl_run.specs.Counting.{IsFar, is_joinable_so, node_failed}
use Rattle.asl_run.specs.Enabling.{has_ended, has_failed, is_joinable}
use Rattle.asl_run.specs.Nodes.{IsTable, in_table, range_of, shown_at, shown_from, shown_over}
use Rattle.asl_run.specs.Standing.{children_of}
use Rattle.asl_run.specs.declared.entries.Outcome.TheVariants as outcomes
use Rattle.asl_run.specs.declared.nodes.Children.{Children}
use Rattle.asl_run.specs.declared.nodes.Node.{Node}
use Rattle.asl_run.specs.declared.nodes.Node.TheVariants as nodes
use Rattle.asl_run.specs.declared.standing.Progress.{Progress}
use Rattle.asl_run.proofs.Joinable.{decided, some_failed}
use Rattle.asl_run.proofs.Parts.{in_part, past_part, there}
use Rattle.asl_run.proofs.Tables.{shown_there, some_shown}

-- ---- one node

-- whether it has ended, and whether with an error, doesn't hang on its children
pub ended_over : (names : List (List ℕ)) (below : Activities) (node : Node) → has_ended (shown_over names below node) ≡ node_ended node
ended_over names below (nodes.Ready visit) = refl
ended_over names below (nodes.Waiting visit payload) = refl
ended_over names below (nodes.Split visit children) = refl
ended_over names below (nodes.Ended (outcomes.Output t)) = refl
ended_over names below (nodes.Ended (outcomes.Failed error cause)) = refl

pub failed_over : (names : List (List ℕ)) (below : Activities) (node : Node) → has_failed (shown_over names below node) ≡ node_failed node
failed_over names below (nodes.Ready visit) = refl
failed_over names below (nodes.Waiting visit payload) = refl
failed_over names below (nodes.Split visit children) = refl
failed_over names below (nodes.Ended (outcomes.Output t)) = refl
failed_over names below (nodes.Ended (outcomes.Failed error cause)) = refl

-- what is shown of a node
pub record IsOf (node : Node) (shown : Activity) : Type 0 where
  pub ended : has_ended shown ≡ node_ended node
  pub failed : has_failed shown ≡ node_failed node

pub is_of : (names : List (List ℕ)) (all : List Node) → IsTable all → (i : ℕ) (node : Node) (shown : Activity) → slice_get all i ≡ Some node → slice_get (shown_from names 0 all) i ≡ Some shown → IsOf node shown
is_of names all table i node shown e f =
    let below = children_of (in_table (range_of node) (shown_from names 0 all)) in
    let is : shown ≡ shown_over names below node = some_inj (sym f ∙ shown_there names all table i node e) in
    record { ended = ap has_ended is ∙ ended_over names below node; failed = ap has_failed is ∙ failed_over names below node }

-- what is shown of a child, and the node that it is shown of
pub record IsOfChild (all : List Node) (children : Children) (k : ℕ) (shown : Activity) : Type 0 where
  pub less : k < children.count
  pub node : Node
  pub stands : slice_get all (children.first.0 + k) ≡ Some node
  pub of : IsOf node shown

pub is_of_child : (names : List (List ℕ)) (all : List Node) → IsTable all → (children : Children) → children.first.0 + children.count ≤ length all → (k : ℕ) (shown : Activity) → slice_get (in_table (Some children) (shown_from names 0 all)) k ≡ Some shown → IsOfChild all children k shown
is_of_child names all table children within k shown e = by_less (nat_lt k children.count) refl
  where
    by_less : (b : Bool) → nat_lt k children.count ≡ b → IsOfChild all children k shown
    by_less true f =
        let less = ltb-true k children.count f in
        let found = there all (children.first.0 + k) (omega (arith, less, within)) in
        record { less = less; node = found.0; stands = found.1; of = is_of names all table (children.first.0 + k) found.0 shown found.1 (sym (in_part children (shown_from names 0 all) k less) ∙ e) }
    by_less false f = none_some (sym (past_part children (shown_from names 0 all) k (ltb-false k children.count f)) ∙ e)

-- each child is shown
pub child_there : (names : List (List ℕ)) (all : List Node) → IsTable all → (children : Children) → children.first.0 + children.count ≤ length all → (k : ℕ) → k < children.count → slice_get (in_table (Some children) (shown_from names 0 all)) k ≡ Some (shown_at names all (children.first.0 + k))
child_there names all table children within k less = in_part children (shown_from names 0 all) k less ∙ some_shown names all table (children.first.0 + k) (omega (arith, less, within))

-- ---- children in their order

-- how far they are, by the first one and by those behind it
failed_before : (i : ℕ) (child : Activity) (others : Joining) → some_failed (child_before i child others) ≡ (has_failed child || some_failed others)
failed_before i (Ready n raw counts) (AllDone outputs) = refl
failed_before i (Ready n raw counts) (OneFailed k error cause) = refl
failed_before i (Ready n raw counts) StillRunning = refl
failed_before i (Waiting n raw counts payload) (AllDone outputs) = refl
failed_before i (Waiting n raw counts payload) (OneFailed k error cause) = refl
failed_before i (Waiting n raw counts payload) StillRunning = refl
failed_before i (Split n raw counts children) (AllDone outputs) = refl
failed_before i (Split n raw counts children) (OneFailed k error cause) = refl
failed_before i (Split n raw counts children) StillRunning = refl
failed_before i (Done output) (AllDone outputs) = refl
failed_before i (Done output) (OneFailed k error cause) = refl
failed_before i (Done output) StillRunning = refl
failed_before i (Failed error cause) others = refl

joinable_before : (i : ℕ) (child : Activity) (others : Joining) → is_joinable (child_before i child others) ≡ (has_failed child || decided (has_ended child) others)
joinable_before i (Ready n raw counts) (AllDone outputs) = refl
joinable_before i (Ready n raw counts) (OneFailed k error cause) = refl
joinable_before i (Ready n raw counts) StillRunning = refl
joinable_before i (Waiting n raw counts payload) (AllDone outputs) = refl
joinable_before i (Waiting n raw counts payload) (OneFailed k error cause) = refl
joinable_before i (Waiting n raw counts payload) StillRunning = refl
joinable_before i (Split n raw counts children) (AllDone outputs) = refl
joinable_before i (Split n raw counts children) (OneFailed k error cause) = refl
joinable_before i (Split n raw counts children) StillRunning = refl
joinable_before i (Done output) (AllDone outputs) = refl
joinable_before i (Done output) (OneFailed k error cause) = refl
joinable_before i (Done output) StillRunning = refl
joinable_before i (Failed error cause) others = refl

pub or_true : (b : Bool) → (b || true) ≡ true
or_true true = refl
or_true false = refl

-- where one has failed
some_joins : (others : Joining) → some_failed others ≡ true → is_joinable others ≡ true
some_joins (AllDone outputs) h = refl
some_joins (OneFailed k error cause) h = refl
some_joins StillRunning h = absurd (cc)

some_failed_among : (xs : List Activity) (i k : ℕ) (a : Activity) → slice_get xs k ≡ Some a → has_failed a ≡ true → some_failed (joining i (children_of xs)) ≡ true
some_failed_among [] i k a e h = none_some e
some_failed_among (x ∷ xs) i zero a e h =
    let others = joining (suc i) (children_of xs) in
    failed_before i x others ∙ ap (λ b. b || some_failed others) (ap has_failed (some_inj e) ∙ h)
some_failed_among (x ∷ xs) i (suc k) a e h =
    let others = joining (suc i) (children_of xs) in
    failed_before i x others ∙ ap (λ b. has_failed x || b) (some_failed_among xs (suc i) k a e h) ∙ or_true (has_failed x)

-- where all have ended
all_join : (xs : List Activity) (i : ℕ) → ((k : ℕ) (a : Activity) → slice_get xs k ≡ Some a → has_ended a ≡ true) → is_joinable (joining i (children_of xs)) ≡ true
all_join [] i h = refl
all_join (x ∷ xs) i h =
    let others = joining (suc i) (children_of xs) in
    joinable_before i x others ∙ ap (λ b. has_failed x || decided b others) (h 0 x refl) ∙ ap (λ b. has_failed x || b) (all_join xs (suc i) (λ k a e. h (suc k) a e)) ∙ or_true (has_failed x)

-- where none has failed, and one goes on
none_decide : (ended : Bool) (others : Joining) → is_joinable others ≡ false → decided ended others ≡ false
none_decide ended (AllDone outputs) h = absurd (cc)
none_decide ended (OneFailed k error cause) h = absurd (cc)
none_decide true StillRunning h = refl
none_decide false StillRunning h = refl

none_failed_among : (xs : List Activity) (i : ℕ) → ((k : ℕ) (a : Activity) → slice_get xs k ≡ Some a → has_failed a ≡ false) → some_failed (joining i (children_of xs)) ≡ false
none_failed_among [] i h = refl
none_failed_among (x ∷ xs) i h =
    let others = joining (suc i) (children_of xs) in
    failed_before i x others ∙ ap (λ b. b || some_failed others) (h 0 x refl) ∙ none_failed_among xs (suc i) (λ k a e. h (suc k) a e)

one_runs : (xs : List Activity) (i k : ℕ) (a : Activity) → ((n : ℕ) (b : Activity) → slice_get xs n ≡ Some b → has_failed b ≡ false) → slice_get xs k ≡ Some a → has_ended a ≡ false → is_joinable (joining i (children_of xs)) ≡ false
one_runs [] i k a none e h = none_some e
one_runs (x ∷ xs) i zero a none e h =
    let others = joining (suc i) (children_of xs) in
    joinable_before i x others ∙ ap (λ b. b || decided (has_ended x) others) (none 0 x refl) ∙ ap (λ b. decided b others) (ap has_ended (some_inj e) ∙ h) ∙ none_failed_among xs (suc i) (λ n b f. none (suc n) b f)
one_runs (x ∷ xs) i (suc k) a none e h =
    let others = joining (suc i) (children_of xs) in
    joinable_before i x others ∙ ap (λ b. b || decided (has_ended x) others) (none 0 x refl) ∙ none_decide (has_ended x) others (one_runs xs (suc i) k a (λ n b f. none (suc n) b f) e h)

-- ---- what is noted of the children

-- a child outside of those that go on has ended
pub outside_ended : (names : List (List ℕ)) (all : List Node) → IsTable all → (children : Children) → children.first.0 + children.count ≤ length all → (far : Progress) → IsFar all children far → (k : ℕ) (shown : Activity) → (k < far.first) ⊎ (far.behind_last ≤ k)
    → slice_get (in_table (Some children) (shown_from names 0 all)) k ≡ Some shown → has_ended shown ≡ true
outside_ended names all table children within far noted k shown outside e =
    let child = is_of_child names all table children within k shown e in
    child.of.ended ∙ noted.outside k child.node child.less outside child.stands

-- where there are none that go on, each stands outside
pub on_a_side : (first behind k : ℕ) → behind ≤ first → (k < first) ⊎ (behind ≤ k)
on_a_side first behind k none = by (nat_lt k first) refl
  where
    by : (b : Bool) → nat_lt k first ≡ b → (k < first) ⊎ (behind ≤ k)
    by true e = inl (ltb-true k first e)
    by false e = let past = ltb-false k first e in inr (omega (arith, past, none))

-- the children are far enough where that is noted of them
pub far_enough : (names : List (List ℕ)) (all : List Node) → IsTable all → (children : Children) → children.first.0 + children.count ≤ length all → (far : Progress) → IsFar all children far
    → is_joinable (joining 0 (children_of (in_table (Some children) (shown_from names 0 all)))) ≡ is_joinable_so far
far_enough names all table children within far noted = by_failed far.failed refl
  where
    xs : List Activity
    xs = in_table (Some children) (shown_from names 0 all)

    of : (k : ℕ) (shown : Activity) → slice_get xs k ≡ Some shown → IsOfChild all children k shown
    of k shown e = is_of_child names all table children within k shown e

    some : far.failed ≡ true → is_joinable (joining 0 (children_of xs)) ≡ true
    some e =
        let one = noted.some_failed e in
        let shown = child_there names all table children within one.number one.less in
        let child = of one.number (shown_at names all (children.first.0 + one.number)) shown in
        let same : child.node ≡ one.node = some_inj (sym child.stands ∙ one.there) in
        some_joins (joining 0 (children_of xs)) (some_failed_among xs 0 one.number (shown_at names all (children.first.0 + one.number)) shown (child.of.failed ∙ ap node_failed same ∙ one.failed))

    by_ended : far.failed ≡ false → (b : Bool) → nat_le far.behind_last far.first ≡ b → is_joinable (joining 0 (children_of xs)) ≡ b
    by_ended none true e =
        all_join xs 0 (λ k shown f. outside_ended names all table children within far noted k shown (on_a_side far.first far.behind_last k (leb-true far.behind_last far.first e)) f)
    by_ended none false e =
        let less = leb-false far.behind_last far.first e in
        let inside = noted.inside in
        let shown = child_there names all table children within far.first (omega (arith, less, inside)) in
        let child = of far.first (shown_at names all (children.first.0 + far.first)) shown in
        one_runs xs 0 far.first (shown_at names all (children.first.0 + far.first))
        (λ n b f. let other = of n b f in other.of.failed ∙ noted.none_failed none n other.node other.less other.stands)
        shown (child.of.ended ∙ noted.first_runs child.node less child.stands)

    by_failed : (b : Bool) → far.failed ≡ b → is_joinable (joining 0 (children_of xs)) ≡ (b || nat_le far.behind_last far.first)
    by_failed true e = some e
    by_failed false e = by_ended e (nat_le far.behind_last far.first) refl
