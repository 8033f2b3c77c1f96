-- Writing to a node and adding nodes leaves a table, and what it shows.
use Rattle.std.proofs.Common.{◌≡◌, ◌≢◌, ◌<◌, ◌≤◌, refl, sym, ap, ◌∙◌, subst, arith, ℕ, zero, suc, ◌+◌, ◌-◌, false, nat_lt, if◌then◌else◌, List, [], ◌∷◌, ◌++◌, append_assoc, append-nil, length, take, drop, map, get_or, slice_get, slice_set, Option, Some, None, Result, Ok, Err, IfOk, IfErr, Vec, Global}
use Rattle.std.proofs.lemmas.Bool.{lt-ltb, le-ltb}
use Rattle.std.proofs.lemmas.List.{length-append, take_all}
use Rattle.std.proofs.lemmas.Option.{slice_get_within}
use Rattle.std.specs.declared.rc.Rc.{Rc}
use Rattle.asl_model.specs.Run as model
use Rattle.asl_model.proofs.RunOptions.{some_inj, none_some}
use Rattle.asl_processing.specs.Activities.{ready_view, IsRaised}
use Rattle.asl_run.specs.Changing.{AreAlike, IsAlike, IsApplied, IsWritten, changed, children_in, node_ended, visit_in}
use Rattle.asl_run.specs.Nodes.{IsRange, IsTable, in_range, in_table, range_of, shown_at, shown_from, shown_over}
use Rattle.asl_run.specs.Standing.{children_of, name_in}
use Rattle.asl_processing.specs.declared.activities.Visit.{Visit}
use Rattle.asl_run.specs.declared.changing.Change.{Change}
use Rattle.asl_run.specs.declared.changing.Change.TheVariants.{Enter, End, Ask, SplitInto, Retry}
use Rattle.asl_run.specs.declared.entries.Outcome.{Outcome}
use Rattle.asl_run.specs.declared.nodes.Children.{Children}
use Rattle.asl_run.specs.declared.nodes.Node.{Node}
use Rattle.asl_run.specs.declared.nodes.Node.TheVariants as nodes
use Rattle.asl_tree.specs.View as trees
use Rattle.asl_tree.specs.declared.Tree.{Tree}
use Rattle.asl_run.proofs.Above.{by_levels}
use Rattle.asl_run.proofs.Parts.{there, read_there, get_append, get_behind, get_set_other, get_set_same, length_set}
use Rattle.asl_run.proofs.Tables.{shown_here}

-- ---- numbers

pub by_less : {C : Type 0} (i n : ℕ) → (i < n → C) → (n ≤ i → C) → C
by_less i n less more = by_levels i n (λ e. more (omega (arith, e))) (λ t e. less (omega (arith, e))) (λ t e. more (omega (arith, e)))

pub by_same : {C : Type 0} (i j : ℕ) → (i ≡ j → C) → (i ≢ j → C) → C
by_same i j same other = by_levels i j same (λ t e. other (λ f. absurd (omega (arith, e, f)))) (λ t e. other (λ f. absurd (omega (arith, e, f))))

-- ---- nodes that are alike

-- one node was written that is alike
pub alike_at : (before : List Node) (j : ℕ) (was now : Node) → slice_get before j ≡ Some was → IsAlike was now → AreAlike before (slice_set before j now)
alike_at before j was now e h = record {
  long = length_set before j now;
  each = λ i old new f g. by_same i j
      (λ same. alike old new (some_inj (sym f ∙ ap (slice_get before) same ∙ e)) (some_inj (sym g ∙ ap (slice_get (slice_set before j now)) same ∙ get_set_same before j now (slice_get_within before j was e))))
      (λ other. itself old new (some_inj (sym f ∙ sym (get_set_other before j i now other) ∙ g)));
}
  where
    alike : (old new : Node) → old ≡ was → new ≡ now → IsAlike old new
    alike old new f g = subst (λ o. IsAlike o new) (sym f) (subst (λ n. IsAlike was n) (sym g) h)

    itself : (old new : Node) → old ≡ new → IsAlike old new
    itself old new f = record { range = ap range_of (sym f); shows = λ names below. ap (shown_over names below) (sym f) }

pub shown_alike : (names : List (List ℕ)) (s : ℕ) (before after : List Node) → AreAlike before after → shown_from names s after ≡ shown_from names s before
shown_alike names s [] [] h = refl
shown_alike names s [] (b ∷ after) h = absurd (omega (arith, h.long))
shown_alike names s (a ∷ before) [] h = absurd (omega (arith, h.long))
shown_alike names s (a ∷ before) (b ∷ after) h =
    let alike = h.each 0 a b refl refl in
    let rest : shown_from names (suc s) after ≡ shown_from names (suc s) before = shown_alike names (suc s) before after (record { long = omega (arith, h.long); each = λ i old new e f. h.each (suc i) old new e f }) in
    let was = shown_from names (suc s) before in
    ap (λ xs. shown_over names (children_of (in_range s (range_of b) xs)) b ∷ xs) rest
    ∙ ap (λ r. shown_over names (children_of (in_range s r was)) b ∷ was) alike.range
    ∙ ap (λ v. v ∷ was) (alike.shows names (children_of (in_range s (range_of a) was)))

pub alike_table : (before after : List Node) → IsTable before → AreAlike before after → IsTable after
alike_table before after table h = record {
  parents = table.parents;
  lower = table.lower;
  ranges = λ i node children e f.
      let within : i < length before = subst (λ n. i < n) h.long (slice_get_within after i node e) in
      let was = there before i within in
      subst (λ n. IsRange table.parents n i children) (sym h.long) (table.ranges i was.0 children was.1 (sym (h.each i was.0 node was.1 e).range ∙ f));
  some = subst (λ n. 0 < n) (sym h.long) table.some;
}

-- ---- what is written

-- the parents, where node j has all nodes from that number on
abbrev owner : ℕ → (ℕ → ℕ) → ℕ → ℕ → ℕ
owner many parents j k = if nat_lt k many then parents k else j

owner_old : (many : ℕ) (parents : ℕ → ℕ) (j k : ℕ) → k < many → owner many parents j k ≡ parents k
owner_old many parents j k h = ap (λ b. if b then parents k else j) (lt-ltb k many h)

owner_new : (many : ℕ) (parents : ℕ → ℕ) (j k : ℕ) → many ≤ k → owner many parents j k ≡ j
owner_new many parents j k h = ap (λ b. if b then parents k else j) (le-ltb k many h)

-- where that node and others stand in the table
long_written : (before : List Node) (j : ℕ) (node : Node) (more : List Node) → length (slice_set before j node ++ more) ≡ length before + length more
long_written before j node more = length-append (slice_set before j node) more ∙ ap (λ n. n + length more) (length_set before j node)

node_written : (before : List Node) (j : ℕ) (node : Node) (more : List Node) → j < length before → slice_get (slice_set before j node ++ more) j ≡ Some node
node_written before j node more h = get_append (slice_set before j node) more j (omega (arith, length_set before j node, h)) ∙ get_set_same before j node h

other_kept : (before : List Node) (j : ℕ) (node : Node) (more : List Node) (i : ℕ) → i < length before → i ≢ j → slice_get (slice_set before j node ++ more) i ≡ slice_get before i
other_kept before j node more i h other = get_append (slice_set before j node) more i (omega (arith, length_set before j node, h)) ∙ get_set_other before j i node other

node_added : (before : List Node) (j : ℕ) (node : Node) (more : List Node) (i : ℕ) → length before ≤ i → slice_get (slice_set before j node ++ more) i ≡ slice_get more (i - length before)
node_added before j node more i h =
    let e : i ≡ length (slice_set before j node) + (i - length before) = omega (arith, length_set before j node, h) in
    ap (slice_get (slice_set before j node ++ more)) e ∙ get_behind (slice_set before j node) more (i - length before)

-- it is a table still
pub still_table : (before : List Node) → IsTable before → (j : ℕ) (node : Node) (more : List Node) → j < length before
    → ((k : ℕ) (added : Node) → slice_get more k ≡ Some added → range_of added ≡ None)
    → ((children : Children) → range_of node ≡ Some children → (children.first.0 ≡ length before) × (children.count ≡ length more))
    → IsTable (slice_set before j node ++ more)
still_table before table j node more within alone range = record {
  parents = parents;
  lower = λ k. by_less k many
      (λ less. subst (λ p. p ≤ k) (sym (owner_old many table.parents j k less)) (table.lower k))
      (λ past. subst (λ p. p ≤ k) (sym (owner_new many table.parents j k past)) (omega (arith, within, past)));
  ranges = λ i found children e f. by_less i many
      (λ less. by_same i j
      (λ same. here i found children same e f)
      (λ other. elsewhere i found children (sym (other_kept before j node more i less other) ∙ e) f))
      (λ past. none_some (sym (alone (i - many) found (sym (node_added before j node more i past) ∙ e)) ∙ f));
  some = omega (arith, long_written before j node more, table.some);
}
  where
    many : ℕ
    many = length before

    parents : ℕ → ℕ
    parents = owner many table.parents j

    after : List Node
    after = slice_set before j node ++ more

    here : (i : ℕ) (found : Node) (children : Children) → i ≡ j → slice_get after i ≡ Some found → range_of found ≡ Some children → IsRange parents (length after) i children
    here i found children same e f =
        let is : node ≡ found = some_inj (sym (node_written before j node more within) ∙ ap (slice_get after) (sym same) ∙ e) in
        let r = range children (ap range_of is ∙ f) in
        record {
          behind = omega (arith, r.0, same, within);
          within = omega (arith, r.0, r.1, long_written before j node more);
          owned = λ k less. owner_new many table.parents j (children.first.0 + k) (omega (arith, r.0)) ∙ sym same;
        }

    elsewhere : (i : ℕ) (found : Node) (children : Children) → slice_get before i ≡ Some found → range_of found ≡ Some children → IsRange parents (length after) i children
    elsewhere i found children e f =
        let r = table.ranges i found children e f in
        record {
          behind = r.behind;
          within = omega (arith, r.within, long_written before j node more);
          owned = λ k less. owner_old many table.parents j (children.first.0 + k) (omega (arith, r.within, less)) ∙ r.owned k less;
        }

-- what is shown of the nodes behind others
shown_behind : (names : List (List ℕ)) (s : ℕ) (front more : List Node) → drop (length front) (shown_from names s (front ++ more)) ≡ shown_from names (s + length front) more
shown_behind names s [] more = let e : s ≡ s + 0 = omega arith in ap (λ n. shown_from names n more) e
shown_behind names s (a ∷ front) more = let e : suc s + length front ≡ s + length (a ∷ front) = omega arith in shown_behind names (suc s) front more ∙ ap (λ n. shown_from names n more) e

length_shown : (names : List (List ℕ)) (s : ℕ) (nodes : List Node) → length (shown_from names s nodes) ≡ length nodes
length_shown names s [] = refl
length_shown names s (a ∷ nodes) = ap (λ n. suc n) (length_shown names (suc s) nodes)

-- a node without children shows the same whatever is below it
alone_shows : (names : List (List ℕ)) (below others : model.Activities) (node : Node) → range_of node ≡ None → shown_over names below node ≡ shown_over names others node
alone_shows names below others (nodes.Ready visit) e = refl
alone_shows names below others (nodes.Waiting visit payload) e = refl
alone_shows names below others (nodes.Split visit children) e = none_some (sym e)
alone_shows names below others (nodes.Ended outcome) e = refl

-- what the table shows at node j then
written_shows : (names : List (List ℕ)) (before : List Node) (j : ℕ) (node : Node) (more : List Node) → IsTable (slice_set before j node ++ more) → j < length before
    → ((children : Children) → range_of node ≡ Some children → (children.first.0 ≡ length before) × (children.count ≡ length more))
    → shown_at names (slice_set before j node ++ more) j ≡ shown_over names (children_of (shown_from names (length before) more)) node
written_shows names before j node more table within range =
    shown_here names after table j node (node_written before j node more within) ∙ by_range (range_of node) refl
  where
    after : List Node
    after = slice_set before j node ++ more

    all : List model.Activity
    all = shown_from names 0 after

    by_range : (r : Option Children) → range_of node ≡ r → shown_over names (children_of (in_table (range_of node) all)) node ≡ shown_over names (children_of (shown_from names (length before) more)) node
    by_range None e = alone_shows names (children_of (in_table (range_of node) all)) (children_of (shown_from names (length before) more)) node e
    by_range (Some children) e =
        let r = range children e in
        let first : children.first.0 ≡ length (slice_set before j node) = r.0 ∙ sym (length_set before j node) in
        let start : 0 + length (slice_set before j node) ≡ length before = omega (arith, length_set before j node) in
        let behind : drop children.first.0 all ≡ shown_from names (length before) more = ap (λ n. drop n all) first ∙ shown_behind names 0 (slice_set before j node) more ∙ ap (λ n. shown_from names n more) start in
        let long : length (shown_from names (length before) more) ≤ children.count = omega (arith, r.1, length_shown names (length before) more) in
        ap (λ o. shown_over names (children_of (in_table o all)) node) e
        ∙ ap (λ xs. shown_over names (children_of (take children.count xs)) node) behind
        ∙ ap (λ xs. shown_over names (children_of xs) node) (take_all children.count (shown_from names (length before) more) long)

pub table_written : (j : ℕ) (before : List Node) (change : Change) (after : List Node) → IsTable before → j < length before → IsWritten j before change after → IsTable after
table_written j before change after table within h = subst IsTable (sym h.written) (still_table before table j h.node h.more within h.alone h.range)

pub applied : (j : ℕ) (before : List Node) (change : Change) (after : List Node) → IsTable before → j < length before → IsWritten j before change after → IsApplied j before change after
applied j before change after table within h = record {
  at = record {
    table = table;
    still = table_written j before change after table within h;
    others = λ i less other. ap (λ (l : List Node). slice_get l i) h.written ∙ other_kept before j h.node h.more i less other;
    no_shorter = subst (λ (l : List Node). length before ≤ length l) (sym h.written) (omega (arith, long_written before j h.node h.more));
  };
  added = record {
    long = ap (λ (l : List Node). length l) h.written ∙ long_written before j h.node h.more ∙ ap (λ n. length before + n) h.many;
    alone = λ i node past e. h.alone (i - length before) node (sym (node_added before j h.node h.more i past) ∙ ap (λ (l : List Node). slice_get l i) (sym h.written) ∙ e);
    fresh = λ i node past e. h.fresh (i - length before) node (sym (node_added before j h.node h.more i past) ∙ ap (λ (l : List Node). slice_get l i) (sym h.written) ∙ e);
    range = λ node children e f.
        let is : h.node ≡ node = some_inj (sym (node_written before j h.node h.more within) ∙ ap (λ (l : List Node). slice_get l j) (sym h.written) ∙ e) in
        let own = h.range children (ap range_of is ∙ f) in
        (own.0, own.1 ∙ h.many);
  };
  shows = λ names old visit e f.
      ap (λ (l : List Node). shown_at names l j) h.written
      ∙ written_shows names before j h.node h.more (still_table before table j h.node h.more within h.alone h.range) within h.range
      ∙ h.shows names old visit e f;
}

-- ---- the changes

no_more : (before : List Node) (j : ℕ) (node : Node) → slice_set before j node ≡ slice_set before j node ++ []
no_more before j node = go (slice_set before j node)
  where
    go : (xs : List Node) → xs ≡ xs ++ []
    go [] = refl
    go (x ∷ xs) = ap (λ l. x ∷ l) (go xs)

-- a node without children is written
pub alone_written : (j : ℕ) (before : List Node) (change : Change) (after : List Node) (node : Node) → children_in change ≡ 0 → after ≡ slice_set before j node → range_of node ≡ None
    → ((names : List (List ℕ)) (old : Node) (visit : Visit) → slice_get before j ≡ Some old → visit_in old ≡ Some visit → (below : model.Activities) → shown_over names below node ≡ changed names visit change) → IsWritten j before change after
alone_written j before change after node none e alone shows = record {
  node = node;
  more = [];
  written = e ∙ no_more before j node;
  many = sym none;
  alone = λ k added f. none_some f;
  fresh = λ k added f. none_some f;
  range = λ children f. none_some (sym alone ∙ f);
  shows = λ names old visit f g. shows names old visit f g (children_of (shown_from names (length before) []));
}

-- the executions that are about to enter their states show themselves
shown_ready : (names : List (List ℕ)) (s : ℕ) (visits : List Visit) → shown_from names s (map nodes.Ready visits) ≡ map (ready_view names) visits
shown_ready names s [] = refl
shown_ready names s (visit ∷ visits) = ap (λ l. ready_view names visit ∷ l) (shown_ready names (suc s) visits)

ready_alone : (visits : List Visit) (k : ℕ) (added : Node) → slice_get (map nodes.Ready visits) k ≡ Some added → range_of added ≡ None
ready_alone [] k added e = none_some e
ready_alone (visit ∷ visits) zero added e = ap range_of (sym (some_inj e))
ready_alone (visit ∷ visits) (suc k) added e = ready_alone visits k added e

ready_fresh : (visits : List Visit) (k : ℕ) (added : Node) → slice_get (map nodes.Ready visits) k ≡ Some added → node_ended added ≡ false
ready_fresh [] k added e = none_some e
ready_fresh (visit ∷ visits) zero added e = ap node_ended (sym (some_inj e))
ready_fresh (visit ∷ visits) (suc k) added e = ready_fresh visits k added e

length_ready : (visits : List Visit) → length (map nodes.Ready visits) ≡ length visits
length_ready [] = refl
length_ready (visit ∷ visits) = ap (λ n. suc n) (length_ready visits)

set_in_front : (xs ys : List Node) (j : ℕ) (y : Node) → j < length xs → slice_set (xs ++ ys) j y ≡ slice_set xs j y ++ ys
set_in_front [] ys j y h = absurd (omega arith)
set_in_front (x ∷ xs) ys zero y h = refl
set_in_front (x ∷ xs) ys (suc j) y h = ap (λ l. x ∷ l) (set_in_front xs ys j y (omega arith))

-- a node with new children is written
pub split_written : (j : ℕ) (before longer after : List Node) (visits : Vec Visit Global) (node : Node) (children : Children) → j < length before
    → children.first.0 ≡ length before → children.count ≡ length visits.items → longer ≡ before ++ map nodes.Ready visits.items → after ≡ slice_set longer j node
    → ((others : Children) → range_of node ≡ Some others → others ≡ children)
    → ((old : Node) (visit : Visit) → slice_get longer j ≡ Some old → visit_in old ≡ Some visit → node ≡ nodes.Split visit children)
    → IsWritten j before (SplitInto visits) after
split_written j before longer after visits node children within first count is written others splits = record {
  node = node;
  more = map nodes.Ready visits.items;
  written = written ∙ ap (λ (l : List Node). slice_set l j node) is ∙ set_in_front before (map nodes.Ready visits.items) j node within;
  many = length_ready visits.items;
  alone = ready_alone visits.items;
  fresh = ready_fresh visits.items;
  range = λ found f. (ap (λ (c : Children). c.first.0) (others found f) ∙ first, ap (λ (c : Children). c.count) (others found f) ∙ count ∙ sym (length_ready visits.items));
  shows = λ names old visit f g.
      ap (λ xs. shown_over names (children_of xs) node) (shown_ready names (length before) visits.items)
      ∙ ap (λ n. shown_over names (children_of (map (ready_view names) visits.items)) n)
      (splits old visit (ap (λ (l : List Node). slice_get l j) is ∙ get_append before (map nodes.Ready visits.items) j within ∙ f) g);
}

-- by what stood there when it was written
pub split_made : (j : ℕ) (before longer after : List Node) (visits : Vec Visit Global) (was node : Node) (children : Children) → j < length before
    → children.first.0 ≡ length before → children.count ≡ length visits.items → longer ≡ before ++ map nodes.Ready visits.items → was ≡ get_or longer j was → after ≡ slice_set longer j node
    → ((others : Children) → range_of node ≡ Some others → others ≡ children)
    → ((visit : Visit) → visit_in was ≡ Some visit → node ≡ nodes.Split visit children)
    → IsWritten j before (SplitInto visits) after
split_made j before longer after visits was node children within first count is read written others splits =
    let further : j < length longer = subst (λ (l : List Node). j < length l) (sym is) (omega (arith, length-append before (map nodes.Ready visits.items), within)) in
    let there = read_there longer j was further read in
    split_written j before longer after visits node children within first count is written others (λ old visit e f. splits visit (ap visit_in (some_inj (sym there ∙ e)) ∙ f))

-- the same where the node's own execution is found again
alone_there : (j : ℕ) (before after : List Node) (change : Change) (was node : Node) → children_in change ≡ 0 → slice_get before j ≡ Some was → after ≡ slice_set before j node → range_of node ≡ None
    → ((names : List (List ℕ)) (visit : Visit) → visit_in was ≡ Some visit → (below : model.Activities) → shown_over names below node ≡ changed names visit change) → IsWritten j before change after
alone_there j before after change was node none there written alone shows =
    alone_written j before change after node none written alone (λ names old visit f g. shows names visit (ap visit_in (some_inj (sym there ∙ f)) ∙ g))

-- another state is about to be entered
pub enter_written : (j : ℕ) (before after : List Node) (visit : Visit) → after ≡ slice_set before j (nodes.Ready visit) → IsWritten j before (Enter visit) after
enter_written j before after visit written = alone_written j before (Enter visit) after (nodes.Ready visit) refl written refl (λ names old v f g below. refl)

-- the scope has ended
pub end_written : (j : ℕ) (before after : List Node) (outcome : Outcome) → after ≡ slice_set before j (nodes.Ended outcome) → IsWritten j before (End outcome) after
end_written j before after outcome written = alone_written j before (End outcome) after (nodes.Ended outcome) refl written refl (λ names old v f g below. refl)

-- a task waits
pub ask_written : (j : ℕ) (before after : List Node) (was node : Node) (payload : Rc Tree Global) → slice_get before j ≡ Some was → after ≡ slice_set before j node → range_of node ≡ None
    → ((visit : Visit) → visit_in was ≡ Some visit → node ≡ nodes.Waiting visit payload) → IsWritten j before (Ask payload) after
ask_written j before after was node payload there written alone waits =
    alone_there j before after (Ask payload) was node refl there written alone (λ names visit e below. ap (shown_over names below) (waits visit e))

-- a state is about to be entered again
pub retry_written : (j : ℕ) (before after : List Node) (was node : Node) (retrier : ℕ) → slice_get before j ≡ Some was → after ≡ slice_set before j node → range_of node ≡ None
    → ((visit : Visit) → visit_in was ≡ Some visit → (later : Visit) × (node ≡ nodes.Ready later) × IsRaised retrier visit later) → IsWritten j before (Retry retrier) after
retry_written j before after was node retrier there written alone retries =
    alone_there j before after (Retry retrier) was node refl there written alone (λ names visit e below.
    let again = retries visit e in
    let later = again.0 in
    let raised = again.2 in
    ap (shown_over names below) again.1
    ∙ ap (λ i. model.Ready (name_in names i) (trees.view later.raw.value) later.counts.items) raised.state
    ∙ ap (λ (t : Rc Tree Global). model.Ready (name_in names visit.state) (trees.view t.value) later.counts.items) raised.raw
    ∙ ap (model.Ready (name_in names visit.state) (trees.view visit.raw.value)) raised.counts)

-- the same execution shows the same

-- ---- nodes that are added

-- one more
pub added_one : (now longer : List Node) (visit : Visit) (left rest : List Visit) (whole : List Node) → left ≡ visit ∷ rest → longer ≡ now ++ nodes.Ready visit ∷ [] → now ++ map nodes.Ready left ≡ whole → longer ++ map nodes.Ready rest ≡ whole
added_one now longer visit left rest whole steps pushed h =
    ap (λ (l : List Node). l ++ map nodes.Ready rest) pushed ∙ append_assoc now (nodes.Ready visit ∷ []) (map nodes.Ready rest) ∙ ap (λ (vs : List Visit). now ++ map nodes.Ready vs) (sym steps) ∙ h

-- all of them
pub added_all : (now start before : List Node) (left all given : List Visit) → left ≡ [] → all ≡ given → start ≡ before → now ++ map nodes.Ready left ≡ start ++ map nodes.Ready all → now ≡ before ++ map nodes.Ready given
added_all now start before left all given empty same from h =
    sym (append-nil now) ∙ ap (λ (vs : List Visit). now ++ map nodes.Ready vs) (sym empty) ∙ h ∙ ap (λ (l : List Node). l ++ map nodes.Ready all) from ∙ ap (λ (vs : List Visit). before ++ map nodes.Ready vs) same

-- ---- what a change that succeeds or is refused leaves

pub table_kept : {A E : Type 0} (r : Result A E) (j : ℕ) (before : List Node) (change : Change) (after : List Node) → IsTable before → j < length before → IfOk r (λ _. IsWritten j before change after) → IfErr r (λ _. AreAlike before after) → IsTable after
table_kept (Ok a) j before change after table within ok err = table_written j before change after table within ok
table_kept (Err e) j before change after table within ok err = alike_table before after table err

pub applied_where_ok : {A E : Type 0} (r : Result A E) (j : ℕ) (before old : List Node) (change : Change) (after : List Node) → before ≡ old → IsTable before → j < length before → IfOk r (λ _. IsWritten j before change after) → IfOk r (λ _. IsApplied j old change after)
applied_where_ok (Ok a) j before old change after same table within ok = subst (λ b. IsApplied j b change after) same (applied j before change after table within ok)
applied_where_ok (Err e) j before old change after same table within ok = tt

pub alike_where_err : {A E : Type 0} (r : Result A E) (before old after : List Node) → before ≡ old → IfErr r (λ _. AreAlike before after) → IfErr r (λ _. AreAlike old after)
alike_where_err (Ok a) before old after same err = tt
alike_where_err (Err e) before old after same err = subst (λ (l : List Node). AreAlike l after) same err

pub same_where_err : {A E : Type 0} (r : Result A E) (before old after : List Node) → before ≡ old → IfErr r (λ _. AreAlike before after) → IfErr r (λ _. (names : List (List ℕ)) → shown_from names 0 after ≡ shown_from names 0 old)
same_where_err (Ok a) before old after same err = tt
same_where_err (Err e) before old after same err = λ names. shown_alike names 0 before after err ∙ ap (λ (l : List Node). shown_from names 0 l) same

-- what holds at all holds where there is a refusal
pub err_any : {A E P : Type 0} (r : Result A E) → P → IfErr r (λ _. P)
err_any (Ok a) h = tt
err_any (Err e) h = h
