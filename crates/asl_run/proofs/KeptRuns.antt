-- All that is kept of a run stays so where a node is changed that wants an event.
use Rattle.std.proofs.Common.{◌≡◌, ◌≢◌, ◌<◌, ◌≤◌, ◌⊎◌, inl, inr, refl, sym, ap, ◌∙◌, subst, arith, ℕ, ◌+◌, ◌-◌, false, List, [], ◌∷◌, length, slice_get, Option, Some, None, option_and_then}
use Rattle.std.proofs.lemmas.Option.{slice_get_within}
use Rattle.asl_model.specs.Run.{Activity, Ready, Waiting, Split, Done, Failed, joining, set_child}
use Rattle.asl_model.proofs.RunOptions.{some_inj, none_some}
use Rattle.asl_run.specs.Changing.{AreAdded, IsApplied, IsChangedAt, changed, children_in, node_ended, visit_in}
use Rattle.asl_run.specs.Counting.{CanPass, HasParent, IsBegun, IsFar, IsKept, IsParent, IsPassed, IsPassedAt, of_new, open_count, own_count_of}
use Rattle.asl_run.specs.Enabling.{has_ended}
use Rattle.asl_run.specs.Nodes.{IsRange, IsTable, child_number, in_table, number_from, range_of, shown_at, shown_from}
use Rattle.asl_run.specs.Standing.{children_of}
use Rattle.asl_processing.specs.declared.activities.Visit.{Visit}
use Rattle.asl_run.specs.declared.changing.Change.{Change}
use Rattle.asl_run.specs.declared.entries.Outcome.TheVariants as outcomes
use Rattle.asl_run.specs.declared.nodes.Children.{Children}
use Rattle.asl_run.specs.declared.nodes.Node.{Node}
use Rattle.asl_run.specs.declared.nodes.Node.TheVariants as nodes
use Rattle.asl_run.specs.declared.nodes.NodeNumber.{NodeNumber}
use Rattle.asl_run.specs.declared.standing.Progress.{Progress}
use Rattle.asl_run.proofs.Above.{above_itself, parent_above}
use Rattle.asl_run.proofs.ChangedTables.{child_shown, children_on_the_way}
use Rattle.asl_run.proofs.CountsAlong.{counted_along, counted_at_parent}
use Rattle.asl_run.proofs.FarEnough.{ended_over}
use Rattle.asl_run.proofs.Kept.{far_passed, far_same, going_well}
use Rattle.asl_run.proofs.KeptCounts.{below_place, below_split, ends, few_opened, noted_own, own_grows}
use Rattle.asl_run.proofs.OpenCounts.{own_count}
use Rattle.asl_run.proofs.Parts.{there}
use Rattle.asl_run.proofs.Tables.{IsChild, child_found, child_within, shown_here}
use Rattle.asl_run.proofs.WrittenTables.{by_less, by_same}

-- a node that wants an event
record Wants (all : List Node) (j : ℕ) : Type 0 where
  node : Node
  there : slice_get all j ≡ Some node
  goes : node_ended node ≡ false
  visit : Visit
  has : visit_in node ≡ Some visit

wants_goes : (a : Activity) → 0 < open_count a → has_ended a ≡ false
wants_goes (Ready n raw counts) h = refl
wants_goes (Waiting n raw counts payload) h = refl
wants_goes (Split n raw counts children) h = refl
wants_goes (Done output) h = absurd (omega (arith, h))
wants_goes (Failed error cause) h = absurd (omega (arith, h))

wants_event : (all : List Node) → IsTable all → (j : ℕ) → j < length all → ((names : List (List ℕ)) → 0 < open_count (shown_at names all j)) → Wants all j
wants_event all table j within wanted = by found.0 found.1 (sym (ended_over [] (children_of (in_table (range_of found.0) (shown_from [] 0 all))) found.0) ∙ ap has_ended (sym (shown_here [] all table j found.0 found.1)) ∙ wants_goes (shown_at [] all j) (wanted []))
  where
    found : (node : Node) × (slice_get all j ≡ Some node)
    found = there all j within

    by : (node : Node) → slice_get all j ≡ Some node → node_ended node ≡ false → Wants all j
    by (nodes.Ready visit) e goes = record { node = nodes.Ready visit; there = e; goes = goes; visit = visit; has = refl }
    by (nodes.Waiting visit payload) e goes = record { node = nodes.Waiting visit payload; there = e; goes = goes; visit = visit; has = refl }
    by (nodes.Split visit children) e goes = record { node = nodes.Split visit children; there = e; goes = goes; visit = visit; has = refl }
    by (nodes.Ended outcome) e goes = absurd (ended outcome goes)
      where
        ended : (o : _) → node_ended (nodes.Ended o) ≡ false → ⊥
        ended (outcomes.Output t) f = absurd (cc)
        ended (outcomes.Failed error cause) f = absurd (cc)

-- a place leads to a node of the table
pub number_within : (all : List Node) → IsTable all → (place : List ℕ) (i j : ℕ) → i < length all → number_from all i place ≡ Some j → j < length all
number_within all table [] i j within e = subst (λ n. n < length all) (some_inj e) within
number_within all table (k ∷ place) i j within e = by (child_number all i k) refl e (λ c f less. number_within all table place c j less f)
  where
    by : (o : Option ℕ) → child_number all i k ≡ o → option_and_then (λ c. number_from all c place) o ≡ Some j → ((c : ℕ) → number_from all c place ≡ Some j → c < length all → j < length all) → j < length all
    by None f g below = none_some g
    by (Some c) f g below = below c g (child_within all table i k c (child_found all i k c f)).1

-- a child of a node
record ChildOf (all : List Node) (place : List ℕ) (q j : ℕ) : Type 0 where
  number : ℕ
  child : IsChild all q number j
  above : List ℕ
  leads : number_from all 0 above ≡ Some q

child_of_parent : (all : List Node) (place : List ℕ) (q j : ℕ) → IsParent all place j q → ChildOf all place q j
child_of_parent all place q j h = record { number = h.number; child = child_found all q h.number j h.is; above = h.above; leads = h.at }

-- ---- a node is changed that wants an event

-- the changed node, which stands at that place, and its parent, before and after
pub record Changes (before after : List Node) (progress : List Progress) (counted : ℕ) (place : List ℕ) (j : ℕ) (parent : Option NodeNumber) (change : Change) : Type 0 where
  pub kept : IsKept before progress counted
  pub at : number_from before 0 place ≡ Some j
  pub parent_is : HasParent before place j parent
  pub wanted : (names : List (List ℕ)) → 0 < open_count (shown_at names before j)
  pub applied : IsApplied j before change after

-- ---- before

-- what is closed was counted
pub closed_within : (all : List Node) (progress : List Progress) (counted : ℕ) (place : List ℕ) (j : ℕ) (parent : Option NodeNumber) → IsKept all progress counted → number_from all 0 place ≡ Some j → HasParent all place j parent
    → (names : List (List ℕ)) → open_count (shown_at names all j) + own_count_of progress parent ≤ counted
closed_within all progress counted place j None kept at is names =
    let first : 0 ≡ j = some_inj (ap (number_from all 0) (sym is) ∙ at) in
    let same = ap (λ n. open_count (shown_at names all n)) first in
    omega (arith, same, kept.same names)
closed_within all progress counted place j (Some q) kept at is names =
    let found = child_of_parent all place q.0 j is in
    let child = found.child in
    let split = nodes.Split child.visit child.children in
    let range = kept.table.ranges q.0 split child.children child.stands refl in
    let found_note = there progress q.0 (omega (arith, kept.long, slice_get_within all q.0 split child.stands)) in
    let own = noted_own names all kept.table progress q child.children found_note.0 range.within found_note.1 (kept.far q.0 split child.children found_note.0 child.stands refl found_note.1) in
    let below = below_split names all kept.table q.0 found.number j child in
    let whole = below_place names all kept.table found.above 0 q.0 found.leads in
    omega (arith, own, below, whole, kept.same names)

-- where the parent's note stands
pub parent_noted : (all : List Node) (progress : List Progress) (counted : ℕ) (place : List ℕ) (j : ℕ) (parent : Option NodeNumber) → IsKept all progress counted → HasParent all place j parent → (q : NodeNumber) → parent ≡ Some q → (q.0 < j) × (q.0 < length all) × (q.0 < length progress)
parent_noted all progress counted place j parent kept has q e =
    let is : HasParent all place j (Some q) = subst (λ p. HasParent all place j p) e has in
    let found = child_of_parent all place q.0 j is in
    let within = slice_get_within all q.0 (nodes.Split found.child.visit found.child.children) found.child.stands in
    ((child_within all kept.table q.0 found.number j found.child).0, within, omega (arith, kept.long, within))

-- ---- what the code has at hand

pub changes_made : (old before after : List Node) (progress : List Progress) (counted : ℕ) (place : List ℕ) (j : ℕ) (parent : Option NodeNumber) (change : Change) → before ≡ old → IsKept before progress counted → number_from old 0 place ≡ Some j
    → ((child : ℕ) → number_from before 0 place ≡ Some child → HasParent before place child parent) → ((names : List (List ℕ)) → 0 < open_count (shown_at names old j)) → IsApplied j before change after
    → Changes before after progress counted place j parent change
changes_made old before after progress counted place j parent change same kept at has wanted applied =
    let there_is : number_from before 0 place ≡ Some j = ap (λ (l : List Node). number_from l 0 place) same ∙ at in
    record {
      kept = kept;
      at = there_is;
      parent_is = has j there_is;
      wanted = λ names. subst (λ (l : List Node). 0 < open_count (shown_at names l j)) (sym same) (wanted names);
      applied = applied;
    }

pub begun_made : (j added many : ℕ) (progress reserved begun : List Progress) → reserved ≡ progress → added ≡ many → IsBegun j added added reserved begun → IsBegun j many many progress begun
begun_made j added many progress reserved begun same is h = subst (λ n. IsBegun j n n progress begun) is (subst (λ (l : List Progress). IsBegun j added added l begun) same h)

pub closed_before : (old before : List Node) (progress : List Progress) (counted : ℕ) (place : List ℕ) (j : ℕ) (parent : Option NodeNumber) → before ≡ old → IsKept before progress counted → number_from old 0 place ≡ Some j
    → ((child : ℕ) → number_from before 0 place ≡ Some child → HasParent before place child parent) → (names : List (List ℕ)) → open_count (shown_at names before j) + own_count_of progress parent ≤ counted
closed_before old before progress counted place j parent same kept at has names =
    let there_is : number_from before 0 place ≡ Some j = ap (λ (l : List Node). number_from l 0 place) same ∙ at in
    closed_within before progress counted place j parent kept there_is (has j there_is) names

-- the parent's note may be written anew
pub can_pass : (before after : List Node) (progress begun : List Progress) (counted : ℕ) (place : List ℕ) (j : ℕ) (parent : Option NodeNumber) (change : Change) → Changes before after progress counted place j parent change
    → IsBegun j (children_in change) (children_in change) progress begun → CanPass after begun parent j
can_pass before after progress begun counted place j parent change c begins = record {
  within = omega (arith, number_within before c.kept.table place 0 j c.kept.table.some c.at, c.applied.at.no_shorter);
  noted = λ q e.
      let is = parent_noted before progress counted place j parent c.kept c.parent_is q e in
      (omega (arith, is.1, c.applied.at.no_shorter), omega (arith, is.2, begins.long));
  inside = λ q node children far e f g h.
      let is = parent_noted before progress counted place j parent c.kept c.parent_is q e in
      let apart : q.0 ≢ j = λ same. absurd (omega (arith, same, is.0)) in
      let stood = sym (c.applied.at.others q.0 is.1 apart) ∙ f in
      (c.kept.far q.0 node children far stood g (sym (begins.others q.0 is.2 apart) ∙ h)).inside;
}

-- ---- after

-- the change, and what is noted of it: first of the node's own children, then of its parent's
pub record IsNoted (before after : List Node) (progress begun passed : List Progress) (counted : ℕ) (place : List ℕ) (j : ℕ) (parent : Option NodeNumber) (change : Change) : Type 0 where
  pub changes : Changes before after progress counted place j parent change
  pub begins : IsBegun j (children_in change) (children_in change) progress begun
  pub passes : IsPassed after parent j begun passed

module _ (before after : List Node) (progress begun passed : List Progress) (counted : ℕ) (place : List ℕ) (j : ℕ) (parent : Option NodeNumber) (change : Change) (noted : IsNoted before after progress begun passed counted place j parent change) where
  c : Changes before after progress counted place j parent change
  c = noted.changes

  begins : IsBegun j (children_in change) (children_in change) progress begun
  begins = noted.begins

  passes : IsPassed after parent j begun passed
  passes = noted.passes

  at : IsChangedAt j before after
  at = c.applied.at

  added : AreAdded j before (children_in change) after
  added = c.applied.added

  within : j < length before
  within = number_within before c.kept.table place 0 j c.kept.table.some c.at

  wants : Wants before j
  wants = wants_event before c.kept.table j within c.wanted

  -- the same child of the same node
  child_stays : (q k : ℕ) (child : IsChild before q k j) → slice_get after q ≡ Some (nodes.Split child.visit child.children)
  child_stays q k child =
      let lower = (child_within before c.kept.table q k j child).0 in
      at.others q (omega (arith, lower, within)) (λ e. absurd (omega (arith, e, lower))) ∙ child.stands

  -- what is noted of another node than these two
  note_kept : (i : ℕ) → i < length before → i ≢ j → (parent ≡ Some (record { 0 = i }) → ⊥) → slice_get passed i ≡ slice_get progress i
  note_kept i less other apart = by parent refl passes
    where
      before_pass : slice_get begun i ≡ slice_get progress i
      before_pass = begins.others i (omega (arith, c.kept.long, less)) other

      by : (p : Option NodeNumber) → parent ≡ p → IsPassed after p j begun passed → slice_get passed i ≡ slice_get progress i
      by None e h = ap (λ (l : List Progress). slice_get l i) h ∙ before_pass
      by (Some q) e h = h.others i (λ same. apart (e ∙ ap (λ n. Some (record { 0 = n })) (sym same))) ∙ before_pass

  -- that of the changed node
  note_new : slice_get passed j ≡ Some (of_new (children_in change))
  note_new = by parent refl passes
    where
      by : (p : Option NodeNumber) → parent ≡ p → IsPassed after p j begun passed → slice_get passed j ≡ Some (of_new (children_in change))
      by None e h = ap (λ (l : List Progress). slice_get l j) h ∙ begins.own
      by (Some q) e h =
          let lower = (parent_noted before progress counted place j parent c.kept c.parent_is q e).0 in
          h.others j (λ same. absurd (omega (arith, same, lower))) ∙ begins.own

  far_new : (children : Children) (node : Node) → slice_get after j ≡ Some node → range_of node ≡ Some children → IsFar after children (of_new (children_in change))
  far_new children node e f =
      let own = added.range node children e f in
      let fresh : (k : ℕ) (found : Node) → slice_get after (children.first.0 + k) ≡ Some found → node_ended found ≡ false = λ k found g. added.fresh (children.first.0 + k) found (omega (arith, own.0)) g in
      record {
        inside = omega (arith, own.1);
        outside = λ k found less where_ g. nowhere k less where_ own.1;
        first_runs = λ found less g. fresh 0 found g;
        last_runs = λ k found next more g. fresh k found g;
        none_failed = λ none k found less g. going_well found (fresh k found g);
        some_failed = λ some. absurd (cc);
      }
    where
      nowhere : {C : Type 0} (k : ℕ) → k < children.count → (k < 0) ⊎ (children_in change ≤ k) → children.count ≡ children_in change → C
      nowhere k less (inl none) same = absurd (omega (arith, none))
      nowhere k less (inr past) same = absurd (omega (arith, less, past, same))

  -- node j is no child of another node than its parent
  not_child : (i : ℕ) (node : Node) (children : Children) → slice_get before i ≡ Some node → range_of node ≡ Some children → (parent ≡ Some (record { 0 = i }) → ⊥) → (k : ℕ) → k < children.count → children.first.0 + k ≢ j
  not_child i node children e f apart k less same = by parent refl c.parent_is
    where
      range : IsRange c.kept.table.parents (length before) i children
      range = c.kept.table.ranges i node children e f

      by : (p : Option NodeNumber) → parent ≡ p → HasParent before place j p → ⊥
      by None g h =
          let first : 0 ≡ j = some_inj (ap (number_from before 0) (sym h) ∙ c.at) in
          absurd (omega (arith, first, same, range.behind))
      by (Some q) g h =
          let found = child_of_parent before place q.0 j h in
          let split = nodes.Split found.child.visit found.child.children in
          let own = c.kept.table.ranges q.0 split found.child.children found.child.stands refl in
          let owner : c.kept.table.parents j ≡ q.0 = ap c.kept.table.parents found.child.is ∙ own.owned found.number found.child.less in
          let other : i ≡ q.0 = sym (range.owned k less) ∙ ap c.kept.table.parents same ∙ owner in
          apart (g ∙ ap (λ n. Some (record { 0 = n })) (sym other))

  far_elsewhere : (i : ℕ) (node : Node) (children : Children) (far : Progress) → i < length before → i ≢ j → (parent ≡ Some (record { 0 = i }) → ⊥) → slice_get after i ≡ Some node → range_of node ≡ Some children → slice_get passed i ≡ Some far → IsFar after children far
  far_elsewhere i node children far less other apart e f g =
      let stood : slice_get before i ≡ Some node = sym (at.others i less other) ∙ e in
      let range = c.kept.table.ranges i node children stood f in
      far_same before after children far
      (λ k lower. at.others (children.first.0 + k) (omega (arith, range.within, lower)) (not_child i node children stood f apart k lower))
      (c.kept.far i node children far stood f (sym (note_kept i less other apart) ∙ g))

  far_of_parent : (q : NodeNumber) (k : ℕ) (child : IsChild before q.0 k j) (far : Progress) → IsPassedAt after q.0 j begun passed → slice_get passed q.0 ≡ Some far → IsFar after child.children far
  far_of_parent q k child far h g =
      let split = nodes.Split child.visit child.children in
      let within_q = slice_get_within before q.0 split child.stands in
      let range = c.kept.table.ranges q.0 split child.children child.stands refl in
      let lower = (child_within before c.kept.table q.0 k j child).0 in
      let was = there progress q.0 (omega (arith, c.kept.long, within_q)) in
      let noted : slice_get begun q.0 ≡ Some was.0 = begins.others q.0 (omega (arith, c.kept.long, within_q)) (λ e. absurd (omega (arith, e, lower))) ∙ was.1 in
      far_passed before after child.children j k child.is child.less wants.node wants.there wants.goes
      (λ i less other. at.others (child.children.first.0 + i) (omega (arith, range.within, less)) (λ e. other (omega (arith, e, child.is))))
      was.0 far (c.kept.far q.0 split child.children was.0 child.stands refl was.1) (h.here split child.children was.0 far (child_stays q.0 k child) refl noted g)
      (omega (arith, within, at.no_shorter))

  far_after : (i : ℕ) (node : Node) (children : Children) (far : Progress) → slice_get after i ≡ Some node → range_of node ≡ Some children → slice_get passed i ≡ Some far → IsFar after children far
  far_after i node children far e f g = by_same i j
      (λ same. here same)
      (λ other. by_less i (length before)
      (λ less. by_parent less other parent refl passes c.parent_is)
      (λ past. none_some (sym (added.alone i node past e) ∙ f)))
    where
      here : i ≡ j → IsFar after children far
      here same =
          let new : of_new (children_in change) ≡ far = some_inj (sym note_new ∙ ap (slice_get passed) (sym same) ∙ g) in
          subst (λ (p : Progress). IsFar after children p) new (far_new children node (ap (slice_get after) (sym same) ∙ e) f)

      by_parent : i < length before → i ≢ j → (p : Option NodeNumber) → parent ≡ p → IsPassed after p j begun passed → HasParent before place j p → IsFar after children far
      by_parent less other None h passing has = far_elsewhere i node children far less other (λ k. none_some (sym h ∙ k)) e f g
      by_parent less other (Some q) h passing has = by_same i q.0
          (λ same.
          let found = child_of_parent before place q.0 j has in
          let is : found.child.children ≡ children = some_inj (ap range_of (some_inj (sym (child_stays q.0 found.number found.child) ∙ ap (slice_get after) (sym same) ∙ e)) ∙ f) in
          subst (λ (r : Children). IsFar after r far) is (far_of_parent q found.number found.child far passing (ap (slice_get passed) (sym same) ∙ g)))
          (λ apart. far_elsewhere i node children far less other (λ k. apart (ap (λ (n : NodeNumber). n.0) (some_inj (sym k ∙ h)))) e f g)

  -- ---- how many want an event then

  long_after : length passed ≡ length after
  long_after = by parent passes
    where
      by : (p : Option NodeNumber) → IsPassed after p j begun passed → length passed ≡ length after
      by None h = let same = ap (λ (l : List Progress). length l) h in omega (arith, same, begins.long, c.kept.long, added.long)
      by (Some q) h = omega (arith, h.long, begins.long, c.kept.long, added.long)

  -- what is shown of the changed node
  shown_then : (names : List (List ℕ)) → shown_at names after j ≡ changed names wants.visit change
  shown_then names = c.applied.shows names wants.node wants.visit wants.there wants.has

  went : (names : List (List ℕ)) → has_ended (shown_at names before j) ≡ false
  went names = wants_goes (shown_at names before j) (c.wanted names)

  -- the parent's own place, before and after
  own_before : (names : List (List ℕ)) (q : NodeNumber) (k : ℕ) (child : IsChild before q.0 k j) → own_count_of progress (Some q) ≡ own_count (joining 0 (children_of (in_table (Some child.children) (shown_from names 0 before))))
  own_before names q k child =
      let split = nodes.Split child.visit child.children in
      let range = c.kept.table.ranges q.0 split child.children child.stands refl in
      let found_note = there progress q.0 (omega (arith, c.kept.long, slice_get_within before q.0 split child.stands)) in
      noted_own names before c.kept.table progress q child.children found_note.0 range.within found_note.1 (c.kept.far q.0 split child.children found_note.0 child.stands refl found_note.1)

  own_after : (names : List (List ℕ)) (q : NodeNumber) (k : ℕ) (child : IsChild before q.0 k j) → IsPassedAt after q.0 j begun passed → own_count_of passed (Some q) ≡ own_count (joining 0 (set_child k (shown_at names after j) (children_of (in_table (Some child.children) (shown_from names 0 before)))))
  own_after names q k child passing =
      let split = nodes.Split child.visit child.children in
      let range = c.kept.table.ranges q.0 split child.children child.stands refl in
      let found_note = there passed q.0 (omega (arith, long_after, slice_get_within before q.0 split child.stands, at.no_shorter)) in
      noted_own names after at.still passed q child.children found_note.0 (omega (arith, range.within, at.no_shorter)) found_note.1 (far_of_parent q k child found_note.0 passing found_note.1)
      ∙ ap (λ cs. own_count (joining 0 cs)) (children_on_the_way names j before after at q.0 k j child (above_itself at.table.parents j))

  same_after : (names : List (List ℕ)) → open_count (shown_at names after 0) + (open_count (shown_at names before j) + own_count_of progress parent) ≡ counted + (open_count (shown_at names after j) + own_count_of passed parent)
  same_after names = by parent c.parent_is passes
    where
      by : (p : Option NodeNumber) → HasParent before place j p → IsPassed after p j begun passed
          → open_count (shown_at names after 0) + (open_count (shown_at names before j) + own_count_of progress p) ≡ counted + (open_count (shown_at names after j) + own_count_of passed p)
      by None h passing =
          let first : 0 ≡ j = some_inj (ap (number_from before 0) (sym h) ∙ c.at) in
          let was = ap (λ n. open_count (shown_at names before n)) first in
          let now = ap (λ n. open_count (shown_at names after n)) first in
          omega (arith, was, now, c.kept.same names)
      by (Some q) h passing =
          let found = child_of_parent before place q.0 j h in
          let child = found.child in
          let owner : at.table.parents j ≡ q.0 = ap at.table.parents child.is ∙ (at.table.ranges q.0 (nodes.Split child.visit child.children) child.children child.stands refl).owned found.number child.less in
          let above = parent_above at.table.parents j j q.0 (above_itself at.table.parents j) owner in
          let whole = counted_along names j before after at _ _ q.0 above (counted_at_parent names j before after at q.0 found.number child) found.above 0 found.leads in
          let same = whole.same in
          omega (arith, same, own_before names q found.number child, own_after names q found.number child passing, c.kept.same names)

  opened_few : (names : List (List ℕ)) → open_count (shown_at names after j) + own_count_of passed parent ≤ own_count_of progress parent + 1 + children_in change
  opened_few names = by parent c.parent_is passes
    where
      few : open_count (shown_at names after j) + ends (shown_at names after j) ≤ 1 + children_in change
      few = subst (λ a. open_count a + ends a ≤ 1 + children_in change) (sym (shown_then names)) (few_opened names wants.visit change)

      by : (p : Option NodeNumber) → HasParent before place j p → IsPassed after p j begun passed → open_count (shown_at names after j) + own_count_of passed p ≤ own_count_of progress p + 1 + children_in change
      by None h passing = omega (arith, few)
      by (Some q) h passing =
          let found = child_of_parent before place q.0 j h in
          let children = children_of (in_table (Some found.child.children) (shown_from names 0 before)) in
          let grows = own_grows found.number children (shown_at names before j) (shown_at names after j) (child_shown names before c.kept.table q.0 found.number j found.child) (went names) in
          omega (arith, few, grows, own_before names q found.number found.child, own_after names q found.number found.child passing)

  -- there are no more than nodes
  pub opened_fits : (names : List (List ℕ)) → open_count (shown_at names after j) + own_count_of passed parent ≤ length after
  opened_fits names =
      let closed = closed_within before progress counted place j parent c.kept c.at c.parent_is names in
      omega (arith, opened_few names, closed, c.wanted names, c.kept.few, added.long)

  -- and all is kept
  pub kept_after : (closed own opened again : ℕ) → ((names : List (List ℕ)) → closed ≡ open_count (shown_at names before j)) → own ≡ own_count_of progress parent → ((names : List (List ℕ)) → opened ≡ open_count (shown_at names after j)) → again ≡ own_count_of passed parent
      → IsKept after passed (counted - (closed + own) + (opened + again))
  kept_after closed own opened again is_closed is_own is_opened is_again = record {
    table = at.still;
    long = long_after;
    far = far_after;
    same = λ names.
        let less = closed_within before progress counted place j parent c.kept c.at c.parent_is names in
        omega (arith, less, same_after names, is_closed names, is_own, is_opened names, is_again);
    few =
        let names : List (List ℕ) = [] in
        let less = closed_within before progress counted place j parent c.kept c.at c.parent_is names in
        omega (arith, less, opened_few names, c.wanted names, c.kept.few, added.long, is_closed names, is_own, is_opened names, is_again);
  }
