-- What is noted of children stays so where a node is changed.
use Rattle.std.proofs.Common.{◌≡◌, ◌≢◌, ◌<◌, ◌≤◌, ◌⊎◌, inl, inr, refl, sym, ap, ◌∙◌, arith, ℕ, ◌+◌, Bool, true, false, ◌||◌, List, [], length, slice_get, Some}
use Rattle.std.specs.Option.{unwrap_or}
use Rattle.std.proofs.lemmas.Option.{slice_get_within}
use Rattle.asl_model.specs.Run.{Activity, NoActivities, Ready}
use Rattle.asl_model.specs.Tree.{Null}
use Rattle.asl_model.proofs.RunOptions.{some_inj}
use Rattle.asl_run.specs.Changing.{AreAlike, IsAlike, node_ended}
use Rattle.asl_run.specs.Counting.{HasFailed, IsFar, IsFurther, IsKept, node_failed, open_count}
use Rattle.asl_run.specs.Enabling.{has_ended, has_failed}
use Rattle.asl_run.specs.declared.entries.Outcome.TheVariants as outcomes
use Rattle.asl_run.specs.declared.nodes.Children.{Children}
use Rattle.asl_run.specs.declared.nodes.Node.{Node}
use Rattle.asl_run.specs.declared.nodes.Node.TheVariants as nodes
use Rattle.asl_run.specs.declared.standing.Progress.{Progress}
use Rattle.asl_run.proofs.Parts.{there}
use Rattle.asl_run.proofs.WrittenTables.{alike_table, by_less, by_same, shown_alike}

-- ---- one node

-- one that hasn't ended hasn't failed
pub going_well : (node : Node) → node_ended node ≡ false → node_failed node ≡ false
going_well (nodes.Ready visit) e = refl
going_well (nodes.Waiting visit payload) e = refl
going_well (nodes.Split visit children) e = refl
going_well (nodes.Ended (outcomes.Output t)) e = absurd (cc)
going_well (nodes.Ended (outcomes.Failed error cause)) e = absurd (cc)

not_both : (b : Bool) {C : Type 0} → b ≡ true → b ≡ false → C
not_both true e f = absurd (cc)
not_both false e f = absurd (cc)

-- ---- the same nodes

-- the children are the same nodes
pub far_same : (before after : List Node) (children : Children) (far : Progress) → ((k : ℕ) → k < children.count → slice_get after (children.first.0 + k) ≡ slice_get before (children.first.0 + k)) → IsFar before children far → IsFar after children far
far_same before after children far same h = record {
  inside = h.inside;
  outside = λ k node less where_ e. h.outside k node less where_ (sym (same k less) ∙ e);
  first_runs = λ node less e. h.first_runs node less (sym (same far.first (omega (arith, less, h.inside))) ∙ e);
  last_runs = λ k node next more e. h.last_runs k node next more (sym (same k (omega (arith, next, h.inside))) ∙ e);
  none_failed = λ none k node less e. h.none_failed none k node less (sym (same k less) ∙ e);
  some_failed = λ some.
      let one = h.some_failed some in
      record { number = one.number; less = one.less; node = one.node; there = same one.number one.less ∙ one.there; failed = one.failed };
}

-- nodes that are alike
ended_alike : (old new : Node) → IsAlike old new → node_ended new ≡ node_ended old
ended_alike old new h = ap has_ended (h.shows [] NoActivities)

failed_alike : (old new : Node) → IsAlike old new → node_failed new ≡ node_failed old
failed_alike old new h = ap has_failed (h.shows [] NoActivities)

pub far_alike : (before after : List Node) (children : Children) (far : Progress) → AreAlike before after → children.first.0 + children.count ≤ length before → IsFar before children far → IsFar after children far
far_alike before after children far alike within h = record {
  inside = h.inside;
  outside = λ k node less where_ e.
      let was = old k less in
      ended_alike was.0 node (alike.each (children.first.0 + k) was.0 node was.1 e) ∙ h.outside k was.0 less where_ was.1;
  first_runs = λ node less e.
      let was = old far.first (omega (arith, less, h.inside)) in
      ended_alike was.0 node (alike.each (children.first.0 + far.first) was.0 node was.1 e) ∙ h.first_runs was.0 less was.1;
  last_runs = λ k node next more e.
      let was = old k (omega (arith, next, h.inside)) in
      ended_alike was.0 node (alike.each (children.first.0 + k) was.0 node was.1 e) ∙ h.last_runs k was.0 next more was.1;
  none_failed = λ none k node less e.
      let was = old k less in
      failed_alike was.0 node (alike.each (children.first.0 + k) was.0 node was.1 e) ∙ h.none_failed none k was.0 less was.1;
  some_failed = λ some.
      let one = h.some_failed some in
      let now = there after (children.first.0 + one.number) (omega (arith, within, one.less, alike.long)) in
      record { number = one.number; less = one.less; node = now.0; there = now.1; failed = failed_alike one.node now.0 (alike.each (children.first.0 + one.number) one.node now.0 one.there now.1) ∙ one.failed };
}
  where
    old : (k : ℕ) → k < children.count → (node : Node) × (slice_get before (children.first.0 + k) ≡ Some node)
    old k less = there before (children.first.0 + k) (omega (arith, within, less))

pub kept_alike : (before after : List Node) (progress : List Progress) (counted : ℕ) → AreAlike before after → IsKept before progress counted → IsKept after progress counted
kept_alike before after progress counted alike h = record {
  table = alike_table before after h.table alike;
  long = omega (arith, h.long, alike.long);
  far = λ i node children far e f g.
      let within : i < length before = omega (arith, slice_get_within after i node e, alike.long) in
      let was = there before i within in
      let range = sym (alike.each i was.0 node was.1 e).range ∙ f in
      far_alike before after children far alike (h.table.ranges i was.0 children was.1 range).within (h.far i was.0 children far was.1 range g);
  same = λ names. h.same names ∙ sym (ap first_count (shown_alike names 0 before after alike));
  few = omega (arith, h.few, alike.long);
}
  where
    first_count : List Activity → ℕ
    first_count all = open_count (unwrap_or (slice_get all 0) (Ready [] Null []))

-- ---- a child is changed

module _ (before after : List Node) (children : Children) (j k : ℕ) (is : j ≡ children.first.0 + k) (less : k < children.count) (old : Node) (stood : slice_get before j ≡ Some old) (went : node_ended old ≡ false)
    (others : (i : ℕ) → i < children.count → i ≢ k → slice_get after (children.first.0 + i) ≡ slice_get before (children.first.0 + i)) (was far : Progress) (h : IsFar before children was) (further : IsFurther after children j was far) where
  stood_there : slice_get before (children.first.0 + k) ≡ Some old
  stood_there = ap (slice_get before) (sym is) ∙ stood

  -- a child outside what may be running isn't the changed one
  still_ended : (i : ℕ) (node : Node) → i < children.count → (i < was.first) ⊎ (was.behind_last ≤ i) → slice_get after (children.first.0 + i) ≡ Some node → node_ended node ≡ true
  still_ended i node lower outside e = by_same i k
      (λ same. not_both (node_ended old) (h.outside i old lower outside (ap (λ n. slice_get before (children.first.0 + n)) same ∙ stood_there)) went)
      (λ other. h.outside i node lower outside (sym (others i lower other) ∙ e))

  ended_outside : (i : ℕ) (node : Node) → i < children.count → (i < far.first) ⊎ (far.behind_last ≤ i) → slice_get after (children.first.0 + i) ≡ Some node → node_ended node ≡ true
  ended_outside i node lower (inl front) e = by_less i was.first
      (λ below. still_ended i node lower (inl below) e)
      (λ past. further.front.passed i node past front e)
  ended_outside i node lower (inr back) e = by_less i was.behind_last
      (λ below. further.back.passed i node back below e)
      (λ past. still_ended i node lower (inr past) e)

  -- what is noted of the children is so again
  pub far_passed : j < length after → IsFar after children far
  far_passed within = record {
    inside = omega (arith, further.back.upper, h.inside);
    outside = ended_outside;
    first_runs = λ node lower e. further.front.runs node (omega (arith, lower, further.back.upper)) e;
    last_runs = further.back.runs;
    none_failed = λ none i node lower e. none_has (was.failed) refl none i node lower e;
    some_failed = λ some. some_has was.failed refl some;
  }
    where
      here : (node : Node) × (slice_get after j ≡ Some node)
      here = there after j within

      told : far.failed ≡ (was.failed || node_failed here.0)
      told = further.failed here.0 here.1

      none_has : (b : Bool) → was.failed ≡ b → far.failed ≡ false → (i : ℕ) (node : Node) → i < children.count → slice_get after (children.first.0 + i) ≡ Some node → node_failed node ≡ false
      none_has true e none i node lower f = not_both far.failed (told ∙ ap (λ c. c || node_failed here.0) e) none
      none_has false e none i node lower f = by_same i k
          (λ same. ap node_failed (some_inj (sym f ∙ ap (λ n. slice_get after (children.first.0 + n)) same ∙ ap (slice_get after) (sym is) ∙ here.1)) ∙ sym (ap (λ c. c || node_failed here.0) e) ∙ sym told ∙ none)
          (λ other. h.none_failed e i node lower (sym (others i lower other) ∙ f))

      some_has : (b : Bool) → was.failed ≡ b → far.failed ≡ true → HasFailed after children
      some_has true e some =
          let one = h.some_failed e in
          by_same one.number k
          (λ same. not_both (node_failed old) (ap node_failed (some_inj (sym stood_there ∙ ap (λ n. slice_get before (children.first.0 + n)) (sym same) ∙ one.there)) ∙ one.failed) (going_well old went))
          (λ other. record { number = one.number; less = one.less; node = one.node; there = others one.number one.less other ∙ one.there; failed = one.failed })
      some_has false e some = record {
        number = k;
        less = less;
        node = here.0;
        there = ap (slice_get after) (sym is) ∙ here.1;
        failed = sym (ap (λ c. c || node_failed here.0) e) ∙ sym told ∙ some;
      }
