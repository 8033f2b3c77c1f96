-- What flowed into a shape is found among all that did.
use Rattle.std.proofs.Common.{◌≡◌, ◌<◌, ℕ, List, [], ◌∷◌, ◌++◌, map, Bool, true, false, Contains, Some, None, Ordering, Less, Equal, Greater, refl, sym, ap, ◌∙◌, subst}
use Rattle.std.specs.Option.{option_and_then}
use Rattle.std.specs.Map.{lookup}
use Rattle.std.proofs.lemmas.Bool.{false≢true}
use Rattle.std.proofs.lemmas.Cmp.{ranked}
use Rattle.std.specs.BTreeMap as sorted
use Rattle.std.specs.BTreeMap.{is_at}
use Rattle.std.specs.Ordering.{MatchOrdering, is_eq, nat_cmp, ordering_then}
use Rattle.indexmap.specs.IndexMap.{get}
use Rattle.asl_model.proofs.Listed.{first_in, later_in}
use Rattle.asl_model.proofs.ReadingSteps.{then_from}
use Rattle.asl_model.proofs.RunOptions.{none_some, some_inj}
use Rattle.asl_drafts.specs.Predecessors.{flowed}
use Rattle.asl_drafts.specs.contracts.draft.TargetPartialEq.TheImpl as target_eq
use Rattle.asl_drafts.specs.contracts.predecessors.OriginOrd.TheImpl as origin_order
use Rattle.asl_drafts.specs.declared.draft.Target.{Target}
use Rattle.asl_drafts.specs.declared.predecessors.Inflow.{Inflow}
use Rattle.asl_drafts.specs.declared.predecessors.Origin.{Origin}
use Rattle.asl_drafts.specs.declared.predecessors.Predecessors.{Predecessors}

-- what flowed along an edge of a state
abbrev pub inflow_of : Origin × ℕ → Inflow
inflow_of e = record { state = e.0.state; flowing = e.1 }

-- equal origins are of one state
same-state : (o p : Origin) → is_at (origin_order.ghosts.cmp o) p ≡ true → o.state ≡ p.state
same-state o p e = by (nat_cmp o.state p.state) (ranked o.state p.state (nat_cmp o.state p.state) refl) e
  where
    by : (c : Ordering) → MatchOrdering c (o.state < p.state) (o.state ≡ p.state) (p.state < o.state) → is_eq (ordering_then c (nat_cmp o.place p.place)) ≡ true → o.state ≡ p.state
    by Less m h = absurd (false≢true h)
    by Equal m h = m
    by Greater m h = absurd (false≢true h)

contained : (es : List (Origin × ℕ)) (o : Origin) (n : ℕ) → lookup (is_at (origin_order.ghosts.cmp o)) es ≡ Some n → Contains (map inflow_of es) (record { state = o.state; flowing = n })
contained [] o n h = none_some h
contained (e ∷ es) o n h = go (is_at (origin_order.ghosts.cmp o) e.0) refl h (contained es o n)
  where
    wanted : Inflow
    wanted = record { state = o.state; flowing = n }

    go : (b : Bool) → is_at (origin_order.ghosts.cmp o) e.0 ≡ b → Rattle.std.proofs.Common.cond b (Some e.1) (lookup (is_at (origin_order.ghosts.cmp o)) es) ≡ Some n → (lookup (is_at (origin_order.ghosts.cmp o)) es ≡ Some n → Contains (map inflow_of es) wanted) → Contains (map inflow_of (e ∷ es)) wanted
    go true is found further =
        let state : e.0.state ≡ o.state = sym (same-state o e.0 is) in
        let number : e.1 ≡ n = some_inj found in
        let same : inflow_of e ≡ wanted = ap (λ s. let one : Inflow = record { state = s; flowing = e.1 } in one) state ∙ ap (λ m. let one : Inflow = record { state = o.state; flowing = m } in one) number in
        subst (λ x. Contains (inflow_of e ∷ map inflow_of es) x) same (first_in (inflow_of e) (map inflow_of es))
    go false is found further = later_in (inflow_of e) wanted (map inflow_of es) (further found)

-- one more of them
pub found-next : (done : List (Origin × ℕ)) (e : Origin × ℕ) (found more : List Inflow) → found ≡ map inflow_of done → more ≡ found ++ inflow_of e ∷ [] → more ≡ map inflow_of (done ++ e ∷ [])
found-next done e found more so_far pushed = pushed ∙ ap (λ xs. xs ++ inflow_of e ∷ []) so_far ∙ sym (Rattle.std.proofs.lemmas.List.map-append inflow_of done (e ∷ []))

module _ (predecessors : Predecessors) (target : Target) (o : Origin) (n : ℕ) (is : flowed predecessors target o ≡ Some n) where
  -- where something flowed into the shape
  pub all-found : (entries : List (Origin × ℕ)) (found : List Inflow) → ((inner : _) → get target_eq.ghosts.eq predecessors.inflows target ≡ Some inner → inner.entries ≡ entries) → found ≡ map inflow_of entries → Contains found (record { state = o.state; flowing = n })
  all-found entries found these all =
      let there = then_from (λ inflows. sorted.get origin_order.ghosts.cmp inflows o) (get target_eq.ghosts.eq predecessors.inflows target) n is in
      subst (λ fs. Contains fs (record { state = o.state; flowing = n })) (ap (map inflow_of) (these there.0 there.1) ∙ sym all) (contained there.0.entries o n there.2)

  -- and where nothing did
  pub none-found : {A : Type 0} → get target_eq.ghosts.eq predecessors.inflows target ≡ None → A
  none-found none = none_some (sym (ap (option_and_then (λ inflows. sorted.get origin_order.ghosts.cmp inflows o)) none) ∙ is)
