-- States that are walked: what flows along their edges is remembered and taken in.
use Rattle.std.proofs.Common.{◌≡◌, ◌≢◌, ◌<◌, ◌+◌, ◌++◌, ◌∷◌, ◌||◌, ℕ, List, [], length, Bool, true, false, IsTrue, Some, Result, Ok, Err, IfOk, refl, sym, ap, ap₂, ◌∙◌, subst, ◌⊎◌, inl, inr, arith}
use Rattle.std.proofs.lemmas.Bool.{false≢true}
use Rattle.asl_model.specs.Certificate.{Declared}
use Rattle.asl_model.specs.Edges.{Walked}
use Rattle.asl_model.specs.Numbering.{Table}
use Rattle.asl_model.specs.Shape.{Shape}
use Rattle.asl_draft_laws.specs.Drafts as model
use Rattle.asl_draft_laws.specs.Drafts.{Row, step_taken, steps_of, steps_taken, taken_at}
use Rattle.asl_draft_laws.specs.Resting.{FlowRests, IsPassedBy, Memory, Rests, StepRests, StepsRest}
use Rattle.asl_draft_laws.proofs.PassedOver.{rest-kept, rest-known, rest-push, rests-known, steps-passed}
use Rattle.asl_numbered.specs.Expansion.{shape_at, Keeps}
use Rattle.asl_numbered.specs.Laws.{keeps_trans, kept_shape, kept_within}
use Rattle.asl_drafts.specs.Calm.{IsCalm, memory_of, has_shape, target_meant}
use Rattle.asl_drafts.specs.Drafted.{draft_view, room, target_view}
use Rattle.asl_drafts.specs.Entries.{Makes}
use Rattle.asl_drafts.specs.Predecessors.{flowed}
use Rattle.asl_drafts.specs.Underway.{IsUnderway, OthersStayCalm, StepsOn}
use Rattle.asl_drafts.specs.Waiting.{waits_in}
use Rattle.asl_drafts.specs.Walker.{HaveWoken, StaysWaiting}
use Rattle.asl_drafts.specs.declared.draft.Target.{Target}
use Rattle.asl_drafts.specs.declared.predecessors.Origin.{Origin}
use Rattle.asl_drafts.specs.declared.walker.Walker.{Walker}
use Rattle.asl_drafts.proofs.Calm.{meant-same, recalls, remembered, taken-again}

-- what a walker remembers
abbrev pub known_to : Walker → Memory
known_to walker = memory_of walker.draft.store walker.predecessors

-- ---- what flows along an edge is remembered

module _ (one two : Walker) (t : Target) (origin : Origin) (drafts : two.draft ≡ one.draft) (waits : two.waiting.waits.items ≡ one.waiting.waits.items) (elsewhere : (into : Target) (from : Origin) → (into ≢ t) ⊎ (from ≢ origin) → flowed two.predecessors into from ≡ flowed one.predecessors into from) where
  -- what flowed along another edge is known as before
  still-known : (into : model.Target) (n place : ℕ) (s : Shape) → (let from : Origin = record { state = n; place = place } in from ≢ origin) → IsTrue (known_to one into n place s) → IsTrue (known_to two into n place s)
  still-known into n place s other known =
      subst (λ d. IsTrue (memory_of d.store two.predecessors into n place s)) (sym drafts)
      (subst (λ o. IsTrue (has_shape one.draft.store o s)) (sym (elsewhere (target_meant into) (record { state = n; place = place }) (inr other))) known)

  -- another state stays calm
  pub still-calm : (table : Table) (declared : Declared) (row : Row) → row.number ≢ origin.state → IsCalm table declared row one → IsCalm table declared row two
  still-calm table declared row apart was = record { calm = by was.calm }
    where
      by : (waits_in one.waiting.waits.items row.number ≡ true) ⊎ Rests table declared row (known_to one) (draft_view one.draft) → (waits_in two.waiting.waits.items row.number ≡ true) ⊎ Rests table declared row (known_to two) (draft_view two.draft)
      by (inl waiting) = inl (ap (λ ws. waits_in ws row.number) waits ∙ waiting)
      by (inr rest) = inr (subst (λ d. Rests table declared row (known_to two) (draft_view d)) (sym drafts) (rests-known table declared row (known_to one) (known_to two) (draft_view one.draft) (λ into place s h. still-known into row.number place s (λ e. apart (ap (λ (o : Origin). o.state) e)) h) rest))

  -- and the walked one has come as far
  pub still-underway : (table : Table) (declared : Declared) (row : Row) (steps done : List Walked) → length done ≡ origin.place → IsUnderway table declared row steps done one → IsUnderway table declared row steps done two
  still-underway table declared row steps done far was = record { underway = by was.underway }
    where
      by : (waits_in one.waiting.waits.items row.number ≡ true) ⊎ ((steps_of declared (draft_view one.draft) row ≡ steps) × StepsRest table row.number (known_to one) (draft_view one.draft) 0 done)
          → (waits_in two.waiting.waits.items row.number ≡ true) ⊎ ((steps_of declared (draft_view two.draft) row ≡ steps) × StepsRest table row.number (known_to two) (draft_view two.draft) 0 done)
      by (inl waiting) = inl (ap (λ ws. waits_in ws row.number) waits ∙ waiting)
      by (inr rest) = inr (
        ap (λ d. steps_of declared (draft_view d) row) drafts ∙ rest.0,
        subst (λ d. StepsRest table row.number (known_to two) (draft_view d) 0 done) (sym drafts)
            (rest-known table row.number (known_to one) (known_to two) (draft_view one.draft) 0 done (λ into place s below h. still-known into row.number place s (λ e. earlier place below (ap (λ (o : Origin). o.place) e)) h) rest.1),
      )
        where
          earlier : (place : ℕ) → place < 0 + length done → place ≡ origin.place → ⊥
          earlier place below same = omega (arith, below, same, far)

-- ---- it is taken in

module _ (table : Table) (declared : Declared) (row : Row) (one two : Walker) (t : Target) (f : ℕ) (keeps : Keeps one.draft.store two.draft.store) (same : two.predecessors ≡ one.predecessors) (stays : StaysWaiting one.waiting two.waiting) (in_waits : row.number < length two.waiting.waits.items) (below : f < length one.draft.store) (changed : Bool) where
  -- what flows
  abbrev flowing : Shape
  flowing = shape_at one.draft.store f

  -- the steps are those of the row's state, and the first ones rest
  abbrev Goes : Walker → List Walked → List Walked → Type 0
  Goes walker steps done = (steps_of declared (draft_view walker.draft) row ≡ steps) × StepsRest table row.number (known_to walker) (draft_view walker.draft) 0 done

  abbrev pub Told : Type 0
  Told = Makes room (taken_at (Some (target_view t)) flowing) (draft_view one.draft) changed (draft_view two.draft)

  abbrev pub Woken : Type 0
  Woken = changed ≡ true → HaveWoken (length one.draft.store) two.draft two.predecessors t two.waiting.waits.items

  -- that step leads there
  abbrev pub LeadsThere : Walked → Type 0
  LeadsThere step = (known : Memory) (draft : model.Draft) (place : ℕ) → FlowRests row.number known draft place (Some (target_view t)) flowing → StepRests table row.number known draft place step

  module _ (makes : Told) (wakes : Woken) (steps done : List Walked) (step : Walked) (leads : LeadsThere step) (here : flowed one.predecessors t (record { state = row.number; place = length done }) ≡ Some f) where
    abbrev After : Type 0
    After = (waits_in two.waiting.waits.items row.number ≡ true) ⊎ Goes two steps (done ++ step ∷ [])

    -- more is known
    known-more : (into : model.Target) (n place : ℕ) (s : Shape) → IsTrue (known_to one into n place s) → IsTrue (known_to two into n place s)
    known-more into n place s h =
        subst (λ p. IsTrue (memory_of two.draft.store p into n place s)) (sym same) (remembered one.draft.store two.draft.store one.predecessors into n place s keeps h)

    -- this flow too
    this-known : IsTrue (known_to two (target_view t) row.number (length done) flowing)
    this-known =
        let from : Origin = record { state = row.number; place = length done } in
        let is : flowed two.predecessors (target_meant (target_view t)) from ≡ Some f = ap (λ p. flowed p (target_meant (target_view t)) from) same ∙ (ap (λ u. flowed one.predecessors u from) (meant-same t) ∙ here) in
        recalls two.draft.store (flowed two.predecessors (target_meant (target_view t)) from) f flowing is (kept_within one.draft.store two.draft.store f keeps below) (kept_shape one.draft.store two.draft.store f keeps below)

    -- where the first steps rest in the new draft, and the flow would change nothing again
    goes-on : steps_of declared (draft_view two.draft) row ≡ steps → StepsRest table row.number (known_to one) (draft_view two.draft) 0 done → taken_at (Some (target_view t)) flowing (draft_view two.draft) ≡ draft_view two.draft → Goes two steps (done ++ step ∷ [])
    goes-on these rest again = (
      these,
      rest-push table row.number (known_to two) (draft_view two.draft) 0 done step
          (rest-known table row.number (known_to one) (known_to two) (draft_view two.draft) 0 done (λ into place s less h. known-more into row.number place s h) rest)
          (leads (known_to two) (draft_view two.draft) (0 + length done) (again, subst (λ place. IsTrue (known_to two (target_view t) row.number place flowing)) (omega arith) this-known)),
    )

    -- where nothing changes
    unchanged : draft_view two.draft ≡ draft_view one.draft → draft_view two.draft ≡ taken_at (Some (target_view t)) flowing (draft_view one.draft) → Goes one steps done → Goes two steps (done ++ step ∷ [])
    unchanged is made rest = goes-on
        (ap (λ d. steps_of declared d row) is ∙ rest.0)
        (subst (λ d. StepsRest table row.number (known_to one) d 0 done) (sym is) rest.1)
        (ap (taken_at (Some (target_view t)) flowing) is ∙ sym made)

    -- where the shape changes, and the state doesn't wait
    is-changed : draft_view two.draft ≡ taken_at (Some (target_view t)) flowing (draft_view one.draft) → IsPassedBy row.number (target_view t)
        → ((place g : ℕ) → flowed one.predecessors t (record { state = row.number; place = place }) ≡ Some g → g < length one.draft.store → taken_at (Some (target_view t)) (shape_at two.draft.store g) (draft_view two.draft) ≡ draft_view two.draft)
        → Goes one steps done → Goes two steps (done ++ step ∷ [])
    is-changed made passed again rest = goes-on
        (ap (λ d. steps_of declared d row) made ∙ (steps-passed declared row (target_view t) flowing (draft_view one.draft) passed ∙ rest.0))
        (subst (λ d. StepsRest table row.number (known_to one) d 0 done) (sym made) (rest-kept table row.number (known_to one) (target_view t) flowing (draft_view one.draft) 0 done (taken-again table declared row one.draft.store two.draft.store one.predecessors keeps t flowing (draft_view one.draft) (draft_view two.draft) made again) rest.1))
        (ap (λ s. taken_at (Some (target_view t)) s (draft_view two.draft)) (sym (kept_shape one.draft.store two.draft.store f keeps below)) ∙ again (length done) f here below)

    pub taken-underway : IsUnderway table declared row steps done one → IsUnderway table declared row steps (done ++ step ∷ []) two
    taken-underway was = record { underway = by was.underway }
      where
        told : (b : Bool) → changed ≡ b → Makes room (taken_at (Some (target_view t)) flowing) (draft_view one.draft) b (draft_view two.draft) → Goes one steps done → After
        told false is m rest = inr (unchanged m.told m.made rest)
        told true is m rest = reads (wakes is) (waits_in two.waiting.waits.items row.number) refl ((wakes is).reader.reader row.number in_waits)
          where
            reads : HaveWoken (length one.draft.store) two.draft two.predecessors t two.waiting.waits.items → (w : Bool) → waits_in two.waiting.waits.items row.number ≡ w → IsPassedBy row.number (target_view t) ⊎ (waits_in two.waiting.waits.items row.number ≡ true) → After
            reads wake w is_w (inr waits) = inl waits
            reads wake true is_w (inl passed) = inl is_w
            reads wake false is_w (inl passed) = inr (is-changed m.made passed again rest)
              where
                again : (place g : ℕ) → flowed one.predecessors t (record { state = row.number; place = place }) ≡ Some g → g < length one.draft.store → taken_at (Some (target_view t)) (shape_at two.draft.store g) (draft_view two.draft) ≡ draft_view two.draft
                again place g flow less = pick (wake.again (record { state = row.number; place = place }) g (subst (λ p. flowed p t (record { state = row.number; place = place }) ≡ Some g) (sym same) flow) in_waits less)
                  where
                    pick : (waits_in two.waiting.waits.items row.number ≡ true) ⊎ (taken_at (Some (target_view t)) (shape_at two.draft.store g) (draft_view two.draft) ≡ draft_view two.draft) → taken_at (Some (target_view t)) (shape_at two.draft.store g) (draft_view two.draft) ≡ draft_view two.draft
                    pick (inl waits) = absurd (false≢true (sym is_w ∙ waits))
                    pick (inr stay) = stay

        by : (waits_in one.waiting.waits.items row.number ≡ true) ⊎ Goes one steps done → After
        by (inl waits) = inl (stays.stays row.number waits)
        by (inr rest) = told changed refl makes rest

-- ---- both together, where it is told whether a shape was changed

module _ {E : Type 0} (r : Result Bool E) (zero one two : Walker) (t : Target) (origin : Origin) (drafts : one.draft ≡ zero.draft) (waits : one.waiting.waits.items ≡ zero.waiting.waits.items) (elsewhere : (into : Target) (from : Origin) → (into ≢ t) ⊎ (from ≢ origin) → flowed one.predecessors into from ≡ flowed zero.predecessors into from) where
  -- the other states
  pub others-told : IfOk r (λ changed. (table : Table) (declared : Declared) (row : Row) → row.number < length two.waiting.waits.items → IsCalm table declared row one → IsCalm table declared row two) → IfOk r (λ changed. OthersStayCalm origin.state zero two)
  others-told calm = by r calm
    where
      by : (q : Result Bool E) → IfOk q (λ changed. (table : Table) (declared : Declared) (row : Row) → row.number < length two.waiting.waits.items → IsCalm table declared row one → IsCalm table declared row two) → IfOk q (λ changed. OthersStayCalm origin.state zero two)
      by (Ok changed) told = record { calm = λ table declared row apart in_waits was. told table declared row in_waits (still-calm zero one t origin drafts waits elsewhere table declared row apart was) }
      by (Err e) told = tt

  -- and the one that is walked
  module _ (table : Table) (f : ℕ) (step : Walked) (keeps : Keeps one.draft.store two.draft.store) (same : two.predecessors ≡ one.predecessors) (stays : StaysWaiting one.waiting two.waiting) (below : f < length one.draft.store) (here : flowed one.predecessors t origin ≡ Some f) (leads : (known : Memory) (draft : model.Draft) (place : ℕ) → FlowRests origin.state known draft place (Some (target_view t)) (shape_at one.draft.store f) → StepRests table origin.state known draft place step) where
    -- one more step of a row with that number
    step-on : (changed : Bool) → Makes room (taken_at (Some (target_view t)) (shape_at one.draft.store f)) (draft_view one.draft) changed (draft_view two.draft) → (changed ≡ true → HaveWoken (length one.draft.store) two.draft two.predecessors t two.waiting.waits.items) → StepsOn table origin step zero two
    step-on changed makes wakes = record {
      further = λ declared row steps done number in_waits far was.
          let place : (let from : Origin = record { state = row.number; place = length done } in from ≡ origin) = ap₂ (λ m i. let from : Origin = record { state = m; place = i } in from) number far in
          taken-underway table declared row one two t f keeps same stays in_waits below changed makes wakes steps done step
          (subst (λ m. (known : Memory) (draft : model.Draft) (at : ℕ) → FlowRests m known draft at (Some (target_view t)) (shape_at one.draft.store f) → StepRests table m known draft at step) (sym number) leads)
          (ap (flowed one.predecessors t) place ∙ here)
          (still-underway zero one t origin drafts waits elsewhere table declared row steps done far was);
    }

    pub steps-told : IfOk r (λ changed. Makes room (taken_at (Some (target_view t)) (shape_at one.draft.store f)) (draft_view one.draft) changed (draft_view two.draft)) → IfOk r (λ changed. changed ≡ true → HaveWoken (length one.draft.store) two.draft two.predecessors t two.waiting.waits.items) → IfOk r (λ changed. StepsOn table origin step zero two)
    steps-told makes wakes = by r makes wakes
      where
        by : (q : Result Bool E) → IfOk q (λ changed. Makes room (taken_at (Some (target_view t)) (shape_at one.draft.store f)) (draft_view one.draft) changed (draft_view two.draft)) → IfOk q (λ changed. changed ≡ true → HaveWoken (length one.draft.store) two.draft two.predecessors t two.waiting.waits.items) → IfOk q (λ changed. StepsOn table origin step zero two)
        by (Ok changed) m w = step-on changed m w
        by (Err e) m w = tt

-- a step that leads to no shape of the draft
pub nothing-taken : (table : Table) (origin : Origin) (step : Walked) (walker : Walker) → ((known : Memory) (draft : model.Draft) (place : ℕ) → StepRests table origin.state known draft place step) → StepsOn table origin step walker walker
nothing-taken table origin step walker rests = record {
  further = λ declared row steps done number in_waits far was. record { underway = by declared row steps done number was.underway };
}
  where
    by : (declared : Declared) (row : Row) (steps done : List Walked) → row.number ≡ origin.state → (waits_in walker.waiting.waits.items row.number ≡ true) ⊎ ((steps_of declared (draft_view walker.draft) row ≡ steps) × StepsRest table row.number (known_to walker) (draft_view walker.draft) 0 done)
        → (waits_in walker.waiting.waits.items row.number ≡ true) ⊎ ((steps_of declared (draft_view walker.draft) row ≡ steps) × StepsRest table row.number (known_to walker) (draft_view walker.draft) 0 (done ++ step ∷ []))
    by declared row steps done number (inl waiting) = inl waiting
    by declared row steps done number (inr rest) = inr (rest.0, rest-push table row.number (known_to walker) (draft_view walker.draft) 0 done step rest.1 (subst (λ m. StepRests table m (known_to walker) (draft_view walker.draft) (0 + length done) step) (sym number) (rests (known_to walker) (draft_view walker.draft) (0 + length done))))

-- ---- several steps

-- what is made twice
pub makes-twice : {A : Type 0} (room : A → ℕ) (f g : A → A) (a b c : A) (x y : Bool) → Makes room f a x b → Makes room g b y c → Makes room (λ d. g (f d)) a (x || y) c
makes-twice room f g a b c true true first then = record { made = then.made ∙ ap g first.made; told = omega (arith, first.told, then.told) }
makes-twice room f g a b c true false first then = record { made = then.made ∙ ap g first.made; told = subst (λ d. room d < room a) (sym then.told) first.told }
makes-twice room f g a b c false true first then = record { made = then.made ∙ ap g first.made; told = subst (λ d. room c < room d) first.told then.told }
makes-twice room f g a b c false false first then = record { made = then.made ∙ ap g first.made; told = then.told ∙ first.told }

-- the last step comes last
pub steps-push : (table : Table) (n : ℕ) (done : List Walked) (step : Walked) (d : model.Draft) → steps_taken table n (done ++ step ∷ []) d ≡ step_taken table n step (steps_taken table n done d)
steps-push table n [] step d = refl
steps-push table n (first ∷ done) step d = steps-push table n done step (step_taken table n first d)

-- ---- the walk along the edges so far

pub record HasWalked (table : Table) (n : ℕ) (steps done : List Walked) (first : Walker) (changed : Bool) (now : Walker) : Type 0 where
  pub makes : Makes room (steps_taken table n done) (draft_view first.draft) changed (draft_view now.draft)
  pub waits : StaysWaiting first.waiting now.waiting
  pub others : OthersStayCalm n first now
  pub walked : (declared : Declared) (row : Row) → row.number ≡ n → row.number < length now.waiting.waits.items → steps_of declared (draft_view first.draft) row ≡ steps → IsUnderway table declared row steps done now
  pub keeps : Keeps first.draft.store now.draft.store

module _ (table : Table) (n : ℕ) (steps : List Walked) (first : Walker) where
  -- along one more
  pub walked-more : (done : List Walked) (step : Walked) (one two : Walker) (origin : Origin) (before changed after : Bool) → HasWalked table n steps done first before one → origin.state ≡ n → length done ≡ origin.place → after ≡ (before || changed)
      → Makes room (step_taken table origin.state step) (draft_view one.draft) changed (draft_view two.draft) → StaysWaiting one.waiting two.waiting → OthersStayCalm origin.state one two → StepsOn table origin step one two → Keeps one.draft.store two.draft.store
      → HasWalked table n steps (done ++ step ∷ []) first after two
  walked-more done step one two origin before changed after h state place either makes waits others further keeps = record {
    makes = subst (λ c. Makes room (steps_taken table n (done ++ step ∷ [])) (draft_view first.draft) c (draft_view two.draft)) (sym either) (
        let twice = makes-twice room (steps_taken table n done) (step_taken table n step) (draft_view first.draft) (draft_view one.draft) (draft_view two.draft) before changed h.makes (subst (λ m. Makes room (step_taken table m step) (draft_view one.draft) changed (draft_view two.draft)) state makes) in
        record { made = twice.made ∙ sym (steps-push table n done step (draft_view first.draft)); told = twice.told });
    waits = record { many = waits.many ∙ h.waits.many; order = waits.order ∙ h.waits.order; stays = λ m w. waits.stays m (h.waits.stays m w) };
    others = record { calm = λ other declared row apart in_waits was. others.calm other declared row (λ e. apart (e ∙ state)) in_waits (h.others.calm other declared row apart (omega (arith, in_waits, waits.many)) was) };
    walked = λ declared row number in_waits same. further.further declared row steps done (number ∙ sym state) in_waits place (h.walked declared row number (omega (arith, in_waits, waits.many)) same);
    keeps = keeps_trans _ _ _ h.keeps keeps;
  }

-- whether a shape was changed so far
pub changed-now : (before changed : Bool) → changed ≡ true → true ≡ (before || changed)
changed-now true changed is = refl
changed-now false changed is = sym is

pub unchanged-now : (before changed : Bool) → changed ≡ false → before ≡ (before || changed)
unchanged-now true changed is = refl
unchanged-now false changed is = sym is
