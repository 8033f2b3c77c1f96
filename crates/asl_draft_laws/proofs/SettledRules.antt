-- A draft that a round leaves as it is comes to a certificate that breaks no rule, where names stand in order.
use Rattle.std.proofs.Common.{◌≡◌, refl, sym, ap, ◌∙◌, subst, ℕ, List, [], ◌∷◌, ◌++◌, Contains, true, false, Option, Some, None, is_some, Ok}
use Rattle.asl_model.specs.Breaches.{Breach, Finding, Surroundings, breach_shown, breach_unless_sub}
use Rattle.asl_model.specs.Certificate.{Declared, StateShapes, Certificate, HasEntry, IsClosed, under, certified_input, input_among, output_among, or_never, takes_of, gives_of}
use Rattle.asl_model.specs.Edges.{Destination, ToInput, ToOutput, ToEnd, ToTask, DestinationShapes, Edge, Walked, Flows, Breaks, stands_at, breaches_at, breaches_along, destination_shapes, walk}
use Rattle.asl_model.specs.Examples.{outside}
use Rattle.asl_model.specs.Finding.{findings, flow_breaches}
use Rattle.asl_model.specs.FindingRules.{HasScope, has_itself, has_branch, has_processor, HasState, IsSurrounded, IsCompared, compared_with_entry, compared_with_never}
use Rattle.asl_model.specs.Machine.{Settings, Scope, StateOf, Kind, Parallel, Map, start_of, state_named, IsScopeOf}
use Rattle.asl_model.specs.Numbering.{kind_outline, table_of, IsWellNamed}
use Rattle.asl_model.specs.RecordShapes.{HoldsForDeclared, HoldsForCertificate}
use Rattle.asl_model.specs.Shape.{Shape, Inside, IsOrdered}
use Rattle.asl_model.proofs.FindingListed.{told_listed}
use Rattle.asl_model.proofs.FindingNames.{task_is_named, named_task, named_state}
use Rattle.asl_model.proofs.FindingRules.{told_exactly}
use Rattle.asl_model.proofs.FindingShown.{IsTold, told_uncertified, told_no_state, told_undeclared, told_unknown, told_start, told_flow}
use Rattle.asl_model.proofs.Listed.{none_in, first_in}
use Rattle.asl_model.proofs.NamedStates.{branch_at, entry_there, scope_is, state_found}
use Rattle.asl_model.proofs.OrderedStates.{surroundings-in_order}
use Rattle.asl_model.proofs.RunOptions.{some_inj, none_some}
use Rattle.asl_model.proofs.ShapeHonest.{inside-sub}
use Rattle.asl_model.proofs.ShapeOutside.{outside-exactly}
use Rattle.asl_draft_laws.specs.Drafts.{Draft, certificate_of, rows_of, after_rounds, round}
use Rattle.asl_draft_laws.specs.Fits.{AllFit, certified_at}
use Rattle.asl_draft_laws.proofs.DraftShapes.{IsDraftOf, rounds-are}
use Rattle.asl_draft_laws.proofs.DraftsStay.{AreAtRest, settled-rests}
use Rattle.asl_draft_laws.proofs.SettledClosed.{HasEnd, certified-at, child-end, own-end, settled-closed, state-fits}
use Rattle.asl_draft_laws.proofs.WalkOrdered.{AllOrdered, walk-ordered}

-- ---- a walk on which all fits

-- what is inside leaves no tree outside
none-outside : (a b : Shape) → IsOrdered a → Inside a b → outside a b ≡ None
none-outside a b ordered inside = (outside-exactly a b).1 (inside-sub a b ordered inside)

module _ (declared : Declared) (certificate : Certificate) (end : Shape) (n : List ℕ) (shapes : DestinationShapes) where
  -- what stands at a destination is what is certified there
  abbrev Agree : Type 0
  Agree = (to : Destination) (expected : Shape) → stands_at shapes to ≡ Some expected → certified_at declared certificate end n to ≡ expected

  edge-none : (agree : Agree) (edge : Edge) → Inside edge.flowing (certified_at declared certificate end n edge.destination) → IsOrdered edge.flowing → breaches_at shapes (Flows edge) ≡ []
  edge-none agree edge inside ordered = go (stands_at shapes edge.destination) refl
    where
      go : (o : Option Shape) → stands_at shapes edge.destination ≡ o → breach_unless_sub edge.field edge.fault edge.flowing o ≡ []
      go None e = refl
      go (Some expected) e = ap (breach_shown edge.field edge.fault) (none-outside edge.flowing expected ordered (subst (Inside edge.flowing) (agree edge.destination expected e) inside))

  along-none : (agree : Agree) (steps : List Walked) → AllFit declared certificate end n steps → AllOrdered steps → breaches_along shapes steps ≡ []
  along-none agree [] fit ordered = refl
  along-none agree (Flows edge ∷ steps) fit ordered = ap (λ (here : List Breach). here ++ breaches_along shapes steps) (edge-none agree edge fit.0 ordered.0) ∙ along-none agree steps fit.1 ordered.1
  along-none agree (Breaks breach ∷ steps) fit ordered = absurd fit.0

-- ---- a draft that rests

module _ (machine : Scope) (w : IsWellNamed machine) (declared : Declared) (draft : Draft) (is : IsDraftOf (table_of machine) draft) (rests : AreAtRest (table_of machine) declared (rows_of (table_of machine)) draft) where
  abbrev made : Certificate
  made = certificate_of (table_of machine) draft

  is_scope : {scope : Scope} {end : Option Shape} → HasScope machine made scope end → IsScopeOf machine scope
  is_scope s = scope_is machine made w s

  found_state : {n : List ℕ} {settings : Settings} {kind : Kind} {end : Option Shape} (state : HasState machine made n settings kind end) → state_named n state.scope ≡ Some (StateOf settings kind)
  found_state state = state_found machine made w state

  -- ---- ends

  end-of : {scope : Scope} {end : Option Shape} → HasScope machine made scope end → (n : List ℕ) (settings : Settings) (kind : Kind) → state_named n scope ≡ Some (StateOf settings kind) → HasEnd machine w declared draft is rests n settings kind (or_never end)
  end-of has_itself n settings kind e = own-end machine w declared draft is rests n settings kind e
  end-of (has_branch {scope = scope} {branch = branch} {n = m} {settings = above} {branches = branches} {i = i} s a b) n settings kind e =
      child-end machine w declared draft is rests scope (is_scope s) m above (Parallel branches) (found_state (record { scope = scope; has_scope = s; among = a })) i n settings kind (subst (λ (c : Scope). state_named n c ≡ Some (StateOf settings kind)) (sym (branch_at b).1) e)
  end-of (has_processor {scope = scope} {processor = processor} {n = m} {settings = above} {items = items} {selector = selector} s a) n settings kind e =
      child-end machine w declared draft is rests scope (is_scope s) m above (Map items selector processor) (found_state (record { scope = scope; has_scope = s; among = a })) 0 n settings kind e

  -- ---- what flows

  -- what is compared with is certified
  compared : (n : List ℕ) (expected : Shape) → IsCompared machine made n expected → certified_input made n ≡ expected
  compared n expected (compared_with_entry e) = ap input_among e
  compared n expected (compared_with_never e none) = ap input_among e

  module _ (known : HoldsForDeclared IsOrdered declared) (sure : HoldsForCertificate IsOrdered made) where
    flow-none : (around : Surroundings) (settings : Settings) (kind : Kind) → IsSurrounded machine declared made settings kind around → flow_breaches around settings kind ≡ []
    flow-none around settings kind at =
        let named = found_state at.state in
        let end = end-of at.state.has_scope around.name settings kind named in
        let fits = state-fits machine w declared draft is rests at.state.scope (is_scope at.state.has_scope) around.name settings kind named end.number end.named end.shown (or_never around.end) end.inside in
        let entry = some_inj (sym (certified-at machine w declared draft is rests end.number around.name (StateOf settings (kind_outline kind)) end.named end.shown) ∙ at.entry) in
        let order = surroundings-in_order machine declared made settings kind around known sure at in
        let same : gives_of declared around.name ≡ gives_of around.declared around.name = ap (λ (d : Declared). gives_of d around.name) (sym at.tasks) in
        along-none declared made (or_never around.end) around.name (destination_shapes around) agree (walk (gives_of around.declared around.name) settings kind around.entry)
        (subst (λ g. AllFit declared made (or_never around.end) around.name (walk g settings kind around.entry)) same (subst (λ (own : StateShapes). AllFit declared made (or_never around.end) around.name (walk (gives_of declared around.name) settings kind own)) entry fits))
        (walk-ordered settings around.entry order.entry (gives_of around.declared around.name) kind order.gives)
      where
        agree : (to : Destination) (expected : Shape) → stands_at (destination_shapes around) to ≡ Some expected → certified_at declared made (or_never around.end) around.name to ≡ expected
        agree (ToInput next) expected e = compared next expected ((at.inputs next expected).0 e)
        agree ToOutput expected e = ap output_among at.entry ∙ some_inj e
        agree ToEnd expected e = ap or_never e
        agree ToTask expected e = ap (λ (d : Declared). takes_of d around.name) (sym at.tasks) ∙ some_inj e

    -- ---- all rules

    module _ (closed : IsClosed declared made machine) where
      none-told : (f : Finding) → IsTold machine declared made f → ⊥
      none-told f (told_uncertified {n = n} {settings = settings} {kind = kind} state none) =
          none (entry state.has_scope (found_state state))
        where
          entry : {scope : Scope} {end : Option Shape} → HasScope machine made scope end → state_named n scope ≡ Some (StateOf settings kind) → HasEntry made n kind
          entry has_itself e = (closed.own n (StateOf settings kind) e).entry
          entry (has_branch {scope = scope} {n = m} {settings = above} {branches = branches} {i = i} s a b) e =
              (closed.children scope (is_scope s) m (StateOf above (Parallel branches)) (found_state (record { scope = scope; has_scope = s; among = a })) i n (StateOf settings kind) (subst (λ (c : Scope). state_named n c ≡ Some (StateOf settings kind)) (sym (branch_at b).1) e)).entry
          entry (has_processor {scope = scope} {processor = processor} {n = m} {settings = above} {items = items} {selector = selector} s a) e =
              (closed.children scope (is_scope s) m (StateOf above (Map items selector processor)) (found_state (record { scope = scope; has_scope = s; among = a })) 0 n (StateOf settings kind) e).entry
      none-told f (told_no_state {entry = entry} among none) =
          let known_state = named_state machine made entry.0 (closed.no_other_entry entry.0 (entry_there made.states entry among)) in
          none known_state.0 known_state.1 known_state.2 known_state.3
      none-told f (told_undeclared {n = n} state none) =
          let there = (closed.tasks n).1 (task_is_named state) in
          absurd (let e : is_some (under n declared.tasks) ≡ false = ap is_some none in let h : is_some (under n declared.tasks) ≡ true = there in cc)
      none-told f (told_unknown {task = task} among none) =
          let found = named_task machine made task.0 ((closed.tasks task.0).0 (entry_there declared.tasks task among)) in
          none found.0 found.1 found.2 found.3
      none-told f (told_start {expected = expected} {t = t} at e) =
          let none = none-outside declared.input expected known.input (subst (Inside declared.input) (compared (start_of machine) expected at) closed.start) in
          none_some (sym none ∙ e)
      none-told f (told_flow {around = around} {settings = settings} {kind = kind} {field = field} {fault = fault} {example = example} at live tells) =
          let breach : Breach = record { field = field; fault = fault; example = example } in
          none_in breach (subst (λ (rules : List Breach). Contains rules breach) (flow-none around settings kind at) (told_listed around settings live kind tells))

      none-found : findings machine declared made ≡ []
      none-found = go (findings machine declared made) refl
        where
          go : (all : List Finding) → findings machine declared made ≡ all → findings machine declared made ≡ []
          go [] e = e
          go (f ∷ further) e = absurd (none-told f ((told_exactly machine declared made f).1 (subst (λ all. Contains all f) (sym e) (first_in f further))))

pub settled-breaks-none : (machine : Scope) (declared : Declared) (rounds : ℕ) (draft : Draft) → IsWellNamed machine → after_rounds (table_of machine) declared rounds ≡ Ok draft → round (table_of machine) declared draft ≡ Ok draft → HoldsForDeclared IsOrdered declared → HoldsForCertificate IsOrdered (certificate_of (table_of machine) draft) → findings machine declared (certificate_of (table_of machine) draft) ≡ []
settled-breaks-none machine declared rounds draft w comes stays known sure =
    let is = rounds-are (table_of machine) declared rounds draft comes in
    let rests = settled-rests (table_of machine) declared draft stays in
    none-found machine w declared draft is rests.1 known sure (settled-closed machine declared rounds draft w comes stays)
