-- A draft that a round leaves as it is comes to a closed certificate, where each Task is declared and no other.
use Rattle.std.proofs.Common.{◌≡◌, ◌<◌, ◌+◌, ℕ, zero, suc, List, [], ◌∷◌, length, ◌++◌, map, Bool, true, false, ◌&&◌, ◌||◌, not, if◌then◌else◌, Option, Some, None, option_map, Result, Ok, Err, codes, slice_get, refl, sym, ap, subst, ◌∙◌, ◌⊎◌, inl, inr, arith}
use Rattle.std.specs.Prelude.{IsTrue, ◌↔◌, bytes_eq, is_some, position}
use Rattle.std.specs.List.{list_any}
use Rattle.std.specs.Option.{unwrap_or}
use Rattle.std.proofs.lemmas.Bool.{and_parts, or_cases, false≢true}
use Rattle.std.proofs.lemmas.Option.{slice_get-map}
use Rattle.std.proofs.lemmas.Slice.Eq.{bytes_eq-Decides}
use Rattle.asl_model.specs.Certificate.{TaskShapes, Declared, StateShapes, Certificate, under, certified, certified_input, certified_output, input_among, output_among, branches_in, is_map, child_end, or_never, takes_of, gives_of, HasEntry, IsClosedAt, IsClosed}
use Rattle.asl_model.specs.Edges.{Destination, ToInput, ToOutput, ToEnd, ToTask, DestinationShapes, Edge, Walked, Flows, Breaks, breaches_at, walk}
use Rattle.asl_model.specs.Finding.{Finding, TaskUndeclared, TaskUnknown, breach_unless, found_at}
use Rattle.asl_model.specs.FindingRules.{HasState}
use Rattle.asl_model.specs.Machine.{Scope, ScopeOf, States, NoStates, AndState, State, StateOf, Settings, Kind, Pass, Task, Choice, Wait, Succeed, Fail, Parallel, Map, Scopes, NoScopes, AndScope, settings_of, kind_of, start_of, is_task, state_named, state_among, scope_at, child_scope, how_many, names_state, names_task, IsScopeOf, own_scope, scope_of_child, HasNamed, targets_of}
use Rattle.asl_model.specs.Numbering.{Standing, Table, Placement, IsWellNamed, kind_outline, number_or_0, outline, outlined, placement_of, standing, standing_in, standing_among, standing_inside, standing_by, standing_each, table_of}
use Rattle.asl_model.specs.Shape.{Shape, Any, Inside}
use Rattle.asl_model.specs.ShapeSpelling.{are_distinct}
use Rattle.asl_model.proofs.FindingNames.{named_task, state_is_named, task_is_named, is_a_task}
use Rattle.asl_model.proofs.FindingScopes.{append-none, found-none, none-unless}
use Rattle.asl_model.proofs.FindingStates.{sub-none}
use Rattle.asl_model.proofs.NumberedRows.{leads_to_row}
use Rattle.asl_model.proofs.NumberedScopes.{IsListed, all_stand, listed_left, listed_right, scope_holds}
use Rattle.asl_model.proofs.NumberedStates.{number_found, stands_at}
use Rattle.asl_model.proofs.Numbering.{names_of_standing, outlined_names}
use Rattle.asl_model.proofs.OutlinedRules.{how-many-outlined}
use Rattle.asl_model.proofs.RunOptions.{none_some, some_inj}
use Rattle.asl_model.proofs.StandingStates.{is_named, is_shown, state_numbered}
use Rattle.asl_draft_laws.specs.Drafts.{Growth, Draft, DraftEntry, Row, MachineOutput, Input, Output, End, children_in, first_draft, entry_with, entry_of, taken_at, end_target, target_of, own_breaches, rows_of, unless_found, unless_told, after_rounds, round, input_taken, certificate_of, undeclared, unknown, misnamed}
use Rattle.asl_draft_laws.specs.Fits.{AllFit, certified_at}
use Rattle.asl_draft_laws.proofs.CertifiedRows.{Among, branch-at, certified-named, certified-row, entry-form, ordered-none, row-known, row-there}
use Rattle.asl_draft_laws.proofs.DraftShapes.{IsDraftOf, end-stays, entry-of, entry-there, input-stays, output-stays, rounds-are}
use Rattle.asl_draft_laws.proofs.DraftsStay.{AllStay, AreAtRest, IsAtRest, settled-rests}
use Rattle.asl_draft_laws.proofs.TakenIn.{stays-inside}
use Rattle.asl_draft_laws.proofs.WalkLeads.{AllLead, ChildrenLead, StartsLead, each-of, walk-leads, walk-outlined}
use Rattle.asl_draft_laws.proofs.WalkedClosed.{walked-closed}

-- ---- states as they stand, with the owners of their scopes

found-among : (start : List ℕ) (owner : Option (List ℕ × ℕ)) (held : States) (n : List ℕ) (state : State) → state_among n held ≡ Some state → IsListed (standing_among start owner held) (record { name = n; state = state; start = start; owner = owner })
found-among start owner NoStates n state e = none_some e
found-among start owner (AndState m other others) n state e = by (bytes_eq m n) refl e (found-among start owner others n state)
  where
    by : (same : Bool) → bytes_eq m n ≡ same → (if same then Some other else state_among n others) ≡ Some state → (state_among n others ≡ Some state → IsListed (standing_among start owner others) (record { name = n; state = state; start = start; owner = owner })) → IsListed (standing_among start owner (AndState m other others)) (record { name = n; state = state; start = start; owner = owner })
    by true f g further = inl (ap (λ (k : List ℕ). record { name = k; state = other; start = start; owner = owner }) ((bytes_eq-Decides m n).0 f) ∙ ap (λ (s : State). record { name = n; state = s; start = start; owner = owner }) (some_inj g))
    by false f g further = inr (listed_right (standing_inside m other) (standing_among start owner others) (record { name = n; state = state; start = start; owner = owner }) (further g))

found-in : (owner : Option (List ℕ × ℕ)) (scope : Scope) (n : List ℕ) (state : State) → state_named n scope ≡ Some state → IsListed (standing_in owner scope) (record { name = n; state = state; start = start_of scope; owner = owner })
found-in owner (ScopeOf start held) n state e = found-among start owner held n state e

-- a state of a branch, with the branch's number
found-branch : (m : List ℕ) (j : ℕ) (branches : Scopes) (i : ℕ) (n : List ℕ) (state : State) → state_named n (scope_at i branches) ≡ Some state → (i < how_many branches) × IsListed (standing_each m j branches) (record { name = n; state = state; start = start_of (scope_at i branches); owner = Some (m, j + i) })
found-branch m j NoScopes i n state e = none_some e
found-branch m j (AndScope scope others) zero n state e =
    let same : j ≡ j + 0 = omega arith in (
      omega arith,
      listed_left (standing_in (Some (m, j)) scope) (standing_each m (suc j) others) (record { name = n; state = state; start = start_of scope; owner = Some (m, j + 0) })
          (subst (λ k. IsListed (standing_in (Some (m, j)) scope) (record { name = n; state = state; start = start_of scope; owner = Some (m, k) })) same (found-in (Some (m, j)) scope n state e)),
    )
found-branch m j (AndScope scope others) (suc i) n state e =
    let below = found-branch m (suc j) others i n state e in
    let same : suc j + i ≡ j + suc i = omega arith in (
      omega (arith, below.0),
      listed_right (standing_in (Some (m, j)) scope) (standing_each m (suc j) others) (record { name = n; state = state; start = start_of (scope_at i others); owner = Some (m, j + suc i) })
          (subst (λ k. IsListed (standing_each m (suc j) others) (record { name = n; state = state; start = start_of (scope_at i others); owner = Some (m, k) })) same below.1),
    )

-- a state in the scope of a child: the number under which the scope belongs to its state is that of one of the ends
pub record StandsInChild (m : List ℕ) (parent : Kind) (i : ℕ) (n : List ℕ) (state : State) : Type 0 where
  pub child : ℕ
  pub within : child < children_in (kind_outline parent)
  pub listed : IsListed (standing_by m parent) (record { name = n; state = state; start = start_of (child_scope parent i); owner = Some (m, child) })
  pub end : (entry : DraftEntry) (s : Shape) → slice_get (map (λ (g : Growth). g.shape) entry.ends) child ≡ Some s → or_never (child_end parent (Some (entry_with (kind_outline parent) entry)) i) ≡ s

found-child : (m : List ℕ) (parent : Kind) (i : ℕ) (n : List ℕ) (state : State) → state_named n (child_scope parent i) ≡ Some state → StandsInChild m parent i n state
found-child m (Pass result) i n state e = none_some e
found-child m (Task resource) i n state e = none_some e
found-child m (Choice rules default) i n state e = none_some e
found-child m (Wait delay) i n state e = none_some e
found-child m Succeed i n state e = none_some e
found-child m (Fail error cause) i n state e = none_some e
found-child m (Parallel branches) i n state e =
    let found = found-branch m 0 branches i n state e in
    let many = how-many-outlined branches in
    let same : 0 + i ≡ i = omega arith in
    record {
      child = i;
      within = omega (arith, found.0, many);
      listed = subst (λ k. IsListed (standing_each m 0 branches) (record { name = n; state = state; start = start_of (scope_at i branches); owner = Some (m, k) })) same found.1;
      end = λ entry s at. ap or_never (branch-at i (map (λ (g : Growth). g.shape) entry.ends) ∙ at);
    }
found-child m (Map items selector processor) i n state e = record {
  child = 0;
  within = omega arith;
  listed = found-in (Some (m, 0)) processor n state e;
  end = λ entry s at. ap or_never at;
}

-- what stands at the destinations of edges whatever is certified: what the task takes
abbrev pub own_shapes : Shape → DestinationShapes
own_shapes takes = record { inputs = λ n. None; output = Any; end = None; takes = takes }

-- one of the rows is that of a Task of that name
abbrev pub have_task : List ℕ → List Row → Bool
have_task n rows = list_any (λ row. bytes_eq row.name n && is_task (kind_of row.state)) rows

-- where the rounds come to a draft, the names of tasks are right
names-right : (table : Table) (declared : Declared) (rounds : ℕ) (draft : Draft) → after_rounds table declared rounds ≡ Ok draft → misnamed table declared ≡ []
names-right table declared zero draft h = go (misnamed table declared) refl h
  where
    go : (findings : List Finding) → misnamed table declared ≡ findings → unless_found findings (first_draft table) ≡ Ok draft → misnamed table declared ≡ []
    go [] is e = is
    go (found ∷ further) is e = absurd (cc)
names-right table declared (suc n) draft h = go (after_rounds table declared n) refl h (names-right table declared n)
  where
    go : (r : Result Draft Finding) → after_rounds table declared n ≡ r → unless_told (round table declared) r ≡ Ok draft → ((before : Draft) → after_rounds table declared n ≡ Ok before → misnamed table declared ≡ []) → misnamed table declared ≡ []
    go (Ok before) is e further = further before is
    go (Err found) is e further = absurd (cc)

-- ---- rows of the table

module _ (machine : Scope) (w : IsWellNamed machine) where
  abbrev pub table : Table
  table = table_of machine

  distinct-standing : are_distinct (map (λ (s : Standing). s.name) (standing machine)) ≡ true
  distinct-standing = ap are_distinct (names_of_standing None machine) ∙ w.distinct

  distinct-names : are_distinct table.names ≡ true
  distinct-names = ap are_distinct (outlined_names (standing machine)) ∙ distinct-standing

  -- the row of a state as it stands
  pub record Stands (s : Standing) : Type 0 where
    pub number : ℕ
    pub found : position (bytes_eq s.name) table.names ≡ Some number
    pub named : slice_get table.names number ≡ Some s.name
    pub shown : slice_get table.states number ≡ Some (outline s.state)
    pub placed : slice_get table.placements number ≡ Some (placement_of (map outlined (standing machine)) (outlined s))

  made-of : {A : Type 0} (f : Standing → A) (i : ℕ) (s : Standing) → slice_get (standing machine) i ≡ Some s → slice_get (map f (map outlined (standing machine))) i ≡ Some (f (outlined s))
  made-of f i s e = slice_get-map f (map outlined (standing machine)) i ∙ ap (option_map f) (slice_get-map outlined (standing machine) i ∙ ap (option_map outlined) e)

  stands : (s : Standing) → IsListed (standing machine) s → Stands s
  stands s listed =
      let at = stands_at (standing machine) s distinct-standing listed in
      record {
        number = at.number;
        found = ap (position (bytes_eq s.name)) (outlined_names (standing machine)) ∙ number_found (standing machine) s at;
        named = made-of (λ t. t.name) at.number s at.here;
        shown = made-of (λ t. t.state) at.number s at.here;
        placed = made-of (placement_of (map outlined (standing machine))) at.number s at.here;
      }

  -- a name that leads to a state of the table
  pub record LeadsTo (n : List ℕ) : Type 0 where
    pub number : ℕ
    pub state : State
    pub found : position (bytes_eq n) table.names ≡ Some number
    pub named : slice_get table.names number ≡ Some n
    pub shown : slice_get table.states number ≡ Some state

  leads-in : (scope : Scope) → IsScopeOf machine scope → (n : List ℕ) → HasNamed scope n → LeadsTo n
  leads-in scope is_scope n has =
      let led = leads_to_row machine scope w is_scope n has in
      record { number = led.row.number; state = outline led.state; found = led.row.found; named = led.row.named; shown = led.row.shown }

  module _ (scope : Scope) (is_scope : IsScopeOf machine scope) (n : List ℕ) where
    -- the starts of the branches of a state
    starts-lead : (settings : Settings) (branches : Scopes) → ((i : ℕ) → i < how_many branches → LeadsTo (start_of (scope_at i branches))) → StartsLead LeadsTo branches
    starts-lead settings NoScopes all = tt
    starts-lead settings (AndScope branch others) all = (all 0 (omega arith), starts-lead settings others (λ i within. all (suc i) (omega (arith, within))))

    children-lead : (settings : Settings) (kind : Kind) → state_named n scope ≡ Some (StateOf settings kind) → ChildrenLead LeadsTo kind
    children-lead settings (Pass result) e = tt
    children-lead settings (Task resource) e = tt
    children-lead settings (Choice rules default) e = tt
    children-lead settings (Wait delay) e = tt
    children-lead settings Succeed e = tt
    children-lead settings (Fail error cause) e = tt
    children-lead settings (Parallel branches) e =
        starts-lead settings branches (λ i within. leads-in (scope_at i branches) (scope_of_child n (StateOf settings (Parallel branches)) i is_scope e) (start_of (scope_at i branches)) (w.leads.branch_starts scope is_scope n settings branches e i within))
    children-lead settings (Map items selector processor) e =
        leads-in processor (scope_of_child n (StateOf settings (Map items selector processor)) 0 is_scope e) (start_of processor) (w.leads.processor_starts scope is_scope n settings items selector processor e)

    -- all edges of a state lead to states of the table
    edges-lead : (gives : Shape) (settings : Settings) (kind : Kind) (entry : StateShapes) → state_named n scope ≡ Some (StateOf settings kind) → AllLead LeadsTo (walk gives settings kind entry)
    edges-lead gives settings kind entry e =
        walk-leads LeadsTo gives settings kind entry (each-of LeadsTo (targets_of (StateOf settings kind)) (λ m among. leads-in scope is_scope m (w.leads.targets scope is_scope n (StateOf settings kind) e m among))) (children-lead settings kind e)

  -- ---- the certificate of a draft

  module _ (declared : Declared) (draft : Draft) (is : IsDraftOf table draft) (rests : AreAtRest table declared (rows_of table) draft) where
    abbrev pub certificate : Certificate
    certificate = certificate_of table draft

    -- what is certified of a state of the table
    pub certified-at : (k : ℕ) (n : List ℕ) (state : State) → slice_get table.names k ≡ Some n → slice_get table.states k ≡ Some state → certified certificate n ≡ Some (entry_of draft (record { number = k; name = n; state = state }))
    certified-at k n state named shown = certified-row table draft distinct-names k n state named shown

    at-rest : (rows : List Row) → AreAtRest table declared rows draft → (row : Row) → Among rows row → IsAtRest table declared row draft
    at-rest [] all row h = absurd h
    at-rest (x ∷ xs) all row (inl e) = subst (λ r. IsAtRest table declared r draft) e all.0
    at-rest (x ∷ xs) all row (inr h) = at-rest xs all.1 row h

    -- what flows into an input that stays is inside it
    input-inside : (k : ℕ) (n : List ℕ) (state : State) (s : Shape) → slice_get table.names k ≡ Some n → slice_get table.states k ≡ Some state → taken_at (Some (Input k)) s draft ≡ draft → Inside s (certified_input certificate n)
    input-inside k n state s named shown stays =
        let has = entry-there table draft k state is shown in
        let same : certified_input certificate n ≡ has.entry.input.shape = ap input_among (certified-at k n state named shown) ∙ ap (λ (shapes : StateShapes). shapes.input) (entry-of draft (record { number = k; name = n; state = state }) has) in
        subst (Inside s) (sym same) (input-stays draft k (kind_of state) s has stays)

    -- so for an output
    output-inside : (k : ℕ) (n : List ℕ) (state : State) (s : Shape) → slice_get table.names k ≡ Some n → slice_get table.states k ≡ Some state → taken_at (Some (Output k)) s draft ≡ draft → Inside s (certified_output certificate n)
    output-inside k n state s named shown stays =
        let has = entry-there table draft k state is shown in
        let same : certified_output certificate n ≡ has.entry.output.shape = ap output_among (certified-at k n state named shown) ∙ ap (λ (shapes : StateShapes). shapes.output) (entry-of draft (record { number = k; name = n; state = state }) has) in
        subst (Inside s) (sym same) (output-stays draft k (kind_of state) s has stays)

    -- what flows to the end of a scope where it stays is inside what is certified there
    abbrev pub EndsInside : ℕ → Shape → Type 0
    EndsInside k end = (s : Shape) → taken_at (target_of table k ToEnd) s draft ≡ draft → Inside s end

    module _ (k : ℕ) (n : List ℕ) (state : State) (named : slice_get table.names k ≡ Some n) (shown : slice_get table.states k ≡ Some state) (end : Shape) (ends : EndsInside k end) where
      edge-fits : (edge : Edge) (to : Destination) → breaches_at (own_shapes (takes_of declared n)) (Flows (record { flowing = edge.flowing; destination = to; field = edge.field; fault = edge.fault })) ≡ [] → taken_at (target_of table k to) edge.flowing draft ≡ draft → Rattle.asl_draft_laws.proofs.WalkLeads.DestinationLeads LeadsTo to → Inside edge.flowing (certified_at declared certificate end n to)
      edge-fits edge (ToInput next) whole stays lead =
          input-inside lead.number next lead.state edge.flowing lead.named lead.shown (subst (λ o. taken_at (option_map Input o) edge.flowing draft ≡ draft) lead.found stays)
      edge-fits edge ToOutput whole stays lead = output-inside k n state edge.flowing named shown stays
      edge-fits edge ToEnd whole stays lead = ends edge.flowing stays
      edge-fits edge ToTask whole stays lead = sub-none edge.field edge.fault edge.flowing (takes_of declared n) whole

      steps-fit : (steps : List Walked) → own_breaches (takes_of declared n) steps ≡ [] → AllStay table k steps draft → AllLead LeadsTo steps → AllFit declared certificate end n steps
      steps-fit [] whole stay lead = tt
      steps-fit (Flows edge ∷ steps) whole stay lead =
          let parts = append-none (breaches_at (own_shapes (takes_of declared n)) (Flows edge)) (own_breaches (takes_of declared n) steps) whole in
          (edge-fits edge edge.destination parts.0 stay.0 lead.0, steps-fit steps parts.1 stay.1 lead.1)
      steps-fit (Breaks breach ∷ steps) whole stay lead = absurd (cc)

    -- all that flows through a state of a scope is inside what is certified there
    pub state-fits : (scope : Scope) → IsScopeOf machine scope → (n : List ℕ) (settings : Settings) (kind : Kind) → state_named n scope ≡ Some (StateOf settings kind) → (k : ℕ) → slice_get table.names k ≡ Some n → slice_get table.states k ≡ Some (StateOf settings (kind_outline kind)) → (end : Shape) → EndsInside k end → AllFit declared certificate end n (walk (gives_of declared n) settings kind (entry_of draft (record { number = k; name = n; state = StateOf settings (kind_outline kind) })))
    state-fits scope is_scope n settings kind e k named shown end ends =
        let row : Row = record { number = k; name = n; state = StateOf settings (kind_outline kind) } in
        let entry = entry_of draft row in
        let rest = at-rest (rows_of table) rests row (row-there table k n (StateOf settings (kind_outline kind)) named shown) in
        let lead : AllLead LeadsTo (walk (gives_of declared n) settings (kind_outline kind) entry) = subst (AllLead LeadsTo) (sym (walk-outlined (gives_of declared n) settings entry kind)) (edges-lead scope is_scope n (gives_of declared n) settings kind entry e) in
        subst (AllFit declared certificate end n) (walk-outlined (gives_of declared n) settings entry kind) (steps-fit k n (StateOf settings (kind_outline kind)) named shown end ends (walk (gives_of declared n) settings (kind_outline kind) entry) rest.whole rest.stays lead)

    -- the certificate is closed at a state of a scope
    closed-at : (scope : Scope) → IsScopeOf machine scope → (n : List ℕ) (settings : Settings) (kind : Kind) → state_named n scope ≡ Some (StateOf settings kind) → (k : ℕ) → slice_get table.names k ≡ Some n → slice_get table.states k ≡ Some (StateOf settings (kind_outline kind)) → (end : Shape) → EndsInside k end → IsClosedAt declared certificate end n (StateOf settings kind)
    closed-at scope is_scope n settings kind e k named shown end ends =
        let row : Row = record { number = k; name = n; state = StateOf settings (kind_outline kind) } in
        let entry = entry_of draft row in
        let has = entry-there table draft k (StateOf settings (kind_outline kind)) is shown in
        let form = subst (λ (shapes : StateShapes). (length shapes.branches ≡ branches_in (kind_outline kind)) × (is_some shapes.item ≡ is_map (kind_outline kind))) (sym (entry-of draft row has)) (entry-form (kind_outline kind) has.entry has.many) in
        let there : HasEntry certificate n kind = record { shapes = entry; stands = certified-at k n (StateOf settings (kind_outline kind)) named shown; branches = form.0 ∙ branches-same kind; item = form.1 ∙ map-same kind } in
        walked-closed declared certificate end n settings kind there (state-fits scope is_scope n settings kind e k named shown end ends)
      where
        branches-same : (other : Kind) → branches_in (kind_outline other) ≡ branches_in other
        branches-same (Pass result) = refl
        branches-same (Task resource) = refl
        branches-same (Choice rules default) = refl
        branches-same (Wait delay) = refl
        branches-same Succeed = refl
        branches-same (Fail error cause) = refl
        branches-same (Parallel branches) = how-many-outlined branches
        branches-same (Map items selector processor) = refl

        map-same : (other : Kind) → is_map (kind_outline other) ≡ is_map other
        map-same (Pass result) = refl
        map-same (Task resource) = refl
        map-same (Choice rules default) = refl
        map-same (Wait delay) = refl
        map-same Succeed = refl
        map-same (Fail error cause) = refl
        map-same (Parallel branches) = refl
        map-same (Map items selector processor) = refl

    -- the number of a state, and what flows to the end of its scope
    pub record HasEnd (n : List ℕ) (settings : Settings) (kind : Kind) (end : Shape) : Type 0 where
      pub number : ℕ
      pub named : slice_get table.names number ≡ Some n
      pub shown : slice_get table.states number ≡ Some (StateOf settings (kind_outline kind))
      pub inside : EndsInside number end

    pub own-end : (n : List ℕ) (settings : Settings) (kind : Kind) → state_named n machine ≡ Some (StateOf settings kind) → HasEnd n settings kind certificate.output
    own-end n settings kind e =
        let s = stands (record { name = n; state = StateOf settings kind; start = start_of machine; owner = None }) (found-in None machine n (StateOf settings kind) e) in
        record {
          number = s.number;
          named = s.named;
          shown = s.shown;
          inside = λ shape stays.
              let taken : taken_at (Some MachineOutput) shape draft ≡ draft = subst (λ o. taken_at (option_map (λ (p : Placement). end_target p.owner) o) shape draft ≡ draft) s.placed stays in
              stays-inside shape draft.output is.output (ap (λ (d : Draft). d.output) taken);
        }

    -- in the machine's own scope
    own-closed : (n : List ℕ) (state : State) → state_named n machine ≡ Some state → IsClosedAt declared certificate certificate.output n state
    own-closed n (StateOf settings kind) e =
        let s = own-end n settings kind e in
        closed-at machine own_scope n settings kind e s.number s.named s.shown certificate.output s.inside

    -- the end of the scope of a child
    pub child-end : (scope : Scope) → IsScopeOf machine scope → (n : List ℕ) (above : Settings) (parent : Kind) → state_named n scope ≡ Some (StateOf above parent) → (i : ℕ) (m : List ℕ) (settings : Settings) (kind : Kind) → state_named m (child_scope parent i) ≡ Some (StateOf settings kind) → HasEnd m settings kind (or_never (child_end parent (certified certificate n) i))
    child-end scope is_scope n above parent e i m settings kind f =
        let found = found-child n parent i m (StateOf settings kind) f in
        let outer = all_stand machine scope is_scope n (StateOf above parent) e in
        let owner : Standing = record { name = n; state = StateOf above parent; start = start_of scope; owner = outer.owner } in
        let own = stands owner outer.listed in
        let here : Standing = record { name = m; state = StateOf settings kind; start = start_of (child_scope parent i); owner = Some (n, found.child) } in
        let s = stands here (scope_holds None machine owner here outer.listed found.listed) in
        let number : number_or_0 (map outlined (standing machine)) n ≡ own.number = ap (λ o. unwrap_or o 0) own.found in
        let end : Shape = or_never (child_end parent (certified certificate n) i) in
        let ends : EndsInside s.number end = λ shape stays.
        let placed : taken_at (Some (End (number_or_0 (map outlined (standing machine)) n) found.child)) shape draft ≡ draft = subst (λ o. taken_at (option_map (λ (p : Placement). end_target p.owner) o) shape draft ≡ draft) s.placed stays in
        let taken : taken_at (Some (End own.number found.child)) shape draft ≡ draft = subst (λ k. taken_at (Some (End k found.child)) shape draft ≡ draft) number placed in
        let row : Row = record { number = own.number; name = n; state = StateOf above (kind_outline parent) } in
        let has = entry-there table draft own.number (StateOf above (kind_outline parent)) is own.shown in
        let part = end-stays draft own.number (kind_outline parent) found.child shape has found.within taken in
        let same : end ≡ part.shape = ap (λ o. or_never (child_end parent o i)) (certified-at own.number n (StateOf above (kind_outline parent)) own.named own.shown ∙ ap Some (entry-of draft row has)) ∙ found.end has.entry part.shape part.at in
        subst (Inside shape) (sym same) part.inside in
        record { number = s.number; named = s.named; shown = s.shown; inside = ends }

    -- in the scope of a child
    child-closed : (scope : Scope) → IsScopeOf machine scope → (n : List ℕ) (parent : State) → state_named n scope ≡ Some parent → (i : ℕ) (m : List ℕ) (inner : State) → state_named m (child_scope (kind_of parent) i) ≡ Some inner → IsClosedAt declared certificate (or_never (child_end (kind_of parent) (certified certificate n) i)) m inner
    child-closed scope is_scope n (StateOf above parent) e i m (StateOf settings kind) f =
        let s = child-end scope is_scope n above parent e i m settings kind f in
        closed-at (child_scope parent i) (scope_of_child n (StateOf above parent) i is_scope e) m settings kind f s.number s.named s.shown (or_never (child_end parent (certified certificate n) i)) s.inside

    -- the declared input
    start-inside : input_taken table declared draft ≡ draft → Inside declared.input (certified_input certificate (start_of machine))
    start-inside stays = by machine refl
      where
        by : (other : Scope) → other ≡ machine → Inside declared.input (certified_input certificate (start_of machine))
        by (ScopeOf start NoStates) same = absurd (let none : state_named (start_of machine) machine ≡ None = subst (λ (x : Scope). state_named (start_of x) x ≡ None) same refl in let some = w.leads.start in false≢true (subst (λ o. is_some o ≡ true) none some))
        by (ScopeOf start (AndState first state others)) same =
            let led = leads-in machine own_scope (start_of machine) w.leads.start in
            let at : slice_get table.placements 0 ≡ Some (placement_of (map outlined (standing machine)) (outlined (record { name = first; state = state; start = start; owner = None }))) = subst (λ (x : Scope). slice_get (table_of x).placements 0 ≡ Some (placement_of (map outlined (standing x)) (outlined (record { name = first; state = state; start = start; owner = None })))) same refl in
            let starts : start ≡ start_of machine = ap start_of same in
            let number : number_or_0 (map outlined (standing machine)) start ≡ led.number = ap (λ n. number_or_0 (map outlined (standing machine)) n) starts ∙ ap (λ o. unwrap_or o 0) led.found in
            let placed : taken_at (Some (Input (number_or_0 (map outlined (standing machine)) start))) declared.input draft ≡ draft = subst (λ o. taken_at (option_map (λ (p : Placement). Input p.start) o) declared.input draft ≡ draft) at stays in
            input-inside led.number (start_of machine) led.state declared.input led.named led.shown (subst (λ k. taken_at (Some (Input k)) declared.input draft ≡ draft) number placed)

    -- ---- names

    no-other : (n : List ℕ) → IsTrue (is_some (certified certificate n)) → IsTrue (names_state machine n)
    no-other n there =
        let row = certified-named table draft n there in
        state_is_named (is_named machine certificate row.0 n row.1).stands

  -- a Task by its outline
  task-outlined : (state : State) → is_task (kind_of (outline state)) ≡ is_task (kind_of state)
  task-outlined (StateOf settings (Pass result)) = refl
  task-outlined (StateOf settings (Task resource)) = refl
  task-outlined (StateOf settings (Choice rules default)) = refl
  task-outlined (StateOf settings (Wait delay)) = refl
  task-outlined (StateOf settings Succeed) = refl
  task-outlined (StateOf settings (Fail error cause)) = refl
  task-outlined (StateOf settings (Parallel branches)) = refl
  task-outlined (StateOf settings (Map items selector processor)) = refl

  module _ (declared : Declared) where
    -- each of the rows that is a Task is declared
    row-declared : (rows : List Row) → undeclared declared rows ≡ [] → (row : Row) → Among rows row → is_task (kind_of row.state) ≡ true → IsTrue (is_some (under row.name declared.tasks))
    row-declared [] none row h task = absurd h
    row-declared (x ∷ xs) none row h task = by h (row-declared xs parts.1 row)
      where
        test : Row → Bool
        test r = not (is_task (kind_of r.state)) || is_some (under r.name declared.tasks)

        parts : (found_at x.name (breach_unless (test x) (codes "Resource") TaskUndeclared) ≡ []) × (undeclared declared xs ≡ [])
        parts = append-none (found_at x.name (breach_unless (test x) (codes "Resource") TaskUndeclared)) (undeclared declared xs) none

        passes : test x ≡ true
        passes = none-unless (test x) (codes "Resource") TaskUndeclared (found-none x.name (breach_unless (test x) (codes "Resource") TaskUndeclared) parts.0)

        by : (x ≡ row) ⊎ Among xs row → (Among xs row → is_task (kind_of row.state) ≡ true → IsTrue (is_some (under row.name declared.tasks))) → IsTrue (is_some (under row.name declared.tasks))
        by (inl e) further =
            let own : test row ≡ true = subst (λ (r : Row). test r ≡ true) e passes in
            subst (λ b. (not b || is_some (under row.name declared.tasks)) ≡ true) task own
        by (inr a) further = further a task

    -- one of the rows has the name of each declared task
    task-known : (rows : List Row) (tasks : List (List ℕ × TaskShapes)) (n : List ℕ) → unknown rows tasks ≡ [] → IsTrue (is_some (under n tasks)) → IsTrue (have_task n rows)
    task-known rows [] n none there = absurd (false≢true there)
    task-known rows (task ∷ tasks) n none there = go (bytes_eq task.0 n) refl there (task-known rows tasks n parts.1)
      where
        parts : (found_at task.0 (breach_unless (have_task task.0 rows) (codes "tasks") TaskUnknown) ≡ []) × (unknown rows tasks ≡ [])
        parts = append-none (found_at task.0 (breach_unless (have_task task.0 rows) (codes "tasks") TaskUnknown)) (unknown rows tasks) none

        go : (b : Bool) → bytes_eq task.0 n ≡ b → IsTrue (is_some (if b then Some task.1 else under n tasks)) → (IsTrue (is_some (under n tasks)) → IsTrue (have_task n rows)) → IsTrue (have_task n rows)
        go true same g further =
            let named : task.0 ≡ n = (bytes_eq-Decides task.0 n).0 same in
            subst (λ m. IsTrue (have_task m rows)) named (none-unless (have_task task.0 rows) (codes "tasks") TaskUnknown (found-none task.0 (breach_unless (have_task task.0 rows) (codes "tasks") TaskUnknown) parts.0))
        go false other g further = further g

    task-row : (rows : List Row) (n : List ℕ) → IsTrue (have_task n rows) → (row : Row) × Among rows row × (row.name ≡ n) × (is_task (kind_of row.state) ≡ true)
    task-row [] n h = absurd (false≢true h)
    task-row (x ∷ xs) n h = by (or_cases (bytes_eq x.name n && is_task (kind_of x.state)) (have_task n xs) h) (task-row xs n)
      where
        by : IsTrue (bytes_eq x.name n && is_task (kind_of x.state)) ⊎ IsTrue (have_task n xs) → (IsTrue (have_task n xs) → (row : Row) × Among xs row × (row.name ≡ n) × (is_task (kind_of row.state) ≡ true)) → (row : Row) × Among (x ∷ xs) row × (row.name ≡ n) × (is_task (kind_of row.state) ≡ true)
        by (inl here) further =
            let both = and_parts (bytes_eq x.name n) (is_task (kind_of x.state)) here in
            (x, inl refl, (bytes_eq-Decides x.name n).0 both.0, both.1)
        by (inr a) further =
            let below = further a in
            (below.0, inr below.1, below.2, below.3)

    tasks-named : (certificate : Certificate) → misnamed table declared ≡ [] → (n : List ℕ) → IsTrue (is_some (under n declared.tasks)) ↔ IsTrue (names_task machine n)
    tasks-named certificate none n = (to, from)
      where
        parts : (undeclared declared (rows_of table) ≡ []) × (unknown (rows_of table) declared.tasks ≡ [])
        parts = append-none (undeclared declared (rows_of table)) (unknown (rows_of table) declared.tasks) (ordered-none (λ (found : Finding). found.state) (undeclared declared (rows_of table) ++ unknown (rows_of table) declared.tasks) none)

        task-there : (settings : Settings) (kind : Kind) (end : Option Shape) → HasState machine certificate n settings kind end → is_task kind ≡ true → IsTrue (names_task machine n)
        task-there settings kind end has task =
            let is = is_a_task kind task in
            task_is_named (subst (λ k. HasState machine certificate n settings k end) is.1 has)

        to : IsTrue (is_some (under n declared.tasks)) → IsTrue (names_task machine n)
        to there =
            let row = task-row (rows_of table) n (task-known (rows_of table) declared.tasks n parts.1 there) in
            let known = row-known table row.0 row.1 in
            let named = is_named machine certificate row.0.number n (known.0 ∙ ap Some row.2) in
            let same : outline named.shown ≡ row.0.state = is_shown machine certificate row.0.number n row.0.state known.1 named in
            task-there (settings_of named.shown) (kind_of named.shown) named.end named.stands (sym (task-outlined named.shown) ∙ (ap (λ st. is_task (kind_of st)) same ∙ row.3))

        from : IsTrue (names_task machine n) → IsTrue (is_some (under n declared.tasks))
        from there =
            let found = named_task machine certificate n there in
            let at = state_numbered found.3 in
            row-declared (rows_of table) parts.0 (record { number = at.number; name = n; state = StateOf found.0 (Task found.1) }) (row-there table at.number n (StateOf found.0 (Task found.1)) at.named at.shown) refl

-- a draft that a round leaves as it is comes to a closed certificate
pub settled-closed : (machine : Scope) (declared : Declared) (rounds : ℕ) (draft : Draft) → IsWellNamed machine → after_rounds (table_of machine) declared rounds ≡ Ok draft → round (table_of machine) declared draft ≡ Ok draft → IsClosed declared (certificate_of (table_of machine) draft) machine
settled-closed machine declared rounds draft w comes stays =
    let is = rounds-are (table_of machine) declared rounds draft comes in
    let rests = settled-rests (table_of machine) declared draft stays in
    record {
      no_other_entry = no-other machine w declared draft is rests.1;
      tasks = tasks-named machine w declared (certificate_of (table_of machine) draft) (names-right (table_of machine) declared rounds draft comes);
      start = start-inside machine w declared draft is rests.1 rests.0;
      own = own-closed machine w declared draft is rests.1;
      children = λ scope is_scope n state e i. child-closed machine w declared draft is rests.1 scope is_scope n state e i;
    }
