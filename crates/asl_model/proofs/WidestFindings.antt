-- The widest certificate has no fault of its own: each of the machine's states has an entry, and whatever flows is
-- compared with Any.
use Rattle.std.proofs.Common.{◌≡◌, refl, sym, ap, ◌∙◌, subst, ℕ, zero, suc, List, [], ◌∷◌, ◌++◌, map, replicate, Contains, Bool, true, false, IsTrue, if◌then◌else◌, Option, Some, None, is_some, option_to_list}
use Rattle.std.proofs.lemmas.List.{length-replicate}
use Rattle.std.proofs.lemmas.List.Elements.{Contains-append_left, Contains-append_right}
use Rattle.asl_model.specs.Machine.{Catcher, Settings, Scope, State, StateOf, Kind, Pass, Task, Choice, Wait, Succeed, Fail, Parallel, Map, settings_of, kind_of, start_of, states_of, state_named, how_many}
use Rattle.asl_model.specs.Tree.{Tree}
use Rattle.asl_model.specs.Shape.{Shape, Any}
use Rattle.asl_model.specs.Examples.{outside}
use Rattle.asl_model.specs.Certificate.{Declared, StateShapes, Certificate, HasEntry, certified, branch_shape, branch_end, item_end, branches_in, is_map}
use Rattle.asl_model.specs.Finding.{FindingFault, Finding, Surroundings, Stands}
use Rattle.asl_model.specs.FindingRules.{IsAmong, HasScope, has_itself, has_branch, has_processor, HasState, IsSurrounded, IsCompared, compared_with_entry, compared_with_never, Target, ToState, ToEnd, next_target, Makes, makes_literal, makes_what_it_takes, makes_answer, lets_through, lets_default, lets_wait, lets_succeed, makes_outputs, makes_items, Starts, starts_branch, starts_item}
use Rattle.asl_model.specs.Test.{Rule}
use Rattle.asl_model.specs.Inference.{is_of_machine, widest_entry, IsWidest}
use Rattle.asl_model.specs.Numbering.{kind_outline, outline, table_of, HasNamed, targets_of, targets_by, IsWellNamed}
use Rattle.asl_model.proofs.FindingRules.{told_exactly}
use Rattle.asl_model.proofs.FindingShown.{TellsFlow, tells_path, tells_template, tells_rule, tells_kind, tells_misfit, tells_failure, tells_no_default, tells_payload, tells_output, tells_next, tells_end, tells_child, tells_catch, IsTold, told_uncertified, told_no_state, told_undeclared, told_unknown, told_start, told_flow}
use Rattle.asl_model.proofs.Listed.{first_in, map_in}
use Rattle.asl_model.proofs.NamedStates.{branch_at, entry_there, found_among, scope_is, state_found}
use Rattle.asl_model.proofs.OutlinedRules.{how-many-outlined}
use Rattle.asl_model.proofs.RunOptions.{some_inj, none_some, some_there}
use Rattle.asl_model.proofs.StandingStates.{HasNumber, state_numbered, IsNamed, is_named}

-- ---- the widest entry

-- it needs no state of its scopes
outlined_widest : (kind : Kind) → widest_entry (kind_outline kind) ≡ widest_entry kind
outlined_widest (Pass result) = refl
outlined_widest (Task resource) = refl
outlined_widest (Choice rules default) = refl
outlined_widest (Wait delay) = refl
outlined_widest Succeed = refl
outlined_widest (Fail error cause) = refl
outlined_widest (Parallel branches) = ap (λ count. record { input = Any; output = Any; branches = replicate count Any; item = None }) (how-many-outlined branches)
outlined_widest (Map items selector processor) = refl

-- it has the right form
has_item : (b : Bool) → is_some (if b then Some Any else None) ≡ b
has_item true = refl
has_item false = refl

-- each of its branches is Any
each_any : (count i : ℕ) (s : Shape) → branch_shape i (replicate count Any) ≡ Some s → s ≡ Any
each_any zero i s e = absurd (cc)
each_any (suc count) zero s e = sym (some_inj e)
each_any (suc count) (suc i) s e = each_any count i s e

-- nothing is outside Any
not_outside : {A : Type 0} (a s : Shape) {t : Tree} → s ≡ Any → outside a s ≡ Some t → A
not_outside a s e h = none_some (sym (ap (outside a) e) ∙ h)

-- ---- where an output goes

-- the state that an output goes to
abbrev goes_to : Target → Option (List ℕ)
goes_to (ToState field next) = Some next
goes_to (ToEnd field) = None

-- by `Next`
next_there : (o : Option (List ℕ)) (m : List ℕ) (others : List (List ℕ)) → goes_to (next_target o) ≡ Some m → Contains (option_to_list o ++ others) m
next_there None m others e = absurd (cc)
next_there (Some next) m others e = subst (λ k. Contains (next ∷ others) k) (some_inj e) (first_in next others)

module _ (around : Surroundings) (settings : Settings) where
  -- what a state makes goes to a state that may follow it
  target_told : {kind : Kind} {made : Shape} {target : Target} (m : List ℕ) → Makes around settings kind made target → goes_to target ≡ Some m → Contains (targets_of (StateOf settings kind)) m
  target_told m makes_literal e = next_there settings.next m _ e
  target_told m (makes_what_it_takes eff) e = next_there settings.next m _ e
  target_told m makes_answer e = next_there settings.next m _ e
  target_told m (lets_through {rules = rules} {default = default} {rule = rule} eff among f) e =
      let caught = map (λ (catcher : Catcher). catcher.next) settings.catchers in
      let chosen = map (λ (r : Rule). r.next) rules in
      subst (λ k. Contains (option_to_list settings.next ++ (caught ++ (chosen ++ option_to_list default))) k) (some_inj e)
      (Contains-append_right (option_to_list settings.next) (caught ++ (chosen ++ option_to_list default)) rule.next
      (Contains-append_right caught (chosen ++ option_to_list default) rule.next
      (Contains-append_left chosen (option_to_list default) rule.next (map_in (λ (r : Rule). r.next) rules rule among))))
  target_told m (lets_default {rules = rules} {next = next} eff) e =
      let caught = map (λ (catcher : Catcher). catcher.next) settings.catchers in
      let chosen = map (λ (r : Rule). r.next) rules in
      subst (λ k. Contains (option_to_list settings.next ++ (caught ++ (chosen ++ next ∷ []))) k) (some_inj e)
      (Contains-append_right (option_to_list settings.next) (caught ++ (chosen ++ next ∷ [])) next
      (Contains-append_right caught (chosen ++ next ∷ []) next
      (Contains-append_right chosen (next ∷ []) next (first_in next []))))
  target_told m (lets_wait eff) e = next_there settings.next m _ e
  target_told m (lets_succeed eff) e = absurd (cc)
  target_told m makes_outputs e = next_there settings.next m _ e
  target_told m (makes_items eff found parts there) e = next_there settings.next m _ e

  -- so does what a catcher hands on
  caught_told : (kind : Kind) (catcher : Catcher) → Contains settings.catchers catcher → Contains (targets_of (StateOf settings kind)) catcher.next
  caught_told kind catcher among =
      let caught = map (λ (c : Catcher). c.next) settings.catchers in
      Contains-append_right (option_to_list settings.next) (caught ++ targets_by kind) catcher.next
      (Contains-append_left caught (targets_by kind) catcher.next (map_in (λ (c : Catcher). c.next) settings.catchers catcher among))

-- ---- the machine

module _ (machine : Scope) (declared : Declared) (certificate : Certificate) (well : IsWellNamed machine) (wide : IsWidest (table_of machine) certificate) where
  -- the machine has a state of that name
  record IsThere (n : List ℕ) : Type 0 where
    settings : Settings
    kind : Kind
    end : Option Shape
    state : HasState machine certificate n settings kind end

  -- a name that leads to a state of a scope is that of a state of the machine
  leads_there : {scope : Scope} {end : Option Shape} (n : List ℕ) → HasScope machine certificate scope end → HasNamed scope n → IsThere n
  leads_there {scope} {end} n s has = let w = some_there (state_named n scope) has in go w.0 (found_among n (states_of scope) w.0 w.1)
    where
      go : (state : State) → IsAmong n state (states_of scope) → IsThere n
      go (StateOf settings kind) a = record { settings = settings; kind = kind; end = end; state = record { scope = scope; has_scope = s; among = a } }

  -- what follows a state is there
  target_there : {n : List ℕ} {settings : Settings} {kind : Kind} {end : Option Shape} (m : List ℕ) → HasState machine certificate n settings kind end → Contains (targets_of (StateOf settings kind)) m → IsThere m
  target_there {n} {settings} {kind} m state c = leads_there m state.has_scope (well.leads.targets state.scope (scope_is machine certificate well state.has_scope) n (StateOf settings kind) (state_found machine certificate well state) m c)

  -- so is the start state of a child
  started_there : {n : List ℕ} {around : Surroundings} {settings : Settings} {kind : Kind} {end : Option Shape} {field : List ℕ} {child : Scope} {s : Shape} → HasState machine certificate n settings kind end → Starts around settings kind field child s → IsThere (start_of child)
  started_there {n} {settings = settings} {child = child} state (starts_branch {branches = branches} {i = i} eff b) =
      let w = branch_at b in
      leads_there (start_of child) (has_branch state.has_scope state.among b) (subst (λ c. HasNamed c (start_of c)) w.1 (well.leads.branch_starts state.scope (scope_is machine certificate well state.has_scope) n settings branches (state_found machine certificate well state) i w.0))
  started_there {n} {settings = settings} {child = child} state (starts_item {items = items} {selector = selector} eff found parts flows) =
      leads_there (start_of child) (has_processor state.has_scope state.among) (well.leads.processor_starts state.scope (scope_is machine certificate well state.has_scope) n settings items selector child (state_found machine certificate well state))

  -- ---- entries

  -- a state's entry
  entry_is : {n : List ℕ} {settings : Settings} {kind : Kind} {end : Option Shape} → HasState machine certificate n settings kind end → certified certificate n ≡ Some (widest_entry kind)
  entry_is {n} {settings} {kind} state =
      let row : HasNumber machine n (StateOf settings kind) = state_numbered state in
      wide.entries row.number n (outline (StateOf settings kind)) row.named row.shown ∙ ap Some (outlined_widest kind)

  has_entry : {n : List ℕ} {settings : Settings} {kind : Kind} {end : Option Shape} → HasState machine certificate n settings kind end → HasEntry certificate n kind
  has_entry {kind = kind} state = record { shapes = widest_entry kind; stands = entry_is state; branches = length-replicate (branches_in kind) Any; item = has_item (is_map kind) }

  -- what flows to a state is compared with Any
  compared_any : {m : List ℕ} {expected : Shape} → IsThere m → IsCompared machine certificate m expected → expected ≡ Any
  compared_any there (compared_with_entry e) = ap (λ (entry : StateShapes). entry.input) (some_inj (sym e ∙ entry_is there.state))
  compared_any there (compared_with_never e none) = absurd (none there.settings there.kind there.end there.state)

  -- so is what flows to the end of a scope
  end_any : {scope : Scope} {end : Option Shape} (expected : Shape) → HasScope machine certificate scope end → end ≡ Some expected → expected ≡ Any
  end_any expected has_itself e = sym (some_inj e) ∙ wide.output
  end_any expected (has_branch {scope = scope} {branches = branches} {i = i} s a b) e = each_any (how_many branches) i expected (sym (ap (branch_end i) (entry_is (record { scope = scope; has_scope = s; among = a }))) ∙ e)
  end_any expected (has_processor {scope = scope} s a) e = sym (some_inj (sym (ap item_end (entry_is (record { scope = scope; has_scope = s; among = a }))) ∙ e))

  -- ---- findings

  -- a rule on what flows
  of_flow : {around : Surroundings} {settings : Settings} {kind : Kind} {field : List ℕ} {fault : FindingFault} {example : Option Tree} → IsSurrounded machine declared certificate settings kind around → TellsFlow around settings kind field fault example → IsTrue (is_of_machine fault)
  of_flow is (tells_path looks f) = refl
  of_flow is (tells_template evaluates some doubt) = refl
  of_flow is (tells_rule kinds eff among f) = refl
  of_flow is (tells_kind eff wants f h) = refl
  of_flow is (tells_misfit puts f) = refl
  of_flow is (tells_failure evaluates some doubt) = refl
  of_flow is (tells_no_default kinds eff f) = refl
  of_flow is (tells_payload kinds eff h) = refl
  of_flow {around} is (tells_output {output = output} leaves h) = not_outside output around.entry.output (ap (λ (x : StateShapes). x.output) (some_inj (sym is.entry ∙ entry_is is.state))) h
  of_flow {around} {settings = settings} is (tells_next {output = output} {expected = expected} {next = next} leaves f h) = not_outside output expected (compared_any (target_there next is.state (target_told around settings next leaves.makes refl)) ((is.inputs next expected).0 f)) h
  of_flow is (tells_end {output = output} {expected = expected} leaves f h) = not_outside output expected (end_any expected is.state.has_scope f) h
  of_flow is (tells_child {child = child} {s = s} {expected = expected} starts f h) = not_outside s expected (compared_any (started_there is.state starts) ((is.inputs (start_of child) expected).0 f)) h
  of_flow {around} {settings = settings} {kind = kind} is (tells_catch {catcher = catcher} {s = s} {expected = expected} among f g h) = not_outside s expected (compared_any (target_there catcher.next is.state (caught_told around settings kind catcher among)) ((is.inputs catcher.next expected).0 g)) h

  -- any rule
  of_machine : {f : Finding} → IsTold machine declared certificate f → IsTrue (is_of_machine f.fault)
  of_machine (told_uncertified state none) = absurd (none (has_entry state))
  of_machine (told_no_state {entry = entry} among none) =
      let w = wide.no_other_entry entry.0 (entry_there certificate.states entry among) in
      let row : IsNamed machine certificate w.0 entry.0 = is_named machine certificate w.0 entry.0 w.1 in
      absurd (none (settings_of row.shown) (kind_of row.shown) row.end row.stands)
  of_machine (told_undeclared state none) = refl
  of_machine (told_unknown among none) = refl
  of_machine (told_start {expected = expected} compared h) = not_outside declared.input expected (compared_any (leads_there (start_of machine) has_itself well.leads.start) compared) h
  of_machine (told_flow is live breaks) = of_flow is breaks

-- each finding that stands
pub widest_findings : (machine : Scope) (declared : Declared) (certificate : Certificate) → IsWellNamed machine → IsWidest (table_of machine) certificate → (finding : Finding) → Stands machine declared certificate finding → IsTrue (is_of_machine finding.fault)
widest_findings machine declared certificate well wide finding stands = of_machine machine declared certificate well wide ((told_exactly machine declared certificate finding).1 stands)
