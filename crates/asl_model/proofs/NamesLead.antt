-- The names in a machine lead to its states where they do at each state, found by going through the nested scopes.
use Rattle.std.proofs.Common.{◌≡◌, subst, ℕ, zero, suc, ◌<◌, List, Bool, true, false, if◌then◌else◌, IsTrue, Some, is_some, bytes_eq, All, arith}
use Rattle.std.proofs.lemmas.List.Elements.{All-contains}
use Rattle.asl_model.specs.Machine.{Scope, ScopeOf, States, NoStates, AndState, State, StateOf, Kind, Pass, Task, Choice, Wait, Succeed, Fail, Parallel, Map, Scopes, NoScopes, AndScope, kind_of, start_of, states_of, state_among, state_named, scope_at, child_scope, how_many, LeadsInside}
use Rattle.asl_model.specs.ShapeSpelling.{are_distinct}
use Rattle.asl_model.specs.StandsFor.{all_names}
use Rattle.asl_model.specs.Numbering.{IsScopeOf, own_scope, scope_of_child, HasNamed, targets_of, IsWellNamed}
use Rattle.asl_model.proofs.RunOptions.{some_inj, none_some}

-- one of the states has the name
abbrev pub IsNamed : States → List ℕ → Type 0
IsNamed held n = IsTrue (is_some (state_among n held))

abbrev mutual
  -- the scope's start is one of its states, and its names and those of the scopes in it lead to states
  pub ScopeLeads : Scope → Type 0
  ScopeLeads (ScopeOf start held) = IsNamed held start × StatesLead held held

  -- so do those of these states, where all states of their scope are the first argument
  pub StatesLead : States → States → Type 0
  StatesLead all NoStates = Unit {0}
  StatesLead all (AndState n state others) = StateLeads all state × StatesLead all others

  -- what follows the state is one of them
  pub StateLeads : States → State → Type 0
  StateLeads all (StateOf settings kind) = All (IsNamed all) (targets_of (StateOf settings kind)) × InnerLead kind

  -- in the scopes of a state of that type
  pub InnerLead : Kind → Type 0
  InnerLead (Pass result) = Unit {0}
  InnerLead (Task resource) = Unit {0}
  InnerLead (Choice rules default) = Unit {0}
  InnerLead (Wait delay) = Unit {0}
  InnerLead Succeed = Unit {0}
  InnerLead (Fail error cause) = Unit {0}
  InnerLead (Parallel branches) = ScopesLead branches
  InnerLead (Map items selector processor) = ScopeLeads processor

  -- in each of the branches
  pub ScopesLead : Scopes → Type 0
  ScopesLead NoScopes = Unit {0}
  ScopesLead (AndScope scope others) = ScopeLeads scope × ScopesLead others

-- a state of which both are known
pub state_leads : (all : States) (state : State) → All (IsNamed all) (targets_of state) → InnerLead (kind_of state) → StateLeads all state
state_leads all (StateOf settings kind) targets inner = (targets, inner)

targets_lead : (all : States) (state : State) → StateLeads all state → All (IsNamed all) (targets_of state)
targets_lead all (StateOf settings kind) h = h.0

inner_lead : (all : States) (state : State) → StateLeads all state → InnerLead (kind_of state)
inner_lead all (StateOf settings kind) h = h.1

start_named : (scope : Scope) → ScopeLeads scope → HasNamed scope (start_of scope)
start_named (ScopeOf start held) h = h.0

-- the states of a scope lead to states of it, as they do where it has none
abbrev OwnLead : Scope → Type 0
OwnLead scope = StatesLead (states_of scope) (states_of scope)

own_lead : (scope : Scope) → ScopeLeads scope → OwnLead scope
own_lead (ScopeOf start held) h = h.1

branch_leads : (i : ℕ) (branches : Scopes) → ScopesLead branches → i < how_many branches → ScopeLeads (scope_at i branches)
branch_leads i NoScopes h less = absurd (omega arith)
branch_leads zero (AndScope scope others) h less = h.0
branch_leads (suc i) (AndScope scope others) h less = branch_leads i others h.1 (omega arith)

branch_own : (i : ℕ) (branches : Scopes) → ScopesLead branches → OwnLead (scope_at i branches)
branch_own i NoScopes h = tt
branch_own zero (AndScope scope others) h = own_lead scope h.0
branch_own (suc i) (AndScope scope others) h = branch_own i others h.1

child_own : (kind : Kind) (i : ℕ) → InnerLead kind → OwnLead (child_scope kind i)
child_own (Pass result) i h = tt
child_own (Task resource) i h = tt
child_own (Choice rules default) i h = tt
child_own (Wait delay) i h = tt
child_own Succeed i h = tt
child_own (Fail error cause) i h = tt
child_own (Parallel branches) i h = branch_own i branches h
child_own (Map items selector processor) i h = own_lead processor h

-- a state that is found leads to states
found_leads : (all held : States) (n : List ℕ) (state : State) → StatesLead all held → state_among n held ≡ Some state → StateLeads all state
found_leads all NoStates n state h e = none_some e
found_leads all (AndState m other others) n state h e = by (bytes_eq m n) e (λ f. found_leads all others n state h.1 f)
  where
    by : (same : Bool) → (if same then Some other else state_among n others) ≡ Some state → (state_among n others ≡ Some state → StateLeads all state) → StateLeads all state
    by true g further = subst (StateLeads all) (some_inj g) h.0
    by false g further = further g

module _ (machine : Scope) (leads : ScopeLeads machine) where
  scope_own : (scope : Scope) → IsScopeOf machine scope → OwnLead scope
  scope_own _ own_scope = own_lead machine leads
  scope_own _ (scope_of_child {scope} n state i is_scope e) = child_own (kind_of state) i (inner_lead (states_of scope) state (found_leads (states_of scope) (states_of scope) n state (scope_own scope is_scope) e))

  at_state : (scope : Scope) → IsScopeOf machine scope → (n : List ℕ) (state : State) → state_named n scope ≡ Some state → StateLeads (states_of scope) state
  at_state scope is_scope n state e = found_leads (states_of scope) (states_of scope) n state (scope_own scope is_scope) e

  -- so the names lead inside the machine's scopes
  pub leads_inside : LeadsInside machine
  leads_inside = record {
    start = start_named machine leads;
    branch_starts = λ scope is_scope n settings branches e i less. start_named (scope_at i branches) (branch_leads i branches (inner_lead (states_of scope) (StateOf settings (Parallel branches)) (at_state scope is_scope n (StateOf settings (Parallel branches)) e)) less);
    processor_starts = λ scope is_scope n settings items selector processor e. start_named processor (inner_lead (states_of scope) (StateOf settings (Map items selector processor)) (at_state scope is_scope n (StateOf settings (Map items selector processor)) e));
    targets = λ scope is_scope n state e m among. All-contains (IsNamed (states_of scope)) (targets_of state) m (targets_lead (states_of scope) state (at_state scope is_scope n state e)) among;
  }

  -- where no name stands twice either, the machine is well named
  pub leads_well : IsTrue (are_distinct (all_names machine)) → IsWellNamed machine
  leads_well distinct = record { distinct = distinct; leads = leads_inside }
