-- The states that a state's fields name lead on, in a machine whose names lead to states.
use Rattle.std.proofs.Common.{◌≡◌, refl, ap, ◌∙◌, subst, ℕ, zero, suc, ◌<◌, length, List, [], ◌∷◌, ◌++◌, map, bytes_eq, position, slice_get, slice_index_or, option_map, option_to_list, Contains, Option, Some, None, IfSome, arith}
use Rattle.std.specs.Option.{unwrap_or}
use Rattle.std.proofs.lemmas.List.Elements.{Contains-append_left, Contains-append_right}
use Rattle.asl_states.specs.Machine.{branches_view, catcher_view, choice_rule_view, kind_view, state_view, target_name}
use Rattle.asl_states.specs.Numbered.{AreNumbered, IsNumbered}
use Rattle.asl_states.specs.Targets.{EachKindTarget}
use Rattle.asl_states.specs.declared.states.Kind as code_kind
use Rattle.asl_states.specs.declared.states.Kind.TheVariants as kinds
use Rattle.asl_states.specs.declared.states.State as code
use Rattle.asl_states.specs.declared.target.Target.{Target}
use Rattle.asl_states.proofs.Branches.{one_each}
use Rattle.asl_model.specs.Machine.{Scope, Scopes, NoScopes, AndScope, Catcher, Kind, State, StateOf, Pass, Task, Choice, Wait, Succeed, Fail, Parallel, Map, start_of, kind_of, state_named, scope_at, how_many}
use Rattle.asl_model.specs.Numbering.{outline, scopes_outline, targets_by, targets_of, table_of, IsScopeOf, scope_of_child, HasNamed, IsWellNamed}
use Rattle.asl_model.specs.Test.{Rule}
use Rattle.asl_model.proofs.NumberedRows.{LeadsToRow, leads_to_row, ShowsState, shows_state}
use Rattle.asl_processing.specs.Leading.{Leads, LeadsOn}
use Rattle.asl_run.specs.Standing.{no_name, name_in}
use Rattle.asl_run.proofs.Numbers.{stands_at}

-- ---- names and their numbers

-- the name has a number, and the number that name
pub record HasNumber (names : List (List ℕ)) (n : List ℕ) : Type 0 where
  pub number : ℕ
  pub found : position (bytes_eq n) names ≡ Some number
  pub named : slice_get names number ≡ Some n

-- a name of a scope
pub has_number : (machine scope : Scope) → IsWellNamed machine → IsScopeOf machine scope → (n : List ℕ) → HasNamed scope n → HasNumber (table_of machine).names n
has_number machine scope well is n has =
    let at : LeadsToRow machine scope n = leads_to_row machine scope well is n has in
    record { number = at.row.number; found = at.row.found; named = at.row.named }

-- so the target of that name leads to its state
leads : (names : List (List ℕ)) (target : Target) → IsNumbered names target → HasNumber names (target_name target) → Leads names target
leads names target is has = record { named = ap (name_in names) (is.found has.number has.found) ∙ ap (λ o. unwrap_or o (no_name names)) has.named }

-- ---- the names of a state

-- the starts of its children have numbers
abbrev StartsNumbered : List (List ℕ) → Kind → Type 0
StartsNumbered names (Pass result) = Unit {0}
StartsNumbered names (Task resource) = Unit {0}
StartsNumbered names (Choice rules default) = Unit {0}
StartsNumbered names (Wait delay) = Unit {0}
StartsNumbered names Succeed = Unit {0}
StartsNumbered names (Fail error cause) = Unit {0}
StartsNumbered names (Parallel branches) = (i : ℕ) → i < how_many branches → HasNumber names (start_of (scope_at i branches))
StartsNumbered names (Map items selector processor) = HasNumber names (start_of processor)

-- so have all names in its fields
pub record NamesNumbered (names : List (List ℕ)) (state : State) : Type 0 where
  targets : (n : List ℕ) → Contains (targets_of state) n → HasNumber names n
  starts : StartsNumbered names (kind_of state)

-- what may follow a state follows it without the states of its scopes
targets_outlined : (state : State) → targets_of (outline state) ≡ targets_of state
targets_outlined (StateOf settings (Pass result)) = refl
targets_outlined (StateOf settings (Task resource)) = refl
targets_outlined (StateOf settings (Choice rules default)) = refl
targets_outlined (StateOf settings (Wait delay)) = refl
targets_outlined (StateOf settings Succeed) = refl
targets_outlined (StateOf settings (Fail error cause)) = refl
targets_outlined (StateOf settings (Parallel branches)) = refl
targets_outlined (StateOf settings (Map items selector processor)) = refl

-- so do the starts of branches
branches_outlined : (names : List (List ℕ)) (branches : Scopes) → ((i : ℕ) → i < how_many branches → HasNumber names (start_of (scope_at i branches))) → (i : ℕ) → i < how_many (scopes_outline branches) → HasNumber names (start_of (scope_at i (scopes_outline branches)))
branches_outlined names NoScopes has i within = has i within
branches_outlined names (AndScope branch others) has zero within = has 0 (omega arith)
branches_outlined names (AndScope branch others) has (suc i) within = branches_outlined names others (λ j less. has (suc j) (omega (arith, less))) i (omega (arith, within))

starts_numbered : (machine scope : Scope) → IsWellNamed machine → IsScopeOf machine scope → (n : List ℕ) (state : State) → state_named n scope ≡ Some state → StartsNumbered (table_of machine).names (kind_of (outline state))
starts_numbered machine scope well is n (StateOf settings (Pass result)) e = tt
starts_numbered machine scope well is n (StateOf settings (Task resource)) e = tt
starts_numbered machine scope well is n (StateOf settings (Choice rules default)) e = tt
starts_numbered machine scope well is n (StateOf settings (Wait delay)) e = tt
starts_numbered machine scope well is n (StateOf settings Succeed) e = tt
starts_numbered machine scope well is n (StateOf settings (Fail error cause)) e = tt
starts_numbered machine scope well is n (StateOf settings (Parallel branches)) e =
    branches_outlined (table_of machine).names branches (λ i within. has_number machine (scope_at i branches) well (scope_of_child n (StateOf settings (Parallel branches)) i is e) (start_of (scope_at i branches)) (well.leads.branch_starts scope is n settings branches e i within))
starts_numbered machine scope well is n (StateOf settings (Map items selector processor)) e =
    has_number machine processor well (scope_of_child n (StateOf settings (Map items selector processor)) 0 is e) (start_of processor) (well.leads.processor_starts scope is n settings items selector processor e)

names_numbered : (machine scope : Scope) → IsWellNamed machine → IsScopeOf machine scope → (n : List ℕ) (state : State) → state_named n scope ≡ Some state → NamesNumbered (table_of machine).names (outline state)
names_numbered machine scope well is n state e = record {
  targets = λ m follows. has_number machine scope well is m (well.leads.targets scope is n state e m (subst (λ ns. Contains ns m) (targets_outlined state) follows));
  starts = starts_numbered machine scope well is n state e;
}

-- ---- the targets of the code's state

-- an element that is mapped twice is there
there : {A B : Type 0} (f : A → B) (g : B → List ℕ) (xs : List A) (k : ℕ) (d : A) → k < length xs → Contains (map g (map f xs)) (g (f (slice_index_or xs k d)))
there f g [] k d less = absurd (omega (arith, less))
there f g (x ∷ xs) zero d less = (0, omega arith, refl)
there f g (x ∷ xs) (suc k) d less = let h = there f g xs k d (omega (arith, less)) in let within = h.1 in (suc h.0, omega (arith, within), h.2)

option_leads : (names : List (List ℕ)) (target : Option Target) → IfSome target (IsNumbered names) → ((n : List ℕ) → Contains (option_to_list (option_map target_name target)) n → HasNumber names n) → IfSome target (Leads names)
option_leads names None is has = tt
option_leads names (Some target) is has = leads names target is (has (target_name target) (0, omega arith, refl))

branch_named : (starts : List Target) (k : ℕ) (d : Target) → k < length starts → start_of (scope_at k (branches_view starts)) ≡ target_name (slice_index_or starts k d)
branch_named [] k d less = absurd (omega (arith, less))
branch_named (start ∷ starts) zero d less = refl
branch_named (start ∷ starts) (suc k) d less = branch_named starts k d (omega (arith, less))

kind_leads : (names : List (List ℕ)) (kind : code_kind.Kind) → EachKindTarget (IsNumbered names) kind → ((n : List ℕ) → Contains (targets_by (kind_view kind)) n → HasNumber names n) → StartsNumbered names (kind_view kind) → EachKindTarget (Leads names) kind
kind_leads names (kinds.Pass result) is has starts = tt
kind_leads names (kinds.Task resource) is has starts = tt
kind_leads names (kinds.Choice choices default) is has starts =
    let next : Rule → List ℕ = λ rule. rule.next in
    let chosen = map next (map choice_rule_view choices.items) in
    let other = option_to_list (option_map target_name default) in (
      λ k d less. leads names (slice_index_or choices.items k d).next (is.0 k d less) (has _ (Contains-append_left chosen other _ (there choice_rule_view next choices.items k d less))),
      option_leads names default is.1 (λ n among. has n (Contains-append_right chosen other n among)),
    )
kind_leads names (kinds.Wait delay) is has starts = tt
kind_leads names kinds.Succeed is has starts = tt
kind_leads names (kinds.Fail error cause) is has starts = tt
kind_leads names (kinds.Parallel branches) is has starts = λ k d less.
    leads names (slice_index_or branches.items k d) (is k d less) (subst (HasNumber names) (branch_named branches.items k d less) (starts k (omega (arith, less, one_each branches.items))))
kind_leads names (kinds.Map items selector processor) is has starts = leads names processor is starts

-- where they have the numbers of their names, which have numbers, they lead on
pub leads_on : (names : List (List ℕ)) (state : code.State) → AreNumbered names state → NamesNumbered names (state_view state) → LeadsOn names state
leads_on names state are has =
    let next : Catcher → List ℕ = λ catcher. catcher.next in
    let own = option_to_list (option_map target_name state.settings.next) in
    let caught = map next (map catcher_view state.settings.catchers.items) in
    let others = targets_by (kind_view state.kind) in
    record {
      settings = record {
        next = option_leads names state.settings.next are.settings.next (λ n among. has.targets n (Contains-append_left own (caught ++ others) n among));
        catchers = λ k d less. leads names (slice_index_or state.settings.catchers.items k d).next (are.settings.catchers k d less)
            (has.targets _ (Contains-append_right own (caught ++ others) _ (Contains-append_left caught others _ (there catcher_view next state.settings.catchers.items k d less))));
      };
      kind = kind_leads names state.kind are.kind (λ n among. has.targets n (Contains-append_right own (caught ++ others) n (Contains-append_right caught others n among))) has.starts;
    }

-- ---- by numbers

-- the state of that number, which stands in the scope, by its name in the definitions and by its number in the table
pub record IsFound (machine scope : Scope) (i : ℕ) : Type 0 where
  pub state : State
  pub named : state_named (name_in (table_of machine).names i) scope ≡ Some state
  pub name : slice_get (table_of machine).names i ≡ Some (name_in (table_of machine).names i)
  pub shown : slice_get (table_of machine).states i ≡ Some (outline state)
  pub numbered : NamesNumbered (table_of machine).names (outline state)

pub is_found : (machine scope : Scope) → IsWellNamed machine → IsScopeOf machine scope → (i : ℕ) → HasNamed scope (name_in (table_of machine).names i) → IsFound machine scope i
is_found machine scope well is i has =
    let n = name_in (table_of machine).names i in
    let at : LeadsToRow machine scope n = leads_to_row machine scope well is n has in
    let name : slice_get (table_of machine).names i ≡ Some n = stands_at (table_of machine).names i at.row.number at.row.named in
    let here : ShowsState machine scope i n = shows_state machine scope well is i n name has in
    record {
      state = here.state;
      named = here.named;
      name = name;
      shown = here.shown;
      numbered = names_numbered machine scope well is n here.state here.named;
    }
