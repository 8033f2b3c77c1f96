-- The start and the ends of a machine's scopes are those of its table.
use Rattle.std.proofs.Common.{◌≡◌, refl, sym, ap, ◌∙◌, subst, ℕ, List, map, true, bytes_eq, position, slice_get, Option, Some, None, option_map}
use Rattle.std.specs.Option.{unwrap_or}
use Rattle.std.proofs.lemmas.Option.{slice_get-map}
use Rattle.asl_model.specs.Machine.{Scope, ScopeOf, NoStates, AndState, State, StateOf, Pass, Task, Choice, Wait, Succeed, Fail, Parallel, Map, kind_of, start_of}
use Rattle.asl_model.specs.Certificate.{StateShapes, Certificate, certified, child_end}
use Rattle.asl_model.specs.ShapeSpelling.{are_distinct}
use Rattle.asl_model.specs.Numbering.{Standing, standing, outline, outlined, number_or_0, table_of, IsWellNamed, own_scope}
use Rattle.asl_model.proofs.NumberedRows.{LeadsToRow, leads_to_row}
use Rattle.asl_model.proofs.NumberedScopes.{IsListed}
use Rattle.asl_model.proofs.NumberedStates.{StandsAt, stands_at, number_found}
use Rattle.asl_model.proofs.Numbering.{names_of_standing, outlined_names}
use Rattle.asl_model.proofs.RunOptions.{none_some}
use Rattle.asl_check.specs.Rules.{end_of_child, end_by_owner, start_in}
use Rattle.asl_check.proofs.TableScopes.{Ends, AreEnds}

-- no name stands twice among the states that stand in a machine
abbrev pub AreDistinct : Scope → Type 0
AreDistinct machine = are_distinct (map (λ s. s.name) (standing machine)) ≡ true

pub distinct : (machine : Scope) → IsWellNamed machine → AreDistinct machine
distinct machine w = ap are_distinct (names_of_standing None machine) ∙ w.distinct

-- the states of a machine's table
abbrev rows : Scope → List Standing
rows machine = map outlined (standing machine)

-- ---- the row of a state's number

-- a state stands at that number
record IsAt (machine : Scope) (s : Standing) (i : ℕ) : Type 0 where
  pub name : slice_get (map (λ t. t.name) (rows machine)) i ≡ Some s.name
  pub state : slice_get (map (λ t. t.state) (rows machine)) i ≡ Some (outline s.state)

-- what is looked up at its position
row-found : (machine : Scope) (s : Standing) (i : ℕ) → slice_get (standing machine) i ≡ Some s → IsAt machine s i
row-found machine s i e =
    let row : slice_get (rows machine) i ≡ Some (outlined s) = slice_get-map outlined (standing machine) i ∙ ap (option_map outlined) e in
    record {
      name = slice_get-map (λ (t : Standing). t.name) (rows machine) i ∙ ap (option_map (λ (t : Standing). t.name)) row;
      state = slice_get-map (λ (t : Standing). t.state) (rows machine) i ∙ ap (option_map (λ (t : Standing). t.state)) row;
    }

-- the number of a state is its position
numbered : (machine : Scope) (s : Standing) (h : StandsAt (standing machine) s) → number_or_0 (rows machine) s.name ≡ h.number
numbered machine s h =
    ap (λ ns. unwrap_or (position (bytes_eq s.name) ns) 0) (outlined_names (standing machine)) ∙ ap (λ o. unwrap_or o 0) (number_found (standing machine) s h)

-- each state stands at its number
at-number : (machine : Scope) → AreDistinct machine → (s : Standing) → IsListed (standing machine) s → IsAt machine s (number_or_0 (rows machine) s.name)
at-number machine d s listed =
    let h : StandsAt (standing machine) s = stands_at (standing machine) s d listed in
    subst (IsAt machine s) (sym (numbered machine s h)) (row-found machine s h.number h.here)

-- ---- ends

-- the end of the scope that belongs to a state, by the machine's table
abbrev pub ends_in : Scope → Certificate → Ends
ends_in machine certificate owner = end_by_owner (table_of machine) certificate (option_map (λ o. (number_or_0 (map outlined (standing machine)) o.0, o.1)) owner)

-- a type's ends don't need the states of its scopes
end-outlined : (state : State) (entry : Option StateShapes) (i : ℕ) → child_end (kind_of (outline state)) entry i ≡ child_end (kind_of state) entry i
end-outlined (StateOf settings (Pass result)) entry i = refl
end-outlined (StateOf settings (Task resource)) entry i = refl
end-outlined (StateOf settings (Choice rules default)) entry i = refl
end-outlined (StateOf settings (Wait delay)) entry i = refl
end-outlined (StateOf settings Succeed) entry i = refl
end-outlined (StateOf settings (Fail error cause)) entry i = refl
end-outlined (StateOf settings (Parallel branches)) entry i = refl
end-outlined (StateOf settings (Map items selector processor)) entry i = refl

-- so each state's scopes have those ends
pub ends-are : (machine : Scope) (certificate : Certificate) → AreDistinct machine → AreEnds certificate (ends_in machine certificate) (standing machine)
ends-are machine certificate d s listed i =
    let h : IsAt machine s (number_or_0 (rows machine) s.name) = at-number machine d s listed in
    ap (λ n. end_of_child certificate n (slice_get (map (λ t. t.state) (rows machine)) (number_or_0 (rows machine) s.name)) i) h.name
    ∙ (ap (λ state. end_of_child certificate (Some s.name) state i) h.state
    ∙ end-outlined s.state (certified certificate s.name) i)

-- ---- the start

-- it is named by the scope of the first state
pub start-is : (machine : Scope) → IsWellNamed machine → start_in (table_of machine) ≡ Some (start_of machine)
start-is machine w = by machine (leads_to_row machine machine w own_scope (start_of machine) w.leads.start)
  where
    by : (m : Scope) → LeadsToRow m m (start_of m) → start_in (table_of m) ≡ Some (start_of m)
    by (ScopeOf start NoStates) led = none_some led.named
    by (ScopeOf start (AndState n state others)) led = ap (λ o. slice_get (table_of (ScopeOf start (AndState n state others))).names (unwrap_or o 0)) led.row.found ∙ led.row.named
