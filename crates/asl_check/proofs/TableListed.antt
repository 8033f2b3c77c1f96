-- The rules as they are gone over in a machine's table are together all of the machine's.
use Rattle.std.proofs.Common.{◌≡◌, ℕ, List, [], ◌∷◌, ◌++◌, map, codes, String, string_bytes, Some, refl, ap, ◌∙◌, ◌⊎◌, inl, inr}
use Rattle.std.specs.List.{Contains}
use Rattle.std.specs.declared.alloc.Global.{Global}
use Rattle.std.specs.Map.{keys_of}
use Rattle.std.proofs.lemmas.List.Elements.{Contains-append_left, Contains-append_right, Contains-append_cases}
use Rattle.asl_model.specs.Machine.{Scope, names_state, names_task}
use Rattle.asl_model.specs.Numbering.{table_of, IsWellNamed}
use Rattle.asl_model.specs.Certificate.{Declared, Certificate, StateShapes, TaskShapes}
use Rattle.asl_model.specs.Finding.{Finding, NotAState, TaskUnknown, found_at, breach_unless, unknown_entries, unknown_tasks, start_findings, scope_findings, findings}
use Rattle.asl_model.specs.Shape.{Shape}
use Rattle.asl_records.specs.Numbered.{numbered_entries}
use Rattle.asl_records.specs.View.{tasks_view}
use Rattle.asl_records.specs.declared.records.TaskShapes as shapes
use Rattle.asl_records.specs.declared.records.StateNumbers.{StateNumbers}
use Rattle.asl_check.specs.Rules.{entry_rules, flow_rules, found_by, found_in_all, names_of, state_rule, task_rule}
use Rattle.asl_check.specs.Told.{listed}
use Rattle.asl_check.proofs.TableEnds.{distinct}
use Rattle.asl_check.proofs.TableFindings.{MakeUp, made_up_behind, rows-made-up, start-found}
use Rattle.asl_check.proofs.TableNames.{state-named, task-named}

-- ---- the names under which something stands

-- in a certificate
pub entries_named : (table : List Shape) (es : List (String Global × StateNumbers)) → names_of (numbered_entries table es) ≡ map string_bytes (keys_of es)
entries_named table [] = refl
entries_named table (e ∷ es) = ap (λ ns. string_bytes e.0 ∷ ns) (entries_named table es)

-- in what is declared
pub tasks_named : (es : List (String Global × shapes.TaskShapes)) → names_of (tasks_view es) ≡ map string_bytes (keys_of es)
tasks_named [] = refl
tasks_named (e ∷ es) = ap (λ ns. string_bytes e.0 ∷ ns) (tasks_named es)

-- ---- names that are looked up in the table

-- what is found of the entries' names
entries-found : (machine : Scope) (es : List (List ℕ × StateShapes)) → found_by (state_rule (table_of machine)) (names_of es) ≡ unknown_entries machine es
entries-found machine [] = refl
entries-found machine (e ∷ es) =
    ap (λ known. found_at e.0 (breach_unless known (codes "states") NotAState) ++ found_by (state_rule (table_of machine)) (names_of es)) (state-named machine e.0)
    ∙ ap (λ found. found_at e.0 (breach_unless (names_state machine e.0) (codes "states") NotAState) ++ found) (entries-found machine es)

-- what is found of the declared tasks' names
tasks-found : (machine : Scope) → IsWellNamed machine → (es : List (List ℕ × TaskShapes)) → found_by (task_rule (table_of machine)) (names_of es) ≡ unknown_tasks machine es
tasks-found machine w [] = refl
tasks-found machine w (e ∷ es) =
    ap (λ known. found_at e.0 (breach_unless known (codes "tasks") TaskUnknown) ++ found_by (task_rule (table_of machine)) (names_of es)) (task-named machine e.0 (distinct machine w))
    ∙ ap (λ found. found_at e.0 (breach_unless (names_task machine e.0) (codes "tasks") TaskUnknown) ++ found) (tasks-found machine w es)

-- ---- all rules

-- the same findings stand in both lists, in whatever order
pub record AreSame (xs ys : List Finding) : Type 0 where
  pub there : (f : Finding) → Contains xs f → Contains ys f
  pub back : (f : Finding) → Contains ys f → Contains xs f

-- one list behind the other, and what they make up
of_both : (xs ys zs : List Finding) → MakeUp xs ys zs → AreSame (xs ++ ys) zs
of_both xs ys zs m = record { there = λ f h. there f (Contains-append_cases xs ys f h); back = λ f h. back f (m.either f h) }
  where
    there : (f : Finding) → Contains xs f ⊎ Contains ys f → Contains zs f
    there f (inl h) = m.first f h
    there f (inr h) = m.second f h

    back : (f : Finding) → Contains xs f ⊎ Contains ys f → Contains (xs ++ ys) f
    back f (inl h) = Contains-append_left xs ys f h
    back f (inr h) = Contains-append_right xs ys f h

-- five lists, of which the first and the last make up that of the scopes
of_five : (entries states tasks start flows scopes : List Finding) → MakeUp entries flows scopes → AreSame (entries ++ (states ++ (tasks ++ (start ++ flows)))) (states ++ (tasks ++ (start ++ scopes)))
of_five entries states tasks start flows scopes m =
    of_both _ _ _ (made_up_behind [] states _ _ _ (made_up_behind [] tasks _ _ _ (made_up_behind [] start _ _ _ m)))

-- the five lists over a machine's table
pub listed_found : (machine : Scope) → IsWellNamed machine → (declared : Declared) (certificate : Certificate) → AreSame (listed (table_of machine) declared certificate) (findings machine declared certificate)
listed_found machine w declared certificate =
    rw (entries-found machine certificate.states, tasks-found machine w declared.tasks, start-found machine declared certificate w)
    (of_five (found_in_all (entry_rules declared certificate) (table_of machine)) (unknown_entries machine certificate.states) (unknown_tasks machine declared.tasks) (start_findings machine declared certificate) (found_in_all (flow_rules (table_of machine) declared certificate) (table_of machine)) (scope_findings machine machine declared certificate (Some certificate.output)) (rows-made-up machine declared certificate w))
