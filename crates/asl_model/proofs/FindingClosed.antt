-- Where no rule is broken, the certificate is closed.
use Rattle.std.proofs.Common.{◌≡◌, ℕ, List, [], ◌++◌, Some}
use Rattle.std.specs.Prelude.{codes}
use Rattle.asl_model.specs.Machine.{Scope, State, StateOf, kind_of, start_of, child_scope}
use Rattle.asl_model.specs.Shape.{Shape}
use Rattle.asl_model.specs.Certificate.{Declared, Certificate, certified, or_never, child_end, IsClosedAt, IsClosed}
use Rattle.asl_model.specs.Finding.{StartInput, breach_unless_sub, found_at, input_to_compare, state_breaches, children_findings, state_findings, scope_findings, unknown_entries, unknown_tasks, start_findings, findings}
use Rattle.asl_model.proofs.FindingScopes.{append-none, found-none, entry-known, task-known, task-declared, state-none, below-none}
use Rattle.asl_model.proofs.FindingStates.{inputs-fit, state-closed}

own-closed : (machine : Scope) (declared : Declared) (certificate : Certificate) (end : Shape) (n : List ℕ) (state : State) → scope_findings machine machine declared certificate (Some certificate.output) ≡ [] → state_findings state machine declared certificate (Some end) n ≡ [] → IsClosedAt declared certificate end n state
own-closed machine declared certificate end n (StateOf settings kind) none e = state-closed machine declared certificate end n settings kind none (found-none n (state_breaches machine declared certificate (Some end) n settings kind) (append-none (found_at n (state_breaches machine declared certificate (Some end) n settings kind)) (children_findings kind machine declared certificate n) e).0)

pub none-closed : (machine : Scope) (declared : Declared) (certificate : Certificate) → findings machine declared certificate ≡ [] → IsClosed declared certificate machine
none-closed machine declared certificate e = record {
  no_other_entry = λ n there. entry-known machine certificate.states n first.0 there;
  tasks = λ n. (λ there. task-known machine declared.tasks n second.0 there, λ named. task-declared machine declared certificate n third.1 named);
  start = λ v h. inputs-fit machine declared certificate third.1 (start_of machine) (codes "StartAt") StartInput declared.input (found-none (start_of machine) (breach_unless_sub (codes "StartAt") StartInput declared.input (input_to_compare machine certificate (start_of machine))) third.0) v h;
  own = λ n state named. own-closed machine declared certificate certificate.output n state third.1 (state-none machine declared certificate (Some certificate.output) n machine state third.1 named);
  children = λ scope inside n state named i m inner there. own-closed machine declared certificate (or_never (child_end (kind_of state) (certified certificate n) i)) m inner third.1 (state-none machine declared certificate (Some (or_never (child_end (kind_of state) (certified certificate n) i))) m (child_scope (kind_of state) i) inner (below-none machine declared certificate scope inside n state named i third.1) there);
}
  where
    first : (unknown_entries machine certificate.states ≡ []) × (unknown_tasks machine declared.tasks ++ (start_findings machine declared certificate ++ scope_findings machine machine declared certificate (Some certificate.output)) ≡ [])
    first = append-none (unknown_entries machine certificate.states) (unknown_tasks machine declared.tasks ++ (start_findings machine declared certificate ++ scope_findings machine machine declared certificate (Some certificate.output))) e

    second : (unknown_tasks machine declared.tasks ≡ []) × (start_findings machine declared certificate ++ scope_findings machine machine declared certificate (Some certificate.output) ≡ [])
    second = append-none (unknown_tasks machine declared.tasks) (start_findings machine declared certificate ++ scope_findings machine machine declared certificate (Some certificate.output)) first.1

    third : (start_findings machine declared certificate ≡ []) × (scope_findings machine machine declared certificate (Some certificate.output) ≡ [])
    third = append-none (start_findings machine declared certificate) (scope_findings machine machine declared certificate (Some certificate.output)) second.1
