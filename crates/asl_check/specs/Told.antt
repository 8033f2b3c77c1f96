-- Every broken rule in the order in which the checker goes over them, and which of them a verdict tells.
use Rattle.std.specs.Prelude.{◌≡◌, List, ◌++◌, Option, Some, Contains, find, bytes_eq, ⊤}
use Rattle.asl_model.specs.Names.{StateName}
use Rattle.asl_model.specs.Certificate.{Declared, Certificate}
use Rattle.asl_model.specs.Finding.{Finding}
use Rattle.asl_model.specs.Numbering.{Table}
use Rattle.asl_model.specs.Verdict.{Verdict, Accepted, Rejected}
use Rattle.asl_check.specs.Rules.{entry_rules, flow_rules, found_at_start, found_by, found_in_all, names_of, state_rule, task_rule}

-- every broken rule: on the states' entries and Tasks, of entries without a state, of declared tasks without a Task, of
-- the start, and on what flows through the states
abbrev pub listed : Table → Declared → Certificate → List Finding
listed table declared certificate =
    found_in_all (entry_rules declared certificate) table
    ++ (found_by (state_rule table) (names_of certificate.states)
    ++ (found_by (task_rule table) (names_of declared.tasks)
    ++ (found_at_start table declared certificate
    ++ found_in_all (flow_rules table declared certificate) table)))

-- the first of that name
abbrev pub first_of : StateName → List Finding → Option Finding
first_of n all = find (λ f. bytes_eq f.state n) all

-- each that is told is the first of its name
abbrev pub AreFirst : List Finding → List Finding → Type 0
AreFirst all told = (f : Finding) → Contains told f → first_of f.state all ≡ Some f

-- so of a verdict
abbrev pub TellsFirst : List Finding → Verdict → Type 0
TellsFirst all Accepted = ⊤
TellsFirst all (Rejected told) = AreFirst all told
