-- What the checker lists: broken rules with the names of their states, by the numbers of a table.
use Rattle.std.specs.Prelude.{◌≡◌, ℕ, List, ◌++◌, length, map}
use Rattle.std.specs.List.{AllByRecursion}
use Rattle.asl_model.specs.Finding as finding
use Rattle.asl_model.specs.Shape.{Shape}
use Rattle.asl_state_edges.specs.View.{finding_fault_view}
use Rattle.asl_check.specs.declared.listed.Listed.{Listed}
use Rattle.asl_check.specs.Faults.{shown_view, IsFaultBelow}

-- a broken rule of a name, with the shapes of a table
abbrev pub listed_view : List Shape → Listed → finding.Finding
listed_view table rule = record {
  state = rule.name.now;
  field = rule.fault.field.now;
  fault = finding_fault_view rule.fault.fault;
  example = shown_view table rule.fault.shown;
}

-- so for each of several
abbrev pub rules_view : List Shape → List Listed → List finding.Finding
rules_view table rules = map (listed_view table) rules

-- the numbers of what shows them to be broken are below that bound
abbrev pub AreRulesBelow : ℕ → List Listed → Type 0
AreRulesBelow bound rules = AllByRecursion (λ (rule : Listed). IsFaultBelow bound rule.fault) rules

-- those rules are added, on shapes of the table
pub record Adds (table : List Shape) (before after : List Listed) (rules : List finding.Finding) : Type 0 where
  pub added : List Listed
  pub whole : after ≡ before ++ added
  pub below : AreRulesBelow (length table) added
  pub seen : rules_view table added ≡ rules
