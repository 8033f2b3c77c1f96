-- The names of rules, and the rules that occur in diagnostics.
use Rattle.std.specs.Prelude.{ℕ, List, [], ◌∷◌, ◌++◌, Option, Some, None, bytes_eq, codes, if◌then◌else◌, is_some, position}
use Rattle.std.specs.Borrow.{Bor}
use Rattle.asl_model.specs.Texts as texts
use Rattle.asl_tree.specs.declared.TreeRefusal.{TreeRefusal}
use Rattle.asl_tree.specs.declared.TreeRefusal.TheVariants as tree
use Rattle.asl_diagnostics.specs.declared.Diagnostic.{Diagnostic}
use Rattle.asl_diagnostics.specs.declared.rules.Rule.{Rule}
use Rattle.asl_diagnostics.specs.declared.warnings.Warning.{Warning}
use Rattle.asl_diagnostics.specs.declared.warnings.Warning.TheVariants as warning

-- the fault of a text that isn't read as a tree; none is want of memory
abbrev pub text_fault : TreeRefusal → Option texts.TextFault
text_fault tree.NotJson = Some texts.NotJson
text_fault tree.NotWhole = Some texts.NotWhole
text_fault tree.OutOfMemory = None

-- the name of a warning
abbrev pub warning_name : Warning → List ℕ
warning_name warning.UnreachableState = codes "UnreachableState"
warning_name warning.NoDataReaches = codes "NoDataReaches"
warning_name warning.CatcherNeverTaken = codes "CatcherNeverTaken"
warning_name warning.RetrierNeverTaken = codes "RetrierNeverTaken"
warning_name warning.RuleNeverTrue = codes "RuleNeverTrue"
warning_name warning.DefaultNeverTaken = codes "DefaultNeverTaken"

-- the name of what is told where the rounds of an inference don't settle
abbrev pub not_settled_name : List ℕ
not_settled_name = codes "NotSettled"

-- the number of the first rule of that name
abbrev pub index_of : List (Bor Rule) → List ℕ → Option ℕ
index_of rules id = position (λ rule. bytes_eq rule.now.id.now id) rules

-- the rules with one more, where none has its name
abbrev pub with_rule : List (Bor Rule) → Bor Rule → List (Bor Rule)
with_rule rules rule = if is_some (index_of rules rule.now.id.now) then rules else rules ++ rule ∷ []

-- the rules, and behind them those of the diagnostics, each name once
abbrev pub rules_after : List (Bor Rule) → List Diagnostic → List (Bor Rule)
rules_after rules [] = rules
rules_after rules (d ∷ ds) = rules_after (with_rule rules d.rule) ds
