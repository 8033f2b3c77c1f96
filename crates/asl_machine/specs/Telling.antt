-- What a walk over a definition tells behind what was told before. No public clause cites this module.
use Rattle.std.specs.Prelude.{◌≡◌, ℕ, List, [], ◌∷◌, ◌++◌, map, nat_lt, not, is_some, codes, option_and_then}
use Rattle.std.specs.Borrow.{Bor}
use Rattle.std.specs.List.{cons_option}
use Rattle.serde_json.specs.Data.{Data}
use Rattle.serde_json.specs.Find.{as_object}
use Rattle.asl_model.specs.DefinitionTable as model
use Rattle.asl_model.specs.Json.{tree_of}
use Rattle.asl_model.specs.RuleSpelling.{rule_of}
use Rattle.asl_model.specs.Test.{Rule}
use Rattle.asl_model.specs.StandsFor.{Complaint, Place, complain_unless, complaint_at, place_of_state}
use Rattle.asl_machine.specs.declared.scope_telling.Telling.{Telling}
use Rattle.asl_fields.specs.Telling.{Told}

-- the texts of names
abbrev pub texts : List (Bor (List ℕ)) → List (List ℕ)
texts names = map (λ n. n.now) names

-- those complaints were told, and those names gathered
pub record Walks (before after : Telling) (wrong : List Complaint) (names : List (List ℕ)) : Type 0 where
  pub told : Told before.told.items after.told.items wrong
  pub named : texts after.names.items ≡ texts before.names.items ++ names

-- ---- what is told in one

-- the rule that an element spells, where it spells one
abbrev pub rule_spelled : Data → List Rule
rule_spelled v = cons_option (option_and_then rule_of (tree_of v)) []

-- that an element of `Branches` is no object
abbrev pub branch_checked : Place → Data → List Complaint
branch_checked place v = complain_unless (is_some (as_object v)) place (codes "Branches") (model.wrong_kind v)

-- that a name stands again
abbrev pub repeated_told : List ℕ → List Complaint
repeated_told n = complaint_at (place_of_state n) (codes "States") model.DuplicateName ∷ []

-- so of each of the names, the last first
abbrev pub from_last : List (Bor (List ℕ)) → List Complaint
from_last [] = []
from_last (n ∷ ns) = from_last ns ++ repeated_told n.now

-- that there are so many states
abbrev pub count_told : ℕ → List Complaint
count_told count =
    complain_unless (not (nat_lt 10000 count)) (place_of_state []) (codes "States") model.TooLarge
