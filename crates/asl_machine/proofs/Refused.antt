-- What is wrong with a definition is what its rules say, and what its states' names say.
use Rattle.std.proofs.Common.{◌≡◌, refl, sym, ap, ◌∙◌, subst, ℕ, List, [], ◌++◌, map, append_assoc, Option, Some, None, IfSome}
use Rattle.serde_json.specs.Data.{Data}
use Rattle.asl_model.specs.DefinitionTable.{machine_rows}
use Rattle.asl_model.specs.Numbering.{IsWellNamed, Standing, Table, standing_in, outlined, table_among, table_of}
use Rattle.asl_model.specs.StandsFor.{Complaint, StandsFor, scope_of, all_names, complaints, no_object_complaints, scope_complaints, duplicate_complaints, number_complaints, place_of_state}
use Rattle.asl_model.proofs.Numbering.{names_of_standing, outlined_names}
use Rattle.asl_model.proofs.WellNamed.{well_named}
use Rattle.asl_fields.specs.Verdicts.{IsAmong}
use Rattle.asl_machine.specs.Numbered.{names_of_all}
use Rattle.asl_machine.specs.Refusal.{IsRefused, without_memory, for_broken_rule}
use Rattle.asl_machine_table.specs.Rebuilding.{machine_of}
use Rattle.asl_machine_table.specs.Table.{IsWhole}
use Rattle.asl_machine_table.proofs.Rebuilt.{rebuilt}
use Rattle.asl_machine.proofs.Checks.{among_first, among_second}

-- what is wrong but for the names of states
abbrev pub rules_broken : Data → List Complaint
rules_broken v = no_object_complaints v ++ scope_complaints (place_of_state []) machine_rows v

-- what is wrong with names
abbrev pub names_broken : List (List ℕ) → List Complaint
names_broken names = duplicate_complaints names ++ number_complaints names

-- both are all that is wrong
both_broken : (v : Data) → complaints v ≡ rules_broken v ++ names_broken (all_names (scope_of v))
both_broken v = sym (append_assoc (no_object_complaints v) (scope_complaints (place_of_state []) machine_rows v) (names_broken (all_names (scope_of v))))

-- the names of the states that are built are those of the definition
pub built_names : (v : Data) (built : List Standing) → built ≡ map outlined (standing_in None (scope_of v)) → names_of_all built ≡ all_names (scope_of v)
built_names v built e = ap names_of_all e ∙ (outlined_names (standing_in None (scope_of v)) ∙ names_of_standing None (scope_of v))

-- where nothing is wrong with the rules and with the names, the value stands for its machine
pub stands : (v : Data) (built : List Standing) → built ≡ map outlined (standing_in None (scope_of v)) → rules_broken v ≡ [] → duplicate_complaints (names_of_all built) ≡ [] → number_complaints (names_of_all built) ≡ [] → StandsFor v (scope_of v)
stands v built e rules distinct few = record { none_wrong = both_broken v ∙ (ap (λ cs. cs ++ names_broken (all_names (scope_of v))) rules ∙ subst (λ ns. names_broken ns ≡ []) (built_names v built e) (ap (λ cs. cs ++ number_complaints (names_of_all built)) distinct ∙ few)); same = refl }

-- what is told is a reason to refuse
refused : (v : Data) (told : Option Complaint) → IsAmong (complaints v) told → IsRefused v told
refused v None h = without_memory
refused v (Some c) h = for_broken_rule (record { listed = h })

-- so what is told of the rules
pub rules_refused : (v : Data) (told : Option Complaint) → IsAmong (rules_broken v) told → IsRefused v told
rules_refused v told h = refused v told (subst (λ cs. IsAmong cs told) (sym (both_broken v)) (among_first (rules_broken v) (names_broken (all_names (scope_of v))) told h))

-- and of the names
pub names_refused : (v : Data) (built : List Standing) → built ≡ map outlined (standing_in None (scope_of v)) → (told : Option Complaint) → IsAmong (names_broken (names_of_all built)) told → IsRefused v told
names_refused v built e told h = refused v told (subst (λ cs. IsAmong cs told) (sym (both_broken v)) (among_second (rules_broken v) (names_broken (all_names (scope_of v))) told (subst (λ ns. IsAmong (names_broken ns) told) (built_names v built e) h)))

-- what is told of a complaint that was found
pub told_found : (wrong : List Complaint) (told found : Option Complaint) → IfSome told (λ c. found ≡ Some c) → IsAmong wrong found → IsAmong wrong told
told_found wrong None found e h = tt
told_found wrong (Some c) found e h = subst (λ o. IsAmong wrong o) e h

-- the table that is built is that of its machine
pub whole : (v : Data) (built : List Standing) (table : Table) → built ≡ map outlined (standing_in None (scope_of v)) → StandsFor v (scope_of v) → table ≡ table_among built → IsWhole table
whole v built table e for same =
    let well = well_named v (scope_of v) for in
    let its : table ≡ table_of (scope_of v) = same ∙ ap table_among e in
    let back : machine_of table ≡ scope_of v = ap machine_of its ∙ rebuilt (scope_of v) well in
    record { table = its ∙ ap table_of (sym back); well_named = subst IsWellNamed (sym back) well }

-- so the machine of that table is the definition's
pub same_machine : (v : Data) (built : List Standing) (table : Table) → built ≡ map outlined (standing_in None (scope_of v)) → StandsFor v (scope_of v) → table ≡ table_among built → machine_of table ≡ scope_of v
same_machine v built table e for same = ap machine_of (same ∙ ap table_among e) ∙ rebuilt (scope_of v) (well_named v (scope_of v) for)
