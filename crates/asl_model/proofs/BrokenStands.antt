-- A rule that is told of what flows through a state is a finding that stands.
use Rattle.std.proofs.Common.{◌≡◌, refl, sym, ap, subst, ℕ, List, [], ◌∷◌, Contains, if◌then◌else◌, Option, Some, None, slice_get}
use Rattle.std.proofs.lemmas.Slice.Eq.{bytes_eq-Decides}
use Rattle.asl_model.specs.Machine.{Settings, Scope, State, Kind, settings_of, kind_of}
use Rattle.asl_model.specs.Shape.{Shape, Any}
use Rattle.asl_model.specs.Certificate.{Declared, StateShapes, Certificate, certified}
use Rattle.asl_model.specs.Finding.{Breach, input_to_compare, surrounded_by, flow_breaches, Stands}
use Rattle.asl_model.specs.FindingRules.{HasState}
use Rattle.asl_model.specs.Inference.{finding_of, IsBrokenAnyway, StandsForSome}
use Rattle.asl_model.specs.Numbering.{outline, table_of}
use Rattle.asl_model.proofs.FindingNames.{is_surrounded}
use Rattle.asl_model.proofs.FindingShown.{told_flow}
use Rattle.asl_model.proofs.FindingTold.{flow_tells}
use Rattle.asl_model.proofs.FindingRules.{told_exactly}
use Rattle.asl_model.proofs.OutlinedRules.{flow-outlined}
use Rattle.asl_model.proofs.StandingStates.{IsNamed, is_named, is_shown}

-- at a state of the machine
pub stands_in_machine : (machine : Scope) (declared : Declared) (certificate : Certificate) (n : List ℕ) (settings : Settings) (kind : Kind) (end : Option Shape) (entry : StateShapes) (breach : Breach) → HasState machine certificate n settings kind end → certified certificate n ≡ Some entry → Contains (flow_breaches (surrounded_by declared (input_to_compare machine certificate) end n entry) settings kind) breach → Stands machine declared certificate (finding_of n breach)
stands_in_machine machine declared certificate n settings kind end entry breach state e c =
    let w = flow_tells (surrounded_by declared (input_to_compare machine certificate) end n entry) settings kind breach c in
    (told_exactly machine declared certificate (finding_of n breach)).0 (told_flow (is_surrounded machine declared certificate state e) w.0 w.1)

-- at a state of its table
pub stands_in_table : (machine : Scope) (declared : Declared) (certificate : Certificate) (i : ℕ) (n : List ℕ) (state : State) (entry : StateShapes) (breach : Breach) → slice_get (table_of machine).names i ≡ Some n → slice_get (table_of machine).states i ≡ Some state → certified certificate n ≡ Some entry → IsBrokenAnyway declared n state entry breach → Stands machine declared certificate (finding_of n breach)
stands_in_table machine declared certificate i n state entry breach named shown e broken =
    let row : IsNamed machine certificate i n = is_named machine certificate i n named in
    let here : Contains (flow_breaches (surrounded_by declared (input_to_compare machine certificate) row.end n entry) (settings_of (outline row.shown)) (kind_of (outline row.shown))) breach = subst (λ s. Contains (flow_breaches (surrounded_by declared (input_to_compare machine certificate) row.end n entry) (settings_of s) (kind_of s)) breach) (sym (is_shown machine certificate i n state shown row)) (broken (input_to_compare machine certificate) row.end) in
    stands_in_machine machine declared certificate n (settings_of row.shown) (kind_of row.shown) row.end entry breach row.stands e (subst (λ breaches. Contains breaches breach) (flow-outlined (surrounded_by declared (input_to_compare machine certificate) row.end n entry) row.shown) here)

-- there for some certificate: one whose only entry is that of the state
pub stands_for_some : (machine : Scope) (declared : Declared) (i : ℕ) (n : List ℕ) (state : State) (entry : StateShapes) (breach : Breach) → slice_get (table_of machine).names i ≡ Some n → slice_get (table_of machine).states i ≡ Some state → IsBrokenAnyway declared n state entry breach → StandsForSome machine declared (finding_of n breach)
stands_for_some machine declared i n state entry breach named shown broken =
    let certificate : Certificate = record { output = Any; states = (n, entry) ∷ [] } in
    (certificate, stands_in_table machine declared certificate i n state entry breach named shown (ap (λ same. if same then Some entry else None) ((bytes_eq-Decides n n).1 refl)) broken)
