-- Worked widest certificates, and what is found on them: no premise of the laws on inference is empty.
use Rattle.std.proofs.Common.{◌≡◌, refl, sym, ap, ◌∙◌, ℕ, zero, suc, List, [], ◌∷◌, Bool, true, false, if◌then◌else◌, bytes_eq, slice_get, IsTrue, Some, None, is_some, codes}
use Rattle.std.proofs.lemmas.Slice.Eq.{bytes_eq-Decides}
use Rattle.asl_model.specs.Tree.{Null}
use Rattle.asl_model.specs.Machine.{Scope, ScopeOf, AndState, NoStates, State, StateOf, Kind, Map, kind_of}
use Rattle.asl_model.specs.Shape.{Any}
use Rattle.asl_model.specs.Certificate.{StateShapes, Certificate, under, certified}
use Rattle.asl_model.specs.Finding.{findings, PathMayBeMissing, WrongKind}
use Rattle.asl_model.specs.Inference.{widest_entry, IsWidest}
use Rattle.asl_model.specs.Numbering.{table_of}
use Rattle.asl_model.proofs.ExamplesClosed.{integers_in, two_tasks, second_of_two}
use Rattle.asl_model.proofs.ExamplesRuns.{ends, passing}
use Rattle.asl_model.proofs.RunOptions.{some_inj, none_some, false_true}

-- the widest entry of each of the table's states, by their names
abbrev widest_entries : List (List ℕ) → List State → List (List ℕ × StateShapes)
widest_entries [] states = []
widest_entries (n ∷ names) [] = []
widest_entries (n ∷ names) (state ∷ states) = (n, widest_entry (kind_of state)) ∷ widest_entries names states

-- the widest certificate of a machine
abbrev widest : Scope → Certificate
widest machine = record { output = Any; states = widest_entries (table_of machine).names (table_of machine).states }

-- a name that has one of those entries is among the names
named : (names : List (List ℕ)) (states : List State) (n : List ℕ) → IsTrue (is_some (under n (widest_entries names states))) → (i : ℕ) × (slice_get names i ≡ Some n)
named [] states n h = false_true h
named (m ∷ names) [] n h = false_true h
named (m ∷ names) (state ∷ states) n h = go (bytes_eq m n) refl h (named names states n)
  where
    go : (b : Bool) → bytes_eq m n ≡ b → IsTrue (is_some (if b then Some (widest_entry (kind_of state)) else under n (widest_entries names states))) → (IsTrue (is_some (under n (widest_entries names states))) → (i : ℕ) × (slice_get names i ≡ Some n)) → (i : ℕ) × (slice_get (m ∷ names) i ≡ Some n)
    go true e k further = (0, ap Some ((bytes_eq-Decides m n).0 e))
    go false e k further = let w = further k in (suc w.0, w.1)

-- ---- a Pass

-- on Any nothing is found
pass_widest : IsWidest (table_of passing) (widest passing)
pass_widest = record { output = refl; entries = entry; no_other_entry = named (table_of passing).names (table_of passing).states }
  where
    entry : (i : ℕ) (n : List ℕ) (state : State) → slice_get (table_of passing).names i ≡ Some n → slice_get (table_of passing).states i ≡ Some state → certified (widest passing) n ≡ Some (widest_entry (kind_of state))
    entry zero n state e f = ap (certified (widest passing)) (sym (some_inj e)) ∙ ap (λ s. Some (widest_entry (kind_of s))) (some_inj f)
    entry (suc i) n state e f = none_some e

pass_fine : findings passing integers_in (widest passing) ≡ []
pass_fine = refl

-- ---- a Parallel of two Tasks, and a Pass that takes the second output

second_widest : IsWidest (table_of second_of_two) (widest second_of_two)
second_widest = record { output = refl; entries = entry; no_other_entry = named (table_of second_of_two).names (table_of second_of_two).states }
  where
    here : (m n : List ℕ) (kind : Kind) (state : State) → m ≡ n → certified (widest second_of_two) m ≡ Some (widest_entry kind) → kind ≡ kind_of state → certified (widest second_of_two) n ≡ Some (widest_entry (kind_of state))
    here m n kind state e f g = ap (certified (widest second_of_two)) (sym e) ∙ (f ∙ ap (λ k. Some (widest_entry k)) g)

    entry : (i : ℕ) (n : List ℕ) (state : State) → slice_get (table_of second_of_two).names i ≡ Some n → slice_get (table_of second_of_two).states i ≡ Some state → certified (widest second_of_two) n ≡ Some (widest_entry (kind_of state))
    entry zero n state e f = here (codes "N") n _ state (some_inj e) refl (ap kind_of (some_inj f))
    entry (suc zero) n state e f = here (codes "P") n _ state (some_inj e) refl (ap kind_of (some_inj f))
    entry (suc (suc zero)) n state e f = here (codes "T0") n _ state (some_inj e) refl (ap kind_of (some_inj f))
    entry (suc (suc (suc zero))) n state e f = here (codes "T1") n _ state (some_inj e) refl (ap kind_of (some_inj f))
    entry (suc (suc (suc (suc i)))) n state e f = none_some e

-- Any may have no second element, as null shows
second_may_be_missing : findings second_of_two two_tasks (widest second_of_two) ≡ record { state = codes "N"; field = codes "InputPath"; fault = PathMayBeMissing; example = Some Null } ∷ []
second_may_be_missing = refl

-- ---- a Map over its input

abbrev each_item : Scope
each_item = ScopeOf (codes "M") (AndState (codes "M") (StateOf ends (Map [] None passing)) NoStates)

-- Any may be no list
input_of_wrong_kind : findings each_item integers_in (widest each_item) ≡ record { state = codes "M"; field = codes "ItemsPath"; fault = WrongKind; example = None } ∷ []
input_of_wrong_kind = refl
