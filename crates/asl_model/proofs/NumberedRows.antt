-- Where the names of a machine lead to its states, each state of each of its scopes has a row in the machine's table.
use Rattle.std.proofs.Common.{◌≡◌, refl, sym, ap, ◌∙◌, ℕ, zero, suc, List, [], ◌∷◌, map, Bool, true, false, not, ◌||◌, bytes_eq, position, slice_get, Option, Some, None, option_map}
use Rattle.std.proofs.lemmas.Bool.{and_parts}
use Rattle.std.proofs.lemmas.Option.{slice_get-map}
use Rattle.std.proofs.lemmas.Slice.Eq.{bytes_eq-Decides}
use Rattle.asl_model.specs.Machine.{Scope, State, start_of, state_named}
use Rattle.asl_model.specs.ShapeSpelling.{is_among, are_distinct}
use Rattle.asl_model.specs.Numbering.{Standing, standing, state_number, number_or_0, outline, outlined, placement_of, table_of, IsScopeOf, HasNamed, IsWellNamed}
use Rattle.asl_model.proofs.Numbering.{names_of_standing, outlined_names}
use Rattle.asl_model.proofs.NumberedScopes.{StandsAs, all_stand}
use Rattle.asl_model.proofs.NumberedStates.{StandsAt, stands_at, number_found}
use Rattle.asl_model.proofs.RunOptions.{some_inj, none_some, some_there, false_true}

-- the row of a state of that scope: its number leads to its name, to the state without the states of its own scopes, and
-- to where it stands
pub record HasRow (machine scope : Scope) (n : List ℕ) (state : State) : Type 0 where
  pub number : ℕ
  pub owner : Option (List ℕ × ℕ)
  pub numbered : state_number (standing machine) n ≡ Some number
  pub found : position (bytes_eq n) (table_of machine).names ≡ Some number
  pub named : slice_get (table_of machine).names number ≡ Some n
  pub shown : slice_get (table_of machine).states number ≡ Some (outline state)
  pub placed : slice_get (table_of machine).placements number ≡ Some (record { start = number_or_0 (map outlined (standing machine)) (start_of scope); owner = option_map (λ o. (number_or_0 (map outlined (standing machine)) o.0, o.1)) owner })

-- what is made of a state without the states of its scopes stands where the state does
made_of : {A : Type 0} (f : Standing → A) (states : List Standing) (i : ℕ) (s : Standing) → slice_get states i ≡ Some s → slice_get (map f (map outlined states)) i ≡ Some (f (outlined s))
made_of f states i s e = slice_get-map f (map outlined states) i ∙ ap (option_map f) (slice_get-map outlined states i ∙ ap (option_map outlined) e)

row_at : (machine scope : Scope) (n : List ℕ) (state : State) (owner : Option (List ℕ × ℕ)) → StandsAt (standing machine) (record { name = n; state = state; start = start_of scope; owner = owner }) → HasRow machine scope n state
row_at machine scope n state owner at =
    let s : Standing = record { name = n; state = state; start = start_of scope; owner = owner } in
    let numbered : state_number (standing machine) n ≡ Some at.number = number_found (standing machine) s at in
    record {
      number = at.number;
      owner = owner;
      numbered = numbered;
      found = ap (position (bytes_eq n)) (outlined_names (standing machine)) ∙ numbered;
      named = made_of (λ t. t.name) (standing machine) at.number s at.here;
      shown = made_of (λ t. t.state) (standing machine) at.number s at.here;
      placed = made_of (placement_of (map outlined (standing machine))) (standing machine) at.number s at.here;
    }

-- each state of each scope has a row
pub has_row : (machine scope : Scope) → IsWellNamed machine → IsScopeOf machine scope → (n : List ℕ) (state : State) → state_named n scope ≡ Some state → HasRow machine scope n state
has_row machine scope well is_scope n state e =
    let stands : StandsAs (standing machine) scope n state = all_stand machine scope is_scope n state e in
    row_at machine scope n state stands.owner (stands_at (standing machine) (record { name = n; state = state; start = start_of scope; owner = stands.owner }) (ap are_distinct (names_of_standing None machine) ∙ well.distinct) stands.listed)

-- so what a name of the scope leads to has one
pub record LeadsToRow (machine scope : Scope) (n : List ℕ) : Type 0 where
  pub state : State
  pub named : state_named n scope ≡ Some state
  pub row : HasRow machine scope n state

pub leads_to_row : (machine scope : Scope) → IsWellNamed machine → IsScopeOf machine scope → (n : List ℕ) → HasNamed scope n → LeadsToRow machine scope n
leads_to_row machine scope well is_scope n has =
    let found : (state : State) × (state_named n scope ≡ Some state) = some_there (state_named n scope) has in
    record { state = found.0; named = found.1; row = has_row machine scope well is_scope n found.0 found.1 }

-- ---- rows by their numbers

-- a name that stands at a number is among the names
among_at : (names : List (List ℕ)) (i : ℕ) (n : List ℕ) → slice_get names i ≡ Some n → is_among n names ≡ true
among_at [] i n e = none_some e
among_at (m ∷ names) zero n e = ap (λ b. b || is_among n names) ((bytes_eq-Decides m n).1 (some_inj e))
among_at (m ∷ names) (suc i) n e = further (bytes_eq m n) (among_at names i n e)
  where
    further : (b : Bool) → is_among n names ≡ true → (b || is_among n names) ≡ true
    further true h = refl
    further false h = h

-- the first isn't among the others where no name stands twice
first_alone : {A : Type 0} (m n : List ℕ) (names : List (List ℕ)) → are_distinct (m ∷ names) ≡ true → m ≡ n → is_among n names ≡ true → A
first_alone m n names distinct same among = false_true (ap not (sym among) ∙ (ap (λ k. not (is_among k names)) (sym same) ∙ (and_parts (not (is_among m names)) (are_distinct names) distinct).0))

-- where no name stands twice, each stands at one number
pub one_number : (names : List (List ℕ)) (i j : ℕ) (n : List ℕ) → are_distinct names ≡ true → slice_get names i ≡ Some n → slice_get names j ≡ Some n → i ≡ j
one_number [] i j n distinct e f = none_some e
one_number (m ∷ names) zero zero n distinct e f = refl
one_number (m ∷ names) zero (suc j) n distinct e f = first_alone m n names distinct (some_inj e) (among_at names j n f)
one_number (m ∷ names) (suc i) zero n distinct e f = first_alone m n names distinct (some_inj f) (among_at names i n e)
one_number (m ∷ names) (suc i) (suc j) n distinct e f = ap suc (one_number names i j n (and_parts (not (is_among m names)) (are_distinct names) distinct).1 e f)

-- the number of a state is the one at which its name stands in the table
pub number_known : (machine scope : Scope) → IsWellNamed machine → (n : List ℕ) (state : State) (row : HasRow machine scope n state) (i : ℕ) → slice_get (table_of machine).names i ≡ Some n → row.number ≡ i
number_known machine scope well n state row i e = one_number (table_of machine).names row.number i n (ap are_distinct (outlined_names (standing machine) ∙ names_of_standing None machine) ∙ well.distinct) row.named e

-- where the scope has the name that stands at a number in the table, the state of that number is the scope's state of that name
pub record ShowsState (machine scope : Scope) (i : ℕ) (n : List ℕ) : Type 0 where
  pub state : State
  pub named : state_named n scope ≡ Some state
  pub found : position (bytes_eq n) (table_of machine).names ≡ Some i
  pub shown : slice_get (table_of machine).states i ≡ Some (outline state)

pub shows_state : (machine scope : Scope) → IsWellNamed machine → IsScopeOf machine scope → (i : ℕ) (n : List ℕ) → slice_get (table_of machine).names i ≡ Some n → HasNamed scope n → ShowsState machine scope i n
shows_state machine scope well is_scope i n e has =
    let at : LeadsToRow machine scope n = leads_to_row machine scope well is_scope n has in
    let same : at.row.number ≡ i = number_known machine scope well n at.state at.row i e in
    record {
      state = at.state;
      named = at.named;
      found = at.row.found ∙ ap Some same;
      shown = ap (slice_get (table_of machine).states) (sym same) ∙ at.row.shown;
    }
