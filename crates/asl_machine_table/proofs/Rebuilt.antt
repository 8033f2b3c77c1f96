-- What is built of the table of a well-named machine is that machine.
use Rattle.std.proofs.Common.{◌≡◌, refl, sym, ap, ap₂, ◌∙◌, ℕ, zero, suc, ◌+◌, ◌<◌, ◌≤◌, List, [], ◌∷◌, ◌++◌, length}
use Rattle.std.proofs.Common.{map, get_or, Bool, true, false, ◌&&◌, eqb, bytes_eq, position, slice_get, Option, Some}
use Rattle.std.proofs.Common.{None, option_map, inl, inr, length-append, arith}
use Rattle.std.specs.Prelude.{IsTrue}
use Rattle.std.specs.Option.{unwrap_or}
use Rattle.std.proofs.lemmas.Bool.{eqb-true, eq-eqb}
use Rattle.std.proofs.lemmas.List.{length-map}
use Rattle.std.proofs.lemmas.Option.{slice_get-map}
use Rattle.asl_model.specs.Machine.{Scope, ScopeOf, States, NoStates, AndState, State, StateOf, Kind, Pass, Task}
use Rattle.asl_model.specs.Machine.{Choice, Wait, Succeed, Fail, Parallel, Map, Scopes, NoScopes, AndScope, own_scope}
use Rattle.asl_model.specs.ShapeSpelling.{are_distinct}
use Rattle.asl_model.specs.Numbering.{Standing, standing, standing_in, standing_among, standing_inside, standing_by}
use Rattle.asl_model.specs.Numbering.{standing_each, scope_outline, scopes_outline, kind_outline, outline, outlined}
use Rattle.asl_model.specs.Numbering.{number_or_0, placement_of, table_of, IsWellNamed}
use Rattle.asl_model.proofs.Numbering.{names_of_standing, outlined_names}
use Rattle.asl_model.proofs.NumberedRows.{leads_to_row, one_number}
use Rattle.asl_model.proofs.NumberedScopes.{IsListed}
use Rattle.asl_model.proofs.NumberedStates.{StandsAt, stands_at, number_found}
use Rattle.asl_model.proofs.RunOptions.{some_inj, none_some}
use Rattle.asl_machine_table.specs.Held.{Held}
use Rattle.asl_machine_table.specs.Table.{Shows, scope_in}
use Rattle.asl_machine_table.specs.Rebuilding.{Row, rows_of, same_owner, Made, made_then, made_into}
use Rattle.asl_machine_table.specs.Rebuilding.{scope_with, scopes_with, kind_with, state_with, states_from, first_start, machine_of}

-- ---- owners

-- each is the owner of its own scope
same_itself : (o : Option (ℕ × ℕ)) → same_owner o o ≡ true
same_itself None = refl
same_itself (Some v) = ap₂ (λ a b. a && b) (eq-eqb v.0 v.0 refl) (eq-eqb v.1 v.1 refl)

-- two that differ are the owners of different scopes
apart : (v w : ℕ × ℕ) → (v.0 ≡ w.0 → v.1 ≡ w.1 → ⊥) → same_owner (Some v) (Some w) ≡ false
apart v w differ = go (eqb v.0 w.0) refl (eqb v.1 w.1) refl
  where
    go : (a : Bool) → eqb v.0 w.0 ≡ a → (b : Bool) → eqb v.1 w.1 ≡ b → (eqb v.0 w.0 && eqb v.1 w.1) ≡ false
    go true e true f = absurd (differ (eqb-true v.0 w.0 e) (eqb-true v.1 w.1 f))
    go true e false f = ap₂ (λ a b. a && b) e f
    go false e b f = ap (λ a. a && eqb v.1 w.1) e

-- a scope of that owner goes on in the rows
abbrev goes_on : Option (ℕ × ℕ) → List Row → Bool
goes_on owner [] = false
goes_on owner (row ∷ rows) = same_owner row.owner owner

-- the owner is no state from that number on
abbrev IsAbove : ℕ → Option (ℕ × ℕ) → Type 0
IsAbove k owner = (w : ℕ × ℕ) → k ≤ w.0 → same_owner owner (Some w) ≡ false

-- no scope of a state from that number on goes on in the rows, so that all of them end there
abbrev AllEnd : ℕ → List Row → Type 0
AllEnd k rows = (w : ℕ × ℕ) → k ≤ w.0 → goes_on (Some w) rows ≡ false

-- the same from a later number on
above-later : (k l : ℕ) (owner : Option (ℕ × ℕ)) → k ≤ l → IsAbove k owner → IsAbove l owner
above-later k l owner later above w h = above w (omega arith)

ends-later : (k l : ℕ) (rows : List Row) → k ≤ l → AllEnd k rows → AllEnd l rows
ends-later k l rows later ends w h = ends w (omega arith)

-- ---- numbers

-- the number behind the states, of which the first has that number
abbrev behind : ℕ → List Standing → ℕ
behind k [] = k
behind k (s ∷ states) = behind (suc k) states

behind-above : (k : ℕ) (states : List Standing) → k ≤ behind k states
behind-above k [] = omega arith
behind-above k (s ∷ states) = let h : suc k ≤ behind (suc k) states = behind-above (suc k) states in omega arith

behind-both : (k : ℕ) (xs ys : List Standing) → behind k (xs ++ ys) ≡ behind (behind k xs) ys
behind-both k [] ys = refl
behind-both k (x ∷ xs) ys = behind-both (suc k) xs ys

-- ---- one more made

-- this is made, the row of that number is the next one, and these are left
abbrev made_of : {A : Type 0} → A → ℕ → List Row → Made A
made_of a k rows = record { made = a; next = k; left = rows }

-- the states of the scope, where the first is made already
abbrev with_others : ℕ → Option (ℕ × ℕ) → List ℕ → Made State → Made States
with_others fuel owner n first =
    made_then first (λ state next left. made_into (λ others. AndState n state others) (states_from fuel owner next left))

-- the states of the scope, where it is known whether the first row has its owner
abbrev by_owner : ℕ → Option (ℕ × ℕ) → ℕ → Row → List Row → Bool → Made States
by_owner fuel owner k row rows own =
    elim own [
      | true ↦ with_others fuel owner row.name (state_with (states_from fuel) k row.state (suc k) rows)
      | false ↦ made_of NoStates k (row ∷ rows)
    ]

-- the branches, where the first is made already
abbrev with_branches : ℕ → ℕ → ℕ → Scopes → Made Scope → Made Scopes
with_branches fuel n i others first =
    made_then first (λ scope next left. made_into (λ more. AndScope scope more)
    (scopes_with (states_from fuel) n i others next left))

-- a scope ends where it doesn't go on
no-more : (fuel k : ℕ) (owner : Option (ℕ × ℕ)) (rest : List Row)
    → goes_on owner rest ≡ false → states_from fuel owner k rest ≡ made_of NoStates k rest
no-more zero k owner rest e = refl
no-more (suc fuel) k owner [] e = refl
no-more (suc fuel) k owner (row ∷ rest) e = ap (by_owner fuel owner k row rest) e

-- where the first row has the owner, its state and then the others are made of the rows behind it
one-more : (fuel k n : ℕ) (owner : Option (ℕ × ℕ)) (row : Row) (rows inner middle rest : List Row)
    → (state : State) (others : States) (next last : ℕ)
    → same_owner row.owner owner ≡ true → k ≡ n → rows ≡ inner
    → state_with (states_from fuel) n row.state (suc k) inner ≡ made_of state next middle
    → states_from fuel owner next middle ≡ made_of others last rest
    → states_from (suc fuel) owner k (row ∷ rows) ≡ made_of (AndState row.name state others) last rest
one-more fuel k n owner row rows inner middle rest state others next last own number parts first further =
    ap (by_owner fuel owner k row rows) own
    ∙ (ap₂ (λ i l. with_others fuel owner row.name (state_with (states_from fuel) i row.state (suc k) l)) number parts
    ∙ (ap (with_others fuel owner row.name) first ∙ ap (made_into (λ more. AndState row.name state more)) further))

-- ---- the rows of a scope

module _ (number : List ℕ → ℕ) where
  -- an owner by its number
  abbrev owner_by : Option (List ℕ × ℕ) → Option (ℕ × ℕ)
  owner_by owner = option_map (λ o. (number o.0, o.1)) owner

  -- the row of a state
  abbrev row_by : Standing → Row
  row_by s = record { name = s.name; state = outline s.state; owner = owner_by s.owner }

  -- the rows of states
  abbrev rows_by : List Standing → List Row
  rows_by states = map row_by states

  -- the states have the numbers from k on, one by one
  abbrev Counted : ℕ → List Standing → Type 0
  Counted k [] = Unit {0}
  Counted k (s ∷ states) = (number s.name ≡ k) × Counted (suc k) states

  counted-both : (k : ℕ) (xs ys : List Standing) → Counted k (xs ++ ys) → Counted k xs × Counted (behind k xs) ys
  counted-both k [] ys c = (tt, c)
  counted-both k (x ∷ xs) ys c = let d = counted-both (suc k) xs ys c.1 in ((c.0, d.0), d.1)

  -- the states have those numbers, and the fuel is enough for them
  abbrev Fits : ℕ → ℕ → List Standing → Type 0
  Fits fuel k states = (length states ≤ fuel) × Counted k states

  fits-both : (fuel k : ℕ) (xs ys : List Standing) → Fits fuel k (xs ++ ys) → Fits fuel k xs × Fits fuel (behind k xs) ys
  fits-both fuel k xs ys h =
      let within : length (xs ++ ys) ≤ fuel = h.0 in
      let both : Counted k xs × Counted (behind k xs) ys = counted-both k xs ys h.1 in
      ((omega (arith, length-append xs ys), both.0), (omega (arith, length-append xs ys), both.1))

  fits-less : (fuel k : ℕ) (s : Standing) (states : List Standing) → Fits (suc fuel) k (s ∷ states) → Fits fuel (suc k) states
  fits-less fuel k s states h = let within : length (s ∷ states) ≤ suc fuel = h.0 in (omega arith, h.1.1)

  -- the way makes that of the rows of the states, and leaves the rest
  abbrev Gives : {A : Type 0} → (ℕ → List Row → Made A) → A → List Standing → ℕ → List Row → Type 0
  Gives make a states k rest = make k (rows_by states ++ rest) ≡ made_of a (behind k states) rest

  parted : (xs ys : List Standing) (rest : List Row) → rows_by (xs ++ ys) ++ rest ≡ rows_by xs ++ (rows_by ys ++ rest)
  parted [] ys rest = refl
  parted (x ∷ xs) ys rest = ap (λ rows. row_by x ∷ rows) (parted xs ys rest)

  -- the scopes of the states from k on end in front of the rows of a scope whose owner is above them
  among-ends : (start : List ℕ) (owner : Option (List ℕ × ℕ)) (held : States) (k : ℕ) (rest : List Row)
      → IsAbove k (owner_by owner) → AllEnd k rest → AllEnd k (rows_by (standing_among start owner held) ++ rest)
  among-ends start owner NoStates k rest above ends = ends
  among-ends start owner (AndState m state others) k rest above ends = above

  -- an earlier branch, or a scope of another state, doesn't go on in the rows of the branches from i on, if it doesn't in
  -- the rest
  each-ends : (n : List ℕ) (i : ℕ) (branches : Scopes) (rest : List Row) (w : ℕ × ℕ)
      → (number n ≡ w.0 → w.1 < i) → goes_on (Some w) rest ≡ false
      → goes_on (Some w) (rows_by (standing_each n i branches) ++ rest) ≡ false
  each-ends n i NoScopes rest w before e = e
  each-ends n i (AndScope (ScopeOf start NoStates) others) rest w before e =
      each-ends n (suc i) others rest w (λ same. let h : w.1 < i = before same in omega arith) e
  each-ends n i (AndScope (ScopeOf start (AndState m state more)) others) rest w before e =
      apart (number n, i) w (λ same equal. let h : w.1 < i = before same in omega arith)

  -- so the scopes of the states behind a state end in front of the rows of its branches
  each-end : (n : List ℕ) (i : ℕ) (branches : Scopes) (k : ℕ) (rest : List Row)
      → number n < k → AllEnd (number n) rest → AllEnd k (rows_by (standing_each n i branches) ++ rest)
  each-end n i branches k rest below ends w h =
      each-ends n i branches rest w (λ same. omega arith) (ends w (omega arith))

  -- and a branch ends in front of those of the later ones
  branch-ends : (n : List ℕ) (i : ℕ) (branches : Scopes) (rest : List Row) → AllEnd (number n) rest
      → goes_on (Some (number n, i)) (rows_by (standing_each n (suc i) branches) ++ rest) ≡ false
  branch-ends n i branches rest ends =
      each-ends n (suc i) branches rest (number n, i) (λ same. omega arith) (ends (number n, i) (omega arith))

  -- the owner of a branch is above the branch's states
  branch-above : (n : List ℕ) (i k : ℕ) → number n < k → IsAbove k (owner_by (Some (n, i)))
  branch-above n i k below w h = apart (number n, i) w (λ same equal. omega arith)

  mutual
    -- the states of a scope are made of their rows
    among-made : (start : List ℕ) (owner : Option (List ℕ × ℕ)) (held : States) (fuel k : ℕ) (rest : List Row)
        → Fits fuel k (standing_among start owner held)
        → IsAbove k (owner_by owner) → AllEnd k rest → goes_on (owner_by owner) rest ≡ false
        → Gives (states_from fuel (owner_by owner)) held (standing_among start owner held) k rest
    among-made start owner NoStates fuel k rest fits above ends end = no-more fuel k (owner_by owner) rest end
    among-made start owner (AndState n state others) zero k rest fits above ends end = absurd (omega arith)
    among-made start owner (AndState n state others) (suc fuel) k rest fits above ends end =
        let s : Standing = record { name = n; state = state; start = start; owner = owner } in
        let inner : List Standing = standing_inside n state in
        let further : List Standing = standing_among start owner others in
        let next : ℕ = behind (suc k) inner in
        let behind_it : List Row = rows_by further ++ rest in
        let both = fits-both fuel (suc k) inner further (fits-less fuel k s (inner ++ further) fits) in
        let up : k < next = behind-above (suc k) inner in
        let here : number n ≡ k = fits.1.0 in
        let inner_ends = ends-later k (number n) behind_it (omega arith) (among-ends start owner others k rest above ends) in
        let further_above = above-later k next (owner_by owner) (omega arith) above in
        let further_ends = ends-later k next rest (omega arith) ends in
        let first = inside-made n state fuel (suc k) behind_it both.0 (omega arith) inner_ends in
        let more = among-made start owner others fuel next rest both.1 further_above further_ends end in
        one-more fuel k (number n) (owner_by owner) (row_by s) (rows_by (inner ++ further) ++ rest)
        (rows_by inner ++ behind_it) behind_it rest state others next (behind next further)
        (same_itself (owner_by owner)) (sym here) (parted inner further rest) first more
        ∙ ap (λ l. made_of (AndState n state others) l rest) (sym (behind-both (suc k) inner further))

    -- so is a state, of the rows of its scopes
    inside-made : (n : List ℕ) (state : State) (fuel k : ℕ) (rest : List Row)
        → Fits fuel k (standing_inside n state) → number n < k → AllEnd (number n) rest
        → Gives (state_with (states_from fuel) (number n) (outline state)) state (standing_inside n state) k rest
    inside-made n (StateOf settings kind) fuel k rest fits below ends =
        ap (made_into (λ made. StateOf settings made)) (kind-made n kind fuel k rest fits below ends)

    -- so is its type
    kind-made : (n : List ℕ) (kind : Kind) (fuel k : ℕ) (rest : List Row)
        → Fits fuel k (standing_by n kind) → number n < k → AllEnd (number n) rest
        → Gives (kind_with (states_from fuel) (number n) (kind_outline kind)) kind (standing_by n kind) k rest
    kind-made n (Pass result) fuel k rest fits below ends = refl
    kind-made n (Task resource) fuel k rest fits below ends = refl
    kind-made n (Choice rules default) fuel k rest fits below ends = refl
    kind-made n (Wait delay) fuel k rest fits below ends = refl
    kind-made n Succeed fuel k rest fits below ends = refl
    kind-made n (Fail error cause) fuel k rest fits below ends = refl
    kind-made n (Parallel branches) fuel k rest fits below ends =
        ap (made_into (λ made. Parallel made)) (each-made n 0 branches fuel k rest fits below ends)
    kind-made n (Map items selector processor) fuel k rest fits below ends =
        ap (made_into (λ made. Map items selector made)) (scope-made n 0 processor fuel k rest fits below
        (ends-later (number n) k rest (omega arith) ends) (ends (number n, 0) (omega arith)))

    -- so are its branches from i on
    each-made : (n : List ℕ) (i : ℕ) (branches : Scopes) (fuel k : ℕ) (rest : List Row)
        → Fits fuel k (standing_each n i branches) → number n < k → AllEnd (number n) rest
        → Gives (scopes_with (states_from fuel) (number n) i (scopes_outline branches)) branches (standing_each n i branches) k rest
    each-made n i NoScopes fuel k rest fits below ends = refl
    each-made n i (AndScope scope others) fuel k rest fits below ends =
        let inner : List Standing = standing_in (Some (n, i)) scope in
        let further : List Standing = standing_each n (suc i) others in
        let next : ℕ = behind k inner in
        let behind_it : List Row = rows_by further ++ rest in
        let both = fits-both fuel k inner further fits in
        let up : k ≤ next = behind-above k inner in
        let inner_ends = each-end n (suc i) others k rest below ends in
        let first = scope-made n i scope fuel k behind_it both.0 below inner_ends (branch-ends n i others rest ends) in
        let more = each-made n (suc i) others fuel next rest both.1 (omega arith) ends in
        let with_more = with_branches fuel (number n) (suc i) (scopes_outline others) in
        ap (λ l. with_more (scope_with (states_from fuel) (Some (number n, i)) (scope_outline scope) k l)) (parted inner further rest)
        ∙ (ap with_more first
        ∙ (ap (made_into (λ made. AndScope scope made)) more
        ∙ ap (λ l. made_of (AndScope scope others) l rest) (sym (behind-both k inner further))))

    -- so is one of its scopes
    scope-made : (n : List ℕ) (i : ℕ) (scope : Scope) (fuel k : ℕ) (rest : List Row)
        → Fits fuel k (standing_in (Some (n, i)) scope)
        → number n < k → AllEnd k rest → goes_on (Some (number n, i)) rest ≡ false
        → Gives (scope_with (states_from fuel) (Some (number n, i)) (scope_outline scope)) scope (standing_in (Some (n, i)) scope) k rest
    scope-made n i (ScopeOf start held) fuel k rest fits below ends end =
        ap (made_into (λ made. ScopeOf start made))
        (among-made start (Some (n, i)) held fuel k rest fits (branch-above n i k below) ends end)

-- ---- the rows of the table

-- what stands at a position is listed
listed-at : (states : List Standing) (i : ℕ) (s : Standing) → slice_get states i ≡ Some s → IsListed states s
listed-at [] i s e = none_some e
listed-at (x ∷ xs) zero s e = inl (some_inj e)
listed-at (x ∷ xs) (suc i) s e = inr (listed-at xs i s e)

-- states are counted where each has the number of its position
counted-all : (number : List ℕ → ℕ) (states : List Standing) (k : ℕ)
    → ((i : ℕ) (s : Standing) → slice_get states i ≡ Some s → number s.name ≡ k + i)
    → Counted number k states
counted-all number [] k all = tt
counted-all number (x ∷ xs) k all =
    (all 0 x refl ∙ omega arith, counted-all number xs (suc k) (λ i s e. all (suc i) s e ∙ omega arith))

-- the rows of the table of states without those of their scopes are the rows of the states
rows-are : (all states : List Standing)
    → rows_of (record {
      names = map (λ s. s.name) (map outlined states);
      states = map (λ s. s.state) (map outlined states);
      placements = map (placement_of all) (map outlined states);
    }) ≡ rows_by (number_or_0 all) states
rows-are all [] = refl
rows-are all (s ∷ states) = ap (λ rows. row_by (number_or_0 all) s ∷ rows) (rows-are all states)

-- the table has no rows but those
nothing-behind : (rows : List Row) → rows ++ [] ≡ rows
nothing-behind [] = refl
nothing-behind (row ∷ rows) = ap (λ l. row ∷ l) (nothing-behind rows)

module _ (start : List ℕ) (held : States) (well : IsWellNamed (ScopeOf start held)) where
  -- the well-named machine
  abbrev machine : Scope
  machine = ScopeOf start held

  -- its states, by their numbers
  abbrev all : List Standing
  all = standing machine

  -- the number of a name in its table
  abbrev number : List ℕ → ℕ
  number = number_or_0 (map outlined all)

  distinct : are_distinct (map (λ s. s.name) all) ≡ true
  distinct = ap are_distinct (names_of_standing None machine) ∙ well.distinct

  -- what stands at a number has its name there
  named-at : (i : ℕ) (s : Standing) → slice_get all i ≡ Some s → slice_get (map (λ s. s.name) all) i ≡ Some s.name
  named-at i s e = slice_get-map (λ s. s.name) all i ∙ ap (option_map (λ s. s.name)) e

  -- the number of a state is its position, since no name stands twice
  number-is : (i : ℕ) (s : Standing) → slice_get all i ≡ Some s → number s.name ≡ i
  number-is i s e =
      let stands : StandsAt all s = stands_at all s distinct (listed-at all i s e) in
      ap (λ names. unwrap_or (position (bytes_eq s.name) names) 0) (outlined_names all)
      ∙ (ap (λ o. unwrap_or o 0) (number_found all s stands)
      ∙ one_number (map (λ s. s.name) all) stands.number i s.name distinct (named-at stands.number s stands.here) (named-at i s e))

  -- so the states have the numbers from 0 on, and as much fuel as there are rows is enough for them
  all-fit : Fits number (length (rows_by number all)) 0 all
  all-fit =
      let e : length (rows_by number all) ≡ length all = length-map all (row_by number) in
      (omega arith, counted-all number all 0 (λ i s e. number-is i s e ∙ omega arith))

  -- the machine's states are made of the rows of its table
  held-made : (states_from (length (rows_of (table_of machine))) None 0 (rows_of (table_of machine))).made ≡ held
  held-made =
      let rows : List Row = rows_by number all in
      ap (λ (r : List Row). (states_from (length r) None 0 r).made) (rows-are (map outlined all) all)
      ∙ (ap (λ (r : List Row). (states_from (length rows) None 0 r).made) (sym (nothing-behind rows))
      ∙ ap (λ (m : Made States). m.made)
      (among-made number start None held (length rows) 0 [] all-fit (λ w h. refl) (λ w h. refl) refl))

  -- the number of the start leads to its name
  start-named : get_or (table_of machine).names (number start) [] ≡ start
  start-named =
      let row = (leads_to_row machine machine well own_scope start well.leads.start).row in
      ap (λ i. get_or (table_of machine).names i []) (ap (λ o. unwrap_or o 0) row.found)
      ∙ there (table_of machine).names row.number start row.named
    where
      there : (names : List (List ℕ)) (i : ℕ) (n : List ℕ) → slice_get names i ≡ Some n → get_or names i [] ≡ n
      there [] i n e = none_some e
      there (m ∷ names) zero n e = some_inj e
      there (m ∷ names) (suc i) n e = there names i n e

-- it is the name of one of the states, so there is a first row, whose placement has that number
start-made : (start : List ℕ) (held : States) → IsWellNamed (ScopeOf start held)
    → first_start (table_of (ScopeOf start held)).names (table_of (ScopeOf start held)).placements ≡ start
start-made start NoStates well = let none : IsTrue false = well.leads.start in absurd (cc)
start-made start (AndState n state others) well = start-named start (AndState n state others) well

-- a well-named machine is the one that is built of its table
pub rebuilt : (m : Scope) → IsWellNamed m → machine_of (table_of m) ≡ m
rebuilt (ScopeOf start held) well = ap₂ (λ s h. ScopeOf s h) (start-made start held well) (held-made start held well)

-- of all machines, one alone has its table
pub alone : (held : Held) (m : Scope) → Shows held m → m ≡ scope_in held
alone held m shows = sym (rebuilt m shows.well_named) ∙ ap machine_of (sym shows.table)
