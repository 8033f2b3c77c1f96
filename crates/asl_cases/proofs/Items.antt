-- The item of a place, found by the numbers of states.
use Rattle.std.proofs.Common.{◌≡◌, refl, sym, ap, ◌∙◌, subst, ℕ, zero, suc, Bool, true, false, if◌then◌else◌, List, [], ◌∷◌, ◌++◌, map, reverse, bytes_eq, slice_get, Option, Some, None, option_map, option_and_then, inl, inr}
use Rattle.std.specs.Option.{option_or, unwrap_or}
use Rattle.std.proofs.lemmas.List.{reverse-append}
use Rattle.std.proofs.lemmas.Option.{slice_get-map}
use Rattle.std.proofs.lemmas.Slice.Eq.{bytes_eq-Decides}
use Rattle.asl_model.specs.Machine.{Scope, ScopeOf, States, NoStates, AndState, State, StateOf, Kind, Pass, Task, Choice, Wait, Succeed, Fail, Parallel, Map, Scopes, NoScopes, AndScope, IsScopeOf, own_scope, scope_of_child, HasNamed, kind_of, start_of, state_among, state_named, scope_at, child_scope}
use Rattle.asl_model.specs.Numbering.{Standing, Table, standing, standing_in, standing_among, standing_inside, standing_by, standing_each, number_or_0, outline, outlined, placement_of, table_of, IsWellNamed}
use Rattle.asl_model.specs.Run.{Activity, Ready, Waiting, Split, Done, Failed, Activities, NoActivities, AndActivity, StandsIn, EachStandsIn, activity_at, child_at, scope_below, scope_under}
use Rattle.asl_model.specs.ShapeSpelling.{are_distinct}
use Rattle.asl_model.specs.Tree.{Tree}
use Rattle.asl_model.proofs.Numbering.{names_of_standing, outlined_names}
use Rattle.asl_model.proofs.NumberedRows.{has_row, number_known, one_number}
use Rattle.asl_model.proofs.NumberedScopes.{IsListed, listed_left, listed_right, all_stand, scope_holds}
use Rattle.asl_model.proofs.NumberedStates.{stands_at}
use Rattle.asl_model.proofs.RunOptions.{some_inj, none_some, some_there}
use Rattle.asl_model.specs.Certificate.{waiting_at}
use Rattle.asl_cases.proofs.Chains.{waits_there}
use Rattle.asl_cases.specs.Asking.{is_map, item_at, item_behind, item_of, item_under, owner_in}

-- ---- a state of a child's scope has the child's state as its owner

-- a state of that name is listed, with that owner
record IsOwned (states : List Standing) (owner : Option (List ℕ × ℕ)) (n start : List ℕ) : Type 0 where
  state : State
  listed : IsListed states (record { name = n; state = state; start = start; owner = owner })

owned_more : {xs : List Standing} {owner : Option (List ℕ × ℕ)} {n start : List ℕ} (ys : List Standing) → ((s : Standing) → IsListed xs s → IsListed ys s) → IsOwned xs owner n start → IsOwned ys owner n start
owned_more ys f h = record { state = h.state; listed = f _ h.listed }

owned_among : (start : List ℕ) (owner : Option (List ℕ × ℕ)) (held : States) (n : List ℕ) (state : State) → state_among n held ≡ Some state → IsOwned (standing_among start owner held) owner n start
owned_among start owner NoStates n state e = none_some e
owned_among start owner (AndState m other others) n state e = by (bytes_eq m n) refl e (owned_among start owner others n state)
  where
    by : (same : Bool) → bytes_eq m n ≡ same → (if same then Some other else state_among n others) ≡ Some state → (state_among n others ≡ Some state → IsOwned (standing_among start owner others) owner n start) → IsOwned (standing_among start owner (AndState m other others)) owner n start
    by true f g further = record { state = other; listed = inl (ap (λ (k : List ℕ). record { name = k; state = other; start = start; owner = owner }) ((bytes_eq-Decides m n).0 f)) }
    by false f g further = owned_more (standing_among start owner (AndState m other others)) (λ s h. inr (listed_right (standing_inside m other) (standing_among start owner others) s h)) (further g)

owned_in : (owner : Option (List ℕ × ℕ)) (scope : Scope) (n : List ℕ) → HasNamed scope n → IsOwned (standing_in owner scope) owner n (start_of scope)
owned_in owner (ScopeOf start held) n h = let found = some_there (state_among n held) h in owned_among start owner held n found.0 found.1

-- a state of a child's scope stands in the list, and the state of that name is its owner
record IsUnder (states : List Standing) (parent n : List ℕ) : Type 0 where
  start : List ℕ
  branch : ℕ
  owned : IsOwned states (Some (parent, branch)) n start

under_branch : (m : List ℕ) (j : ℕ) (branches : Scopes) (i : ℕ) (n : List ℕ) → HasNamed (scope_at i branches) n → IsUnder (standing_each m j branches) m n
under_branch m j NoScopes i n h = absurd (cc)
under_branch m j (AndScope scope others) zero n h = record {
  start = start_of scope;
  branch = j;
  owned = owned_more (standing_each m j (AndScope scope others)) (listed_left (standing_in (Some (m, j)) scope) (standing_each m (suc j) others)) (owned_in (Some (m, j)) scope n h);
}
under_branch m j (AndScope scope others) (suc i) n h =
    let further = under_branch m (suc j) others i n h in
    record {
      start = further.start;
      branch = further.branch;
      owned = owned_more (standing_each m j (AndScope scope others)) (listed_right (standing_in (Some (m, j)) scope) (standing_each m (suc j) others)) further.owned;
    }

under_kind : (m : List ℕ) (kind : Kind) (i : ℕ) (n : List ℕ) → HasNamed (child_scope kind i) n → IsUnder (standing_by m kind) m n
under_kind m (Pass result) i n h = absurd (cc)
under_kind m (Task resource) i n h = absurd (cc)
under_kind m (Choice rules default) i n h = absurd (cc)
under_kind m (Wait delay) i n h = absurd (cc)
under_kind m Succeed i n h = absurd (cc)
under_kind m (Fail error cause) i n h = absurd (cc)
under_kind m (Parallel branches) i n h = under_branch m 0 branches i n h
under_kind m (Map items selector processor) i n h = record { start = start_of processor; branch = 0; owned = owned_in (Some (m, 0)) processor n h }

under_state : (m : List ℕ) (parent : State) (i : ℕ) (n : List ℕ) → HasNamed (child_scope (kind_of parent) i) n → IsUnder (standing_inside m parent) m n
under_state m (StateOf settings kind) i n h = under_kind m kind i n h

made_of : {A : Type 0} (f : Standing → A) (states : List Standing) (i : ℕ) (s : Standing) → slice_get states i ≡ Some s → slice_get (map f (map outlined states)) i ≡ Some (f (outlined s))
made_of f states i s e = slice_get-map f (map outlined states) i ∙ ap (option_map f) (slice_get-map outlined states i ∙ ap (option_map outlined) e)

-- so the owner of the one is the other, by their numbers
owner_known : (machine scope : Scope) → IsWellNamed machine → IsScopeOf machine scope → (n : List ℕ) (state : State) → state_named n scope ≡ Some state → (i : ℕ) (child : List ℕ) → HasNamed (child_scope (kind_of state) i) child
    → (number inner : ℕ) → slice_get (table_of machine).names number ≡ Some n → slice_get (table_of machine).names inner ≡ Some child → owner_in (table_of machine) inner ≡ Some number
owner_known machine scope well is_scope n state named i child has number inner here there =
    let table = table_of machine in
    let above = all_stand machine scope is_scope n state named in
    let under = under_state n state i child has in
    let it : Standing = record { name = child; state = under.owned.state; start = under.start; owner = Some (n, under.branch) } in
    let listed : IsListed (standing machine) it = scope_holds None machine (record { name = n; state = state; start = start_of scope; owner = above.owner }) it above.listed under.owned.listed in
    let at = stands_at (standing machine) it (ap are_distinct (names_of_standing None machine) ∙ well.distinct) listed in
    let its_name : slice_get table.names at.number ≡ Some child = made_of (λ t. t.name) (standing machine) at.number it at.here in
    let same : at.number ≡ inner = one_number table.names at.number inner child (ap are_distinct (outlined_names (standing machine) ∙ names_of_standing None machine) ∙ well.distinct) its_name there in
    let placed = made_of (placement_of (map outlined (standing machine))) (standing machine) at.number it at.here in
    let row = has_row machine scope well is_scope n state named in
    let known : number_or_0 (map outlined (standing machine)) n ≡ number = ap (λ o. unwrap_or o 0) row.found ∙ number_known machine scope well n state row number here in
    ap (owner_in table) (sym same) ∙ ap (λ p. option_map (λ o. o.0) (option_and_then (λ q. q.owner) p)) placed ∙ ap Some known

-- ---- further out

-- the owner of the owner, and so on, so many levels further out
abbrev outer : Table → ℕ → List ℕ → Option ℕ
outer table number [] = Some number
outer table number (child ∷ further) = option_and_then (λ owner. outer table owner further) (owner_in table number)

item_append : (table : Table) (number : ℕ) (xs : List ℕ) (child : ℕ) → item_behind table number (xs ++ child ∷ []) ≡ option_or (item_behind table number xs) (option_and_then (λ owner. item_behind table owner (child ∷ [])) (outer table number xs))
item_append table number [] child = refl
item_append table number (x ∷ xs) child = go (owner_in table number) (λ owner. item_append table owner xs child)
  where
    by_kind : (map : Bool) (a b : Option ℕ) (c : Option ℕ) → a ≡ option_or b c → (if map then Some x else a) ≡ option_or (if map then Some x else b) c
    by_kind true a b c h = refl
    by_kind false a b c h = h

    go : (owner : Option ℕ) → ((o : ℕ) → item_behind table o (xs ++ child ∷ []) ≡ option_or (item_behind table o xs) (option_and_then (λ k. item_behind table k (child ∷ [])) (outer table o xs)))
        → item_under table owner x (λ o. item_behind table o (xs ++ child ∷ [])) ≡ option_or (item_under table owner x (λ o. item_behind table o xs)) (option_and_then (λ k. item_behind table k (child ∷ [])) (option_and_then (λ o. outer table o xs) owner))
    go None further = refl
    go (Some o) further = by_kind (is_map (slice_get table.states o)) (item_behind table o (xs ++ child ∷ [])) (item_behind table o xs) (option_and_then (λ k. item_behind table k (child ∷ [])) (outer table o xs)) (further o)

outer_append : (table : Table) (number : ℕ) (xs : List ℕ) (child : ℕ) → outer table number (xs ++ child ∷ []) ≡ option_and_then (owner_in table) (outer table number xs)
outer_append table number [] child = go (owner_in table number)
  where
    go : (o : Option ℕ) → option_and_then (λ owner. Some owner) o ≡ o
    go None = refl
    go (Some k) = refl
outer_append table number (x ∷ xs) child = go (owner_in table number) (λ o. outer_append table o xs child)
  where
    go : (owner : Option ℕ) → ((o : ℕ) → outer table o (xs ++ child ∷ []) ≡ option_and_then (owner_in table) (outer table o xs)) → option_and_then (λ o. outer table o (xs ++ child ∷ [])) owner ≡ option_and_then (owner_in table) (option_and_then (λ o. outer table o xs) owner)
    go None further = refl
    go (Some o) further = further o

-- ---- the item of a place

-- the state of an activity
abbrev state_in : Activity → Option (List ℕ)
state_in (Ready n raw counts) = Some n
state_in (Waiting n raw counts payload) = Some n
state_in (Split n raw counts children) = Some n
state_in (Done output) = None
state_in (Failed error cause) = None

-- what is found for a place below an activity: its item, and the number of the activity's own state
record IsFound (machine scope : Scope) (place : List ℕ) (a : Activity) (number : ℕ) : Type 0 where
  own : ℕ
  name : List ℕ
  item : item_behind (table_of machine) number (reverse place) ≡ item_of scope place a
  out : outer (table_of machine) number (reverse place) ≡ Some own
  named : slice_get (table_of machine).names own ≡ Some name
  is : state_in a ≡ Some name

map_outlined : (state : State) → is_map (Some (outline state)) ≡ is_map (Some state)
map_outlined (StateOf settings (Pass result)) = refl
map_outlined (StateOf settings (Task resource)) = refl
map_outlined (StateOf settings (Choice rules default)) = refl
map_outlined (StateOf settings (Wait delay)) = refl
map_outlined (StateOf settings Succeed) = refl
map_outlined (StateOf settings (Fail error cause)) = refl
map_outlined (StateOf settings (Parallel branches)) = refl
map_outlined (StateOf settings (Map items selector processor)) = refl

child_stands : (i : ℕ) (children : Activities) (scopes : ℕ → Scope) (child : Activity) → child_at i children ≡ Some child → EachStandsIn children scopes → StandsIn child (scopes i)
child_stands i NoActivities scopes child e h = none_some e
child_stands zero (AndActivity first others) scopes child e h = subst (λ a. StandsIn a (scopes 0)) (some_inj e) h.0
child_stands (suc i) (AndActivity first others) scopes child e h = child_stands i others (λ j. scopes (suc j)) child e h.1

state_there : (a : Activity) (scope : Scope) (n : List ℕ) → state_in a ≡ Some n → StandsIn a scope → HasNamed scope n
state_there (Ready m raw counts) scope n e h = subst (HasNamed scope) (some_inj e) h
state_there (Waiting m raw counts payload) scope n e h = subst (HasNamed scope) (some_inj e) h
state_there (Split m raw counts children) scope n e h = subst (HasNamed scope) (some_inj e) h.0
state_there (Done output) scope n e h = none_some e
state_there (Failed error cause) scope n e h = none_some e

-- one level further out
found_above : (machine scope : Scope) → IsWellNamed machine → IsScopeOf machine scope → (n : List ℕ) (raw : Tree) (counts : List ℕ) (children : Activities) (i : ℕ) (place : List ℕ) (child : Activity) (number : ℕ) (state : State) → state_named n scope ≡ Some state
    → child_at i children ≡ Some child → StandsIn child (scope_below scope n i) → IsFound machine (scope_below scope n i) place child number → IsFound machine scope (i ∷ place) (Split n raw counts children) number
found_above machine scope well is_scope n raw counts children i place child number state named there stands below =
    let table = table_of machine in
    let row = has_row machine scope well is_scope n state named in
    let inside : scope_below scope n i ≡ child_scope (kind_of state) i = ap (λ s. scope_under s i) named in
    let has : HasNamed (child_scope (kind_of state) i) below.name = subst (λ s. HasNamed s below.name) inside (state_there child (scope_below scope n i) below.name below.is stands) in
    let owner = owner_known machine scope well is_scope n state named i below.name has row.number below.own row.named below.named in
    let turned : reverse (i ∷ place) ≡ reverse place ++ i ∷ [] = reverse-append (i ∷ []) place in
    let kinds : is_map (slice_get table.states row.number) ≡ is_map (state_named n scope) = ap is_map row.shown ∙ map_outlined state ∙ ap is_map (sym named) in
    let last : item_behind table below.own (i ∷ []) ≡ (if is_map (state_named n scope) then Some i else None) = ap (λ o. item_under table o i (λ k. None)) owner ∙ ap (λ b. if b then Some i else None) kinds in
    record {
      own = row.number;
      name = n;
      item = ap (item_behind table number) turned ∙ item_append table number (reverse place) i
          ∙ ap (λ o. option_or o (option_and_then (λ k. item_behind table k (i ∷ [])) (outer table number (reverse place)))) below.item
          ∙ ap (λ o. option_or (item_of (scope_below scope n i) place child) (option_and_then (λ k. item_behind table k (i ∷ [])) o)) below.out
          ∙ ap (option_or (item_of (scope_below scope n i) place child)) last
          ∙ ap (λ c. option_or (option_and_then (item_of (scope_below scope n i) place) c) (if is_map (state_named n scope) then Some i else None)) (sym there);
      out = ap (outer table number) turned ∙ outer_append table number (reverse place) i ∙ ap (option_and_then (owner_in table)) below.out ∙ owner;
      named = row.named;
      is = refl;
    }

found_at : (machine : Scope) → IsWellNamed machine → (place : List ℕ) (scope : Scope) (a : Activity) (number : ℕ) (name : List ℕ) (raw : Tree) (counts : List ℕ) (payload : Tree) → IsScopeOf machine scope → StandsIn a scope
    → activity_at place a ≡ Some (Waiting name raw counts payload) → slice_get (table_of machine).names number ≡ Some name → IsFound machine scope place a number
found_at machine well [] scope a number name raw counts payload is_scope stands waits named = record {
  own = number;
  name = name;
  item = refl;
  out = refl;
  named = named;
  is = ap state_in (some_inj waits);
}
found_at machine well (i ∷ place) scope (Ready n raw' counts') number name raw counts payload is_scope stands waits named = none_some waits
found_at machine well (i ∷ place) scope (Waiting n raw' counts' payload') number name raw counts payload is_scope stands waits named = none_some waits
found_at machine well (i ∷ place) scope (Split n raw' counts' children) number name raw counts payload is_scope stands waits named =
    go (some_there (state_named n scope) stands.0) (child_at i children) refl waits (λ inner child inside below there. found_at machine well place inner child number name raw counts payload inside below there named)
  where
    go : (state : State) × (state_named n scope ≡ Some state) → (found : Option Activity) → child_at i children ≡ found → option_and_then (activity_at place) found ≡ Some (Waiting name raw counts payload)
        → ((inner : Scope) (child : Activity) → IsScopeOf machine inner → StandsIn child inner → activity_at place child ≡ Some (Waiting name raw counts payload) → IsFound machine inner place child number)
        → IsFound machine scope (i ∷ place) (Split n raw' counts' children) number
    go (state, here) None e there below = none_some there
    go (state, here) (Some child) e there below =
        let inside : IsScopeOf machine (scope_below scope n i) = subst (IsScopeOf machine) (ap (λ s. scope_under s i) (sym here)) (scope_of_child n state i is_scope here) in
        let its = child_stands i children (scope_below scope n) child e stands.1 in
        found_above machine scope well is_scope n raw' counts' children i place child number state here e its (below (scope_below scope n i) child inside its there)
found_at machine well (i ∷ place) scope (Done output) number name raw counts payload is_scope stands waits named = none_some waits
found_at machine well (i ∷ place) scope (Failed error cause) number name raw counts payload is_scope stands waits named = none_some waits

-- the item that is found for a task that waits is that of its place
pub item_known : (machine : Scope) → IsWellNamed machine → (place : List ℕ) (a : Activity) (number : ℕ) (name : List ℕ) → StandsIn a machine → waiting_at place a ≡ Some name → slice_get (table_of machine).names number ≡ Some name
    → item_at (table_of machine) number place ≡ item_of machine place a
item_known machine well place a number name stands waits named =
    let there = waits_there place a name waits in
    (found_at machine well place machine a number name there.raw there.counts there.payload own_scope stands there.is named).item
