-- A table in the making holds one state more.
use Rattle.std.proofs.Common.{◌≡◌, refl, sym, ap, ◌∙◌, subst, ℕ, List, [], ◌∷◌, ◌++◌, map, Bool, true, false, ◌||◌, if◌then◌else◌, bytes_eq, string_bytes, string_eq, String, Option, Some, None, IfSome, not, codes, length, ◌<◌, lt-ltb}
use Rattle.std.specs.declared.alloc.Global.{Global}
use Rattle.std.specs.List.{list_any, Contains}
use Rattle.std.proofs.lemmas.List.{map-append, length-map}
use Rattle.std.proofs.lemmas.Slice.Eq.{bytes_eq-Decides}
use Rattle.indexmap.specs.IndexSet.{insert_key}
use Rattle.asl_model.specs.DefinitionTable.{TooLarge}
use Rattle.asl_model.specs.Numbering.{Standing, Placement, placement_of, table_among}
use Rattle.asl_model.specs.ShapeSpelling.{is_among}
use Rattle.asl_model.specs.StandsFor.{Complaint, duplicate_complaints, number_complaints}
use Rattle.asl_model.proofs.RunOptions.{some_inj}
use Rattle.asl_model.proofs.ShapeWitness.{bytes_eq-comm}
use Rattle.asl_machine.specs.declared.building.BuiltState.{BuiltState}
use Rattle.asl_machine.specs.declared.building.Home.{Home}
use Rattle.asl_machine.specs.declared.numbering.Numbered.{Numbered}
use Rattle.asl_fields.specs.Verdicts.{IsAmong}
use Rattle.asl_states.specs.Machine.{state_view}
use Rattle.asl_machine.specs.Numbered.{Holds, home_view, home_of, names_of_all, placed_in}
use Rattle.asl_machine.specs.Built.{built_view}
use Rattle.asl_fields.specs.View.{complaint_of}
use Rattle.asl_machine.proofs.Contained.{here}
use Rattle.asl_machine.proofs.Duplicates.{none_again, told_again, twice}
use Rattle.asl_machine.proofs.Checks.{among_second}

-- the comparison of two names either way round
swapped : (m n : List ℕ) → bytes_eq m n ≡ bytes_eq n m
swapped m n = go (bytes_eq m n) refl
  where
    go : (b : Bool) → bytes_eq m n ≡ b → bytes_eq m n ≡ bytes_eq n m
    go true e = e ∙ sym ((bytes_eq-Decides n m).1 (sym ((bytes_eq-Decides m n).0 e)))
    go false e = e ∙ sym (bytes_eq-comm m n e)

-- a name is among the keys of a set exactly where it is among their texts
pub found_among : (n : List ℕ) (ks : List (String Global)) → list_any (λ k. bytes_eq n (string_bytes k)) ks ≡ is_among n (map string_bytes ks)
found_among n [] = refl
found_among n (k ∷ ks) = ap (λ b. b || list_any (λ j. bytes_eq n (string_bytes j)) ks) (swapped n (string_bytes k)) ∙ ap (λ b. bytes_eq (string_bytes k) n || b) (found_among n ks)

-- one more at the end of a list that was mapped
pub one_more : {A B : Type 0} (f : A → B) (before after : List A) (a : A) (bs : List B) (b : B) → after ≡ before ++ a ∷ [] → map f before ≡ bs → f a ≡ b → map f after ≡ bs ++ b ∷ []
one_more f before after a bs b e g h = ap (map f) e ∙ (map-append f before (a ∷ []) ∙ (ap (λ l. l ++ f a ∷ []) g ∙ ap (λ x. bs ++ x ∷ []) h))

-- a new key goes last
goes_last : (ks : List (String Global)) (k : String Global) → list_any (string_eq k) ks ≡ false → insert_key string_eq ks k ≡ ks ++ k ∷ []
goes_last ks k e = ap (λ b. if b then ks else ks ++ k ∷ []) e

-- the names of states with one more
names_more : (done : List Standing) (s : Standing) → names_of_all (done ++ s ∷ []) ≡ names_of_all done ++ s.name ∷ []
names_more done s = map-append (λ t. t.name) done (s ∷ [])

-- the three parts with one row more hold its state too
pub one_row_more : (done : List Standing) (row : BuiltState) (home : Home) (before after : Numbered)
    → list_any (string_eq row.name) before.names.keys ≡ false
    → after.names.keys ≡ insert_key string_eq before.names.keys row.name
    → after.states.items ≡ before.states.items ++ row.state ∷ []
    → after.homes.items ≡ before.homes.items ++ home ∷ []
    → home_view home ≡ home_of (built_view row)
    → Holds done before → Holds (done ++ built_view row ∷ []) after
one_row_more done row home before after absent named held placed same h = record {
  names = one_more string_bytes before.names.keys after.names.keys row.name (names_of_all done) (string_bytes row.name) (named ∙ goes_last before.names.keys row.name absent) h.names refl ∙ sym (names_more done (built_view row));
  states_held = one_more state_view before.states.items after.states.items row.state (map (λ s. s.state) done) (state_view row.state) held h.states_held refl ∙ sym (map-append (λ s. s.state) done (built_view row ∷ []));
  homes = one_more home_view before.homes.items after.homes.items home (map home_of done) (home_of (built_view row)) placed h.homes same ∙ sym (map-append home_of done (built_view row ∷ []));
  distinct = ap duplicate_complaints (names_more done (built_view row)) ∙ none_again (string_bytes row.name) (names_of_all done) h.distinct (sym (found_among (string_bytes row.name) before.names.keys ∙ ap (is_among (string_bytes row.name)) h.names) ∙ absent);
}

-- what is told, where it is something, is that complaint
tells : (wrong : List Complaint) (c : Complaint) (told : Option Complaint) → Contains wrong c → IfSome told (λ t. Some c ≡ Some t) → IsAmong wrong told
tells wrong c None h e = tt
tells wrong c (Some t) h e = subst (Contains wrong) (some_inj e) h

-- a row whose name is there already is told
pub row_again : (done further : List Standing) (row : BuiltState) (before : Numbered) (told : Option Complaint) (n : List ℕ) → n ≡ string_bytes row.name → list_any (string_eq row.name) before.names.keys ≡ true → Holds done before
    → IfSome told (λ t. Some (twice n) ≡ Some t) → IsAmong (duplicate_complaints (names_of_all (done ++ built_view row ∷ further))) told
row_again done further row before told n same there h e =
    let among : is_among (string_bytes row.name) (names_of_all done) ≡ true = sym (found_among (string_bytes row.name) before.names.keys ∙ ap (is_among (string_bytes row.name)) h.names) ∙ there in
    let names : names_of_all (done ++ built_view row ∷ further) ≡ names_of_all done ++ string_bytes row.name ∷ names_of_all further = map-append (λ s. s.name) done (built_view row ∷ further) in
    tells (duplicate_complaints (names_of_all (done ++ built_view row ∷ further))) (twice (string_bytes row.name)) told
    (subst (λ ns. Contains (duplicate_complaints ns) (twice (string_bytes row.name))) (sym names) (told_again (string_bytes row.name) (names_of_all done) (names_of_all further) among)) (subst (λ (m : List ℕ). IfSome told (λ t. Some (twice m) ≡ Some t)) same e)

-- more states than the limit are told
pub too_many : (states : List Standing) (told : Option Complaint) → 10000 < length states → IfSome told (λ t. Some (complaint_of [] (codes "States") TooLarge) ≡ Some t)
    → IsAmong (duplicate_complaints (names_of_all states) ++ number_complaints (names_of_all states)) told
too_many states told many e =
    let large : Complaint = complaint_of [] (codes "States") TooLarge in
    let told_large : number_complaints (names_of_all states) ≡ large ∷ [] = ap (λ b. if not b then [] else large ∷ []) (lt-ltb 10000 (length (names_of_all states)) (subst (λ n. 10000 < n) (sym (length-map states (λ s. s.name))) many)) in
    among_second (duplicate_complaints (names_of_all states)) (number_complaints (names_of_all states)) told (tells (number_complaints (names_of_all states)) large told (subst (λ cs. Contains cs large) (sym told_large) (here large [])) e)

-- the first of a list, and what is behind it
abbrev front : {A : Type 0} → A → List A → A
front d [] = d
front d (x ∷ xs) = x

abbrev behind : {A : Type 0} → List A → List A
behind [] = []
behind (x ∷ xs) = xs

-- the table of the three parts and of where each state stands
pub table_held : (states : List Standing) (n : Numbered) (placements : List Placement) → Holds states n → placements ≡ map (λ h. placed_in (map string_bytes n.names.keys) (home_view h)) n.homes.items
    → record { names = map string_bytes n.names.keys; states = map state_view n.states.items; placements = placements } ≡ table_among states
table_held states n placements h e = ap (λ ns. record { names = ns; states = map state_view n.states.items; placements = placements }) h.names ∙ (ap (λ ss. record { names = names_of_all states; states = ss; placements = placements }) h.states_held ∙ ap (λ ps. record { names = names_of_all states; states = map (λ s. s.state) states; placements = ps }) (e ∙ placed))
  where
    by_homes : (names : List (List ℕ)) (hs : List Home) (ss : List Standing) → map home_view hs ≡ map home_of ss → map (λ k. placed_in names (home_view k)) hs ≡ map (λ s. placed_in names (home_of s)) ss
    by_homes names [] [] g = refl
    by_homes names [] (s ∷ ss) g = absurd (cc)
    by_homes names (k ∷ hs) [] g = absurd (cc)
    by_homes names (k ∷ hs) (s ∷ ss) g = ap (λ o. placed_in names o ∷ map (λ j. placed_in names (home_view j)) hs) (ap (front (home_view k)) g) ∙ ap (λ l. placed_in names (home_of s) ∷ l) (by_homes names hs ss (ap behind g))

    placed : map (λ k. placed_in (map string_bytes n.names.keys) (home_view k)) n.homes.items ≡ map (placement_of states) states
    placed = ap (λ ns. map (λ k. placed_in ns (home_view k)) n.homes.items) h.names ∙ by_homes (names_of_all states) n.homes.items states h.homes
