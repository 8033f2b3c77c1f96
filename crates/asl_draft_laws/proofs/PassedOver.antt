-- A state may be passed over that is at rest: its walk would change nothing. It stays so where a shape changes at which it
-- doesn't look, and into which nothing flows from it that would change the shape again.
use Rattle.std.proofs.Common.{◌≡◌, ◌≢◌, ◌<◌, ◌+◌, ℕ, zero, suc, List, [], ◌∷◌, ◌++◌, length, if◌then◌else◌, Option, Some, None, option_map, Ok, slice_get, refl, sym, ap, subst, ◌∙◌, ◌⊎◌, inl, inr, arith}
use Rattle.std.specs.Prelude.{IsTrue}
use Rattle.std.specs.Option.{unwrap_or}
use mathlib.Core.Path.{fun_ext}
use Rattle.asl_model.specs.Certificate.{Declared, StateShapes, gives_of, takes_of}
use Rattle.asl_model.specs.Edges.{Walked, Flows, Breaks, walk, walk_catchers, walk_settled, walk_then, walk_work}
use Rattle.asl_model.specs.Finding.{effective_flow, found_at}
use Rattle.asl_model.specs.Machine.{Settings, Kind, Pass, Task, Choice, Wait, Succeed, Fail, Parallel, Map, settings_of, kind_of}
use Rattle.asl_model.specs.Numbering.{Table}
use Rattle.asl_model.specs.Shape.{Shape, inhabited}
use Rattle.asl_draft_laws.specs.Resting as words
use Rattle.asl_draft_laws.specs.Resting.{IsPassedBy, Memory}
use Rattle.asl_draft_laws.specs.Drafts.{Draft, DraftEntry, Row, Target, MachineOutput, Input, Output, End, entry_of, entry_with, first_entry, taken_in, taken_at, target_of, with_element, with_entry, own_breaches, steps_taken, unless_found, steps_of, walked}

-- ---- elements of lists

-- what is done at two positions may be done in either order, if it may at one
apart-elements : {A : Type 0} (f g : A → A) (i j : ℕ) (xs : List A) → (i ≡ j → (x : A) → f (g x) ≡ g (f x)) → with_element i f (with_element j g xs) ≡ with_element j g (with_element i f xs)
apart-elements f g i j [] apart = refl
apart-elements f g zero zero (x ∷ xs) apart = ap (λ y. y ∷ xs) (apart refl x)
apart-elements f g zero (suc j) (x ∷ xs) apart = refl
apart-elements f g (suc i) zero (x ∷ xs) apart = refl
apart-elements f g (suc i) (suc j) (x ∷ xs) apart = ap (λ ys. x ∷ ys) (apart-elements f g i j xs (λ e. apart (ap suc e)))

-- the element at a position is as it was, or as it was made
element-or : {A : Type 0} (f : A → A) (i j : ℕ) (xs : List A) → (slice_get (with_element i f xs) j ≡ slice_get xs j) ⊎ ((i ≡ j) × (slice_get (with_element i f xs) j ≡ option_map f (slice_get xs j)))
element-or f i j [] = inl refl
element-or f zero zero (x ∷ xs) = inr (refl, refl)
element-or f zero (suc j) (x ∷ xs) = inl refl
element-or f (suc i) zero (x ∷ xs) = inl refl
element-or f (suc i) (suc j) (x ∷ xs) = by (element-or f i j xs)
  where
    by : (slice_get (with_element i f xs) j ≡ slice_get xs j) ⊎ ((i ≡ j) × (slice_get (with_element i f xs) j ≡ option_map f (slice_get xs j))) → (slice_get (with_element i f xs) j ≡ slice_get xs j) ⊎ ((suc i ≡ suc j) × (slice_get (with_element i f xs) j ≡ option_map f (slice_get xs j)))
    by (inl e) = inl e
    by (inr e) = inr (ap suc e.0, e.1)

-- ---- what flows into two shapes

-- into a part of an entry
abbrev into_input : Shape → DraftEntry → DraftEntry
into_input s e = record e { input = taken_in s e.input }

abbrev into_output : Shape → DraftEntry → DraftEntry
into_output s e = record e { output = taken_in s e.output }

abbrev into_end : ℕ → Shape → DraftEntry → DraftEntry
into_end i s e = record e { ends = with_element i (taken_in s) e.ends }

entries-apart : (f g : DraftEntry → DraftEntry) (n m : ℕ) (draft : Draft) → (n ≡ m → (e : DraftEntry) → f (g e) ≡ g (f e)) → with_entry n f (with_entry m g draft) ≡ with_entry m g (with_entry n f draft)
entries-apart f g n m draft apart = ap (λ es. record draft { entries = es }) (apart-elements f g n m draft.entries apart)

-- they may do so in either order
taken-apart : (t u : Target) (s r : Shape) (draft : Draft) → t ≢ u → taken_at (Some t) s (taken_at (Some u) r draft) ≡ taken_at (Some u) r (taken_at (Some t) s draft)
taken-apart MachineOutput MachineOutput s r draft apart = absurd (apart refl)
taken-apart MachineOutput (Input m) s r draft apart = refl
taken-apart MachineOutput (Output m) s r draft apart = refl
taken-apart MachineOutput (End m j) s r draft apart = refl
taken-apart (Input n) MachineOutput s r draft apart = refl
taken-apart (Input n) (Input m) s r draft apart = entries-apart (into_input s) (into_input r) n m draft (λ same e. absurd (apart (ap Input same)))
taken-apart (Input n) (Output m) s r draft apart = entries-apart (into_input s) (into_output r) n m draft (λ same e. refl)
taken-apart (Input n) (End m j) s r draft apart = entries-apart (into_input s) (into_end j r) n m draft (λ same e. refl)
taken-apart (Output n) MachineOutput s r draft apart = refl
taken-apart (Output n) (Input m) s r draft apart = entries-apart (into_output s) (into_input r) n m draft (λ same e. refl)
taken-apart (Output n) (Output m) s r draft apart = entries-apart (into_output s) (into_output r) n m draft (λ same e. absurd (apart (ap Output same)))
taken-apart (Output n) (End m j) s r draft apart = entries-apart (into_output s) (into_end j r) n m draft (λ same e. refl)
taken-apart (End n i) MachineOutput s r draft apart = refl
taken-apart (End n i) (Input m) s r draft apart = entries-apart (into_end i s) (into_input r) n m draft (λ same e. refl)
taken-apart (End n i) (Output m) s r draft apart = entries-apart (into_end i s) (into_output r) n m draft (λ same e. refl)
taken-apart (End n i) (End m j) s r draft apart =
    entries-apart (into_end i s) (into_end j r) n m draft (λ same e.
    ap (λ gs. record e { ends = gs }) (apart-elements (taken_in s) (taken_in r) i j e.ends (λ inner g. absurd (apart (ap (λ k. End k i) same ∙ ap (End m) inner)))))

-- so a shape stays where another one changes
pub stays-apart : (t u : Target) (s r : Shape) (draft : Draft) → t ≢ u → taken_at (Some t) s draft ≡ draft → taken_at (Some t) s (taken_at (Some u) r draft) ≡ taken_at (Some u) r draft
stays-apart t u s r draft apart stays = taken-apart t u s r draft apart ∙ ap (taken_at (Some u) r) stays

-- ---- what a walk looks at

-- the shapes are those but for the output
record SameBut (shapes others : StateShapes) : Type 0 where
  pub input : shapes.input ≡ others.input
  pub branches : shapes.branches ≡ others.branches
  pub item : shapes.item ≡ others.item

same-all : (shapes : StateShapes) → SameBut shapes shapes
same-all shapes = record { input = refl; branches = refl; item = refl }

passed-same : (row : Row) (target : Target) (s : Shape) (draft : Draft) → IsPassedBy row.number target → SameBut (entry_of (taken_at (Some target) s draft) row) (entry_of draft row)
passed-same row target s draft passed = by target passed
  where
    -- the entry that may be there
    shapes : Option DraftEntry → StateShapes
    shapes o = entry_with (kind_of row.state) (unwrap_or o (first_entry 0))

    another : (m : ℕ) (make : DraftEntry → DraftEntry) → m ≢ row.number → SameBut (entry_of (with_entry m make draft) row) (entry_of draft row)
    another m make other = pick (element-or make m row.number draft.entries)
      where
        pick : (slice_get (with_element m make draft.entries) row.number ≡ slice_get draft.entries row.number) ⊎ ((m ≡ row.number) × (slice_get (with_element m make draft.entries) row.number ≡ option_map make (slice_get draft.entries row.number))) → SameBut (entry_of (with_entry m make draft) row) (entry_of draft row)
        pick (inl e) = subst (λ o. SameBut (shapes o) (entry_of draft row)) (sym e) (same-all (entry_of draft row))
        pick (inr e) = absurd (other e.0)

    made : (o : Option DraftEntry) → SameBut (shapes (option_map (into_output s) o)) (shapes o)
    made None = same-all (shapes None)
    made (Some e) = record { input = refl; branches = refl; item = refl }

    own : (m : ℕ) → (slice_get (with_element m (into_output s) draft.entries) row.number ≡ slice_get draft.entries row.number) ⊎ ((m ≡ row.number) × (slice_get (with_element m (into_output s) draft.entries) row.number ≡ option_map (into_output s) (slice_get draft.entries row.number))) → SameBut (entry_of (with_entry m (into_output s) draft) row) (entry_of draft row)
    own m (inl e) = subst (λ o. SameBut (shapes o) (entry_of draft row)) (sym e) (same-all (entry_of draft row))
    own m (inr e) = subst (λ o. SameBut (shapes o) (entry_of draft row)) (sym e.1) (made (slice_get draft.entries row.number))

    by : (t : Target) → IsPassedBy row.number t → SameBut (entry_of (taken_at (Some t) s draft) row) (entry_of draft row)
    by MachineOutput p = same-all (entry_of draft row)
    by (Input m) p = another m (into_input s) p
    by (Output m) p = own m (element-or (into_output s) m row.number draft.entries)
    by (End m i) p = another m (into_end i s) p

module _ (gives : Shape) (settings : Settings) (input : Shape) (branches : List Shape) (item : Option Shape) (output other : Shape) where
  abbrev one : StateShapes
  one = record { input = input; output = output; branches = branches; item = item }

  abbrev two : StateShapes
  two = record { input = input; output = other; branches = branches; item = item }

  work-alike : (kind : Kind) (s : Shape) → walk_work settings kind one s ≡ walk_work settings kind two s
  work-alike (Pass None) s = refl
  work-alike (Pass (Some t)) s = refl
  work-alike (Task resource) s = refl
  work-alike (Choice rules default) s = refl
  work-alike (Wait delay) s = refl
  work-alike Succeed s = refl
  work-alike (Fail error cause) s = refl
  work-alike (Parallel branches) s = refl
  work-alike (Map items selector processor) s = refl

  settled-alike : (kind : Kind) → walk_settled gives settings kind one ≡ walk_settled gives settings kind two
  settled-alike (Pass None) = refl
  settled-alike (Pass (Some t)) = refl
  settled-alike (Task resource) = refl
  settled-alike (Choice rules default) = refl
  settled-alike (Wait delay) = refl
  settled-alike Succeed = refl
  settled-alike (Fail error cause) = refl
  settled-alike (Parallel branches) = refl
  settled-alike (Map items selector processor) = refl

  -- a walk doesn't look at the output
  walk-alike : (kind : Kind) → walk gives settings kind one ≡ walk gives settings kind two
  walk-alike kind =
      ap (λ work. if inhabited input then walk_then work (effective_flow settings input) ++ (walk_settled gives settings kind one ++ walk_catchers input settings.catchers) else []) (fun_ext (λ (s : Shape). work-alike kind s))
      ∙ ap (λ settled. if inhabited input then walk_then (walk_work settings kind two) (effective_flow settings input) ++ (settled ++ walk_catchers input settings.catchers) else []) (settled-alike kind)

same-walk : (gives : Shape) (settings : Settings) (kind : Kind) (a b : StateShapes) → SameBut a b → walk gives settings kind a ≡ walk gives settings kind b
same-walk gives settings kind a b same =
    ap (λ i. walk gives settings kind (record { input = i; output = a.output; branches = a.branches; item = a.item })) same.input
    ∙ (ap (λ bs. walk gives settings kind (record { input = b.input; output = a.output; branches = bs; item = a.item })) same.branches
    ∙ (ap (λ o. walk gives settings kind (record { input = b.input; output = a.output; branches = b.branches; item = o })) same.item
    ∙ walk-alike gives settings b.input b.branches b.item a.output b.output kind))

-- the steps of a state are the same where a shape changes at which it doesn't look
pub steps-passed : (declared : Declared) (row : Row) (target : Target) (s : Shape) (draft : Draft) → IsPassedBy row.number target → steps_of declared (taken_at (Some target) s draft) row ≡ steps_of declared draft row
steps-passed declared row target s draft passed = same-walk (gives_of declared row.name) (settings_of row.state) (kind_of row.state) _ _ (passed-same row target s draft passed)

-- ---- states at rest

-- two shapes are the same, or they aren't
number-or : (a b : ℕ) → (a ≡ b) ⊎ (a ≢ b)
number-or zero zero = inl refl
number-or zero (suc b) = inr (λ e. absurd (omega (arith, e)))
number-or (suc a) zero = inr (λ e. absurd (omega (arith, e)))
number-or (suc a) (suc b) = by (number-or a b)
  where
    by : (a ≡ b) ⊎ (a ≢ b) → (suc a ≡ suc b) ⊎ (suc a ≢ suc b)
    by (inl e) = inl (ap suc e)
    by (inr other) = inr (λ e. other (let f : suc a ≡ suc b = e in omega (arith, f)))

abbrev state_in : Target → ℕ
state_in MachineOutput = 0
state_in (Input n) = n
state_in (Output n) = n
state_in (End n i) = n

abbrev child_in : Target → ℕ
child_in MachineOutput = 0
child_in (Input n) = 0
child_in (Output n) = 0
child_in (End n i) = i

target-or : (t u : Target) → (t ≡ u) ⊎ (t ≢ u)
target-or MachineOutput MachineOutput = inl refl
target-or MachineOutput (Input m) = inr (λ e. absurd (cc))
target-or MachineOutput (Output m) = inr (λ e. absurd (cc))
target-or MachineOutput (End m j) = inr (λ e. absurd (cc))
target-or (Input n) MachineOutput = inr (λ e. absurd (cc))
target-or (Input n) (Input m) = by (number-or n m)
  where
    by : (n ≡ m) ⊎ (n ≢ m) → (Input n ≡ Input m) ⊎ (Input n ≢ Input m)
    by (inl a) = inl (ap Input a)
    by (inr a) = inr (λ e. a (ap state_in e))
target-or (Input n) (Output m) = inr (λ e. absurd (cc))
target-or (Input n) (End m j) = inr (λ e. absurd (cc))
target-or (Output n) MachineOutput = inr (λ e. absurd (cc))
target-or (Output n) (Input m) = inr (λ e. absurd (cc))
target-or (Output n) (Output m) = by (number-or n m)
  where
    by : (n ≡ m) ⊎ (n ≢ m) → (Output n ≡ Output m) ⊎ (Output n ≢ Output m)
    by (inl a) = inl (ap Output a)
    by (inr a) = inr (λ e. a (ap state_in e))
target-or (Output n) (End m j) = inr (λ e. absurd (cc))
target-or (End n i) MachineOutput = inr (λ e. absurd (cc))
target-or (End n i) (Input m) = inr (λ e. absurd (cc))
target-or (End n i) (Output m) = inr (λ e. absurd (cc))
target-or (End n i) (End m j) = by (number-or n m) (number-or i j)
  where
    by : (n ≡ m) ⊎ (n ≢ m) → (i ≡ j) ⊎ (i ≢ j) → (End n i ≡ End m j) ⊎ (End n i ≢ End m j)
    by (inl a) (inl b) = inl (ap (λ k. End k i) a ∙ ap (End m) b)
    by (inr a) b = inr (λ e. a (ap state_in e))
    by (inl a) (inr b) = inr (λ e. b (ap child_in e))

module _ (table : Table) (n : ℕ) where
  abbrev FlowRests : Memory → Draft → ℕ → Option Target → Shape → Type 0
  FlowRests = words.FlowRests n

  abbrev StepRests : Memory → Draft → ℕ → Walked → Type 0
  StepRests = words.StepRests table n

  abbrev StepsRest : Memory → Draft → ℕ → List Walked → Type 0
  StepsRest = words.StepsRest table n

  steps-stay : (known : Memory) (draft : Draft) (place : ℕ) (steps : List Walked) → StepsRest known draft place steps → steps_taken table n steps draft ≡ draft
  steps-stay known draft place [] rest = refl
  steps-stay known draft place (Breaks breach ∷ steps) rest = steps-stay known draft (suc place) steps rest.1
  steps-stay known draft place (Flows edge ∷ steps) rest = ap (steps_taken table n steps) (by (target_of table n edge.destination) rest.0) ∙ steps-stay known draft (suc place) steps rest.1
    where
      by : (target : Option Target) → FlowRests known draft place target edge.flowing → taken_at target edge.flowing draft ≡ draft
      by None r = refl
      by (Some target) r = r.0

  -- more is remembered of the places before that one
  abbrev pub Remembers : Memory → Memory → ℕ → Type 0
  Remembers known more bound = (target : Target) (place : ℕ) (s : Shape) → place < bound → IsTrue (known target n place s) → IsTrue (more target n place s)

  pub rest-known : (known more : Memory) (draft : Draft) (place : ℕ) (steps : List Walked) → Remembers known more (place + length steps) → StepsRest known draft place steps → StepsRest more draft place steps
  rest-known known more draft place [] grows rest = tt
  rest-known known more draft place (step ∷ steps) grows rest = (one step rest.0, rest-known known more draft (suc place) steps (λ target q s within k. grows target q s (omega (arith, within)) k) rest.1)
    where
      by : (target : Option Target) (s : Shape) → FlowRests known draft place target s → FlowRests more draft place target s
      by None s r = tt
      by (Some target) s r = (r.0, grows target place s (omega arith) r.1)

      one : (other : Walked) → StepRests known draft place other → StepRests more draft place other
      one (Flows edge) r = by (target_of table n edge.destination) edge.flowing r
      one (Breaks breach) r = tt

  abbrev NoneAgain : Memory → Target → Draft → Type 0
  NoneAgain = words.IsTakenIn n

  pub rest-kept : (known : Memory) (target : Target) (s : Shape) (draft : Draft) (place : ℕ) (steps : List Walked) → NoneAgain known target (taken_at (Some target) s draft) → StepsRest known draft place steps → StepsRest known (taken_at (Some target) s draft) place steps
  rest-kept known target s draft place [] again rest = tt
  rest-kept known target s draft place (step ∷ steps) again rest = (one step rest.0, rest-kept known target s draft (suc place) steps again rest.1)
    where
      by : (other : Option Target) (r : Shape) → FlowRests known draft place other r → FlowRests known (taken_at (Some target) s draft) place other r
      by None r rests = tt
      by (Some other) r rests = which (target-or other target)
        where
          which : (other ≡ target) ⊎ (other ≢ target) → (taken_at (Some other) r (taken_at (Some target) s draft) ≡ taken_at (Some target) s draft) × IsTrue (known other n place r)
          which (inl same) =
              let there : IsTrue (known target n place r) = subst (λ t. IsTrue (known t n place r)) same rests.1 in
              (subst (λ t. taken_at (Some t) r (taken_at (Some target) s draft) ≡ taken_at (Some target) s draft) (sym same) (again place r there), rests.1)
          which (inr apart) = (stays-apart other target r s draft apart rests.0, rests.1)

      one : (other : Walked) → StepRests known draft place other → StepRests known (taken_at (Some target) s draft) place other
      one (Flows edge) rests = by (target_of table n edge.destination) edge.flowing rests
      one (Breaks breach) rests = tt

  -- one more step rests
  pub rest-push : (known : Memory) (draft : Draft) (place : ℕ) (steps : List Walked) (step : Walked) → StepsRest known draft place steps → StepRests known draft (place + length steps) step → StepsRest known draft place (steps ++ step ∷ [])
  rest-push known draft place [] step rest one =
      let same : place + 0 ≡ place = omega arith in
      (subst (λ p. StepRests known draft p step) same one, tt)
  rest-push known draft place (first ∷ steps) step rest one =
      let same : place + suc (length steps) ≡ suc place + length steps = omega arith in
      (rest.0, rest-push known draft (suc place) steps step rest.1 (subst (λ p. StepRests known draft p step) same one))

module _ (table : Table) (declared : Declared) (row : Row) where
  abbrev Rests : Memory → Draft → Type 0
  Rests = words.Rests table declared row

  -- so it may be passed over
  pub rests-walked : (known : Memory) (draft : Draft) → Rests known draft → walked table declared row draft ≡ Ok draft
  rests-walked known draft rest =
      ap (λ breaches. unless_found (found_at row.name breaches) (steps_taken table row.number (steps_of declared draft row) draft)) rest.whole
      ∙ ap Ok (steps-stay table row.number known draft 0 (steps_of declared draft row) rest.steps)

  -- it stays so where more is remembered
  pub rests-known : (known more : Memory) (draft : Draft) → ((target : Target) (place : ℕ) (s : Shape) → IsTrue (known target row.number place s) → IsTrue (more target row.number place s)) → Rests known draft → Rests more draft
  rests-known known more draft grows rest = record { whole = rest.whole; steps = rest-known table row.number known more draft 0 (steps_of declared draft row) (λ target place s within k. grows target place s k) rest.steps }

  -- and where a shape changes at which it doesn't look, if nothing of what flowed there would change it again
  pub rests-kept : (known : Memory) (target : Target) (s : Shape) (draft : Draft) → IsPassedBy row.number target → words.IsTakenIn row.number known target (taken_at (Some target) s draft) → Rests known draft → Rests known (taken_at (Some target) s draft)
  rests-kept known target s draft passed again rest =
      let after : Draft = taken_at (Some target) s draft in
      let same = steps-passed declared row target s draft passed in
      record {
        whole = subst (λ steps. own_breaches (takes_of declared row.name) steps ≡ []) (sym same) rest.whole;
        steps = subst (words.StepsRest table row.number known after 0) (sym same) (rest-kept table row.number known target s draft 0 (steps_of declared draft row) again rest.steps);
      }
