-- A draft that a round leaves as it is is left as it is by each step of the round.
use Rattle.std.proofs.Common.{◌≡◌, ◌<◌, ◌+◌, ℕ, zero, suc, List, [], ◌∷◌, Option, Some, None, Result, Ok, Err, refl, sym, ap, subst, ◌∙◌, ◌⊎◌, inl, inr, arith}
use Rattle.std.specs.Prelude.{sum_by}
use Rattle.std.proofs.lemmas.List.Sums.{sum_by-cons}
use Rattle.asl_model.specs.Certificate.{Declared, takes_of}
use Rattle.asl_model.specs.Edges.{Walked, Flows, Breaks}
use Rattle.asl_model.specs.Finding.{Breach, Finding, found_at}
use Rattle.asl_model.specs.Numbering.{Table}
use Rattle.asl_model.specs.Shape.{Shape}
use Rattle.asl_draft_laws.specs.Drafts.{Growth, Draft, DraftEntry, Target, MachineOutput, Input, Output, End, Row, taken_in, with_element, with_entry, taken_at, target_of, own_breaches, step_taken, steps_taken, unless_found, steps_of, walked, unless_told, all_walked, input_taken, round, rows_of}
use Rattle.asl_draft_laws.proofs.TakenIn.{taken-spends}

-- ---- how often the shapes may still change

abbrev room_of : Growth → ℕ
room_of g = g.changes_left

abbrev entry_room : DraftEntry → ℕ
entry_room e = e.input.changes_left + (e.output.changes_left + sum_by room_of e.ends)

abbrev room : Draft → ℕ
room draft = draft.output.changes_left + sum_by entry_room draft.entries

-- it is left as it is, or may change less often
abbrev Spends : {A : Type 0} → (A → ℕ) → (A → A) → Type 0
Spends {A} size make = (x : A) → (make x ≡ x) ⊎ (size (make x) < size x)

element-spends : {A : Type 0} (size : A → ℕ) (make : A → A) → Spends size make → (i : ℕ) → Spends (sum_by size) (with_element i make)
element-spends size make spends i [] = inl refl
element-spends size make spends zero (x ∷ xs) = by (spends x)
  where
    by : (make x ≡ x) ⊎ (size (make x) < size x) → (make x ∷ xs ≡ x ∷ xs) ⊎ (sum_by size (make x ∷ xs) < sum_by size (x ∷ xs))
    by (inl e) = inl (ap (λ y. y ∷ xs) e)
    by (inr less) = inr (omega (arith, less, sum_by-cons size x xs, sum_by-cons size (make x) xs))
element-spends size make spends (suc i) (x ∷ xs) = by (element-spends size make spends i xs)
  where
    by : (with_element i make xs ≡ xs) ⊎ (sum_by size (with_element i make xs) < sum_by size xs) → (x ∷ with_element i make xs ≡ x ∷ xs) ⊎ (sum_by size (x ∷ with_element i make xs) < sum_by size (x ∷ xs))
    by (inl e) = inl (ap (λ ys. x ∷ ys) e)
    by (inr less) = inr (omega (arith, less, sum_by-cons size x xs, sum_by-cons size x (with_element i make xs)))

entry-spends : (n : ℕ) (make : DraftEntry → DraftEntry) → Spends entry_room make → Spends room (with_entry n make)
entry-spends n make spends draft = by (element-spends entry_room make spends n draft.entries)
  where
    by : (with_element n make draft.entries ≡ draft.entries) ⊎ (sum_by entry_room (with_element n make draft.entries) < sum_by entry_room draft.entries) → (with_entry n make draft ≡ draft) ⊎ (room (with_entry n make draft) < room draft)
    by (inl e) = inl (ap (λ es. record draft { entries = es }) e)
    by (inr less) = inr (omega (arith, less))

-- so where a shape flows into one that is put into its place
part-spends : {A : Type 0} (size : A → ℕ) (s : Shape) (g : Growth) (x : A) (put : Growth → A) → put g ≡ x → ((taken_in s g).changes_left < g.changes_left → size (put (taken_in s g)) < size x) → (put (taken_in s g) ≡ x) ⊎ (size (put (taken_in s g)) < size x)
part-spends size s g x put same less = by (taken-spends s g)
  where
    by : (taken_in s g ≡ g) ⊎ ((taken_in s g).changes_left < g.changes_left) → (put (taken_in s g) ≡ x) ⊎ (size (put (taken_in s g)) < size x)
    by (inl e) = inl (ap put e ∙ same)
    by (inr fewer) = inr (less fewer)

taken_at-spends : (target : Option Target) (s : Shape) → Spends room (taken_at target s)
taken_at-spends None s draft = inl refl
taken_at-spends (Some MachineOutput) s draft = part-spends room s draft.output draft (λ g. record draft { output = g }) refl (λ less. omega (arith, less))
taken_at-spends (Some (Input n)) s draft = entry-spends n (λ e. record e { input = taken_in s e.input }) (λ e. part-spends entry_room s e.input e (λ g. record e { input = g }) refl (λ less. omega (arith, less))) draft
taken_at-spends (Some (Output n)) s draft = entry-spends n (λ e. record e { output = taken_in s e.output }) (λ e. part-spends entry_room s e.output e (λ g. record e { output = g }) refl (λ less. omega (arith, less))) draft
taken_at-spends (Some (End n i)) s draft = entry-spends n (λ e. record e { ends = with_element i (taken_in s) e.ends }) ends-spend draft
  where
    ends-spend : Spends entry_room (λ e. record e { ends = with_element i (taken_in s) e.ends })
    ends-spend e = by (element-spends room_of (taken_in s) (taken-spends s) i e.ends)
      where
        by : (with_element i (taken_in s) e.ends ≡ e.ends) ⊎ (sum_by room_of (with_element i (taken_in s) e.ends) < sum_by room_of e.ends) → (let after : DraftEntry = record e { ends = with_element i (taken_in s) e.ends } in (after ≡ e) ⊎ (entry_room after < entry_room e))
        by (inl same) = inl (ap (λ gs. record e { ends = gs }) same)
        by (inr less) = inr (omega (arith, less))

-- ---- steps

module _ (table : Table) (n : ℕ) where
  step-spends : (step : Walked) → Spends room (step_taken table n step)
  step-spends (Flows edge) draft = taken_at-spends (target_of table n edge.destination) edge.flowing draft
  step-spends (Breaks breach) draft = inl refl

  -- the steps leave the draft as it is one by one
  abbrev pub AllStay : List Walked → Draft → Type 0
  AllStay [] draft = Unit {0}
  AllStay (step ∷ steps) draft = (step_taken table n step draft ≡ draft) × AllStay steps draft

  -- or it may change less often
  pub steps-spend : (steps : List Walked) (draft : Draft) → ((steps_taken table n steps draft ≡ draft) × AllStay steps draft) ⊎ (room (steps_taken table n steps draft) < room draft)
  steps-spend [] draft = inl (refl, tt)
  steps-spend (step ∷ steps) draft = by (step-spends step draft) (steps-spend steps draft) (steps-spend steps (step_taken table n step draft))
    where
      next : Draft
      next = step_taken table n step draft

      by : (next ≡ draft) ⊎ (room next < room draft) → ((steps_taken table n steps draft ≡ draft) × AllStay steps draft) ⊎ (room (steps_taken table n steps draft) < room draft)
          → ((steps_taken table n steps next ≡ next) × AllStay steps next) ⊎ (room (steps_taken table n steps next) < room next)
          → ((steps_taken table n steps next ≡ draft) × AllStay (step ∷ steps) draft) ⊎ (room (steps_taken table n steps next) < room draft)
      by (inl e) (inl same) other = inl (ap (steps_taken table n steps) e ∙ same.0, (e, same.1))
      by (inl e) (inr less) other = inr (subst (λ (d : Draft). room (steps_taken table n steps d) < room draft) (sym e) less)
      by (inr less) here (inl same) = inr (subst (λ (d : Draft). room d < room draft) (sym same.0) less)
      by (inr less) here (inr further) = inr (omega (arith, less, further))

-- ---- walks

module _ (table : Table) (declared : Declared) where
  -- a walk through a state breaks no rule of its own, and leaves the draft as it is step by step
  pub record IsAtRest (row : Row) (draft : Draft) : Type 0 where
    pub whole : own_breaches (takes_of declared row.name) (steps_of declared draft row) ≡ []
    pub stays : AllStay table row.number (steps_of declared draft row) draft

  -- none of those rows changes the draft
  abbrev pub AreAtRest : List Row → Draft → Type 0
  AreAtRest [] draft = Unit {0}
  AreAtRest (row ∷ rows) draft = IsAtRest row draft × AreAtRest rows draft

  walk-spends : (row : Row) (draft after : Draft) → walked table declared row draft ≡ Ok after → ((after ≡ draft) × IsAtRest row draft) ⊎ (room after < room draft)
  walk-spends row draft after h = go (own_breaches (takes_of declared row.name) (steps_of declared draft row)) refl h
    where
      go : (breaches : List Breach) → own_breaches (takes_of declared row.name) (steps_of declared draft row) ≡ breaches → unless_found (found_at row.name breaches) (steps_taken table row.number (steps_of declared draft row) draft) ≡ Ok after → ((after ≡ draft) × IsAtRest row draft) ⊎ (room after < room draft)
      go (breach ∷ further) is e = absurd (cc)
      go [] is e =
          let same : steps_taken table row.number (steps_of declared draft row) draft ≡ after = cc in
          by same (steps-spend table row.number (steps_of declared draft row) draft)
        where
          by : steps_taken table row.number (steps_of declared draft row) draft ≡ after → ((steps_taken table row.number (steps_of declared draft row) draft ≡ draft) × AllStay table row.number (steps_of declared draft row) draft) ⊎ (room (steps_taken table row.number (steps_of declared draft row) draft) < room draft) → ((after ≡ draft) × IsAtRest row draft) ⊎ (room after < room draft)
          by same (inl stays) = inl (sym same ∙ stays.0, record { whole = is; stays = stays.1 })
          by same (inr less) = inr (subst (λ (d : Draft). room d < room draft) same less)

  all-spend : (rows : List Row) (draft after : Draft) → all_walked table declared rows draft ≡ Ok after → ((after ≡ draft) × AreAtRest rows draft) ⊎ (room after < room draft)
  all-spend [] draft after h =
      let same : draft ≡ after = cc in
      inl (sym same, tt)
  all-spend (row ∷ rows) draft after h = go (walked table declared row draft) refl h (λ next e. all-spend rows next after e)
    where
      go : (r : Result Draft Finding) → walked table declared row draft ≡ r → unless_told (all_walked table declared rows) r ≡ Ok after → ((next : Draft) → all_walked table declared rows next ≡ Ok after → ((after ≡ next) × AreAtRest rows next) ⊎ (room after < room next)) → ((after ≡ draft) × AreAtRest (row ∷ rows) draft) ⊎ (room after < room draft)
      go (Err found) is e further = absurd (cc)
      go (Ok next) is e further = by (walk-spends row draft next is) (further next e)
        where
          by : ((next ≡ draft) × IsAtRest row draft) ⊎ (room next < room draft) → ((after ≡ next) × AreAtRest rows next) ⊎ (room after < room next) → ((after ≡ draft) × AreAtRest (row ∷ rows) draft) ⊎ (room after < room draft)
          by (inl one) (inl all) = inl (all.0 ∙ one.0, (one.1, subst (AreAtRest rows) one.0 all.1))
          by (inl one) (inr less) = inr (subst (λ (d : Draft). room after < room d) one.0 less)
          by (inr less) (inl all) = inr (subst (λ (d : Draft). room d < room draft) (sym all.0) less)
          by (inr less) (inr further) = inr (omega (arith, less, further))

  -- a draft that a round leaves as it is: the input stays, and so does each state
  pub settled-rests : (draft : Draft) → round table declared draft ≡ Ok draft → (input_taken table declared draft ≡ draft) × AreAtRest (rows_of table) draft
  settled-rests draft h = by (taken_at-spends _ declared.input draft) (all-spend (rows_of table) (input_taken table declared draft) draft h)
    where
      by : (input_taken table declared draft ≡ draft) ⊎ (room (input_taken table declared draft) < room draft) → ((draft ≡ input_taken table declared draft) × AreAtRest (rows_of table) (input_taken table declared draft)) ⊎ (room draft < room (input_taken table declared draft)) → (input_taken table declared draft ≡ draft) × AreAtRest (rows_of table) draft
      by (inl e) (inl all) = (e, subst (AreAtRest (rows_of table)) e all.1)
      by (inl e) (inr less) =
          let never : room draft < room draft = subst (λ (d : Draft). room draft < room d) e less in
          absurd (omega (arith, never))
      by (inr less) (inl all) =
          let never : room draft < room draft = subst (λ (d : Draft). room d < room draft) (sym all.0) less in
          absurd (omega (arith, never))
      by (inr less) (inr further) = absurd (omega (arith, less, further))
