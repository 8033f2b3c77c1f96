-- What is noted of a machine's states, with one more entry.
use Rattle.std.proofs.Common.{◌≡◌, ◌⊎◌, ◌≤◌, ℕ, Bool, true, false, ◌||◌, ◌&&◌, List, [], ◌∷◌, ◌++◌, length, set, refl, sym, ap, ◌∙◌, subst, inl, inr, ⊎_elim, Some, None}
use Rattle.std.specs.Prelude.{nat_eq, bytes_eq, position, slice_get}
use Rattle.std.specs.Option.{option_eq, option_map_or}
use Rattle.std.proofs.lemmas.Bool.{and_right, cases_eq, eq-eqb, ne_eqb}
use Rattle.std.proofs.lemmas.List.{length-set}
use Rattle.std.proofs.lemmas.List.Folds.{list_any-append}
use Rattle.std.proofs.lemmas.Option.{none-some, same_Some, slice_get_past}
use Rattle.asl_model.specs.Machine.{State}
use Rattle.asl_model.specs.Names.{StateName}
use Rattle.asl_model.specs.Numbering.{Table}
use Rattle.asl_model.specs.Run.{Entry}
use Rattle.asl_run.specs.Driving.{Told}
use Rattle.asl_cases.specs.Coverage.{AreFlagsOf, Part, flags_of, flags_view, is_name_of, is_taken, taker, takes, takes_there}
use Rattle.asl_cases.specs.declared.covered.Covered.{Covered}
use Rattle.asl_cases.proofs.Noted.{nothing_more, same_flags_of, takes_nothing}
use Rattle.asl_cases.proofs.Numbered.{get_push, get_set_other, get_set_same, or_none}

-- ---- one more entry

-- what an entry takes of the state of that number
abbrev more_there : Table → ℕ → State → Entry → Part → Bool
more_there table number state entry part = takes_there table number state part entry

taken_more : (table : Table) (told : Told) (entry : List ℕ × Entry) (number : ℕ) (state : State) (part : Part) → (is_taken table told number state part || more_there table number state entry.1 part) ≡ is_taken table (told ++ entry ∷ []) number state part
taken_more table told entry number state part =
    ap (λ b. is_taken table told number state part || b) (or_none (more_there table number state entry.1 part) false refl)
    ∙ sym (list_any-append (λ e. more_there table number state e.1 part) told (entry ∷ []))

flags_more : (table : Table) (told : Told) (entry : List ℕ × Entry) (number : ℕ) (state : State) → flags_of (λ part. is_taken table told number state part || more_there table number state entry.1 part) state ≡ flags_of (is_taken table (told ++ entry ∷ []) number state) state
flags_more table told entry number state =
    same_flags_of (λ part. is_taken table told number state part || more_there table number state entry.1 part)
    (is_taken table (told ++ entry ∷ []) number state) (taken_more table told entry number state) state

flags_kept : (table : Table) (told : Told) (entry : List ℕ × Entry) (number : ℕ) (state : State) → ((part : Part) → more_there table number state entry.1 part ≡ false) → flags_of (is_taken table told number state) state ≡ flags_of (is_taken table (told ++ entry ∷ []) number state) state
flags_kept table told entry number state none =
    nothing_more (is_taken table told number state) (more_there table number state entry.1) none state
    ∙ flags_more table told entry number state

-- ---- of which state

-- an entry takes nothing of a state that isn't its own
not_own : (table : Table) (number : ℕ) (state : State) (entry : Entry) (name : StateName) → taker entry ≡ Some name → is_name_of table number name ≡ false → (part : Part) → more_there table number state entry part ≡ false
not_own table number state entry name own isnt part =
    ap (λ b. b && takes state entry part) (ap (λ o. option_map_or (is_name_of table number) o false) own ∙ isnt)

-- of its own state it takes what it takes
is_own : (table : Table) (number : ℕ) (state : State) (entry : Entry) (name : StateName) → taker entry ≡ Some name → is_name_of table number name ≡ true → (part : Part) → takes state entry part ≡ more_there table number state entry part
is_own table number state entry name own is part =
    sym (ap (λ b. b && takes state entry part) (ap (λ o. option_map_or (is_name_of table number) o false) own ∙ is))

-- some entries take nothing
no_taker : (table : Table) (number : ℕ) (state : State) (entry : Entry) → taker entry ≡ None → (part : Part) → more_there table number state entry part ≡ false
no_taker table number state entry none part =
    and_right (option_map_or (is_name_of table number) (taker entry) false) (takes state entry part) (takes_nothing state entry none part)

-- ---- all states

kept_where : (table : Table) (told : Told) (entry : List ℕ × Entry) (states : List Covered) → AreFlagsOf table told states → ((number : ℕ) (state : State) (covered : Covered) → slice_get table.states number ≡ Some state → slice_get states number ≡ Some covered → (part : Part) → more_there table number state entry.1 part ≡ false) → AreFlagsOf table (told ++ entry ∷ []) states
kept_where table told entry states before none = record {
  many = before.many;
  each = λ number state covered at noted.
      before.each number state covered at noted
      ∙ flags_kept table told entry number state (none number state covered at noted);
}

-- the entry takes nothing
pub kept_untaken : (table : Table) (told : Told) (entry : List ℕ × Entry) (states : List Covered) → AreFlagsOf table told states → taker entry.1 ≡ None → AreFlagsOf table (told ++ entry ∷ []) states
kept_untaken table told entry states before none =
    kept_where table told entry states before (λ number state covered at noted part. no_taker table number state entry.1 none part)

-- no state has its name
pub kept_unnamed : (table : Table) (told : Told) (entry : List ℕ × Entry) (states : List Covered) (name : StateName) → AreFlagsOf table told states → taker entry.1 ≡ Some name → position (bytes_eq name) table.names ≡ None → AreFlagsOf table (told ++ entry ∷ []) states
kept_unnamed table told entry states name before own none =
    kept_where table told entry states before (λ number state covered at noted part.
    not_own table number state entry.1 name own (ap (λ o. option_eq nat_eq o (Some number)) none) part)

-- the state of its name isn't there, or nothing is noted of it
not_that : (table : Table) (name : StateName) (own number : ℕ) → position (bytes_eq name) table.names ≡ Some own → (own ≡ number → ⊥) → is_name_of table number name ≡ false
not_that table name own number named ne =
    ap (λ o. option_eq nat_eq o (Some number)) named ∙ ne_eqb own number ne

pub kept_absent : (table : Table) (told : Told) (entry : List ℕ × Entry) (states : List Covered) (name : StateName) (own : ℕ) → AreFlagsOf table told states → taker entry.1 ≡ Some name → position (bytes_eq name) table.names ≡ Some own → slice_get table.states own ≡ None → AreFlagsOf table (told ++ entry ∷ []) states
kept_absent table told entry states name own before tells named none =
    kept_where table told entry states before (λ number state covered at noted part.
    not_own table number state entry.1 name tells
    (not_that table name own number named (λ e. none-some state (sym none ∙ (ap (slice_get table.states) e ∙ at)))) part)

pub kept_unnoted : (table : Table) (told : Told) (entry : List ℕ × Entry) (states : List Covered) (name : StateName) (own : ℕ) → AreFlagsOf table told states → taker entry.1 ≡ Some name → position (bytes_eq name) table.names ≡ Some own → length states ≤ own → AreFlagsOf table (told ++ entry ∷ []) states
kept_unnoted table told entry states name own before tells named short =
    kept_where table told entry states before (λ number state covered at noted part.
    not_own table number state entry.1 name tells
    (not_that table name own number named (λ e. none-some covered (sym (slice_get_past states own short) ∙ (ap (slice_get states) e ∙ noted)))) part)

-- what it takes of its own state is noted
pub noted_more : (table : Table) (told : Told) (entry : List ℕ × Entry) (states : List Covered) (name : StateName) (own : ℕ) (mine : State) (after : Covered) → AreFlagsOf table told states → taker entry.1 ≡ Some name → position (bytes_eq name) table.names ≡ Some own → slice_get table.states own ≡ Some mine → flags_view after ≡ flags_of (λ part. is_taken table told own mine part || takes mine entry.1 part) mine → AreFlagsOf table (told ++ entry ∷ []) (set states own after)
noted_more table told entry states name own mine after before tells named stands noted = record {
  many = length-set states own after ∙ before.many;
  each = λ number state covered at is. noted_at number state covered at is (cases_eq own number);
}
  where
    noted_at : (number : ℕ) (state : State) (covered : Covered) → slice_get table.states number ≡ Some state → slice_get (set states own after) number ≡ Some covered → (own ≡ number) ⊎ (own ≡ number → ⊥) → flags_view covered ≡ flags_of (is_taken table (told ++ entry ∷ []) number state) state
    noted_at number state covered at is (inl e) =
        let same_state : mine ≡ state = same_Some mine state (sym stands ∙ (ap (slice_get table.states) e ∙ at)) in
        let same_noted : after ≡ covered = get_set_same states own after covered (ap (slice_get (set states own after)) e ∙ is) in
        let here = noted ∙ (same_flags_of (λ part. is_taken table told own mine part || takes mine entry.1 part)
        (is_taken table (told ++ entry ∷ []) own mine)
        (λ part. ap (λ b. is_taken table told own mine part || b)
        (is_own table own mine entry.1 name tells (ap (λ o. option_eq nat_eq o (Some own)) named ∙ eq-eqb own own refl) part)
        ∙ taken_more table told entry own mine part) mine) in
        subst (λ n. flags_view covered ≡ flags_of (is_taken table (told ++ entry ∷ []) n state) state) e
        (subst (λ s. flags_view covered ≡ flags_of (is_taken table (told ++ entry ∷ []) own s) s) same_state
        (subst (λ c. flags_view c ≡ flags_of (is_taken table (told ++ entry ∷ []) own mine) mine) same_noted here))
    noted_at number state covered at is (inr ne) =
        before.each number state covered at (sym (get_set_other states own number after (λ e. ne (sym e))) ∙ is)
        ∙ flags_kept table told entry number state (not_own table number state entry.1 name tells (not_that table name own number named ne))

-- ---- at first

-- one more state, of which nothing is taken
pub record NoneTaken (table : Table) (states : List Covered) : Type 0 where
  pub each : (number : ℕ) (state : State) (covered : Covered) → slice_get table.states number ≡ Some state
      → slice_get states number ≡ Some covered
      → flags_view covered ≡ flags_of (λ part. false) state

pub none_taken_more : (table : Table) (states : List Covered) (number : ℕ) (state : State) (covered : Covered) → NoneTaken table states → number ≡ length states → slice_get table.states number ≡ Some state → flags_view covered ≡ flags_of (λ part. false) state → NoneTaken table (states ++ covered ∷ [])
none_taken_more table states number state covered before many at noted = record {
  each = λ k s c here is. ⊎_elim
      (λ (e : slice_get states k ≡ Some c). before.each k s c here e)
      (λ (e : (k ≡ length states) × (covered ≡ c)).
      let same : state ≡ s = same_Some state s (sym at ∙ (ap (slice_get table.states) (many ∙ sym e.0) ∙ here)) in
      subst (λ x. flags_view c ≡ flags_of (λ part. false) x) same (subst (λ x. flags_view x ≡ flags_of (λ part. false) state) e.1 noted))
      (get_push states covered k c is);
}
