-- The shapes of drafts: as many for each state as its entry has, and Any where a shape may change no more. What flows into
-- a shape that stays is inside it.
use Rattle.std.proofs.Common.{◌≡◌, ◌<◌, ℕ, zero, suc, List, [], ◌∷◌, length, map, replicate, Option, Some, None, option_map, Result, Ok, Err, slice_get, refl, sym, ap, subst, ◌∙◌, arith}
use Rattle.std.specs.List.{AllByRecursion}
use Rattle.std.specs.Option.{unwrap_or}
use Rattle.std.proofs.lemmas.Option.{slice_get-map}
use Rattle.asl_model.specs.Certificate.{Declared, takes_of}
use Rattle.asl_model.specs.Edges.{Walked, Flows, Breaks}
use Rattle.asl_model.specs.Finding.{Breach, Finding, found_at}
use Rattle.asl_model.specs.Machine.{State, Kind, kind_of}
use Rattle.asl_model.specs.Numbering.{Table}
use Rattle.asl_model.specs.Shape.{Shape, Inside}
use Rattle.asl_model.proofs.ReadingSteps.{map_from}
use Rattle.asl_model.proofs.RunOptions.{none_some, some_inj}
use Rattle.asl_draft_laws.specs.Drafts.{Growth, Draft, DraftEntry, Target, MachineOutput, Input, Output, End, Row, taken_in, ungrown, children_in, first_entry, first_draft, entry_with, entry_of, with_element, with_entry, taken_at, target_of, own_breaches, step_taken, steps_taken, unless_found, steps_of, walked, misnamed, unless_told, all_walked, input_taken, round, rows_of, after_rounds}
use Rattle.asl_draft_laws.proofs.TakenIn.{IsSound, stays-inside, taken-sound}

-- ---- lists

-- what holds of each element holds of each after one is changed
with-all : {A : Type 0} (P : A → Type 0) (make : A → A) → ((x : A) → P x → P (make x)) → (i : ℕ) (xs : List A) → AllByRecursion P xs → AllByRecursion P (with_element i make xs)
with-all P make keeps i [] all = tt
with-all P make keeps zero (x ∷ xs) all = (keeps x all.0, all.1)
with-all P make keeps (suc i) (x ∷ xs) all = (all.0, with-all P make keeps i xs all.1)

-- there are as many
pub with-length : {A : Type 0} (make : A → A) (i : ℕ) (xs : List A) → length (with_element i make xs) ≡ length xs
with-length make i [] = refl
with-length make zero (x ∷ xs) = refl
with-length make (suc i) (x ∷ xs) = ap suc (with-length make i xs)

-- what is seen of each stays, where it stays of what is made
with-seen : {A B : Type 0} (seen : A → B) (make : A → A) → ((x : A) → seen (make x) ≡ seen x) → (i : ℕ) (xs : List A) → map seen (with_element i make xs) ≡ map seen xs
with-seen seen make same i [] = refl
with-seen seen make same zero (x ∷ xs) = ap (λ y. y ∷ map seen xs) (same x)
with-seen seen make same (suc i) (x ∷ xs) = ap (λ ys. seen x ∷ ys) (with-seen seen make same i xs)

-- where the list stays, so does the element
pub element-stays : {A : Type 0} (make : A → A) (i : ℕ) (xs : List A) (x : A) → with_element i make xs ≡ xs → slice_get xs i ≡ Some x → make x ≡ x
element-stays make i [] x stays at = none_some at
element-stays make zero (y ∷ ys) x stays at =
    let is : y ≡ x = some_inj at in
    let same : make y ≡ y = cc in
    subst (λ z. make z ≡ z) is same
element-stays make (suc i) (y ∷ ys) x stays at =
    let same : with_element i make ys ≡ ys = cc in
    element-stays make i ys x same at

all-replicate : {A : Type 0} (P : A → Type 0) (n : ℕ) (x : A) → P x → AllByRecursion P (replicate n x)
all-replicate P zero x h = tt
all-replicate P (suc n) x h = (h, all-replicate P n x h)

length-replicated : {A : Type 0} (n : ℕ) (x : A) → length (replicate n x) ≡ n
length-replicated zero x = refl
length-replicated (suc n) x = ap suc (length-replicated n x)

-- an element that is there
pub all-at : {A : Type 0} (P : A → Type 0) (xs : List A) (i : ℕ) (x : A) → AllByRecursion P xs → slice_get xs i ≡ Some x → P x
all-at P [] i x all at = none_some at
all-at P (y ∷ ys) zero x all at = subst P (some_inj at) all.0
all-at P (y ∷ ys) (suc i) x all at = all-at P ys i x all.1 at

pub there-within : {A : Type 0} (xs : List A) (i : ℕ) → i < length xs → (x : A) × (slice_get xs i ≡ Some x)
there-within [] i h = absurd (omega (arith, h))
there-within (x ∷ xs) zero h = (x, refl)
there-within (x ∷ xs) (suc i) h = there-within xs i (omega (arith, h))

-- ---- drafts

-- no shape of an entry changes once more
pub record IsEntrySound (entry : DraftEntry) : Type 0 where
  pub input : IsSound entry.input
  pub output : IsSound entry.output
  pub ends : AllByRecursion IsSound entry.ends

-- how many ends it has
abbrev pub ends_in : DraftEntry → ℕ
ends_in entry = length entry.ends

-- the draft is one of that table
pub record IsDraftOf (table : Table) (draft : Draft) : Type 0 where
  pub formed : map ends_in draft.entries ≡ map (λ state. children_in (kind_of state)) table.states
  pub output : IsSound draft.output
  pub entries : AllByRecursion IsEntrySound draft.entries

ungrown-sound : IsSound ungrown
ungrown-sound = λ e. absurd (omega (arith, e))

first-formed : (states : List State) → map ends_in (map (λ state. first_entry (children_in (kind_of state))) states) ≡ map (λ state. children_in (kind_of state)) states
first-formed [] = refl
first-formed (state ∷ states) = rw (length-replicated (children_in (kind_of state)) ungrown, first-formed states) refl

first-sound : (states : List State) → AllByRecursion IsEntrySound (map (λ state. first_entry (children_in (kind_of state))) states)
first-sound [] = tt
first-sound (state ∷ states) = (record { input = ungrown-sound; output = ungrown-sound; ends = all-replicate IsSound (children_in (kind_of state)) ungrown ungrown-sound }, first-sound states)

pub first-is : (table : Table) → IsDraftOf table (first_draft table)
first-is table = record { formed = first-formed table.states; output = ungrown-sound; entries = first-sound table.states }

-- one of the entries is changed
entry-is : (table : Table) (n : ℕ) (make : DraftEntry → DraftEntry) (draft : Draft) → ((e : DraftEntry) → ends_in (make e) ≡ ends_in e) → ((e : DraftEntry) → IsEntrySound e → IsEntrySound (make e)) → IsDraftOf table draft → IsDraftOf table (with_entry n make draft)
entry-is table n make draft many keeps is = record { formed = with-seen ends_in make many n draft.entries ∙ is.formed; output = is.output; entries = with-all IsEntrySound make keeps n draft.entries is.entries }

taken-is : (table : Table) (target : Option Target) (s : Shape) (draft : Draft) → IsDraftOf table draft → IsDraftOf table (taken_at target s draft)
taken-is table None s draft is = is
taken-is table (Some MachineOutput) s draft is = record { formed = is.formed; output = taken-sound s draft.output is.output; entries = is.entries }
taken-is table (Some (Input n)) s draft is = entry-is table n (λ e. record e { input = taken_in s e.input }) draft (λ e. refl) (λ e sound. record { input = taken-sound s e.input sound.input; output = sound.output; ends = sound.ends }) is
taken-is table (Some (Output n)) s draft is = entry-is table n (λ e. record e { output = taken_in s e.output }) draft (λ e. refl) (λ e sound. record { input = sound.input; output = taken-sound s e.output sound.output; ends = sound.ends }) is
taken-is table (Some (End n i)) s draft is = entry-is table n (λ e. record e { ends = with_element i (taken_in s) e.ends }) draft (λ e. with-length (taken_in s) i e.ends) (λ e sound. record { input = sound.input; output = sound.output; ends = with-all IsSound (taken_in s) (taken-sound s) i e.ends sound.ends }) is

step-is : (table : Table) (n : ℕ) (step : Walked) (draft : Draft) → IsDraftOf table draft → IsDraftOf table (step_taken table n step draft)
step-is table n (Flows edge) draft is = taken-is table (target_of table n edge.destination) edge.flowing draft is
step-is table n (Breaks breach) draft is = is

steps-are : (table : Table) (n : ℕ) (steps : List Walked) (draft : Draft) → IsDraftOf table draft → IsDraftOf table (steps_taken table n steps draft)
steps-are table n [] draft is = is
steps-are table n (step ∷ steps) draft is = steps-are table n steps (step_taken table n step draft) (step-is table n step draft is)

module _ (table : Table) (declared : Declared) where
  -- each draft of an answer is one of the table
  abbrev AnswersOne : Result Draft Finding → Type 0
  AnswersOne r = (draft : Draft) → r ≡ Ok draft → IsDraftOf table draft

  walked-is : (row : Row) (draft : Draft) → IsDraftOf table draft → AnswersOne (walked table declared row draft)
  walked-is row draft is after h = go (own_breaches (takes_of declared row.name) (steps_of declared draft row)) h
    where
      go : (breaches : List Breach) → unless_found (found_at row.name breaches) (steps_taken table row.number (steps_of declared draft row) draft) ≡ Ok after → IsDraftOf table after
      go (breach ∷ further) e = absurd (cc)
      go [] e =
          let same : steps_taken table row.number (steps_of declared draft row) draft ≡ after = cc in
          subst (IsDraftOf table) same (steps-are table row.number (steps_of declared draft row) draft is)

  then-is : (go_on : Draft → Result Draft Finding) (r : Result Draft Finding) → AnswersOne r → ((next : Draft) → IsDraftOf table next → AnswersOne (go_on next)) → AnswersOne (unless_told go_on r)
  then-is go_on (Ok next) first further after h = further next (first next refl) after h
  then-is go_on (Err found) first further after h = absurd (cc)

  all-are : (rows : List Row) (draft : Draft) → IsDraftOf table draft → AnswersOne (all_walked table declared rows draft)
  all-are [] draft is after h =
      let same : draft ≡ after = cc in
      subst (IsDraftOf table) same is
  all-are (row ∷ rows) draft is after h = then-is (all_walked table declared rows) (walked table declared row draft) (walked-is row draft is) (λ next one. all-are rows next one) after h

  -- so after so many rounds
  pub rounds-are : (n : ℕ) → AnswersOne (after_rounds table declared n)
  rounds-are zero after h = go (misnamed table declared) h
    where
      go : (findings : List Finding) → unless_found findings (first_draft table) ≡ Ok after → IsDraftOf table after
      go (found ∷ further) e = absurd (cc)
      go [] e =
          let same : first_draft table ≡ after = cc in
          subst (IsDraftOf table) same (first-is table)
  rounds-are (suc n) after h = then-is (round table declared) (after_rounds table declared n) (rounds-are n) (λ next is. all-are (rows_of table) (input_taken table declared next) (taken-is table _ declared.input next is)) after h

-- ---- shapes that are there

-- an entry of a table's draft
pub record HasEntryAt (draft : Draft) (n : ℕ) (kind : Kind) : Type 0 where
  pub entry : DraftEntry
  pub at : slice_get draft.entries n ≡ Some entry
  pub many : length entry.ends ≡ children_in kind
  pub sound : IsEntrySound entry

pub entry-there : (table : Table) (draft : Draft) (n : ℕ) (state : State) → IsDraftOf table draft → slice_get table.states n ≡ Some state → HasEntryAt draft n (kind_of state)
entry-there table draft n state is at =
    let there = map_from ends_in (slice_get draft.entries n) (children_in (kind_of state))
    (sym (slice_get-map ends_in draft.entries n) ∙ (ap (λ ks. slice_get ks n) is.formed ∙ (slice_get-map (λ (st : State). children_in (kind_of st)) table.states n ∙ ap (option_map (λ (st : State). children_in (kind_of st))) at))) in
    record { entry = there.0; at = there.1; many = there.2; sound = all-at IsEntrySound draft.entries n there.0 is.entries there.1 }

-- what a draft comes to of a state
pub entry-of : (draft : Draft) (row : Row) (has : HasEntryAt draft row.number (kind_of row.state)) → entry_of draft row ≡ entry_with (kind_of row.state) has.entry
entry-of draft row has = ap (λ o. entry_with (kind_of row.state) (unwrap_or o (first_entry 0))) has.at

-- where the draft stays, so does the entry
entry-stays : (draft : Draft) (n : ℕ) (kind : Kind) (make : DraftEntry → DraftEntry) (has : HasEntryAt draft n kind) → with_entry n make draft ≡ draft → make has.entry ≡ has.entry
entry-stays draft n kind make has stays = element-stays make n draft.entries has.entry (ap (λ (d : Draft). d.entries) stays) has.at

-- what flows into a shape of an entry is inside it, where the draft stays
pub input-stays : (draft : Draft) (n : ℕ) (kind : Kind) (s : Shape) (has : HasEntryAt draft n kind) → taken_at (Some (Input n)) s draft ≡ draft → Inside s has.entry.input.shape
input-stays draft n kind s has stays = stays-inside s has.entry.input has.sound.input (ap (λ (e : DraftEntry). e.input) (entry-stays draft n kind (λ e. record e { input = taken_in s e.input }) has stays))

pub output-stays : (draft : Draft) (n : ℕ) (kind : Kind) (s : Shape) (has : HasEntryAt draft n kind) → taken_at (Some (Output n)) s draft ≡ draft → Inside s has.entry.output.shape
output-stays draft n kind s has stays = stays-inside s has.entry.output has.sound.output (ap (λ (e : DraftEntry). e.output) (entry-stays draft n kind (λ e. record e { output = taken_in s e.output }) has stays))

-- an end, and what flows into it
pub record EndsAt (ends : List Growth) (i : ℕ) (s : Shape) : Type 0 where
  pub shape : Shape
  pub at : slice_get (map (λ (g : Growth). g.shape) ends) i ≡ Some shape
  pub inside : Inside s shape

pub end-stays : (draft : Draft) (n : ℕ) (kind : Kind) (i : ℕ) (s : Shape) (has : HasEntryAt draft n kind) → i < children_in kind → taken_at (Some (End n i)) s draft ≡ draft → EndsAt has.entry.ends i s
end-stays draft n kind i s has within stays =
    let ends = has.entry.ends in
    let there = there-within ends i (omega (arith, within, has.many)) in
    let same : with_element i (taken_in s) ends ≡ ends = ap (λ (e : DraftEntry). e.ends) (entry-stays draft n kind (λ e. record e { ends = with_element i (taken_in s) e.ends }) has stays) in
    record {
      shape = there.0.shape;
      at = slice_get-map (λ (g : Growth). g.shape) ends i ∙ ap (option_map (λ (g : Growth). g.shape)) there.1;
      inside = stays-inside s there.0 (all-at IsSound ends i there.0 has.sound.ends there.1) (element-stays (taken_in s) i ends there.0 same there.1);
    }
