-- The certificate that a draft comes to.
use Rattle.std.proofs.Common.{◌≡◌, ◌<◌, ◌≤◌, ℕ, zero, suc, List, [], ◌∷◌, length, map, Bool, true, false, Option, Some, None, option_map, slice_get, String, Global, string_bytes, string_cmp, Bor, Result, Ok, Err, IfOk, if◌then◌else◌, Ordering, Less, Equal, Greater, refl, sym, ap, ◌∙◌, subst, arith}
use Rattle.std.specs.BTreeMap.{insert_entry}
use Rattle.std.specs.List.{All, AllByRecursion}
use Rattle.std.specs.Option.{unwrap_or}
use Rattle.std.specs.Ordering.{match_ordering}
use Rattle.std.specs.Prelude.{IfSome}
use Rattle.std.proofs.lemmas.List.Elements.{All-head, All-tail}
use Rattle.asl_model.specs.Certificate.{StateShapes, Certificate, is_map}
use Rattle.asl_model.specs.Machine.{Kind, State, kind_of}
use Rattle.asl_model.specs.Numbering.{Table}
use Rattle.asl_model.specs.RecordShapes.{HoldsForCertificate, HoldsForState}
use Rattle.asl_model.specs.Shape.{Shape, Never}
use Rattle.asl_model.specs.ShapeSpelling.{are_distinct}
use Rattle.asl_model.proofs.RunOptions.{none_some, some_inj}
use Rattle.asl_draft_laws.specs.Drafts.{DraftEntry, Growth, certificate_of, entry_of, entry_with, first_entry}
use Rattle.asl_numbered.specs.Expansion.{shape_at}
use Rattle.asl_state_edges.specs.Entry.{entry_view as shapes_view, IsEntryBelow}
use Rattle.asl_state_edges.specs.declared.found.Entry.{Entry}
use Rattle.asl_records.specs.Numbered.{numbered_entries, numbered_view, numbers_view, AreNumbersBelow, AreWithin}
use Rattle.asl_records.specs.declared.records.NumberedCertificate.{NumberedCertificate}
use Rattle.asl_records.specs.declared.records.StateNumbers.{StateNumbers}
use Rattle.asl_drafts.specs.Certified.{entry_certified, row_certified, AreCertified, AreNumbersOf, IsCertified, IsFit}
use Rattle.asl_drafts.specs.Cutting.{IsShallow}
use Rattle.asl_drafts.specs.Drafted.{draft_view, shapes_of}
use Rattle.asl_drafts.specs.Entries.{entries_view}
use Rattle.asl_drafts.specs.Growing.{growth_view, IsEntryGrown, IsGrown}
use Rattle.asl_drafts.specs.declared.draft.Draft.{Draft}
use Rattle.asl_drafts.specs.declared.entries.DraftEntry as code
use Rattle.asl_drafts.specs.declared.growing.Growing.{Growing}
use Rattle.asl_drafts.proofs.Ordered.{IsPut, placed-at, placed-none}

-- ---- the shapes of an entry have few levels

never-shallow : IsShallow Never
never-shallow = omega arith

item-shallow : (shapes : List Shape) → AllByRecursion IsShallow shapes → IfSome (slice_get shapes 0) IsShallow
item-shallow [] h = tt
item-shallow (s ∷ shapes) h = h.0

-- all shapes of an entry have few levels
record AreEntryShallow (entry : DraftEntry) : Type 0 where
  pub input : IsShallow entry.input.shape
  pub output : IsShallow entry.output.shape
  pub ends : AllByRecursion IsShallow (map (λ (g : Growth). g.shape) entry.ends)

entry-shallow : (kind : Kind) (entry : DraftEntry) → AreEntryShallow entry → HoldsForState IsShallow (entry_with kind entry)
entry-shallow kind entry h = record {
  input = h.input;
  output = h.output;
  branches = branches (is_map kind);
  item = item (is_map kind);
}
  where
    branches : (m : Bool) → AllByRecursion IsShallow (if m then [] else map (λ (g : Growth). g.shape) entry.ends)
    branches true = tt
    branches false = h.ends

    item : (m : Bool) → IfSome (if m then slice_get (map (λ (g : Growth). g.shape) entry.ends) 0 else None) IsShallow
    item true = item-shallow (map (λ (g : Growth). g.shape) entry.ends) h.ends
    item false = tt

growths-shallow : (table : List Shape) (gs : List Growing) → All (IsGrown table) gs → AllByRecursion IsShallow (map (λ (g : Growth). g.shape) (map (growth_view table) gs))
growths-shallow table [] h = tt
growths-shallow table (g ∷ gs) h = ((All-head (IsGrown table) g gs h).shallow, growths-shallow table gs (All-tail (IsGrown table) g gs h))

entries-shallow : (table : List Shape) (entries : List code.DraftEntry) (n : ℕ) → All (IsEntryGrown table) entries → AreEntryShallow (unwrap_or (slice_get (entries_view table entries) n) (first_entry 0))
entries-shallow table [] n h = record { input = never-shallow; output = never-shallow; ends = tt }
entries-shallow table (e ∷ es) zero h =
    let is = All-head (IsEntryGrown table) e es h in
    record { input = is.input.shallow; output = is.output.shallow; ends = growths-shallow table e.ends.items is.ends }
entries-shallow table (e ∷ es) (suc n) h = entries-shallow table es n (All-tail (IsEntryGrown table) e es h)

-- ---- an entry

is-certified : (draft : Draft) (number : ℕ) (kind : Kind) (entry : Entry) (made : StateNumbers) → shapes_view draft.store entry ≡ shapes_of (draft_view draft) number kind → IsEntryBelow (length draft.store) entry → AreNumbersOf entry made → IsCertified draft number kind made
is-certified draft number kind entry made shown below of = record {
  shown = whole;
  fit = record {
    below = record {
      input = rw of.input below.input;
      output = rw of.output below.output;
      branches = rw of.branches below.branches;
      item = rw of.item below.item;
    };
    shallow = subst (HoldsForState IsShallow) (sym whole) (entry-shallow kind _ (entries-shallow draft.store draft.entries.items number draft.entries_grown.each));
  };
}
  where
    same : numbers_view draft.store made ≡ shapes_view draft.store entry
    same = rw (of.input, of.output, of.branches, of.item) refl

    whole : numbers_view draft.store made ≡ shapes_of (draft_view draft) number kind
    whole = same ∙ shown

-- where it is made
pub all-certified : {E : Type 0} (r : Result StateNumbers E) (draft : Draft) (number : ℕ) (kind : Kind) (entry : Entry) → shapes_view draft.store entry ≡ shapes_of (draft_view draft) number kind → IsEntryBelow (length draft.store) entry → IfOk r (AreNumbersOf entry) → IfOk r (IsCertified draft number kind)
all-certified (Err e) draft number kind entry shown below of = tt
all-certified (Ok made) draft number kind entry shown below of = is-certified draft number kind entry made shown below of

-- ---- the entries

abbrev Certified : Type 0
Certified = String Global × StateNumbers

put-fit : (P : Certified → Type 0) (es : List Certified) (k : String Global) (v : StateNumbers) → ((n : String Global) → P (n, v)) → AllByRecursion P es → AllByRecursion P (insert_entry string_cmp es k v)
put-fit P [] k v p h = (p k, tt)
put-fit P (e ∷ es) k v p h = by (string_cmp k e.0) (put-fit P es k v p h.1)
  where
    by : (order : Ordering) → AllByRecursion P (insert_entry string_cmp es k v) → AllByRecursion P (match_ordering order ((k, v) ∷ e ∷ es) ((e.0, v) ∷ es) (e ∷ insert_entry string_cmp es k v))
    by Less further = (p k, h)
    by Equal further = (p e.0, h.1)
    by Greater further = (h.0, further)

module _ (table : Table) (draft : Draft) where
  -- none so far
  pub certified-none : (from : ℕ) (es : List Certified) → es ≡ [] → length table.states ≤ from → AreCertified table draft from es
  certified-none from es none past = subst (AreCertified table draft from) (sym none) (record { rows = placed-none (entry_certified draft) (row_certified draft) table from past; fit = tt })

  -- a state whose name is missing
  pub certified-nameless : (number : ℕ) (es : List Certified) (name : Option (Bor (List ℕ))) → number < length table.states → option_map (λ (n : Bor (List ℕ)). n.now) name ≡ slice_get table.names number → ((k : Bor (List ℕ)) → name ≡ Some k → ⊥) → AreCertified table draft (suc number) es → AreCertified table draft number es
  certified-nameless number es name within named nameless are = record {
    rows = placed-at string_cmp string_bytes (numbers_view draft.store) (entry_of (draft_view draft)) (λ x y. refl) table number es es within (λ none. refl) (λ n state some at. none_some (sym (ap (option_map (λ (m : Bor (List ℕ)). m.now)) (missing name refl)) ∙ (named ∙ some))) are.rows;
    fit = are.fit;
  }
    where
      missing : (o : Option (Bor (List ℕ))) → name ≡ o → name ≡ None
      missing None e = e
      missing (Some k) e = absurd (nameless k e)

  -- one more
  pub certified-more : (number : ℕ) (es new : List Certified) (name : Option (Bor (List ℕ))) (n : Bor (List ℕ)) (state : State) (k : String Global) (made : StateNumbers) → number < length table.states → option_map (λ (m : Bor (List ℕ)). m.now) name ≡ slice_get table.names number → name ≡ Some n → Some state ≡ slice_get table.states number → string_bytes k ≡ n.now → IsCertified draft number (kind_of state) made → new ≡ insert_entry string_cmp es k made → AreCertified table draft (suc number) es → AreCertified table draft number new
  certified-more number es new name n state k made within named is found key certified put are = record {
    rows = placed-at string_cmp string_bytes (numbers_view draft.store) (entry_of (draft_view draft)) (λ x y. refl) table number es new within (λ none. none_some (sym none ∙ there)) (λ m other some at. one m other (some_inj (sym there ∙ some)) (some_inj (found ∙ at))) are.rows;
    fit = subst (AllByRecursion (λ (entry : Certified). IsFit draft.store entry.1)) (sym put) (put-fit (λ (entry : Certified). IsFit draft.store entry.1) es k made (λ m. certified.fit) are.fit);
  }
    where
      there : slice_get table.names number ≡ Some n.now
      there = sym named ∙ ap (option_map (λ (m : Bor (List ℕ)). m.now)) is

      one : (m : List ℕ) (other : State) → n.now ≡ m → state ≡ other → IsPut string_cmp string_bytes (numbers_view draft.store) (entry_of (draft_view draft)) es new (record { number = number; name = m; state = other })
      one m other same alike = record { name = k; value = made; put = put; named = key ∙ same; same = certified.shown ∙ ap (λ s. shapes_of (draft_view draft) number (kind_of s)) alike }

-- ---- the certificate

all-below : (table : List Shape) (es : List Certified) → AllByRecursion (λ (entry : Certified). IsFit table entry.1) es → AllByRecursion (λ (entry : Certified). AreNumbersBelow (length table) entry.1) es
all-below table [] h = tt
all-below table (e ∷ es) h = (h.0.below, all-below table es h.1)

all-shallow : (table : List Shape) (es : List Certified) → AllByRecursion (λ (entry : Certified). IsFit table entry.1) es → AllByRecursion (λ (entry : List ℕ × StateShapes). HoldsForState IsShallow entry.1) (numbered_entries table es)
all-shallow table [] h = tt
all-shallow table (e ∷ es) h = (h.0.shallow, all-shallow table es h.1)

module _ (table : Table) (draft : Draft) (certificate : NumberedCertificate) (shapes : certificate.shapes ≡ draft.store) (output : certificate.output ≡ draft.output.number) (are : AreCertified table draft 0 certificate.states.entries) where
  pub certificate-same : are_distinct table.names ≡ true → numbered_view certificate ≡ certificate_of table (draft_view draft)
  certificate-same distinct = rw (shapes, output) (ap (λ states. (let made : Certificate = record { output = shape_at draft.store draft.output.number; states = states } in made)) (are.rows.placed distinct))

  pub certificate-within : AreWithin certificate
  certificate-within = record {
    output = rw (shapes, output) draft.output_grown.within;
    states = record { each = rw shapes (all-below draft.store certificate.states.entries are.fit) };
  }

  pub certificate-shallow : HoldsForCertificate IsShallow (numbered_view certificate)
  certificate-shallow = record {
    output = rw (shapes, output) draft.output_grown.shallow;
    states = rw shapes (all-shallow draft.store certificate.states.entries are.fit);
  }
