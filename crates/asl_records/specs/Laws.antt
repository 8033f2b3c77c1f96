-- Laws of certificates by number: what holds of their numbers still holds in a table that has grown.
use Rattle.std.proofs.Common.{◌≡◌, ◌<◌, ℕ, List, [], ◌∷◌, length, String, Global, refl, ◌∙◌, subst, sym}
use Rattle.std.specs.List.{AllByRecursion}
use Rattle.asl_numbered.specs.Expansion.{Keeps}
use Rattle.asl_numbered.specs.Laws.{kept_item, kept_item_within, kept_numbers, kept_shape, kept_shapes, kept_within}
use Rattle.asl_model.specs.Shape.{Shape}
use Rattle.asl_records.specs.Numbered.{numbers_view, numbered_entries, numbered_view, AreNumbersBelow, AreEntriesBelow, AreWithin}
use Rattle.asl_records.specs.Numbering.{AreListOf, AreStatesOf}
use Rattle.asl_records.specs.declared.records.NumberedCertificate.{NumberedCertificate}
use Rattle.asl_records.specs.declared.records.StateNumbers.{StateNumbers}

-- an entry of a map of states
abbrev pub Entry : Type 0
Entry = String Global × StateNumbers

module _ (old new : List Shape) (keeps : Keeps old new) where
  -- ---- several numbers

  pub list_kept : (shapes : List _) (ns : List ℕ) → AreListOf old shapes ns → AreListOf new shapes ns
  list_kept shapes ns are = record { below = kept_numbers old new ns keeps are.below; same = kept_shapes old new ns keeps are.below ∙ are.same }

  -- ---- those of a state

  pub numbers_within : (numbers : StateNumbers) → AreNumbersBelow (length old) numbers → AreNumbersBelow (length new) numbers
  numbers_within numbers h = record {
    input = kept_within old new numbers.input keeps h.input;
    output = kept_within old new numbers.output keeps h.output;
    branches = kept_numbers old new numbers.branches.items keeps h.branches;
    item = kept_item_within old new numbers.item keeps h.item;
  }

  pub numbers_shown : (numbers : StateNumbers) → AreNumbersBelow (length old) numbers → numbers_view new numbers ≡ numbers_view old numbers
  numbers_shown numbers h =
      rw (kept_shape old new numbers.input keeps h.input, kept_shape old new numbers.output keeps h.output, kept_shapes old new numbers.branches.items keeps h.branches, kept_item old new numbers.item keeps h.item) refl

  -- ---- those of several states

  each_within : (entries : List Entry) → AllByRecursion (λ (entry : Entry). AreNumbersBelow (length old) entry.1) entries → AllByRecursion (λ (entry : Entry). AreNumbersBelow (length new) entry.1) entries
  each_within [] h = tt
  each_within (entry ∷ entries) h = (numbers_within entry.1 h.0, each_within entries h.1)

  each_shown : (entries : List Entry) → AllByRecursion (λ (entry : Entry). AreNumbersBelow (length old) entry.1) entries → numbered_entries new entries ≡ numbered_entries old entries
  each_shown [] h = refl
  each_shown (entry ∷ entries) h = rw (numbers_shown entry.1 h.0, each_shown entries h.1) refl

  pub entries_within : (entries : List Entry) → AreEntriesBelow (length old) entries → AreEntriesBelow (length new) entries
  entries_within entries h = record { each = each_within entries h.each }

  pub entries_shown : (entries : List Entry) → AreEntriesBelow (length old) entries → numbered_entries new entries ≡ numbered_entries old entries
  entries_shown entries h = each_shown entries h.each

  pub states_kept : (states : List _) (entries : List Entry) → AreStatesOf old states entries → AreStatesOf new states entries
  states_kept states entries are = record { below = entries_within entries are.below; same = entries_shown entries are.below ∙ are.same }

-- ---- a certificate whose table has grown, and whose numbers are as they were

pub certificate_within : (old new : NumberedCertificate) → Keeps old.shapes new.shapes → new.output ≡ old.output → new.states.entries ≡ old.states.entries → AreWithin old → AreWithin new
certificate_within old new keeps output states h = record {
  output = subst (λ n. n < length new.shapes) (sym output) (kept_within old.shapes new.shapes old.output keeps h.output);
  states = subst (AreEntriesBelow (length new.shapes)) (sym states) (entries_within old.shapes new.shapes keeps old.states.entries h.states);
}

pub certificate_shown : (old new : NumberedCertificate) → Keeps old.shapes new.shapes → new.output ≡ old.output → new.states.entries ≡ old.states.entries → AreWithin old → numbered_view new ≡ numbered_view old
certificate_shown old new keeps output states h =
    rw (output, states, kept_shape old.shapes new.shapes old.output keeps h.output, entries_shown old.shapes new.shapes keeps old.states.entries h.states) refl
