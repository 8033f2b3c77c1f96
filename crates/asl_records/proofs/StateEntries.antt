-- Reading the entries of a certificate's states one after another, their shapes into a table.
use Rattle.std.proofs.Common.{◌≡◌, ℕ, Bool, List, [], ◌∷◌, length, Option, Bor, String, Global, string_bytes, string_cmp, sym, subst}
use Rattle.std.specs.BTreeMap.{insert_entry}
use Rattle.std.specs.List.Sorted.{IsStrictlySortedBy}
use Rattle.std.specs.Map.{keys_of}
use Rattle.asl_model.specs.Records.{Reading, object_complaints, entries_complaints, entries_from, state_rows, state_from}
use Rattle.asl_tree.specs.View.{view}
use Rattle.asl_numbered.specs.Expansion.{Keeps}
use Rattle.asl_numbered.specs.Laws.{keeps_same, keeps_trans}
use Rattle.asl_model.specs.Shape.{Shape}
use Rattle.asl_records.specs.Listed.{AreInTable, ForReading}
use Rattle.asl_records.specs.Numbered.{numbers_view, AreEntriesBelow}
use Rattle.asl_records.specs.Numbering.{AreStateOf, AreStatesOf}
use Rattle.asl_records.specs.Parts.{TellsOneOf}
use Rattle.asl_records.specs.Values.{as_value}
use Rattle.asl_records.specs.declared.records.StateNumbers.{StateNumbers}
use Rattle.asl_records.specs.declared.refusals.ReadFault.{ReadFault}
use Rattle.asl_records.proofs.Entries as entries
use Rattle.asl_records.proofs.Entries.{Reads, Stated, members, seen_again}
use Rattle.asl_records.specs.Laws.{Entry, entries_within, entries_shown}
use Rattle.asl_records.proofs.Meant.{still_meant}
use Rattle.asl_records.proofs.Numberings.{entries_pushed}

-- where shapes are read so
module _ (reading : Reading) where
  -- so far the entries es were read into the table, nothing was wrong, and those that are left make up the rest
  pub record ReadsStates (now : List Shape) (all left : List Stated) (es : List Entry) : Type 0 where
    pub below : AreEntriesBelow (length now) es
    pub reads : Reads reading (numbers_view now) state_rows (state_from reading.listed) all left es

  states_begun : (table : List Shape) (all left : List Stated) (es : List Entry) → left ≡ all → es ≡ [] → ReadsStates table all left es
  states_begun table all left es same none = record {
    below = subst (AreEntriesBelow (length table)) (sym none) (record { each = tt });
    reads = entries.begun reading (numbers_view table) state_rows (state_from reading.listed) all left es same none;
  }

  states_gone_on : (now new : List Shape) (all left rest : List Stated) (es more : List Entry) (e : Stated) (k : String Global) (n : List ℕ) (numbers : StateNumbers) → ReadsStates now all left es → left ≡ e ∷ rest → IsStrictlySortedBy string_cmp (keys_of all) → Keeps now new
      → string_bytes k ≡ string_bytes e.0 → n ≡ string_bytes e.0 → object_complaints reading n state_rows (as_value (view e.1)) ≡ [] → AreStateOf new (state_from reading.listed (as_value (view e.1))) numbers → more ≡ insert_entry string_cmp es k numbers → ReadsStates new all rest more
  states_gone_on now new all left rest es more e k n numbers h split sorted keeps same at right are made =
      let f = state_from reading.listed in
      let see = numbers_view new in
      let reads = seen_again reading (numbers_view now) see state_rows f all left es (entries_shown now new keeps es h.below) h.reads in
      let last = entries.goes_last reading see state_rows f all left rest es more e k numbers reads split sorted same made in
      record {
        below = subst (AreEntriesBelow (length new)) (sym last) (entries_pushed (length new) es (k, numbers) (entries_within now new keeps es h.below) are.below);
        reads = entries.gone_on reading see state_rows f all left rest es more e k n numbers reads split sorted same at right are.same made;
      }

-- however shapes are read, and whatever trees the given numbers mean
module _ (several : Bool) (given : Option (Bor (List ℕ))) (start : List Shape) where
  pub record StatesFor (now : List Shape) (all left : List Stated) (es : List Entry) : Type 0 where
    pub keeps : Keeps start now
    pub reads : ForReading several start given (λ reading. ReadsStates reading now all left es)

  pub begun : (all left : List Stated) (es : List Entry) → left ≡ all → es ≡ [] → StatesFor start all left es
  begun all left es same none = record {
    keeps = keeps_same start;
    reads = record { each = λ reading means. states_begun reading start all left es same none };
  }

  -- one more entry was read
  pub gone_on : (now new : List Shape) (all left rest : List Stated) (es more : List Entry) (e : Stated) (k : String Global) (n : List ℕ) (numbers : StateNumbers) → AreInTable start given → StatesFor now all left es → left ≡ e ∷ rest → IsStrictlySortedBy string_cmp (keys_of all) → Keeps now new
      → string_bytes k ≡ string_bytes e.0 → n ≡ string_bytes e.0 → ForReading several now given (λ reading. object_complaints reading n state_rows (as_value (view e.1)) ≡ []) → ForReading several now given (λ reading. AreStateOf new (state_from reading.listed (as_value (view e.1))) numbers) → more ≡ insert_entry string_cmp es k numbers → StatesFor new all rest more
  gone_on now new all left rest es more e k n numbers there h split sorted keeps same at right are made = record {
    keeps = keeps_trans start now new h.keeps keeps;
    reads = record {
      each = λ reading means.
          let still = still_meant start now h.keeps given reading there means in
          states_gone_on reading now new all left rest es more e k n numbers (h.reads.each reading means) split sorted keeps same at (right.each reading still) (are.each reading still) made;
    };
  }

  -- what is told of the next entry is told of all
  pub next_told : (now : List Shape) (all left rest : List Stated) (es : List Entry) (e : Stated) (n : List ℕ) (fault : ReadFault) → AreInTable start given → StatesFor now all left es → left ≡ e ∷ rest
      → n ≡ string_bytes e.0 → ForReading several now given (λ reading. TellsOneOf (object_complaints reading n state_rows (as_value (view e.1))) fault) → ForReading several start given (λ reading. TellsOneOf (entries_complaints reading state_rows (members all)) fault)
  next_told now all left rest es e n fault there h split named told = record {
    each = λ reading means. entries.next_told reading (numbers_view now) state_rows (state_from reading.listed) all left rest es e n fault (h.reads.each reading means).reads split named (told.each reading (still_meant start now h.keeps given reading there means));
  }

  -- at the end
  pub none_wrong : (now : List Shape) (all left : List Stated) (es : List Entry) → StatesFor now all left es → left ≡ [] → ForReading several start given (λ reading. entries_complaints reading state_rows (members all) ≡ [])
  none_wrong now all left es h end = record { each = λ reading means. entries.none_wrong reading (numbers_view now) state_rows (state_from reading.listed) all left es (h.reads.each reading means).reads end }

  pub all_read : (now : List Shape) (all left : List Stated) (es : List Entry) → StatesFor now all left es → left ≡ [] → ForReading several start given (λ reading. AreStatesOf now (entries_from (state_from reading.listed) (members all)) es)
  all_read now all left es h end = record {
    each = λ reading means.
        let read = h.reads.each reading means in
        record { below = read.below; same = entries.all_read reading (numbers_view now) state_rows (state_from reading.listed) all left es read.reads end };
  }
