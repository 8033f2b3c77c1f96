-- Reading the entries of an object one after another into a table.
use Rattle.std.proofs.Common.{◌≡◌, ℕ, List, [], ◌∷◌, ◌++◌, map, String, Global, string_bytes, string_cmp, refl, sym, ap, subst, ◌∙◌, append-nil, append_assoc}
use Rattle.std.proofs.lemmas.List.{map-append}
use Rattle.std.specs.BTreeMap.{insert_entry}
use Rattle.std.specs.List.Sorted.{IsStrictlySortedBy}
use Rattle.std.specs.Map.{keys_of}
use Rattle.serde_json.specs.Data.{Data, Members}
use Rattle.asl_model.specs.Records.{Reading, RecordRow, entries_complaints, entries_from, object_complaints}
use Rattle.asl_tree.specs.View.{view, entries_view}
use Rattle.asl_tree.specs.declared.Tree.{Tree}
use Rattle.asl_numbered.proofs.Appending.{names, appended_by}
use Rattle.asl_records.specs.Parts.{TellsOneOf}
use Rattle.asl_records.specs.Values.{as_members, as_value}
use Rattle.asl_records.specs.declared.refusals.ReadFault.{ReadFault}
use Rattle.asl_records.proofs.Telling.{told_left, told_same}

-- an entry of the object
abbrev pub Stated : Type 0
Stated = String Global × Tree

-- entries as members
abbrev pub members : List Stated → Members
members es = as_members (entries_view es)

-- T is what a table keeps of an entry, A what that stands for, by `see`; f reads an entry's value, where shapes are read so
module _ {T A : Type 0} (reading : Reading) (see : T → A) (rows : List RecordRow) (f : Data → A) where
  -- each entry under its name
  abbrev pub shown : List (String Global × T) → List (List ℕ × A)
  shown es = map (λ e. (string_bytes e.0, see e.1)) es

  -- so far the entries es were read, nothing was wrong, and those that are left make up the rest
  pub record Reads (all left : List Stated) (es : List (String Global × T)) : Type 0 where
    pub done : List Stated
    pub whole : all ≡ done ++ left
    pub named : names es ≡ names done
    pub wrong : entries_complaints reading rows (members all) ≡ entries_complaints reading rows (members left)
    pub entries : entries_from f (members all) ≡ shown es ++ entries_from f (members left)

  pub begun : (all left : List Stated) (es : List (String Global × T)) → left ≡ all → es ≡ [] → Reads all left es
  begun all left es same none = rw (same, none) (record { done = []; whole = refl; named = refl; wrong = refl; entries = refl })

  shown_more : (es : List (String Global × T)) (k : String Global) (x : T) (others : List (List ℕ × A)) → shown (es ++ (k, x) ∷ []) ++ others ≡ shown es ++ (string_bytes k, see x) ∷ others
  shown_more [] k x others = refl
  shown_more (e ∷ es) k x others = ap (λ rest. (string_bytes e.0, see e.1) ∷ rest) (shown_more es k x others)

  -- the next entry goes last
  pub goes_last : (all left rest : List Stated) (es more : List (String Global × T)) (e : Stated) (k : String Global) (x : T) → Reads all left es → left ≡ e ∷ rest → IsStrictlySortedBy string_cmp (keys_of all)
      → string_bytes k ≡ string_bytes e.0 → more ≡ insert_entry string_cmp es k x → more ≡ es ++ (k, x) ∷ []
  goes_last all left rest es more e k x h split sorted same made =
      let whole : all ≡ h.done ++ e ∷ rest = h.whole ∙ ap (λ ms. h.done ++ ms) split in
      made ∙ appended_by string_bytes string_bytes h.done e rest es k x (subst (λ ms. IsStrictlySortedBy string_cmp (keys_of ms)) whole sorted) h.named same

  -- one more entry was read
  pub gone_on : (all left rest : List Stated) (es more : List (String Global × T)) (e : Stated) (k : String Global) (n : List ℕ) (x : T) → Reads all left es → left ≡ e ∷ rest → IsStrictlySortedBy string_cmp (keys_of all)
      → string_bytes k ≡ string_bytes e.0 → n ≡ string_bytes e.0 → object_complaints reading n rows (as_value (view e.1)) ≡ [] → see x ≡ f (as_value (view e.1)) → more ≡ insert_entry string_cmp es k x → Reads all rest more
  gone_on all left rest es more e k n x h split sorted same at right is made =
      let last = goes_last all left rest es more e k x h split sorted same made in
      let whole : all ≡ h.done ++ e ∷ rest = h.whole ∙ ap (λ ms. h.done ++ ms) split in
      let one : names ((k, x) ∷ []) ≡ names (e ∷ []) = ap (λ m. m ∷ []) same in
      let others = entries_from f (members rest) in
      record {
        done = h.done ++ e ∷ [];
        whole = whole ∙ sym (append_assoc h.done (e ∷ []) rest);
        named = ap names last ∙ map-append _ es ((k, x) ∷ []) ∙ ap (λ ns. ns ++ names ((k, x) ∷ [])) h.named ∙ ap (λ ns. names h.done ++ ns) one ∙ sym (map-append _ h.done (e ∷ []));
        wrong = h.wrong ∙ ap (λ ms. entries_complaints reading rows (members ms)) split ∙ ap (λ cs. cs ++ entries_complaints reading rows (members rest)) (subst (λ m. object_complaints reading m rows (as_value (view e.1)) ≡ []) at right);
        entries = h.entries ∙ ap (λ ms. shown es ++ entries_from f (members ms)) split ∙ ap (λ a. shown es ++ (string_bytes e.0, a) ∷ others) (sym is) ∙ ap (λ m. shown es ++ (m, see x) ∷ others) (sym same) ∙ sym (ap (λ es. shown es ++ others) last ∙ shown_more es k x others);
      }

  -- what is told of the next entry is told of all
  pub next_told : (all left rest : List Stated) (es : List (String Global × T)) (e : Stated) (n : List ℕ) (fault : ReadFault) → Reads all left es → left ≡ e ∷ rest
      → n ≡ string_bytes e.0 → TellsOneOf (object_complaints reading n rows (as_value (view e.1))) fault → TellsOneOf (entries_complaints reading rows (members all)) fault
  next_told all left rest es e n fault h split at told =
      let own = subst (λ m. TellsOneOf (object_complaints reading m rows (as_value (view e.1))) fault) at told in
      told_same fault _ _ (told_left fault (object_complaints reading (string_bytes e.0) rows (as_value (view e.1))) (entries_complaints reading rows (members rest)) own) (sym (h.wrong ∙ ap (λ ms. entries_complaints reading rows (members ms)) split))

  -- at the end
  pub none_wrong : (all left : List Stated) (es : List (String Global × T)) → Reads all left es → left ≡ [] → entries_complaints reading rows (members all) ≡ []
  none_wrong all left es h end = h.wrong ∙ ap (λ ms. entries_complaints reading rows (members ms)) end

  pub all_read : (all left : List Stated) (es : List (String Global × T)) → Reads all left es → left ≡ [] → shown es ≡ entries_from f (members all)
  all_read all left es h end = sym (h.entries ∙ ap (λ ms. shown es ++ entries_from f (members ms)) end ∙ append-nil (shown es))

-- the same, where what the table keeps stands for the same by another function
pub seen_again : {T A : Type 0} (reading : Reading) (see also : T → A) (rows : List RecordRow) (f : Data → A) (all left : List Stated) (es : List (String Global × T)) → shown reading also rows f es ≡ shown reading see rows f es → Reads reading see rows f all left es → Reads reading also rows f all left es
seen_again reading see also rows f all left es same h =
    record { done = h.done; whole = h.whole; named = h.named; wrong = h.wrong; entries = h.entries ∙ ap (λ front. front ++ entries_from f (members left)) (sym same) }
