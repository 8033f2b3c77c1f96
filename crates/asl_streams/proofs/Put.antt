-- What is read of members stays right where one more is put among them.
use Rattle.std.proofs.Common.{◌≡◌, ℕ, List, [], ◌∷◌, ◌++◌, length, map, String, Global, string_bytes, string_cmp, Ordering, Less, Equal, Greater, nat_cmp, refl, sym, ap, ap₂, ◌∙◌, subst}
use Rattle.std.specs.BTreeMap.{insert_entry}
use Rattle.std.specs.Cmp.Lexicographic.{slice_cmp}
use Rattle.std.specs.List.{AllByRecursion}
use Rattle.std.specs.Ordering.{match_ordering}
use Rattle.serde_json.specs.Data as values
use Rattle.serde_json.specs.Data.{Data, Members}
use Rattle.asl_model.specs.Certificate.{StateShapes}
use Rattle.asl_model.specs.Records.{Reading, RecordComplaint, RecordRow, entries_complaints, entries_from, object_complaints}
use Rattle.asl_model.specs.Shape.{Shape}
use Rattle.asl_records.specs.Numbered.{numbers_view, numbered_entries, AreNumbersBelow}
use Rattle.asl_records.specs.Numbering.{AreStateOf, AreStatesOf}
use Rattle.asl_records.specs.declared.records.StateNumbers.{StateNumbers}
use Rattle.asl_shape.proofs.Mentions.{equal_names}

-- ---- complaints

first_none : (xs ys : List RecordComplaint) → xs ++ ys ≡ [] → xs ≡ []
first_none [] ys e = refl
first_none (x ∷ xs) ys e = absurd (cc)

later_none : (xs ys : List RecordComplaint) → xs ++ ys ≡ [] → ys ≡ []
later_none [] ys e = e
later_none (x ∷ xs) ys e = absurd (cc)

pub right_put : (reading : Reading) (rows : List RecordRow) (k : List ℕ) (d : Data) (ms : Members) → object_complaints reading k rows d ≡ [] → entries_complaints reading rows ms ≡ [] → entries_complaints reading rows (values.put k d ms) ≡ []
right_put reading rows k d values.no_members right all = ap (λ cs. cs ++ []) right
right_put reading rows k d (values.member l e ms) right all =
    go (slice_cmp nat_cmp k l) refl (right_put reading rows k d ms right (later_none (object_complaints reading l rows e) (entries_complaints reading rows ms) all))
  where
    go : (o : Ordering) → slice_cmp nat_cmp k l ≡ o → entries_complaints reading rows (values.put k d ms) ≡ []
        → entries_complaints reading rows (match_ordering o (values.member k d (values.member l e ms)) (values.member l d ms) (values.member l e (values.put k d ms))) ≡ []
    go Less is further = ap₂ (λ xs ys. xs ++ ys) right all
    go Equal is further =
        ap₂ (λ xs ys. xs ++ ys) (subst (λ n. object_complaints reading n rows d ≡ []) (equal_names k l is) right)
        (later_none (object_complaints reading l rows e) (entries_complaints reading rows ms) all)
    go Greater is further = ap₂ (λ xs ys. xs ++ ys) (first_none (object_complaints reading l rows e) (entries_complaints reading rows ms) all) further

-- ---- states

abbrev Entry : Type 0
Entry = String Global × StateNumbers

-- what is seen of each entry, one more among it
abbrev pub put_shown : {A : Type 0} → List ℕ → A → List (List ℕ × A) → List (List ℕ × A)
put_shown k s [] = (k, s) ∷ []
put_shown k s (e ∷ es) = match_ordering (slice_cmp nat_cmp k e.0) ((k, s) ∷ e ∷ es) ((e.0, s) ∷ es) (e ∷ put_shown k s es)

pub from_put : {A : Type 0} (f : Data → A) (k : List ℕ) (d : Data) (ms : Members) → entries_from f (values.put k d ms) ≡ put_shown k (f d) (entries_from f ms)
from_put f k d values.no_members = refl
from_put f k d (values.member l e ms) = go (slice_cmp nat_cmp k l) (from_put f k d ms)
  where
    go : (o : Ordering) → entries_from f (values.put k d ms) ≡ put_shown k (f d) (entries_from f ms)
        → entries_from f (match_ordering o (values.member k d (values.member l e ms)) (values.member l d ms) (values.member l e (values.put k d ms)))
        ≡ match_ordering o ((k, f d) ∷ (l, f e) ∷ entries_from f ms) ((l, f d) ∷ entries_from f ms) ((l, f e) ∷ put_shown k (f d) (entries_from f ms))
    go Less further = refl
    go Equal further = refl
    go Greater further = ap (λ es. (l, f e) ∷ es) further

pub seen_put : {A X : Type 0} (see : X → A) (k : String Global) (x : X) (es : List (String Global × X)) → map (λ e. (string_bytes e.0, see e.1)) (insert_entry string_cmp es k x) ≡ put_shown (string_bytes k) (see x) (map (λ e. (string_bytes e.0, see e.1)) es)
seen_put see k x [] = refl
seen_put see k x (e ∷ es) = go (string_cmp k e.0) (seen_put see k x es)
  where
    go : (o : Ordering) → map (λ f. (string_bytes f.0, see f.1)) (insert_entry string_cmp es k x) ≡ put_shown (string_bytes k) (see x) (map (λ f. (string_bytes f.0, see f.1)) es)
        → map (λ f. (string_bytes f.0, see f.1)) (match_ordering o ((k, x) ∷ e ∷ es) ((e.0, x) ∷ es) (e ∷ insert_entry string_cmp es k x))
        ≡ match_ordering o ((string_bytes k, see x) ∷ (string_bytes e.0, see e.1) ∷ map (λ f. (string_bytes f.0, see f.1)) es) ((string_bytes e.0, see x) ∷ map (λ f. (string_bytes f.0, see f.1)) es) ((string_bytes e.0, see e.1) ∷ put_shown (string_bytes k) (see x) (map (λ f. (string_bytes f.0, see f.1)) es))
    go Less further = refl
    go Equal further = refl
    go Greater further = ap (λ xs. (string_bytes e.0, see e.1) ∷ xs) further

below_put : (bound : ℕ) (k : String Global) (s : StateNumbers) (es : List Entry) → AreNumbersBelow bound s → AllByRecursion (λ (e : Entry). AreNumbersBelow bound e.1) es → AllByRecursion (λ (e : Entry). AreNumbersBelow bound e.1) (insert_entry string_cmp es k s)
below_put bound k s [] one all = (one, tt)
below_put bound k s (e ∷ es) one all = go (string_cmp k e.0) (below_put bound k s es one all.1)
  where
    go : (o : Ordering) → AllByRecursion (λ (x : Entry). AreNumbersBelow bound x.1) (insert_entry string_cmp es k s)
        → AllByRecursion (λ (x : Entry). AreNumbersBelow bound x.1) (match_ordering o ((k, s) ∷ e ∷ es) ((e.0, s) ∷ es) (e ∷ insert_entry string_cmp es k s))
    go Less further = (one, all)
    go Equal further = (one, all.1)
    go Greater further = (all.0, further)

pub states_put : (table : List Shape) (f : Data → StateShapes) (k : List ℕ) (d : Data) (ms : Members) (name : String Global) (s : StateNumbers) (es : List Entry) → string_bytes name ≡ k → AreStateOf table (f d) s → AreStatesOf table (entries_from f ms) es
    → AreStatesOf table (entries_from f (values.put k d ms)) (insert_entry string_cmp es name s)
states_put table f k d ms name s es named one all = record {
  below = record { each = below_put (length table) name s es one.below all.below.each };
  same = seen_put (numbers_view table) name s es ∙ ap₂ (λ n x. put_shown n x (numbered_entries table es)) named one.same ∙ ap (put_shown k (f d)) all.same ∙ sym (from_put f k d ms);
}
