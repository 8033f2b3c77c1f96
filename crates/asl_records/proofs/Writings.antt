-- What is written for declared shapes and certificates, field after field and entry after entry.
use Rattle.std.proofs.Common.{◌≡◌, ℕ, ℤ, pos, List, [], ◌∷◌, ◌++◌, map, String, Global, string_bytes, string_cmp, codes, refl, sym, ap, ◌∙◌, subst, append_assoc, append-nil, Vec, false, ◌==◌, ◌≤◌, length, take}
use Rattle.std.proofs.lemmas.List.{take_all}
use Rattle.std.specs.BTreeMap.{BTreeMap, insert_entry}
use Rattle.std.specs.Vec.{vec_len}
use Rattle.std.specs.List.{AllByRecursion}
use Rattle.std.specs.List.Sorted.{IsStrictlySortedBy}
use Rattle.std.specs.Map.{keys_of}
use Rattle.asl_model.specs.Tree as json
use Rattle.asl_model.specs.Certificate.{Declared, Certificate}
use Rattle.asl_model.specs.Written.{written_shape, written_list, written_entries, written_task, written_declared, written_state, written_certificate, version_of}
use Rattle.asl_numbered.proofs.Appending.{by_bytes, after_first_by}
use Rattle.asl_tree.specs.View as trees
use Rattle.asl_tree.specs.declared.Tree.{Tree}
use Rattle.asl_tree.specs.declared.Tree as tree
use Rattle.asl_tree.specs.declared.Tree.TheFolds.{fold-roll-Tree}
use Rattle.asl_tree.specs.declared.Tree.TheOpen as TreeOpen
use Rattle.asl_tree.specs.declared.Tree.TheVariants as TreeVariants
use Rattle.asl_shape.specs.Adding.{with_field}
use Rattle.asl_shape.specs.View.{view}
use Rattle.asl_shape.specs.declared.shape.Shape as code
use Rattle.asl_shape.proofs.Views.{view_array}
use Rattle.asl_shape.proofs.Writings.{Entry, field_added}
use Rattle.asl_records.specs.Writing.{with_list}

-- ---- objects

pub view_object : (fields : BTreeMap (String Global) Tree) → trees.view (tree.Object fields) ≡ json.Object (trees.entries_view fields.entries)
view_object fields = ap trees.view (sym (TreeVariants.rolls-Object fields)) ∙ fold-roll-Tree json.Tree trees.view_step (TreeOpen.Object fields)

pub view_number : (n : ℤ) → trees.view (tree.Int n) ≡ json.Integer n
view_number n = ap trees.view (sym (TreeVariants.rolls-Int n)) ∙ fold-roll-Tree json.Tree trees.view_step (TreeOpen.Int n)

pub declared_made : (declared : Declared) (none one two : json.Fields) → none ≡ json.NoFields → one ≡ with_field (codes "input") (written_shape declared.input) none → two ≡ with_field (codes "tasks") (json.Object (written_entries written_task declared.tasks)) one → json.Object two ≡ written_declared declared
declared_made declared none one two e f g = rw (g, f, e) refl

pub certificate_made : (certificate : Certificate) (none one two three : json.Fields) → none ≡ json.NoFields → one ≡ with_field (codes "output") (written_shape certificate.output) none
    → two ≡ with_field (codes "states") (json.Object (written_entries (written_state written_shape) certificate.states)) one → three ≡ with_field (codes "version") (json.Integer (pos (version_of certificate))) two → json.Object three ≡ written_certificate certificate
certificate_made certificate none one two three e f g h = rw (h, g, f, e) refl

-- ---- elements

elements_shown : (ss : List code.Shape) → json.trees_of (map (λ s. written_shape (view s)) ss) ≡ written_list written_shape (map view ss)
elements_shown [] = refl
elements_shown (s ∷ ss) = ap (json.AndTree (written_shape (view s))) (elements_shown ss)

-- the shapes gone through, to the end
pub shapes_written : (ts : List Tree) (ss all : List code.Shape) (i : ℕ) → all ≡ ss → length all ≤ i → map trees.view ts ≡ map (λ s. written_shape (view s)) (take i ss) → trees.elements_view ts ≡ written_list written_shape (map view ss)
shapes_written ts ss all i same end e = ap json.trees_of (e ∙ ap (map (λ s. written_shape (view s))) (take_all i ss (subst (λ xs. length xs ≤ i) same end))) ∙ elements_shown ss

-- some elements are written in a field
pub list_added : (n : List ℕ) (v : Vec Tree Global) (fs new : json.Fields) → (vec_len v == 0) ≡ false → new ≡ with_field n (trees.view (tree.List v)) fs → new ≡ with_list n (trees.elements_view v.items) fs
list_added n v fs new some added = by v.items (ap (λ n. n == 0) (sym v.ok.0) ∙ some) (added ∙ ap (λ t. with_field n t fs) (view_array v))
  where
    by : (ts : List Tree) → (length ts == 0) ≡ false → new ≡ with_field n (json.Array (trees.elements_view ts)) fs → new ≡ with_list n (trees.elements_view ts) fs
    by [] some made = absurd (cc)
    by (t ∷ ts) some made = made

-- ---- entries

-- K is a name, by its `bytes`, T what a table keeps of an entry, A what that stands for, by `see`; an entry is written by
-- `written`, and P is known of it
module _ {K T A : Type 0} (bytes : K → List ℕ) (see : T → A) (written : A → json.Tree) (P : A → Type 0) where
  -- each entry under its name
  abbrev pub shown : List (K × T) → List (List ℕ × A)
  shown es = map (λ e. (bytes e.0, see e.1)) es

  -- the entries done are written, and those that are left make up the rest
  pub record Writes (all left : List (K × T)) (es : List Entry) : Type 0 where
    pub done : List (K × T)
    pub whole : all ≡ done ++ left
    pub entries : trees.entries_view es ≡ written_entries written (shown done)
    pub holds : AllByRecursion (λ (entry : List ℕ × A). P entry.1) (shown done)

  pub begun : (all left : List (K × T)) (es : List Entry) → left ≡ all → es ≡ [] → Writes all left es
  begun all left es same none = rw (same, none) (record { done = []; whole = refl; entries = refl; holds = tt })

  -- a name that is above those before it goes last
  written_last : (done : List (K × T)) (m : K × T) (more : List (K × T)) → IsStrictlySortedBy (by_bytes bytes) (keys_of (done ++ m ∷ more))
      → with_field (bytes m.0) (written (see m.1)) (written_entries written (shown done)) ≡ written_entries written (shown (done ++ m ∷ []))
  unfolding IsStrictlySortedBy
  written_last [] m more h = refl
  written_last (first ∷ done) m more h =
      rw (after_first_by bytes first done m more h.0) (ap (json.AndField (bytes first.0) (written (see first.1))) (written_last done m more h.1))

  holds_last : (done : List (K × T)) (m : K × T) → AllByRecursion (λ (entry : List ℕ × A). P entry.1) (shown done) → P (see m.1) → AllByRecursion (λ (entry : List ℕ × A). P entry.1) (shown (done ++ m ∷ []))
  holds_last [] m h p = (p, tt)
  holds_last (first ∷ done) m h p = (h.0, holds_last done m h.1 p)

  -- one more entry was written
  pub gone_on : (all left rest : List (K × T)) (es more : List Entry) (m : K × T) (k : String Global) (t : Tree) → Writes all left es → left ≡ m ∷ rest → IsStrictlySortedBy (by_bytes bytes) (keys_of all)
      → string_bytes k ≡ bytes m.0 → trees.view t ≡ written (see m.1) → P (see m.1) → more ≡ insert_entry string_cmp es k t → Writes all rest more
  gone_on all left rest es more m k t h split sorted named is p made =
      let whole : all ≡ h.done ++ m ∷ rest = h.whole ∙ ap (λ ms. h.done ++ ms) split in
      record {
        done = h.done ++ m ∷ [];
        whole = whole ∙ sym (append_assoc h.done (m ∷ []) rest);
        entries = ap trees.entries_view made ∙ field_added es k t ∙ rw (named, is, h.entries) (written_last h.done m rest (subst (λ ms. IsStrictlySortedBy (by_bytes bytes) (keys_of ms)) whole sorted));
        holds = holds_last h.done m h.holds p;
      }

  -- at the end
  all_done : (all left : List (K × T)) (es : List Entry) (h : Writes all left es) → left ≡ [] → h.done ≡ all
  all_done all left es h end = sym (h.whole ∙ ap (λ ms. h.done ++ ms) end ∙ append-nil h.done)

  pub all_written : (all left : List (K × T)) (es : List Entry) → Writes all left es → left ≡ [] → trees.entries_view es ≡ written_entries written (shown all)
  all_written all left es h end = h.entries ∙ ap (λ ms. written_entries written (shown ms)) (all_done all left es h end)

  pub all_hold : (all left : List (K × T)) (es : List Entry) → Writes all left es → left ≡ [] → AllByRecursion (λ (entry : List ℕ × A). P entry.1) (shown all)
  all_hold all left es h end = subst (λ ms. AllByRecursion (λ (entry : List ℕ × A). P entry.1) (shown ms)) (all_done all left es h end) h.holds
