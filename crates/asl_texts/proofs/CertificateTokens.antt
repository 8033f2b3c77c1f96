-- What is written of a certificate reads back where each of its parts does.
use Rattle.std.proofs.Common.{◌≡◌, ◌≤◌, ℕ, pos, List, [], ◌∷◌, ◌++◌, Bool, true, false, if◌then◌else◌, Option, Some, None, option_map, option_and_then, map, codes, string_bytes, string_cmp, refl, sym, ap, ◌∙◌, subst, append_assoc, append-nil, arith}
use Rattle.std.specs.List.Sorted.{IsStrictlySortedBy}
use Rattle.std.specs.Map.{keys_of}
use Rattle.json.specs.Token.{Token, key, begin_object, end_object}
use Rattle.serde_json.specs.Data as json
use Rattle.serde_json.specs.Read.{max_depth, of_items, of_members}
use Rattle.serde_json.specs.Written.{items_outline, members_outline}
use Rattle.asl_model.specs.Certificate.{Certificate}
use Rattle.asl_model.specs.Json.{ReadsAsTree, tree_of, elements_of, members_of, value_of, items_of, members_for}
use Rattle.asl_model.specs.RecordShapes.{HoldsForCertificate}
use Rattle.asl_model.specs.Records.{StandsForCertificate}
use Rattle.asl_model.specs.Shape.{Shape, IsProperShape}
use Rattle.asl_model.specs.Texts.{ReadsAsCertificate}
use Rattle.asl_model.specs.Tree.{Tree, Integer, Array, Object, Fields, NoFields, AndField}
use Rattle.asl_model.specs.Written.{written_list, written_entries, with_branches, with_item, with_listed, written_state, certificate_has_several, certificate_written, version_of, written_certificate}
use Rattle.asl_model.specs.WrittenNumbered.{referring, written_over, written_numbered}
use Rattle.asl_numbered.specs.Expansion.{shape_at}
use Rattle.asl_records.specs.Numbered.{numbered_entries}
use Rattle.asl_records.specs.WritingNumbered.{table_of, listed_by, spelled_over}
use Rattle.asl_records.specs.declared.records.StateNumbers.{StateNumbers}
use Rattle.asl_records.specs.declared.writing_numbered.ShapeWriter.{ShapeWriter}
use Rattle.asl_records.specs.Laws.{Entry}
use Rattle.asl_tree.specs.Written.{tree_tokens, ReadsBack}
use Rattle.asl_tree.proofs.Texts.{after_first}
use Rattle.asl_tree.proofs.Tokens.{integer_back}
use Rattle.asl_texts.specs.CertificateText.{IsShallow, written_as}
use Rattle.asl_texts.specs.CertificateTokens.{branches_tokens, certificate_tree, item_tokens, listed_if, listed_numbers, listed_tokens, stands_for, state_tree, tree_at, NumbersReadBack, ItemReadsBack, StatesReadBack}
use Rattle.asl_texts.proofs.NumberedNesting.{numbered_nests}

-- ---- objects whose names come in order

-- a state without branches and item
two_back : (input output : Tree) → ReadsBack input → ReadsBack output → ReadsBack (Object (AndField (codes "input") input (AndField (codes "output") output NoFields)))
two_back input output i o = record { value = rw (i.value, o.value) refl; tree = rw (i.tree, o.tree) refl }

-- one with an item
item_back : (input item output : Tree) → ReadsBack input → ReadsBack item → ReadsBack output → ReadsBack (Object (AndField (codes "input") input (AndField (codes "item") item (AndField (codes "output") output NoFields))))
item_back input item output i m o = record { value = rw (i.value, m.value, o.value) refl; tree = rw (i.tree, m.tree, o.tree) refl }

-- one with branches
branches_back : (branches input output : Tree) → ReadsBack branches → ReadsBack input → ReadsBack output → ReadsBack (Object (AndField (codes "branches") branches (AndField (codes "input") input (AndField (codes "output") output NoFields))))
branches_back branches input output b i o = record { value = rw (b.value, i.value, o.value) refl; tree = rw (b.tree, i.tree, o.tree) refl }

-- one with both
four_back : (branches input item output : Tree) → ReadsBack branches → ReadsBack input → ReadsBack item → ReadsBack output → ReadsBack (Object (AndField (codes "branches") branches (AndField (codes "input") input (AndField (codes "item") item (AndField (codes "output") output NoFields)))))
four_back branches input item output b i m o = record { value = rw (b.value, i.value, m.value, o.value) refl; tree = rw (b.tree, i.tree, m.tree, o.tree) refl }

-- a certificate that lists no shape
whole_back : (output states version : Tree) → ReadsBack output → ReadsBack states → ReadsBack version → ReadsBack (Object (AndField (codes "output") output (AndField (codes "states") states (AndField (codes "version") version NoFields))))
whole_back output states version o s v = record { value = rw (o.value, s.value, v.value) refl; tree = rw (o.tree, s.tree, v.tree) refl }

-- one that lists some
listed_back : (output shapes states version : Tree) → ReadsBack output → ReadsBack shapes → ReadsBack states → ReadsBack version → ReadsBack (Object (AndField (codes "output") output (AndField (codes "shapes") shapes (AndField (codes "states") states (AndField (codes "version") version NoFields)))))
listed_back output shapes states version o l s v = record { value = rw (o.value, l.value, s.value, v.value) refl; tree = rw (o.tree, l.tree, s.tree, v.tree) refl }

module _ (shapes : ShapeWriter) where
  abbrev table : List Shape
  table = table_of shapes

  -- the values of a list of shapes
  items_back : (written : Shape → Tree) (ns : List ℕ) → NumbersReadBack written shapes ns → of_items (items_outline (items_of (written_list written (map (shape_at table) ns)))) ≡ Some (items_of (written_list written (map (shape_at table) ns)))
  items_back written [] h = refl
  items_back written (n ∷ ns) h = rw (h.each.0.value, items_back written ns (record { each = h.each.1 })) refl

  -- its trees
  elements_back : (written : Shape → Tree) (ns : List ℕ) → NumbersReadBack written shapes ns → elements_of (items_of (written_list written (map (shape_at table) ns))) ≡ Some (written_list written (map (shape_at table) ns))
  elements_back written [] h = refl
  elements_back written (n ∷ ns) h = rw (h.each.0.tree, elements_back written ns (record { each = h.each.1 })) refl

  -- the list
  list_back : (written : Shape → Tree) (ns : List ℕ) → NumbersReadBack written shapes ns → ReadsBack (Array (written_list written (map (shape_at table) ns)))
  list_back written ns h = record { value = ap (option_map json.array) (items_back written ns h); tree = ap (option_map Array) (elements_back written ns h) }

  -- the entry of a state
  pub state_back : (state : StateNumbers) → NumbersReadBack (stands_for shapes) shapes state.branches.items → ReadsBack (tree_at shapes state.input) → ItemReadsBack shapes state.item → ReadsBack (tree_at shapes state.output) → ReadsBack (state_tree shapes state)
  state_back state branches input item output = by state.branches.items state.item branches item
    where
      -- with those branches and that item
      by : (ns : List ℕ) (item : Option ℕ) → NumbersReadBack (stands_for shapes) shapes ns → ItemReadsBack shapes item
          → ReadsBack (Object (with_branches (stands_for shapes) (map (shape_at table) ns) (AndField (codes "input") (tree_at shapes state.input) (with_item (stands_for shapes) (option_map (shape_at table) item) (AndField (codes "output") (tree_at shapes state.output) NoFields)))))
      by [] None b i = two_back (tree_at shapes state.input) (tree_at shapes state.output) input output
      by [] (Some m) b i = item_back (tree_at shapes state.input) (tree_at shapes m) (tree_at shapes state.output) input i.back output
      by (n ∷ ns) None b i = branches_back (Array (written_list (stands_for shapes) (map (shape_at table) (n ∷ ns)))) (tree_at shapes state.input) (tree_at shapes state.output) (list_back (stands_for shapes) (n ∷ ns) b) input output
      by (n ∷ ns) (Some m) b i = four_back (Array (written_list (stands_for shapes) (map (shape_at table) (n ∷ ns)))) (tree_at shapes state.input) (tree_at shapes m) (tree_at shapes state.output) (list_back (stands_for shapes) (n ∷ ns) b) input i.back output

  -- what is written of the states, each under its name
  abbrev entries : List Entry → Fields
  entries es = written_entries (written_state (stands_for shapes)) (numbered_entries table es)

  -- a state whose name comes last goes last among the members
  put_last : (done : List Entry) (e : Entry) (more : List Entry) → IsStrictlySortedBy string_cmp (keys_of (done ++ e ∷ more)) → json.put (string_bytes e.0) (value_of (state_tree shapes e.1)) (members_for (entries done)) ≡ members_for (entries (done ++ e ∷ []))
  unfolding IsStrictlySortedBy
  put_last [] e more h = refl
  put_last (first ∷ done) e more h =
      let above = after_first first done e more h.0 in
      rw above (ap (json.member (string_bytes first.0) (value_of (state_tree shapes first.1))) (put_last done e more h.1))

  -- the states that are left are put behind those before them
  members_back : (done left : List Entry) → IsStrictlySortedBy string_cmp (keys_of (done ++ left)) → StatesReadBack shapes left → of_members (members_outline (members_for (entries left))) (members_for (entries done)) ≡ Some (members_for (entries (done ++ left)))
  members_back done [] sorted h = ap (λ es. Some (members_for (entries es))) (sym (append-nil done))
  members_back done (e ∷ left) sorted h =
      let split = append_assoc done (e ∷ []) left in
      ap (option_and_then (λ d. of_members (members_outline (members_for (entries left))) (json.put (string_bytes e.0) d (members_for (entries done))))) h.each.0.value
      ∙ ap (of_members (members_outline (members_for (entries left)))) (put_last done e left sorted)
      ∙ members_back (done ++ e ∷ []) left (subst (λ es. IsStrictlySortedBy string_cmp (keys_of es)) (sym split) sorted) (record { each = h.each.1 })
      ∙ ap (λ es. Some (members_for (entries es))) split

  -- their trees
  fields_back : (es : List Entry) → StatesReadBack shapes es → members_of (members_for (entries es)) ≡ Some (entries es)
  fields_back [] h = refl
  fields_back (e ∷ es) h =
      ap (option_and_then (λ t. option_map (AndField (string_bytes e.0) t) (members_of (members_for (entries es))))) h.each.0.tree ∙ ap (option_map (AndField (string_bytes e.0) (state_tree shapes e.1))) (fields_back es (record { each = h.each.1 }))

  -- the object of the states
  states_back : (es : List Entry) → IsStrictlySortedBy string_cmp (keys_of es) → StatesReadBack shapes es → ReadsBack (Object (entries es))
  states_back es sorted h = record { value = ap (option_map json.object) (members_back [] es sorted h); tree = ap (option_map Object) (fields_back es h) }

  -- the version
  version_back : (certificate : Certificate) → ReadsBack (Integer (pos (version_of certificate)))
  version_back certificate = by (certificate_has_several certificate)
    where
      by : (several : Bool) → ReadsBack (Integer (pos (if several then 2 else 1)))
      by true = integer_back (pos 2) (omega arith)
      by false = integer_back (pos 1) (omega arith)

  -- the whole certificate, whatever is listed
  pub certificate_back : (output : ℕ) (states : List Entry) → ReadsBack (tree_at shapes output) → NumbersReadBack (spelled_over shapes) shapes (listed_numbers shapes) → IsStrictlySortedBy string_cmp (keys_of states) → StatesReadBack shapes states → ReadsBack (certificate_tree shapes (record { output = shape_at table output; states = numbered_entries table states }))
  certificate_back output states first listed sorted h = by (listed_numbers shapes) listed
    where
      certificate : Certificate
      certificate = record { output = shape_at table output; states = numbered_entries table states }

      by : (ns : List ℕ) → NumbersReadBack (spelled_over shapes) shapes ns
          → ReadsBack (Object (AndField (codes "output") (tree_at shapes output) (with_listed (spelled_over shapes) (map (shape_at table) ns) (AndField (codes "states") (Object (entries states)) (AndField (codes "version") (Integer (pos (version_of certificate))) NoFields)))))
      by [] l = whole_back (tree_at shapes output) (Object (entries states)) (Integer (pos (version_of certificate))) first (states_back states sorted h) (version_back certificate)
      by (n ∷ ns) l = listed_back (tree_at shapes output) (Array (written_list (spelled_over shapes) (map (shape_at table) (n ∷ ns)))) (Object (entries states)) (Integer (pos (version_of certificate))) first (list_back (spelled_over shapes) (n ∷ ns) l) (states_back states sorted h) (version_back certificate)

-- ---- the tokens

-- what is appended part by part is appended, for a state's entry and for a certificate
pub entry_appended : {w1 w2 w3 w4 w5 w6 w7 w8 : List Token} (w0 branches input item output : List Token) (begin k l end : Token) → w1 ≡ w0 ++ begin ∷ [] → w2 ≡ w1 ++ branches → w3 ≡ w2 ++ k ∷ [] → w4 ≡ w3 ++ input → w5 ≡ w4 ++ item → w6 ≡ w5 ++ l ∷ [] → w7 ≡ w6 ++ output → w8 ≡ w7 ++ end ∷ []
    → w8 ≡ w0 ++ begin ∷ (branches ++ k ∷ (input ++ (item ++ l ∷ (output ++ end ∷ []))))
entry_appended w0 branches input item output begin k l end e1 e2 e3 e4 e5 e6 e7 e8 = simp (e8, e7, e6, e5, e4, e3, e2, e1, append_assoc)

pub certificate_appended : {w1 w2 w3 w4 w5 w6 w7 w8 w9 : List Token} (w0 output listed states version : List Token) (begin k l m end : Token) → w1 ≡ w0 ++ begin ∷ [] → w2 ≡ w1 ++ k ∷ [] → w3 ≡ w2 ++ output → w4 ≡ w3 ++ listed → w5 ≡ w4 ++ l ∷ [] → w6 ≡ w5 ++ states → w7 ≡ w6 ++ m ∷ [] → w8 ≡ w7 ++ version → w9 ≡ w8 ++ end ∷ []
    → w9 ≡ w0 ++ begin ∷ k ∷ (output ++ (listed ++ l ∷ (states ++ m ∷ (version ++ end ∷ []))))
certificate_appended w0 output listed states version begin k l m end e1 e2 e3 e4 e5 e6 e7 e8 e9 = simp (e9, e8, e7, e6, e5, e4, e3, e2, e1, append_assoc)

module _ (shapes : ShapeWriter) where
  -- those of a state's entry, one part behind the other
  pub state_tokens : (state : StateNumbers) → tree_tokens (state_tree shapes state)
      ≡ begin_object ∷ (branches_tokens shapes state.branches.items ++ key (codes "input") ∷ (tree_tokens (tree_at shapes state.input) ++ (item_tokens shapes state.item ++ key (codes "output") ∷ (tree_tokens (tree_at shapes state.output) ++ end_object ∷ []))))
  state_tokens state = by state.branches.items state.item
    where
      by : (ns : List ℕ) (item : Option ℕ) → tree_tokens (Object (with_branches (stands_for shapes) (map (shape_at (table_of shapes)) ns) (AndField (codes "input") (tree_at shapes state.input) (with_item (stands_for shapes) (option_map (shape_at (table_of shapes)) item) (AndField (codes "output") (tree_at shapes state.output) NoFields)))))
          ≡ begin_object ∷ (branches_tokens shapes ns ++ key (codes "input") ∷ (tree_tokens (tree_at shapes state.input) ++ (item_tokens shapes item ++ key (codes "output") ∷ (tree_tokens (tree_at shapes state.output) ++ end_object ∷ []))))
      by [] None = refl
      by [] (Some n) = refl
      by (n ∷ ns) None = refl
      by (n ∷ ns) (Some m) = refl

  -- those of a certificate
  pub certificate_tokens : (certificate : Certificate) → tree_tokens (certificate_tree shapes certificate)
      ≡ begin_object ∷ key (codes "output") ∷ (tree_tokens (stands_for shapes certificate.output) ++ (listed_tokens shapes (listed_numbers shapes) ++ key (codes "states") ∷ (tree_tokens (Object (written_entries (written_state (stands_for shapes)) certificate.states)) ++ key (codes "version") ∷ (tree_tokens (Integer (pos (version_of certificate))) ++ end_object ∷ []))))
  certificate_tokens certificate = by (listed_numbers shapes)
    where
      last : Fields
      last = AndField (codes "states") (Object (written_entries (written_state (stands_for shapes)) certificate.states)) (AndField (codes "version") (Integer (pos (version_of certificate))) NoFields)

      by : (ns : List ℕ) → tree_tokens (Object (AndField (codes "output") (stands_for shapes certificate.output) (with_listed (spelled_over shapes) (map (shape_at (table_of shapes)) ns) last)))
          ≡ begin_object ∷ key (codes "output") ∷ (tree_tokens (stands_for shapes certificate.output) ++ (listed_tokens shapes ns ++ key (codes "states") ∷ (tree_tokens (Object (written_entries (written_state (stands_for shapes)) certificate.states)) ++ key (codes "version") ∷ (tree_tokens (Integer (pos (version_of certificate))) ++ end_object ∷ []))))
      by [] = refl
      by (n ∷ ns) = refl

-- ---- the text

-- the tree is what is asked
pub as_asked : (shapes : ShapeWriter) (numbered : Bool) (certificate : Certificate) → listed_by shapes ≡ listed_if numbered certificate → certificate_tree shapes certificate ≡ written_as numbered certificate
unfolding stands_for
as_asked shapes numbered certificate same = ap (λ (listed : List Shape). certificate_written (written_over listed) listed (referring listed) certificate) same ∙ by numbered
  where
    by : (numbered : Bool) → certificate_written (written_over (listed_if numbered certificate)) (listed_if numbered certificate) (referring (listed_if numbered certificate)) certificate ≡ written_as numbered certificate
    by true = refl
    by false = refl

-- it nests no deeper than JSON is read
pub asked_is_shallow : (numbered : Bool) (certificate : Certificate) → HoldsForCertificate IsProperShape certificate → IsShallow certificate → json.depth (value_of (written_as numbered certificate)) ≤ max_depth
asked_is_shallow true certificate proper shallow = numbered_nests certificate proper
asked_is_shallow false certificate proper shallow = shallow

-- a text that reads as it reads as the certificate
pub reads_as_certificate : (numbered : Bool) (certificate : Certificate) (text : List ℕ)
    → ((v : json.Data) → tree_of v ≡ Some (written_certificate certificate) → StandsForCertificate v certificate)
    → ((v : json.Data) → tree_of v ≡ Some (written_numbered certificate) → StandsForCertificate v certificate)
    → ReadsAsTree text (written_as numbered certificate) → ReadsAsCertificate text certificate
reads_as_certificate true certificate text spelled listed read = record { value = read.0; reads = read.1; stands = listed read.0 read.2 }
reads_as_certificate false certificate text spelled listed read = record { value = read.0; reads = read.1; stands = spelled read.0 read.2 }
