-- Reading the names in `required`, one after another.
use Rattle.std.proofs.Common.{◌≡◌, ℕ, List, [], ◌∷◌, ◌++◌, Bool, true, false, not, ◌&&◌, ◌||◌, cond, String, string_bytes, bytes_eq, refl, sym, ap, ◌∙◌, append_assoc}
use Rattle.std.specs.Borrow.{Bor}
use Rattle.std.specs.List.{list_any}
use Rattle.std.specs.declared.alloc.Global.{Global}
use Rattle.std.specs.Cmp.Lexicographic.{slice_cmp}
use Rattle.std.proofs.lemmas.Cmp.{nat_list_eq_equiv}
use Rattle.std.specs.Ordering.{is_eq, nat_cmp}
use Rattle.std.proofs.lemmas.List.{map-append}
use Rattle.asl_model.specs.ShapeSpelling.{texts_among, is_among, are_texts, are_distinct, unless, NotAShape}
use Rattle.asl_model.specs.Tree as json
use Rattle.asl_shape.specs.LevelView.{texts}
use Rattle.asl_shape.specs.Refusal.{Tells}
use Rattle.asl_shape.specs.Spelled as trees
use Rattle.asl_shape.specs.declared.ShapeRefusal.{ShapeRefusal}
use Rattle.asl_tree.specs.declared.Tree.{Tree}
use Rattle.asl_shape.proofs.Lookups.{same_name}
use Rattle.asl_shape.proofs.Requiring.{are_new, new_next}
use Rattle.asl_shape.proofs.Telling.{told_same, told_second}

-- one of the texts has these bytes
abbrev pub has : List (Bor (List ℕ)) → List ℕ → Bool
has keys n = list_any (λ k. is_eq (slice_cmp nat_cmp n k.now)) keys

shown_split : (left rest : List Tree) (item : Tree) (name : List ℕ) → left ≡ item ∷ rest → trees.view item ≡ json.Text name → trees.elements_view left ≡ json.AndTree (json.Text name) (trees.elements_view rest)
shown_split left rest item name split is = ap trees.elements_view split ∙ ap (λ t. json.AndTree t (trees.elements_view rest)) is

-- the second texts have the first and that one
abbrev pub IsWith : List (Bor (List ℕ)) → List (Bor (List ℕ)) → List ℕ → Type 0
IsWith old new n = (m : List ℕ) → has new m ≡ (bytes_eq n m || has old m)

pub was_taken : (added taken : Bool) → added ≡ not taken → added ≡ false → taken ≡ true
was_taken added true e is = refl
was_taken added false e is = absurd (let wrong : true ≡ false = sym e ∙ is in cc)

pub was_new : (added taken : Bool) → added ≡ not taken → added ≡ true → taken ≡ false
was_new added true e is = absurd (let wrong : false ≡ true = sym e ∙ is in cc)
was_new added false e is = refl

pub texts_step : (left rest : List Tree) (item : Tree) (name : List ℕ) → left ≡ item ∷ rest → trees.view item ≡ json.Text name → are_texts (trees.elements_view left) ≡ are_texts (trees.elements_view rest)
texts_step left rest item name split is = ap are_texts (shown_split left rest item name split is)

also-has : (n m : List ℕ) (b : Bool) (old : Bool) → bytes_eq n m ≡ b → cond b true old ≡ (b || old)
also-has n m true old is = refl
also-has n m false old is = refl

-- the names that are taken once that one is
pub has_next : (old new : List (Bor (List ℕ))) (k : Bor (List ℕ)) → ((q : Bor (List ℕ)) → has new q.now ≡ cond (is_eq (slice_cmp nat_cmp k.now q.now)) true (has old q.now)) → IsWith old new k.now
has_next old new k updates m =
    let q : Bor (List ℕ) = record { ref_ptr = k.ref_ptr; now = m } in
    updates q ∙ ap (λ b. cond b true (has old m)) (sym (same_name k.now m) ∙ symmetric) ∙ also-has k.now m (bytes_eq k.now m) (has old m) refl
  where
    symmetric : bytes_eq m k.now ≡ bytes_eq k.now m
    symmetric = nat_list_eq_equiv.symm m k.now

pub new_step : (left rest : List Tree) (item : Tree) (name : List ℕ) (old new : List (Bor (List ℕ))) → left ≡ item ∷ rest → trees.view item ≡ json.Text name → has old name ≡ false → IsWith old new name → are_new (texts_among (trees.elements_view left)) (has old) ≡ are_new (texts_among (trees.elements_view rest)) (has new)
new_step left rest item name old new split is fresh taken =
    ap (λ ts. are_new (texts_among ts) (has old)) (shown_split left rest item name split is) ∙ new_next name (texts_among (trees.elements_view rest)) (has old) (has new) fresh taken

pub listed_step : (left rest : List Tree) (item : Tree) (n : Bor (String Global)) (names new : List (Bor (String Global))) (all : List (List ℕ)) → left ≡ item ∷ rest → trees.view item ≡ json.Text (string_bytes n.now) → new ≡ names ++ n ∷ [] → all ≡ texts names ++ texts_among (trees.elements_view left) → all ≡ texts new ++ texts_among (trees.elements_view rest)
listed_step left rest item n names new all split is pushed so_far =
    let ns = texts_among (trees.elements_view rest) in
    so_far
    ∙ ap (λ ts. texts names ++ texts_among ts) (shown_split left rest item (string_bytes n.now) split is)
    ∙ sym (append_assoc (texts names) (string_bytes n.now ∷ []) ns)
    ∙ ap (λ ms. ms ++ ns) (sym (map-append (λ (x : Bor (String Global)). string_bytes x.now) names (n ∷ [])) ∙ ap texts (sym pushed))

-- so is a name that is taken
pub repeated_told : (e : ShapeRefusal) (all left rest : List Tree) (item : Tree) (name : List ℕ) (keys : List (Bor (List ℕ))) → are_distinct (texts_among (trees.elements_view all)) ≡ are_new (texts_among (trees.elements_view left)) (has keys) → left ≡ item ∷ rest → trees.view item ≡ json.Text name → has keys name ≡ true → Tells e (NotAShape ∷ []) → Tells e (unless (are_texts (trees.elements_view all) && are_distinct (texts_among (trees.elements_view all))) NotAShape)
repeated_told e all left rest item name keys so_far split is taken told =
    let ns = texts_among (trees.elements_view rest) in
    let twice : are_distinct (texts_among (trees.elements_view all)) ≡ false = so_far ∙ ap (λ ts. are_new (texts_among ts) (has keys)) (shown_split left rest item name split is) ∙ ap (λ b. not b && (not (is_among name ns) && are_new ns (has keys))) taken in
    told_second e (are_texts (trees.elements_view all)) (are_distinct (texts_among (trees.elements_view all))) NotAShape (told_same e _ _ told (ap (λ b. unless b NotAShape) (sym twice)))
