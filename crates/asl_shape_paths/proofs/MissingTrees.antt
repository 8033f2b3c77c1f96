-- Examples in which a path is made to name nothing.
use Rattle.std.proofs.Common.{◌≡◌, ◌↔◌, ℕ, zero, suc, ◌+◌, ◌-◌, ◌<◌, ◌≤◌, List, [], ◌∷◌, length, take, drop, Bool, true, false, Option, Some, None, Result, Ok, Err, IfOk, IfSome, IsErr, is_ok, option_map, refl, sym, ap, ◌∙◌, arith}
use Rattle.std.proofs.lemmas.List.{take_all}
use Rattle.std.specs.Prelude.{IsTrue}
use Rattle.asl_model.proofs.ShapeMissing.{part-inhabited, example-part, field-placed, element-placed}
use Rattle.asl_model.specs.Examples.{example}
use Rattle.asl_model.specs.Missing.{missing, missing_at, IsMissing}
use Rattle.asl_model.specs.Path.{Segment, Name, Index}
use Rattle.asl_model.specs.Placing.{set_field, set_element}
use Rattle.asl_model.specs.Shape.{Shape, IsOrdered, inhabited}
use Rattle.asl_model.specs.ShapeFlow.{look, look_at, one_further, part_at}
use Rattle.asl_model.specs.Tree.{Tree, Array, Object, Trees, Fields, element}
use Rattle.asl_path.specs.declared.Segment as step
use Rattle.asl_tree.specs.View.{view, elements_view}
use Rattle.asl_tree.specs.declared.Tree as code
use Rattle.asl_shape_paths.specs.Counterexamples.{missing_under, HasExample, IsExample}
use Rattle.asl_shape_paths.specs.Numbers.{shown}

-- ---- whether there is one

module _ (path : List Segment) (s : Shape) where
  -- what is found in a shape that some tree has is found
  found-ok : is_ok (look_at path s) ≡ true → is_ok (look path s) ≡ true
  found-ok found = go (inhabited s) refl
    where
      go : (live : Bool) → inhabited s ≡ live → is_ok (look path s) ≡ true
      go true live = rw live found
      go false none = rw none refl

  shown-ok : (table : List Shape) (r : Result ℕ ℕ) → is_ok (shown table r) ≡ is_ok r
  shown-ok table (Ok n) = refl
  shown-ok table (Err at) = refl

  -- where the path is found there is none
  pub none_missing : (table : List Shape) (r : Result ℕ ℕ) → shown table r ≡ look_at path s → is_ok r ≡ true → ((missing path s ≡ None) ↔ IsTrue (is_ok (look path s))) → None ≡ missing path s
  none_missing table r is ok exactly = sym (exactly.1 (found-ok (ap is_ok (sym is) ∙ shown-ok table r ∙ ok)))

  -- and where it isn't, the look-up is refused
  pub refused_there : (table : List Shape) (r : Result ℕ ℕ) → shown table r ≡ look_at path s → is_ok r ≡ false → IsErr (look_at path s)
  refused_there table (Ok n) is lost = absurd (cc)
  refused_there table (Err at) is lost = rw (← is) refl

  -- what the law says of it
  pub missing_told : (r : Option code.Tree) → option_map view r ≡ missing path s → ((t : Tree) → missing path s ≡ Some t → IsMissing path s t) → IfSome r (λ t. IsMissing path s (view t))
  missing_told None is law = tt
  missing_told (Some t) is law = law (view t) (sym is)

  pub none_told : (r : Option code.Tree) → option_map view r ≡ missing path s → ((missing path s ≡ None) ↔ IsTrue (is_ok (look path s))) → (r ≡ None) ↔ IsTrue (is_ok (look path s))
  none_told None is law = (λ none. law.0 (sym is), λ found. refl)
  none_told (Some t) is law = (λ none. absurd (cc), λ found. absurd (let none = law.1 found in let some : Some (view t) ≡ None = is ∙ none in cc))

-- the tree of an answer that isn't None has the shape; the path is refused, so there is such an answer
pub refused_some : (path : List Segment) (s : Shape) (r : Option code.Tree) → IsErr (look path s) → ((r ≡ None) ↔ IsTrue (is_ok (look path s))) → r ≡ None → ⊥
refused_some path s r refused exactly none = go (look path s) refused (exactly.0 none)
  where
    go : (found : Result Shape ℕ) → IsErr found → IsTrue (is_ok found) → ⊥
    go (Ok part) lost ok = absurd (cc)
    go (Err at) lost ok = absurd (cc)

-- ---- along the segments

module _ (path rest : List Segment) (segment : Segment) (whole : segment ∷ rest ≡ path) (s : Shape) where
  module _ (part : Shape) (at : Some part ≡ part_at segment s) where
    -- the segments behind the first are refused in its part
    pub refused_behind : IsErr (look_at path s) → IsErr (look_at rest part)
    refused_behind refused = go (look_at rest part) refl (rw (← whole, ← at) at refused)
      where
        go : (r : Result Shape ℕ) → look_at rest part ≡ r → IsErr (one_further r) → IsErr r
        go (Ok t) is h = h
        go (Err k) is h = refl

    -- whose example stands there
    pub example_behind : (t : Tree) → IsOrdered s → IsExample s t → HasExample segment part t
    example_behind t ordered is = record {
      some = part-inhabited segment s part (sym at) is.some;
      there = rw (is.same) (example-part segment s part (sym at) ordered is.some);
    }

module _ (rest : List Segment) (part : Shape) (w : Tree) (made : missing_at rest part ≡ Some w) where
  -- placed in the field of that name
  pub missing_in_field : (n : List ℕ) (fs gs : Fields) → gs ≡ set_field n w fs → missing_under (Name n) rest part (Object fs) ≡ Some (Object gs)
  missing_in_field n fs gs set = rw made (field-placed n w fs ∙ ap (λ hs. Some (Object hs)) (sym set))

  -- placed in the element at that place
  pub missing_in_element : (i : ℕ) (u : Tree) (ts us : Trees) → element i ts ≡ Some u → us ≡ set_element i w ts → missing_under (Index i) rest part (Array ts) ≡ Some (Array us)
  missing_in_element i u ts us there set = rw made (element-placed i w u ts there ∙ ap (λ vs. Some (Array vs)) (sym set))

-- ---- in the code's trees

-- where a place has an element it is in the list
pub element_there : (ts : List code.Tree) (i : ℕ) (u : Tree) → element i (elements_view ts) ≡ Some u → i < length ts
element_there [] i u is = absurd (cc)
element_there (t ∷ ts) zero u is = omega arith
element_there (t ∷ ts) (suc i) u is = omega (arith, element_there ts i u is)

-- what is lent from where an example stands is that example
pub lent_example : (s : Shape) (there : Option Tree) (t : Tree) → IsTrue (inhabited s) → there ≡ Some (example s) → there ≡ Some t → IsExample s t
lent_example s there t some example_there lent =
    let same : Some t ≡ Some (example s) = sym lent ∙ example_there in
    record { some = some; same = cc }

-- the segments behind the first are fewer
pub fewer_behind : (items : List step.Segment) → 1 ≤ length items → length (take (length items - 1) (drop 1 items)) + 1 ≡ length items
fewer_behind [] some = absurd (omega arith)
fewer_behind (x ∷ items) some = rw (take_all (length (x ∷ items) - 1) items (omega arith)) (omega arith)

-- what is said where an answer is there follows from what is said there
pub if_there : {A E P Q : Type 0} (r : Result A E) → (P → Q) → IfOk r (λ x. P) → IfOk r (λ x. Q)
if_there (Ok a) f h = f h
if_there (Err e) f h = tt

-- the same of an equal segment and equal trees
pub same_made : {A E : Type 0} (r : Result A E) (segment other : Segment) (rest : List Segment) (part : Shape) (t u v w : Tree) → segment ≡ other → t ≡ u → v ≡ w → IfOk r (λ x. missing_under other rest part u ≡ Some w) → IfOk r (λ x. missing_under segment rest part t ≡ Some v)
same_made r segment other rest part t u v w named same made h = rw (named, same, made) h
