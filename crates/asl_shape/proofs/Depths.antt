-- How deep the parts of a shape are: none is deeper than all together.
use Rattle.std.proofs.Common.{◌≡◌, ℕ, zero, suc, ◌≤◌, List, [], ◌∷◌, ◌++◌, drop, Bool, true, false, Some, String, Global, refl, sym, ap, ◌∙◌, subst, arith}
use Rattle.std.specs.Map.{lookup}
use Rattle.asl_model.specs.ShapeOrder.{depth, depth_of_elements, depth_of_fields}
use Rattle.asl_shape.specs.View.{view, shapes_view, fields_view}
use Rattle.asl_shape.specs.declared.shape.Field.{Field}
use Rattle.asl_shape.specs.declared.shape.Shape.{Shape}
use Rattle.asl_shape.proofs.Spellings.{Mention}

drop_depth : (i : ℕ) (ss : List Shape) → depth_of_elements (shapes_view (drop i ss)) ≤ depth_of_elements (shapes_view ss)
drop_depth zero ss = omega arith
drop_depth (suc i) [] = omega arith
drop_depth (suc i) (s ∷ ss) = omega (arith, drop_depth i ss)

-- of a place, and of those behind it
pub place_depth : (i : ℕ) (ss left : List Shape) (s : Shape) → drop i ss ≡ s ∷ left → depth (view s) ≤ depth_of_elements (shapes_view ss)
place_depth i ss left s split =
    let within : depth_of_elements (shapes_view (s ∷ left)) ≤ depth_of_elements (shapes_view ss) = subst (λ ps. depth_of_elements (shapes_view ps) ≤ depth_of_elements (shapes_view ss)) split (drop_depth i ss) in
    omega arith

pub next_depth : (k : ℕ) (now left : List Shape) (s : Shape) → now ≡ s ∷ left → depth_of_elements (shapes_view now) ≤ k → (depth (view s) ≤ k) × (depth_of_elements (shapes_view left) ≤ k)
next_depth k now left s split h =
    let within : depth_of_elements (shapes_view (s ∷ left)) ≤ k = subst (λ ps. depth_of_elements (shapes_view ps) ≤ k) split h in
    (omega arith, omega arith)

entry_within : (done left : List Mention) (e : Mention) → depth (view e.1.shape) ≤ depth_of_fields (fields_view (done ++ e ∷ left))
entry_within [] left e = omega arith
entry_within (m ∷ done) left e = omega (arith, entry_within done left e)

-- of a field's shape
pub entry_depth : (all done now left : List Mention) (e : Mention) → all ≡ done ++ now → now ≡ e ∷ left → depth (view e.1.shape) ≤ depth_of_fields (fields_view all)
entry_depth all done now left e split next =
    subst (λ ms. depth (view e.1.shape) ≤ depth_of_fields (fields_view ms)) (sym (split ∙ ap (λ ms. done ++ ms) next)) (entry_within done left e)

pub found_depth : (test : String Global → Bool) (es : List Mention) (f : Field) → lookup test es ≡ Some f → depth (view f.shape) ≤ depth_of_fields (fields_view es)
found_depth test [] f found = absurd (cc)
found_depth test (e ∷ es) f found = go (test e.0) refl (found_depth test es f)
  where
    go : (here : Bool) → test e.0 ≡ here → (lookup test es ≡ Some f → depth (view f.shape) ≤ depth_of_fields (fields_view es)) → depth (view f.shape) ≤ depth_of_fields (fields_view (e ∷ es))
    go true is below =
        let same : e.1 ≡ f = let there = rw is at found in cc in
        subst (λ g. depth (view g.shape) ≤ depth_of_fields (fields_view (e ∷ es))) same (omega arith)
    go false is below = omega (arith, below (rw is at found))

-- of a field that comes next, and of those behind it
pub next_field_depth : (k : ℕ) (now left : List Mention) (m : Mention) → now ≡ m ∷ left → depth_of_fields (fields_view now) ≤ k → depth (view m.1.shape) ≤ k
next_field_depth k now left m split h =
    let within : depth_of_fields (fields_view (m ∷ left)) ≤ k = subst (λ ms. depth_of_fields (fields_view ms) ≤ k) split h in
    omega arith

pub fields_left_depth : (k : ℕ) (now left : List Mention) (m : Mention) → now ≡ m ∷ left → depth_of_fields (fields_view now) ≤ k → depth_of_fields (fields_view left) ≤ k
fields_left_depth k now left m split h =
    let within : depth_of_fields (fields_view (m ∷ left)) ≤ k = subst (λ ms. depth_of_fields (fields_view ms) ≤ k) split h in
    omega arith
