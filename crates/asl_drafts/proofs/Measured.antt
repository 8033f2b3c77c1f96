-- The depths of the shapes of a table, one after another.
use Rattle.std.proofs.Common.{◌≡◌, ◌==◌, ◌<◌, ◌≤◌, ℕ, zero, suc, max, List, [], ◌∷◌, ◌++◌, length, get_or, Bool, true, false, cond, String, Global, Some, slice_get, Less, Equal, Greater, nat_cmp, refl, sym, ap, ◌∙◌, subst, ◌⊎◌, inl, inr, arith}
use Rattle.std.specs.Ordering.{is_lt, ord_max}
use borrow.Author.Tests.{ltb-true, ltb-false}
use lib.Dec.{ltb}
use Rattle.std.proofs.lemmas.List.{length_push}
use Rattle.std.proofs.lemmas.Option.{slice_get-get_or, slice_get_within}
use Rattle.asl_model.specs.Shape as model
use Rattle.asl_numbered.specs.declared.node.NodeField.{NodeField}
use Rattle.asl_numbered.specs.Expansion.{fields_at, shape_at, shapes_at, Keeps}
use Rattle.asl_numbered.specs.Laws.{keeps_longer, kept_shape}
use Rattle.asl_drafts.specs.Depths.{told_depth, told_depth_of_elements, told_depth_of_fields, AreDepths}
use Rattle.asl_numbered.specs.Names.{Name}

-- ---- the greater of two numbers

pub greater : (a b : ℕ) → ord_max nat_cmp a b ≡ max a b
greater a b = by (ltb b a) refl (b == a)
  where
    by : (below : Bool) → ltb b a ≡ below → (same : Bool) → cond (is_lt (cond below Less (cond same Equal Greater))) a b ≡ max a b
    by true h same = let less : b < a = ltb-true b a h in omega arith
    by false h true = let more : a ≤ b = ltb-false b a h in omega arith
    by false h false = let more : a ≤ b = ltb-false b a h in omega arith

-- ---- depths

-- a depth that is told
pub depth_at : (table : List model.Shape) (depths : List ℕ) (n : ℕ) → AreDepths table depths → n < length depths → get_or depths n 0 ≡ told_depth (shape_at table n)
depth_at table depths n are within = are.each n (get_or depths n 0) (slice_get-get_or depths n 0 within)

-- one more of several shapes
pub deeper : (table : List model.Shape) (now left : List ℕ) (n most d all : ℕ) → now ≡ n ∷ left → d ≡ told_depth (shape_at table n) → max most (told_depth_of_elements (shapes_at table now)) ≡ all → max (max most d) (told_depth_of_elements (shapes_at table left)) ≡ all
deeper table now left n most d all split is h =
    let whole = subst (λ ns. max most (told_depth_of_elements (shapes_at table ns)) ≡ all) split h in
    omega (arith, is, whole)

-- one more of several fields
pub field_deeper : (table : List model.Shape) (now left : List (Name × NodeField)) (f : Name × NodeField) (most d all : ℕ) → now ≡ f ∷ left → d ≡ told_depth (shape_at table f.1.shape) → max most (told_depth_of_fields (fields_at table now)) ≡ all → max (max most d) (told_depth_of_fields (fields_at table left)) ≡ all
field_deeper table now left f most d all split is h =
    let whole = subst (λ fs. max most (told_depth_of_fields (fields_at table fs)) ≡ all) split h in
    omega (arith, is, whole)

-- in a table that has grown
pub depths_kept : (a b : List model.Shape) (depths : List ℕ) → Keeps a b → AreDepths a depths → AreDepths b depths
depths_kept a b depths keeps are = record {
  within = omega (arith, are.within, keeps_longer a b keeps);
  each = λ n d at. are.each n d at ∙ ap told_depth (sym (kept_shape a b n keeps (omega (arith, are.within, slice_get_within depths n d at))));
}

-- what stands in a list with one more behind
pub pushed : {X : Type 0} (xs : List X) (x y : X) (n : ℕ) → slice_get (xs ++ x ∷ []) n ≡ Some y → (slice_get xs n ≡ Some y) ⊎ ((n ≡ length xs) × (x ≡ y))
pushed [] x y zero at = inr (refl, cc)
pushed [] x y (suc n) at = absurd (cc)
pushed (first ∷ xs) x y zero at = inl at
pushed (first ∷ xs) x y (suc n) at = step (pushed xs x y n at)
  where
    step : (slice_get xs n ≡ Some y) ⊎ ((n ≡ length xs) × (x ≡ y)) → (slice_get xs n ≡ Some y) ⊎ ((suc n ≡ suc (length xs)) × (x ≡ y))
    step (inl there) = inl there
    step (inr last) = inr (ap suc last.0, last.1)

-- one more
pub depth_added : (table : List model.Shape) (depths new : List ℕ) (d : ℕ) → AreDepths table depths → length depths < length table → new ≡ depths ++ d ∷ [] → d ≡ told_depth (shape_at table (length depths)) → AreDepths table new
depth_added table depths new d are within more is = subst (AreDepths table) (sym more) (record {
  within = rw (length_push depths d) (omega (arith, within));
  each = λ n e at. by n e (pushed depths d e n at);
})
  where
    by : (n e : ℕ) → (slice_get depths n ≡ Some e) ⊎ ((n ≡ length depths) × (d ≡ e)) → e ≡ told_depth (shape_at table n)
    by n e (inl there) = are.each n e there
    by n e (inr last) = sym last.1 ∙ is ∙ ap (λ k. told_depth (shape_at table k)) (sym last.0)
