-- What becomes of a shape where another one flows in.
use Rattle.std.proofs.Common.{◌≡◌, ◌≢◌, ◌<◌, ◌-◌, ◌||◌, eqb, Bool, true, false, if◌then◌else◌, refl, sym, ap, subst, ◌∙◌, ◌⊎◌, inl, inr, arith}
use Rattle.std.proofs.lemmas.Bool.{false≢true}
use Rattle.std.proofs.lemmas.Bool.Decides.{eqb_tells}
use Rattle.asl_model.specs.Shape.{Shape, Any, Has, Inside}
use Rattle.asl_model.specs.ShapeOrder.{join}
use Rattle.asl_model.specs.WrittenNumbered.{same_shape}
use Rattle.asl_model.proofs.SameShapes.{same_are, same_itself}
use Rattle.asl_model.proofs.ShapeJoin.{join_above}
use Rattle.asl_draft_laws.specs.Cutting.{cut}
use Rattle.asl_draft_laws.specs.Drafts.{Growth, taken_in}
use Rattle.asl_draft_laws.proofs.CutAbove.{cut-above}

module _ (s : Shape) (g : Growth) where
  -- the join, cut
  abbrev pub joined : Shape
  joined = cut (join g.shape s)

  -- the shape after a change
  abbrev pub changed : Growth
  changed = record { shape = if eqb g.changes_left 1 then Any else joined; changes_left = g.changes_left - 1 }

  abbrev either : Bool → Bool → Growth
  either same none = if same || none then g else changed

  pub taken-same : joined ≡ g.shape → taken_in s g ≡ g
  taken-same same =
      let alike : same_shape joined g.shape ≡ true = ap (same_shape joined) (sym same) ∙ same_itself joined in
      ap (λ b. either b (eqb g.changes_left 0)) alike

  pub taken-none : g.changes_left ≡ 0 → taken_in s g ≡ g
  taken-none none = ap (λ n. either (same_shape joined g.shape) (eqb n 0)) none ∙ by (same_shape joined g.shape)
    where
      by : (b : Bool) → either b true ≡ g
      by true = refl
      by false = refl

  pub taken-other : joined ≢ g.shape → g.changes_left ≢ 0 → taken_in s g ≡ changed
  taken-other other left = by (same_shape joined g.shape) refl (eqb_tells g.changes_left 0)
    where
      by : (b : Bool) → same_shape joined g.shape ≡ b → ((eqb g.changes_left 0 ≡ true) × (g.changes_left ≡ 0)) ⊎ ((eqb g.changes_left 0 ≡ false) × (g.changes_left ≢ 0)) → either b (eqb g.changes_left 0) ≡ changed
      by true alike told = absurd (other (same_are joined g.shape alike))
      by false alike (inl none) = absurd (left none.1)
      by false alike (inr some) = ap (either false) some.0

  -- it stays, or it is changed
  pub taken-or : (((joined ≡ g.shape) ⊎ (g.changes_left ≡ 0)) × (taken_in s g ≡ g)) ⊎ ((g.changes_left ≢ 0) × (taken_in s g ≡ changed))
  taken-or = by (same_shape joined g.shape) refl (eqb_tells g.changes_left 0)
    where
      by : (b : Bool) → same_shape joined g.shape ≡ b → ((eqb g.changes_left 0 ≡ true) × (g.changes_left ≡ 0)) ⊎ ((eqb g.changes_left 0 ≡ false) × (g.changes_left ≢ 0))
          → (((joined ≡ g.shape) ⊎ (g.changes_left ≡ 0)) × (taken_in s g ≡ g)) ⊎ ((g.changes_left ≢ 0) × (taken_in s g ≡ changed))
      by true alike told =
          let same = same_are joined g.shape alike in
          inl (inl same, taken-same same)
      by false alike (inl none) = inl (inr none.1, taken-none none.1)
      by false alike (inr some) = inr (some.1, taken-other (λ e. false≢true (sym alike ∙ (ap (same_shape joined) (sym e) ∙ same_itself joined))) some.1)

  -- where it doesn't stay, it may change less often
  pub taken-spends : (taken_in s g ≡ g) ⊎ ((taken_in s g).changes_left < g.changes_left)
  taken-spends = by taken-or
    where
      by : (((joined ≡ g.shape) ⊎ (g.changes_left ≡ 0)) × (taken_in s g ≡ g)) ⊎ ((g.changes_left ≢ 0) × (taken_in s g ≡ changed)) → (taken_in s g ≡ g) ⊎ ((taken_in s g).changes_left < g.changes_left)
      by (inl stays) = inl stays.1
      by (inr changes) =
          let less : changed.changes_left < g.changes_left = omega (arith, changes.0) in
          inr (subst (λ (h : Growth). h.changes_left < g.changes_left) (sym changes.1) less)

-- where it may change no more it is Any
abbrev pub IsSound : Growth → Type 0
IsSound g = g.changes_left ≡ 0 → g.shape ≡ Any

pub taken-sound : (s : Shape) (g : Growth) → IsSound g → IsSound (taken_in s g)
taken-sound s g sound = by (taken-or s g)
  where
    after : g.changes_left ≢ 0 → IsSound (changed s g)
    after left none =
        let one : g.changes_left ≡ 1 = omega (arith, left, none) in
        ap (λ n. if eqb n 1 then Any else joined s g) one

    by : (((joined s g ≡ g.shape) ⊎ (g.changes_left ≡ 0)) × (taken_in s g ≡ g)) ⊎ ((g.changes_left ≢ 0) × (taken_in s g ≡ changed s g)) → IsSound (taken_in s g)
    by (inl stays) = subst IsSound (sym stays.1) sound
    by (inr changes) = subst IsSound (sym changes.1) (after changes.0)

-- what flows in where it stays is inside it
pub stays-inside : (s : Shape) (g : Growth) → IsSound g → taken_in s g ≡ g → Inside s g.shape
stays-inside s g sound stays t h = by (taken-or s g)
  where
    there : Has (joined s g) t
    there = cut-above (join g.shape s) t (join_above.right g.shape s t h)

    by : (((joined s g ≡ g.shape) ⊎ (g.changes_left ≡ 0)) × (taken_in s g ≡ g)) ⊎ ((g.changes_left ≢ 0) × (taken_in s g ≡ changed s g)) → Has g.shape t
    by (inl (inl same, e)) = subst (λ (z : Shape). Has z t) same there
    by (inl (inr none, e)) = subst (λ (z : Shape). Has z t) (sym (sound none)) refl
    by (inr changes) =
        let fewer : g.changes_left - 1 ≡ g.changes_left = ap (λ (x : Growth). x.changes_left) (sym changes.1 ∙ stays) in
        absurd (omega (arith, fewer, changes.0))
