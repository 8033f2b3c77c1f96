-- What a comparison of two shapes tells: nothing where the first is inside the second, else a tree outside.
use Rattle.std.proofs.Common.{◌≡◌, ℕ, List, [], ◌∷◌, true, false, Option, Some, None, is_none, ◌∙◌, refl}
use Rattle.asl_model.specs.Examples.{outside}
use Rattle.asl_model.specs.Finding.{FindingFault, breach_shown, breach_unless_sub}
use Rattle.asl_model.specs.Shape.{Shape}
use Rattle.asl_model.specs.ShapeOrder.{sub}
use Rattle.asl_model.specs.Tree.{Tree}
use Rattle.asl_model.proofs.ShapeOutside.{outside-none}

module _ (field : List ℕ) (fault : FindingFault) (inner outer : Shape) where
  -- nothing is told
  pub inside_told : sub inner outer ≡ true → [] ≡ breach_unless_sub field fault inner (Some outer)
  inside_told holds = by (outside inner outer) (outside-none inner outer ∙ holds)
    where
      by : (found : Option Tree) → is_none found ≡ true → [] ≡ breach_shown field fault found
      by None none = refl
      by (Some t) none = absurd (cc)

  -- the tree is
  pub outside_told : sub inner outer ≡ false → record { field = field; fault = fault; example = outside inner outer } ∷ [] ≡ breach_unless_sub field fault inner (Some outer)
  outside_told fails = by (outside inner outer) (outside-none inner outer ∙ fails)
    where
      by : (found : Option Tree) → is_none found ≡ false → record { field = field; fault = fault; example = found } ∷ [] ≡ breach_shown field fault found
      by None none = absurd (cc)
      by (Some t) none = refl
