-- Each sample has the shape that samples have in common; how that one is found by number.
use Rattle.std.proofs.Common.{◌≡◌, ◌<◌, ℕ, List, [], ◌∷◌, map, length, sym, ap, ◌∙◌, subst, arith}
use Rattle.std.specs.List.{All}
use Rattle.std.proofs.lemmas.List.Elements.{All-cons, All-nil}
use Rattle.asl_model.specs.Shape.{Shape, Has, Inside}
use Rattle.asl_model.specs.ShapeFlow.{literal}
use Rattle.asl_model.specs.ShapeOrder.{join}
use Rattle.asl_model.specs.Tree.{Tree}
use Rattle.asl_model.proofs.ShapeJoin.{join_above}
use Rattle.asl_model.proofs.ShapeTemplate.{literal-has_itself}
use Rattle.asl_tree.specs.View.{view}
use Rattle.asl_tree.specs.declared.Tree as code
use Rattle.asl_numbered.specs.Expansion.{Keeps}
use Rattle.asl_numbered.specs.Laws.{keeps_longer}
use Rattle.asl_samples.specs.Samples.{joined_with}

-- the shape itself is inside
joined-inside : (s : Shape) (ts : List Tree) → Inside s (joined_with s ts)
joined-inside s [] v h = h
joined-inside s (t ∷ ts) v h = joined-inside (join s (literal t)) ts v (join_above.left s (literal t) v h)

-- and so are the trees
joined-has : (s : Shape) (ts : List Tree) → All (Has (joined_with s ts)) ts
joined-has s [] = All-nil (Has s)
joined-has s (t ∷ ts) =
    let first = joined-inside (join s (literal t)) ts t (join_above.right s (literal t) t (literal-has_itself t)) in
    All-cons (Has (joined_with s (t ∷ ts))) t ts first (joined-has (join s (literal t)) ts)

-- so do all trees, of which the shape of the first is the beginning
common-has : (t : Tree) (ts : List Tree) → All (Has (joined_with (literal t) ts)) (t ∷ ts)
common-has t ts =
    All-cons (Has (joined_with (literal t) ts)) t ts (joined-inside (literal t) ts t (literal-has_itself t)) (joined-has (literal t) ts)

-- the samples have the shape that was found
pub samples-have : (samples others : List code.Tree) (first : code.Tree) (s : Shape) → samples ≡ first ∷ others → s ≡ joined_with (literal (view first)) (map view others) → All (Has s) (map view samples)
samples-have samples others first s all is =
    let whole = ap (map view) all in
    subst (λ r. All (Has r) (map view samples)) (sym is) (subst (λ ts. All (Has (joined_with (literal (view first)) (map view others))) ts) (sym whole) (common-has (view first) (map view others)))

-- a number that was in the table still is
pub still-within : (old new : List Shape) (n : ℕ) → Keeps old new → n < length old → n < length new
still-within old new n keeps within = omega (arith, within, keeps_longer old new keeps)

-- one sample more is joined
pub joined-more : (whole s r : Shape) (now left : List code.Tree) (t : code.Tree) → whole ≡ joined_with s (map view now) → now ≡ t ∷ left → r ≡ join s (literal (view t)) → whole ≡ joined_with r (map view left)
joined-more whole s r now left t so_far split is =
    so_far ∙ ap (λ ts. joined_with s (map view ts)) split ∙ ap (λ other. joined_with other (map view left)) (sym is)
