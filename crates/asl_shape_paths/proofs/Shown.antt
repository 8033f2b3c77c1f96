-- What shows a shape: that of closed lists, and equal shapes.
use Rattle.std.proofs.Common.{◌≡◌, ℕ, List, length, Global, Vec, Result, refl}
use Rattle.std.specs.Prelude.{IfOk}
use Rattle.asl_model.specs.Shape as model
use Rattle.asl_tree.specs.declared.OutOfMemory.{OutOfMemory}
use Rattle.asl_numbered.specs.declared.node.Node.TheVariants.{List as Elements}
use Rattle.asl_numbered.specs.Expansion.{shapes_at, shape_over, AreBelow, RefersBelow, AreNumbersOf, Keeps, Shows}
use Rattle.asl_numbered.proofs.Growing.{numbers_kept}

-- ---- numbers at hand

-- numbers of the table have their own shapes
own-numbers : (table : List model.Shape) (ns : List ℕ) → AreBelow (length table) ns → AreNumbersOf table (shapes_at table ns) ns
own-numbers table ns below = record { within = below; same = refl }

-- ---- closed lists

module _ (old now : List model.Shape) (first : Vec ℕ Global) (rest : ℕ) (below : AreBelow (length old) first.items) (keeps : Keeps old now) (never : Shows now model.Never rest) where
  still : AreNumbersOf now (shapes_at old first.items) first.items
  still = numbers_kept old now (shapes_at old first.items) first.items keeps (own-numbers old first.items below)

  -- the numbers of a closed list's node are in the table
  pub closed_list_refers : RefersBelow (length now) (Elements first rest)
  closed_list_refers = record { each = (never.within, still.within) }

  -- and it is that of the lists with those first elements alone
  pub closed_list_shape : shape_over now (Elements first rest) ≡ model.ArrayShape (shapes_at old first.items) model.Never
  closed_list_shape = rw (still.same, never.same) refl

-- ---- the same shape

-- what shows a shape shows an equal one
pub shows_equal : (table : List model.Shape) (s t : model.Shape) (r : Result ℕ OutOfMemory) → s ≡ t → IfOk r (Shows table s) → IfOk r (Shows table t)
shows_equal table s t r e h = rw (← e) h
