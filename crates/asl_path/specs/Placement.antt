-- What making room for a placing leaves, what filling it gives, and what each refusal says.
use Rattle.std.specs.Prelude.{◌≡◌, List, Some, None, Result, OnOk, OnErr, IfErr}
use Rattle.std.specs.Option.{IsSome}
use Rattle.asl_model.specs.Path.{Segment, named_by}
use Rattle.asl_model.specs.Placing.{placed}
use Rattle.asl_model.specs.Tree.{Tree}
use Rattle.asl_path.specs.declared.placing.PlaceRefusal.{PlaceRefusal}
use Rattle.asl_path.specs.declared.placing.PlaceRefusal.TheVariants.{CannotPlace, OutOfMemory}

-- the path names a node in v
pub record HasNode (p : List Segment) (v : Tree) : Type 0 where
  pub names : IsSome (named_by p v)

-- the path names a node in u, and placing there gives what it gives in v
pub record HasRoom (p : List Segment) (v u : Tree) : Type 0 where
  pub node : HasNode p u
  pub same_placing : (w : Tree) → placed p w u ≡ placed p w v

-- u is v with w placed at the path
pub record IsPlaced (p : List Segment) (w v u : Tree) : Type 0 where
  pub is : placed p w v ≡ Some u

-- no tree can be placed at the path in v
pub record TakesNothing (p : List Segment) (v : Tree) : Type 0 where
  pub nothing : (w : Tree) → placed p w v ≡ None

-- every tree can be placed at the path in v
pub record TakesAnything (p : List Segment) (v : Tree) : Type 0 where
  pub something : (w : Tree) → IsSome (placed p w v)

-- what a refusal to place at the path in v says
abbrev pub IsRefusedPlacing : PlaceRefusal → List Segment → Tree → Type 0
IsRefusedPlacing CannotPlace p v = TakesNothing p v
IsRefusedPlacing OutOfMemory p v = TakesAnything p v

-- r is what making room at the path answers, where v stood before and u stands after it
pub record MakesRoom {A : Type 0} (p : List Segment) (v u : Tree) (r : Result A PlaceRefusal) : Type 0 where
  pub room : OnOk r (HasRoom p v u)
  pub refused : IfErr r (λ refusal. IsRefusedPlacing refusal p v)
  pub unchanged : OnErr r (u ≡ v)
