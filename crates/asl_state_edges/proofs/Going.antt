-- The steps of a walk that are left.
use Rattle.std.proofs.Common.{◌≡◌, List, [], ◌++◌, sym}
use Rattle.asl_model.specs.Edges.{Walked}
use Rattle.asl_model.specs.Shape.{Shape}
use Rattle.asl_numbered.specs.Expansion.{Keeps}
use Rattle.asl_numbered.specs.Laws.{keeps_same, keeps_trans}
use Rattle.asl_state_edges.specs.Walks.{Adds}
use Rattle.asl_state_edges.specs.declared.found.Step.{Step}
use Rattle.asl_state_edges.proofs.Adding.{adds_none, adds_same, adds_then}

-- once those are added too, in a table that may have grown, all are
pub record GoesOn (old middle : List Shape) (before steps : List Step) (all left : List Walked) : Type 0 where
  pub keeps : Keeps old middle
  pub through : (new : List Shape) (after : List Step) → Keeps middle new → Adds new steps after left → Adds new before after all

-- at first all are left
pub goes_on_none : (a b : List Shape) (steps : List Step) (all : List Walked) → Keeps a b → GoesOn a b steps steps all all
goes_on_none a b steps all keeps = record { keeps = keeps; through = λ new after further adds. adds }

-- then the first of them are added
pub goes_on_then : (a b c : List Shape) (e0 e1 e2 : List Step) (all first behind left : List Walked) → left ≡ first ++ behind → GoesOn a b e0 e1 all left → Keeps b c → Adds c e1 e2 first → GoesOn a c e0 e2 all behind
goes_on_then a b c e0 e1 e2 all first behind left split g keeps adds = record {
  keeps = keeps_trans a b c g.keeps keeps;
  through = λ new after further rest. g.through new after (keeps_trans b c new keeps further) (adds_same new e1 after (first ++ behind) left (sym split) (adds_then c new e1 e2 after first behind further adds rest));
}

-- at last none is
pub goes_through : (a b : List Shape) (e0 e1 : List Step) (all left : List Walked) → left ≡ [] → GoesOn a b e0 e1 all left → Adds b e0 e1 all
goes_through a b e0 e1 all left none g = g.through b e1 (keeps_same b) (adds_none b e1 left none)
