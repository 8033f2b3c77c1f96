use Rattle.asl_model.specs.Tree as model
use Rattle.asl_differences.specs.Misfits.{IsMisfit}
use Rattle.asl_differences.specs.Places.{IsPlace}
use Rattle.asl_differences.proofs.misfits.Misfit.go_down.Given as goal

abbrev pub invariant-loop-level : goal.invariant-loop-level
invariant-loop-level l = record {
  misfit : IsMisfit l.self;
  place : (tree : model.Tree) → IsPlace tree l.fn.self → IsPlace tree l.self;
}
