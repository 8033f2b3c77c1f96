use Rattle.asl_run.proofs.Joined.{AreOut}
use Rattle.asl_run.proofs.joining.outputs_of.Given as goal

-- the outputs so far are those of the children so far
abbrev pub invariant-loop-child : goal.invariant-loop-child
invariant-loop-child l = AreOut l.children l.child-index l.outputs.items
