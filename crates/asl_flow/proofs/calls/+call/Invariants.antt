use Rattle.std.proofs.Common.{length, take}
use Rattle.asl_numbered.specs.Expansion.{Keeps}
use Rattle.asl_flow.specs.Sources.{input_of, item_of, IsWithin}
use Rattle.asl_flow.proofs.ArgumentShapes.{AreShapesOf}
use Rattle.asl_flow.proofs.calls.+call.Given as goal

abbrev pub invariant-argument_shapes-loop-argument : goal.invariant-argument_shapes-loop-argument
invariant-argument_shapes-loop-argument l = record {
  keeps : Keeps l.initial.shapes l.shapes;
  within : IsWithin (length l.shapes) l.sources;
  shown : AreShapesOf (input_of l.initial.shapes l.sources) (item_of l.initial.shapes l.sources) l.shapes (take l.argument-index l.arguments) l.numbers.items;
}
