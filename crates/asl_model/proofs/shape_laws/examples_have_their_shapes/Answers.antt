use Rattle.asl_model.proofs.ShapeExample.{example-has, example-proper}
use Rattle.asl_model.proofs.shape_laws.examples_have_their_shapes.Goals as goal

pub returns : goal.returns
returns c = record { has = example-has; proper = λ s proper live. example-proper s proper }
