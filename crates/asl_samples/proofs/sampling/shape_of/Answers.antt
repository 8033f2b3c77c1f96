use Rattle.std.proofs.Common.{◌∙◌}
use Rattle.asl_shape.specs.View.{view}
use Rattle.asl_samples.proofs.Joined.{samples-have}
use Rattle.asl_samples.proofs.sampling.shape_of.Goals as goal

pub returns-clause-each : goal.returns-clause-each
returns-clause-each c =
    samples-have c.args.samples.now c.in-Some.others.now c.in-Some.first.now (view c.in_ok-shape.shape) c.in-Some.ensures.cases.0 (c.in_ok-shape.ensures.shape ∙ c.in_ok-number.ensures.same)
