use Rattle.std.proofs.Common.{◌∙◌}
use Rattle.asl_shape_paths.proofs.composing.set_field.Goals as goal

pub returns : goal.returns
returns c = (c.in_ok-key.key, c.in_ok-key.ensures.ok ∙ c.in_ok-clone.ensures.cases, c.in_ok-insert.ensures.entries)
