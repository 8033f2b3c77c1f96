use Rattle.std.proofs.Common.{map, ap, ◌∙◌}
use Rattle.asl_shape.specs.Properness.{ascend_from, are_proper}
use Rattle.asl_shape.specs.View.{view, merged}
use Rattle.asl_shape.proofs.Merging.{parts_shown}
use Rattle.asl_shape.proofs.Sights.{places, parts_ascend, parts_proper}
use Rattle.asl_shape.proofs.kinds.of_kinds.Goals as goal

pub returns : goal.returns
returns c =
    let listed = c.in_ok-parts.ensures in
    record {
      shown = c.together.ensures.shown ∙ ap (λ parts. merged (map view parts)) listed ∙ parts_shown c.args.kinds;
      proper = (λ inside. c.together.ensures.proper (ap (λ ss. ascend_from 0 (places ss)) listed ∙ parts_ascend c.args.kinds) (ap are_proper listed ∙ parts_proper c.args.kinds ∙ inside));
    }
