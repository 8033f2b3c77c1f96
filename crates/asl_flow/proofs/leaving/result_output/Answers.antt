use Rattle.asl_numbered.specs.Laws.{kept_within}
use Rattle.asl_flow.proofs.leaving.result_output.Goals as goal

pub placed-requires-clause-raw : goal.placed-requires-clause-raw
placed-requires-clause-raw c =
    kept_within c.args.shapes.now c.through_template.new.shapes c.args.raw c.in_ok-selected.ensures.keeps c.requires.raw
