use Rattle.asl_numbered.specs.Laws.{told_shows}
use Rattle.asl_shape_paths.proofs.numbers.put_join.Goals as goal

pub returns-clause-shown : goal.returns-clause-shown
returns-clause-shown c = told_shows c.join.new.self _ c.in_ok-number.number c.unwrap.result c.in_ok-number.ensures.as_defined c.unwrap.ensures
