use Rattle.asl_numbered.specs.Laws.{own_number}
use Rattle.asl_shape_paths.proofs.FoundPaths.{found_own}
use Rattle.asl_shape_paths.proofs.looking.find_at.Goals as goal

pub returns-then-is_inhabited-clause-number : goal.returns-then-is_inhabited-clause-number
returns-then-is_inhabited-clause-number c =
    found_own c.args.shapes.now c.look_up.result c.are_distinct.ensures.distinct c.look_up.ensures.within

pub returns-clause-number : goal.returns-clause-number
returns-clause-number c =
    own_number c.put_never.new.shapes c.in_ok-never.never c.are_distinct-2.ensures.distinct c.in_ok-never.ensures.shown.within
