use Rattle.asl_numbered.proofs.Parts.{list_joined}
use Rattle.asl_numbered.proofs.joining.join_arrays.Goals as goal

pub returns-in_ok-join_lists-in-Some-second-2 : goal.returns-in_ok-join_lists-in-Some-second-2
returns-in_ok-join_lists-in-Some-second-2 c = record {
  joined = rw (c.in-Some.is, c.in-Some-second-2.is) (list_joined c.in-Some.arrays c.in-Some-second-2.field-0 c.args.parts.now c.in_ok-join_lists-in-Some-second-2.field-0 c.in_ok-join_lists-in-Some-second-2.ensures.list);
}
