use Rattle.std.proofs.Common.{true, sym}
use Rattle.asl_numbered.proofs.Comparisons.{inside_itself, rests_known, rests_on_any, rests_of_any}
use Rattle.asl_numbered.proofs.comparing.look.Goals as goal

pub returns-then-pair : goal.returns-then-pair
returns-then-pair c = record {
  rests = rests_known c.args.table.now c.args.pair true c.args.tasks.now.items (inside_itself c.args.table.now c.args.pair c.if-pair.true (c.are_proper.ensures.proper c.args.pair.first) c.sub_is_exactly_inside.ensures.complete);
}

pub returns-in-Some : goal.returns-in-Some
returns-in-Some c = record {
  rests = rests_known c.args.table.now c.args.pair c.in-Some.answer c.args.tasks.now.items (sym (c.in-Some.ensures.right c.args.table.now c.requires.right));
}

pub returns-in-None : goal.returns-in-None
returns-in-None c = record {
  rests = rests_on_any c.args.table.now c.args.pair c.args.tasks.now.items c.in-None.ensures.shown;
}

pub returns-in-None-take_apart : goal.returns-in-None-take_apart
returns-in-None-take_apart c = record {
  rests = rests_of_any c.args.table.now c.args.pair c.takes_all.result c.args.tasks.now.items c.in-None-take_apart.ensures.shown c.takes_all.ensures;
}
