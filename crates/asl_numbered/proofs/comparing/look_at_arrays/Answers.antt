use Rattle.std.proofs.Common.{arith}
use Rattle.asl_numbered.proofs.Comparisons.{arrays_short, arrays_put}
use Rattle.asl_numbered.proofs.comparing.look_at_arrays.Goals as goal

pub returns-then-inner-outer : goal.returns-then-inner-outer
returns-then-inner-outer c = record {
  rests = arrays_short c.args.table.now c.args.pair.first _ _ _ c.in-Some.inner c.in-Some-outer.outer c.is_inhabited.result c.args.tasks.now.items c.in-Some.is c.in-Some-outer.is c.requires.inner c.is_inhabited.ensures c.if-not-is_inhabited.false c.if-inner-outer.true;
}

pub returns : goal.returns
returns c = record {
  rests = arrays_put c.args.table.now c.args.pair _ _ c.in-Some.inner c.in-Some-outer.outer c.is_inhabited.result c.args.tasks.now.items c.put_places.new.tasks.items c.push.new.self.items c.requires.within c.in-Some.is c.in-Some-outer.is c.requires.inner c.requires.outer c.is_inhabited.ensures c.if-not-is_inhabited.false (omega (arith, c.if-inner-outer.false)) c.in_ok-put_places.ensures.put c.in_ok-push.ensures.items;
}
