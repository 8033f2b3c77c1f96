use Rattle.asl_numbered.proofs.Comparisons.{objects_apart, objects_put}
use Rattle.asl_numbered.proofs.comparing.look_at_objects.Goals as goal

pub returns-then-not-objects_fit : goal.returns-then-not-objects_fit
returns-then-not-objects_fit c = record {
  rests = objects_apart c.args.table.now c.args.pair.first _ _ _ c.in-Some.inner c.in-Some-outer.outer c.is_inhabited.result c.objects_fit.result c.args.tasks.now.items c.in-Some.is c.in-Some-outer.is c.requires.inner c.is_inhabited.ensures c.if-not-is_inhabited.false c.objects_fit.ensures c.if-not-objects_fit.true;
}

pub returns : goal.returns
returns c = record {
  rests = objects_put c.args.table.now c.args.pair _ _ c.in-Some.inner c.in-Some-outer.outer c.is_inhabited.result c.objects_fit.result c.args.tasks.now.items c.put_fields.new.tasks.items c.requires.within c.in-Some.is c.in-Some-outer.is c.requires.inner c.requires.outer c.is_inhabited.ensures c.if-not-is_inhabited.false c.objects_fit.ensures c.if-not-objects_fit.false c.in_ok-put_fields.ensures.put;
}
