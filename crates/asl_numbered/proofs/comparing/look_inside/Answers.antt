use Rattle.std.proofs.Common.{subst}
use Rattle.asl_model.specs.ShapeOrder.{arrays_sub}
use Rattle.asl_numbered.specs.Comparison.{PartsRestOn, array_parts}
use Rattle.asl_numbered.specs.TakenApart.{arrays_over}
use Rattle.asl_numbered.proofs.Comparisons.{rests_on_simple, rests_on_arrays, kinds_looked}
use Rattle.asl_numbered.proofs.comparing.look_inside.Goals as goal

pub returns-then-not-are_simple_inside : goal.returns-then-not-are_simple_inside
returns-then-not-are_simple_inside c = record {
  rests = rests_on_simple c.args.table.now c.args.pair c.args.inner c.args.outer c.are_simple_inside.result c.args.tasks.now.items c.requires.first c.requires.second c.are_simple_inside.ensures c.if-not-are_simple_inside.true;
}

pub returns-then-not-branch : goal.returns-then-not-branch
returns-then-not-branch c =
    let table = c.args.table.now in
    let rests = subst (λ b. PartsRestOn table c.args.pair.first (array_parts (arrays_over table c.args.inner.arrays)) (arrays_sub (arrays_over table c.args.inner.arrays) (arrays_over table c.args.outer.arrays)) b c.push.new.self.items c.look_at_arrays.new.tasks.items) c.if-not-branch.true c.in_ok-look_at_arrays.ensures.rests in record {
      rests = rests_on_arrays table c.args.pair c.args.inner c.args.outer c.are_simple_inside.result c.args.tasks.now.items c.push.new.self.items c.look_at_arrays.new.tasks.items c.requires.within c.requires.first c.requires.second c.are_simple_inside.ensures c.if-not-are_simple_inside.false c.in_ok-push.ensures.items rests;
    }

pub returns : goal.returns
returns c = record {
  rests = kinds_looked c.args.table.now c.args.pair c.args.inner c.args.outer c.are_simple_inside.result c.in_ok-look_at_arrays.field-0 c.look_at_objects.result c.args.tasks.now.items c.push.new.self.items c.look_at_arrays.new.tasks.items c.look_at_objects.new.tasks.items c.requires.within c.requires.first c.requires.second c.are_simple_inside.ensures c.if-not-are_simple_inside.false c.in_ok-push.ensures.items c.in_ok-look_at_arrays.ensures.rests c.if-not-branch.false c.look_at_objects.ensures.rests;
}
