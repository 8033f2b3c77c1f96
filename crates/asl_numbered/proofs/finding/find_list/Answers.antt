use Rattle.std.proofs.Common.{refl, arith}
use Rattle.asl_numbered.proofs.Seeking.{no_arrays, longer_arrays, looked_arrays}
use Rattle.asl_numbered.proofs.finding.find_list.Goals as goal

pub returns-in_default-outer-clause-found : goal.returns-in_default-outer-clause-found
returns-in_default-outer-clause-found c = no_arrays c.args.table.now c.args.bound c.args.inner c.args.outer c.in-Some.inner _ c.in-Some.is c.in_default-outer.is c.requires.inner refl

pub returns-then-inner-outer-clause-found : goal.returns-then-inner-outer-clause-found
returns-then-inner-outer-clause-found c = longer_arrays c.args.table.now c.args.bound c.args.inner c.args.outer c.in-Some.inner c.in-Some-outer.outer _ c.in-Some.is c.in-Some-outer.is c.requires.inner c.if-inner-outer.true refl

pub returns-clause-found : goal.returns-clause-found
returns-clause-found c = looked_arrays c.args.table.now c.args.bound c.args.inner c.args.outer c.in-Some.inner c.in-Some-outer.outer c.find_place.result c.in-Some.is c.in-Some-outer.is c.requires.inner (omega (arith, c.if-inner-outer.false)) c.find_place.ensures.found
