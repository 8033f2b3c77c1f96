use Rattle.std.proofs.Common.{codes, arith}
use Rattle.asl_places.specs.Definition.{IsBranch}
use Rattle.asl_places.proofs.Gathering.{Puts-branches, Puts-none}
use Rattle.asl_places.proofs.states.push_branches.Goals as goal

pub returns-in_ok-push_elements : goal.returns-in_ok-push_elements
returns-in_ok-push_elements c = record {
  put = λ j begins.
      let f = c.in-Some.ensures.value j begins in
      Puts-branches c.args.outline.now.0 c.args.state (codes "Branches") c.args.machines.now.items c.push_elements.new.machines.items c.in-Some.branches (c.in-Some.ensures.stands j begins) (c.in_ok-push_elements.ensures.put f.0 f.2);
  later = λ before low are. let behind = c.in-Some.ensures.later in c.in_ok-push_elements.ensures.later before (omega (arith, behind.0)) are;
}

pub returns-in_default-clause-put : goal.returns-in_default-clause-put
returns-in_default-clause-put c j begins =
    Puts-none c.args.machines.now.items (IsBranch c.args.outline.now.0 c.args.state) (λ s is. c.in_default.ensures.stands j begins is.0 is.1)
