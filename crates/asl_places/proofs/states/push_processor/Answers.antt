use Rattle.std.proofs.Common.{sym, subst}
use Rattle.asl_places.specs.Definition.{IsProcessor}
use Rattle.asl_places.specs.Gathering.{Puts}
use Rattle.asl_places.proofs.Gathering.{Puts-member, Puts-none}
use Rattle.asl_places.proofs.states.push_processor.Goals as goal

pub returns-in_ok-push-clause-put : goal.returns-in_ok-push-clause-put
returns-in_ok-push-clause-put c j begins =
    let tokens = c.args.outline.now.0 in
    let are = IsProcessor tokens c.args.state c.args.field.now in
    let old = c.args.machines.now.items in
    subst (λ items. Puts old items are) (sym c.in_ok-push.ensures.items) (Puts-member tokens c.args.state c.args.field.now old c.in-Some.machine (c.in-Some.ensures.stands j begins))

pub returns-in_default-clause-put : goal.returns-in_default-clause-put
returns-in_default-clause-put c j begins =
    Puts-none c.args.machines.now.items (IsProcessor c.args.outline.now.0 c.args.state c.args.field.now) (λ s is. c.in_default.ensures.stands j begins is.0 is.1)
