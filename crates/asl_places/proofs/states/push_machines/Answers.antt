use Rattle.std.proofs.lemmas.Result.{on_ok_weaker}
use Rattle.asl_places.proofs.Gathering.{Puts-machines}
use Rattle.asl_places.proofs.states.push_machines.Goals as goal

pub returns-clause-put : goal.returns-clause-put
returns-clause-put c =
    on_ok_weaker c.push_branches.result (λ last j begins.
    Puts-machines c.args.outline.now.0 c.args.state c.args.machines.now.items c.push_processor.new.machines.items c.push_processor-2.new.machines.items c.push_branches.new.machines.items (c.in_ok-push_processor.ensures.put j begins) (c.in_ok-push_processor-2.ensures.put j begins) (last j begins))
    c.push_branches.ensures.put

pub returns-clause-later : goal.returns-clause-later
returns-clause-later c =
    on_ok_weaker c.push_branches.result (λ last before low are. last before low (c.in_ok-push_processor-2.ensures.later before low (c.in_ok-push_processor.ensures.later before low are)))
    c.push_branches.ensures.later
