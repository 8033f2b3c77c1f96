use Rattle.std.proofs.lemmas.Result.{on_ok_weaker}
use Rattle.asl_state_edges.proofs.Adding.{adds_same, adds_told}
use Rattle.asl_state_edges.proofs.Choices.{default_chosen, without_default}
use Rattle.asl_state_edges.proofs.walking.Walk.walk_default.Goals as goal

pub returns-in-Some-clause-adds : goal.returns-in-Some-clause-adds
returns-in-Some-clause-adds c =
    let same = default_chosen c.args.shapes.now c.args.self.now c.args.rules.now c.args.default.now c.args.effective c.in-Some.next c.in-Some.is in
    on_ok_weaker _ (adds_same _ _ _ _ _ same) c.walk_chosen.ensures.adds

pub returns-in_ok-settled-in-None-clause-adds : goal.returns-in_ok-settled-in-None-clause-adds
returns-in_ok-settled-in-None-clause-adds c =
    let settled = c.in_ok-settled-in-None in
    let same = without_default c.args.shapes.now c.args.self.now c.args.rules.now c.args.default.now c.args.effective settled.settled c.in-None.is settled.ensures.as_defined in
    on_ok_weaker _ (adds_told _ _ _ _ _ same) c.push_unless.ensures
