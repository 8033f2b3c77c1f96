use Rattle.std.proofs.lemmas.Result.{on_ok_weaker}
use Rattle.asl_numbered.specs.Laws.{kept_within}
use Rattle.asl_state_edges.proofs.Adding.{adds_same, adds_then}
use Rattle.asl_state_edges.proofs.KeptSteps.{default_kept}
use Rattle.asl_state_edges.proofs.walking.Walk.walk_choice.Goals as goal

pub walk_default-requires-clause-input : goal.walk_default-requires-clause-input
walk_default-requires-clause-input c = kept_within _ _ _ c.in_ok-walk_rules.ensures.keeps c.requires.input

pub walk_default-requires-clause-effective : goal.walk_default-requires-clause-effective
walk_default-requires-clause-effective c = kept_within _ _ _ c.in_ok-walk_rules.ensures.keeps c.requires.effective

pub returns-clause-adds : goal.returns-clause-adds
returns-clause-adds c =
    let first = c.in_ok-walk_rules.ensures in
    let same = default_kept c.args.shapes.now c.walk_rules.new.shapes c.args.self.now first.keeps c.args.effective c.requires.input c.requires.effective c.args.rules.now c.args.default.now in
    on_ok_weaker _ (λ adds. adds_then _ _ _ _ _ _ _ c.walk_default.ensures.keeps first.adds (adds_same _ _ _ _ _ same adds)) c.walk_default.ensures.adds
