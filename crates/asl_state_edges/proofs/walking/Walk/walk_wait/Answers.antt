use Rattle.std.proofs.lemmas.Result.{on_ok_weaker}
use Rattle.asl_numbered.specs.Laws.{kept_within}
use Rattle.asl_state_edges.proofs.Adding.{adds_same, adds_then}
use Rattle.asl_state_edges.proofs.KeptSteps.{result_kept}
use Rattle.asl_state_edges.proofs.walking.Walk.walk_wait.Goals as goal

pub walk_result-requires-clause-input : goal.walk_result-requires-clause-input
walk_result-requires-clause-input c = kept_within _ _ _ c.in_ok-walk_delay.ensures.keeps c.requires.input

pub walk_result-requires-clause-work : goal.walk_result-requires-clause-work
walk_result-requires-clause-work c = kept_within _ _ _ c.in_ok-walk_delay.ensures.keeps c.requires.effective

pub returns-clause-adds : goal.returns-clause-adds
returns-clause-adds c =
    let first = c.in_ok-walk_delay.ensures in
    let same = result_kept c.args.shapes.now c.walk_delay.new.shapes c.args.self.now first.keeps c.args.effective c.requires.input c.requires.effective in
    on_ok_weaker _ (λ adds. adds_then _ _ _ _ _ _ _ c.walk_result.ensures.keeps first.adds (adds_same _ _ _ _ _ same adds)) c.walk_result.ensures.adds
