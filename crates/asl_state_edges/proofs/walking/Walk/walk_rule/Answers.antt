use Rattle.std.proofs.Common.{codes, refl}
use Rattle.std.proofs.lemmas.Result.{on_ok_weaker}
use Rattle.asl_states.specs.Machine.{target_name}
use Rattle.asl_model.specs.Edges.{walk_rule}
use Rattle.asl_numbered.specs.Laws.{kept_within}
use Rattle.asl_state_edges.specs.Steps.{settings_of, kind_of, input_of}
use Rattle.asl_state_edges.proofs.Adding.{adds_same}
use Rattle.asl_state_edges.proofs.Choices.{let_through}
use Rattle.asl_state_edges.proofs.Flows.{found_missing, found_walked}
use Rattle.asl_state_edges.proofs.walking.Walk.walk_rule.Goals as goal

pub walk_chosen-requires-clause-input : goal.walk_chosen-requires-clause-input
walk_chosen-requires-clause-input c = kept_within _ _ _ c.in_ok-shape.ensures.keeps c.requires.input

pub returns-in-Ok-clause-adds : goal.returns-in-Ok-clause-adds
returns-in-Ok-clause-adds c =
    let a = c.args.shapes.now in
    let walk = c.args.self.now in
    let rule = c.args.rule.now in
    let found = c.in_ok-shape in
    let same = let_through a c.let_through_at.new.shapes walk rule c.in-Ok.shape found.ensures.keeps c.requires.input in
    let go_on = walk_rule (settings_of walk) (kind_of walk) (input_of a walk) (target_name rule.next) in
    on_ok_weaker _ (λ adds. found_walked _ _ found.field-0 found.ensures.as_defined found.ensures.within _ _ _ go_on c.in-Ok.shape c.in-Ok.is (adds_same _ _ _ _ _ same adds)) c.walk_chosen.ensures.adds

pub returns-in-Err-clause-adds : goal.returns-in-Err-clause-adds
returns-in-Err-clause-adds c =
    let walk = c.args.self.now in
    let found = c.in_ok-shape in
    let go_on = walk_rule (settings_of walk) (kind_of walk) (input_of c.args.shapes.now walk) (target_name c.args.rule.now.next) in
    on_ok_weaker _ (found_missing _ _ found.field-0 found.ensures.as_defined found.ensures.within _ _ (codes "Choices") go_on c.in-Err.path (λ d. refl) c.in-Err.is) c.push_missing.ensures
