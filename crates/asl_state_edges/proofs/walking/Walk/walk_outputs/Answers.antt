use Rattle.std.proofs.lemmas.Result.{on_ok_weaker}
use Rattle.asl_numbered.specs.Laws.{kept_within}
use Rattle.asl_flow.specs.Elements.{elements_view}
use Rattle.asl_state_edges.proofs.Adding.{adds_none, adds_same}
use Rattle.asl_state_edges.proofs.ItemWalks.{item_within, no_outputs, outputs_made}
use Rattle.asl_state_edges.proofs.walking.Walk.walk_outputs.Goals as goal

pub outputs_at-requires-clause-output : goal.outputs_at-requires-clause-output
outputs_at-requires-clause-output c = item_within c.args.shapes.now c.args.self.now c.in-Some.item c.requires.entry c.in-Some.is

pub walk_result-requires-clause-input : goal.walk_result-requires-clause-input
walk_result-requires-clause-input c = kept_within _ _ _ c.in_ok-outputs-in-Some.ensures.keeps c.requires.entry.input

pub walk_result-requires-clause-work : goal.walk_result-requires-clause-work
walk_result-requires-clause-work c = c.in_ok-outputs-in-Some.ensures.number.within

pub returns-in_ok-outputs-in-Some-clause-adds : goal.returns-in_ok-outputs-in-Some-clause-adds
returns-in_ok-outputs-in-Some-clause-adds c =
    let a = c.args.shapes.now in
    let made = c.in_ok-outputs-in-Some in
    let same = outputs_made a c.outputs_at.new.shapes c.args.self.now c.in-Some.item (elements_view a c.args.elements.now) made.outputs c.in-Some.is c.requires.entry.input made.ensures.keeps made.ensures.number in
    on_ok_weaker _ (adds_same _ _ _ _ _ same) c.walk_result.ensures.adds

pub returns-in-None-clause-adds : goal.returns-in-None-clause-adds
returns-in-None-clause-adds c =
    let table = c.args.shapes.now in
    adds_none _ _ _ (no_outputs table c.args.self.now (elements_view table c.args.elements.now) c.in-None.is)
