use Rattle.std.proofs.lemmas.Result.{on_ok_weaker}
use Rattle.asl_numbered.specs.Laws.{keeps_trans, kept_within}
use Rattle.asl_state_edges.proofs.Adding.{adds_same, adds_then}
use Rattle.asl_state_edges.proofs.Kept.{entry_within}
use Rattle.asl_state_edges.proofs.KeptSteps.{catchers_kept, settled_kept}
use Rattle.asl_state_edges.proofs.walking.Walk.walk_parts.Goals as goal

pub walk_settled-requires-clause-entry : goal.walk_settled-requires-clause-entry
walk_settled-requires-clause-entry c = entry_within _ _ _ c.in_ok-walk_input.ensures.keeps c.requires.entry

pub walk_settled-requires-clause-gives : goal.walk_settled-requires-clause-gives
walk_settled-requires-clause-gives c = kept_within _ _ _ c.in_ok-walk_input.ensures.keeps c.requires.gives

pub walk_catchers-requires : goal.walk_catchers-requires
walk_catchers-requires c = record { input = kept_within _ _ _ (keeps_trans _ _ _ c.in_ok-walk_input.ensures.keeps c.in_ok-walk_settled.ensures.keeps) c.requires.entry.input }

pub returns-clause-adds : goal.returns-clause-adds
returns-clause-adds c =
    let walk = c.args.self.now in
    let a = c.args.shapes.now in
    let first = c.in_ok-walk_input.ensures in
    let second = c.in_ok-walk_settled.ensures in
    let third = c.walk_catchers.ensures in
    let settled = settled_kept a c.walk_input.new.shapes walk first.keeps c.args.gives c.requires.entry c.requires.gives in
    let catchers = catchers_kept a c.walk_settled.new.shapes walk (keeps_trans _ _ _ first.keeps second.keeps) walk.state.now.settings.catchers.items c.requires.entry.input in
    on_ok_weaker _ (λ adds. adds_then _ _ _ _ _ _ _ (keeps_trans _ _ _ second.keeps third.keeps) first.adds
    (adds_then _ _ _ _ _ _ _ third.keeps (adds_same _ _ _ _ _ settled second.adds) (adds_same _ _ _ _ _ catchers adds))) (rw c.deref.ensures.value at third.adds)
