use Rattle.std.proofs.Common.{◌≡◌, Some, string_bytes, ap, ◌∙◌, rules}
use Rattle.std.proofs.lemmas.Result.{on_ok_weaker}
use Rattle.asl_states.specs.Machine.{branches_view, kind_view}
use Rattle.asl_model.specs.Machine.{Pass}
use Rattle.asl_model.specs.ShapeFlow.{literal}
use Rattle.asl_numbered.specs.Expansion.{shape_at}
use Rattle.asl_numbered.specs.Laws.{kept_within}
use Rattle.asl_tree.specs.View as trees
use Rattle.asl_state_edges.specs.Entry.{entry_view}
use Rattle.asl_state_edges.specs.Steps.{settings_of, kind_of}
use Rattle.asl_state_edges.proofs.Adding.{adds_same}
use Rattle.asl_state_edges.proofs.KeptSteps.{made_kept}
use Rattle.asl_state_edges.proofs.KindSteps.{answer_steps, ends_steps, literal_steps}
use Rattle.asl_state_edges.proofs.walking.Walk.walk_settled.Goals as goal

pub walk_result-requires-clause-input : goal.walk_result-requires-clause-input
walk_result-requires-clause-input c = kept_within _ _ _ c.in_ok-literal-in-Pass-Some.ensures.keeps c.requires.entry.input

pub walk_result-requires-clause-work : goal.walk_result-requires-clause-work
walk_result-requires-clause-work c = c.in_ok-literal-in-Pass-Some.ensures.number.within

pub returns-in_ok-literal-in-Pass-Some-clause-adds : goal.returns-in_ok-literal-in-Pass-Some-clause-adds
returns-in_ok-literal-in-Pass-Some-clause-adds c =
    let walk = c.args.self.now in
    let a = c.args.shapes.now in
    let table = a in
    let made = c.in_ok-literal-in-Pass-Some in
    let is : kind_of walk ≡ Pass (Some (trees.view c.in-Pass-Some.tree)) = search rules in
    let same = made_kept a c.literal_shape_at.new.shapes walk made.ensures.keeps (literal (trees.view c.in-Pass-Some.tree)) made.literal c.requires.entry.input made.ensures.number
    ∙ literal_steps (settings_of walk) (kind_of walk) (entry_view table walk.entry) (trees.view c.in-Pass-Some.tree) (shape_at table c.args.gives) is in
    on_ok_weaker _ (adds_same _ _ _ _ _ same) c.walk_result.ensures.adds

pub returns-in-Task-clause-adds : goal.returns-in-Task-clause-adds
returns-in-Task-clause-adds c =
    let walk = c.args.self.now in
    let table = c.args.shapes.now in
    on_ok_weaker _ (adds_same _ _ _ _ _ (answer_steps (settings_of walk) (kind_of walk) (entry_view table walk.entry) (string_bytes c.in-Task.resource) (shape_at table c.args.gives) (ap kind_view c.in-Task.is))) c.walk_result-in-Task.ensures.adds

pub walk_result-requires-in-Parallel-clause-input : goal.walk_result-requires-in-Parallel-clause-input
walk_result-requires-in-Parallel-clause-input c = kept_within _ _ _ c.in_ok-ends-in-Parallel.ensures.keeps c.requires.entry.input

pub walk_result-requires-in-Parallel-clause-work : goal.walk_result-requires-in-Parallel-clause-work
walk_result-requires-in-Parallel-clause-work c = c.in_ok-ends-in-Parallel.ensures.number.within

pub returns-in_ok-ends-in-Parallel-clause-adds : goal.returns-in_ok-ends-in-Parallel-clause-adds
returns-in_ok-ends-in-Parallel-clause-adds c =
    let walk = c.args.self.now in
    let a = c.args.shapes.now in
    let table = a in
    let made = c.in_ok-ends-in-Parallel in
    let same = made_kept a c.list_at.new.shapes walk made.ensures.keeps _ made.ends c.requires.entry.input made.ensures.number
    ∙ ends_steps (settings_of walk) (kind_of walk) (entry_view table walk.entry) (branches_view c.in-Parallel.branches.items) (shape_at table c.args.gives) (ap kind_view c.in-Parallel.is) in
    on_ok_weaker _ (adds_same _ _ _ _ _ same) c.walk_result-in-Parallel.ensures.adds
