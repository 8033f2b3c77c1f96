use Rattle.std.proofs.Common.{◌≡◌, length, sym, ap, ◌∙◌, subst}
use Rattle.std.proofs.lemmas.Result.{on_ok_weaker}
use Rattle.asl_state_edges.specs.View.{steps_of, AreStepsBelow}
use Rattle.asl_numbered.specs.Expansion.{shape_at}
use Rattle.asl_numbered.specs.Laws.{keeps_trans}
use Rattle.asl_states.specs.Machine.{kind_view, settings_view}
use Rattle.asl_ways.specs.Coming.{comes_along, walk_with}
use Rattle.asl_ways.specs.Exits.{none_passed}
use Rattle.asl_ways.specs.Given.{given_in, row_view}
use Rattle.asl_ways.proofs.Added.{adds_same}
use Rattle.asl_ways.proofs.Walking.{entered_below, entered_walk}
use Rattle.asl_ways.proofs.leaving.Walker.push_row.Goals as goal

pub edges_of-requires-clause-entry : goal.edges_of-requires-clause-entry
edges_of-requires-clause-entry c =
    entered_below c.args.row.now.entry.now c.args.input c.deref.result c.deref.ensures.value c.args.shapes.now c.number_given.new.shapes c.number_given.ensures.keeps c.requires.entry c.requires.input

pub returns-in_err-steps-clause-keeps : goal.returns-in_err-steps-clause-keeps
returns-in_err-steps-clause-keeps c = keeps_trans _ _ _ c.number_given.ensures.keeps c.edges_of.ensures.keeps

pub returns-clause-adds : goal.returns-clause-adds
returns-clause-adds c =
    let a = c.args.shapes.now in
    let d = c.edges_of.new.shapes in
    let row = c.args.row.now in
    let given = given_in a c.args.self.now in
    let steps = c.deref-2.result.now in
    let below : AreStepsBelow (length d) steps = (subst (AreStepsBelow (length d)) (sym c.deref-2.ensures.value) c.in_ok-steps.ensures.below) in
    let walked : steps_of d steps ≡ walk_with given.declared (shape_at a c.args.input) (row_view a row) =
    entered_walk row.entry.now c.args.input c.deref.result c.deref.ensures.value a c.number_given.new.shapes c.number_given.ensures.keeps c.requires.entry c.requires.input _ _ (settings_view row.state.now.settings) (kind_view row.state.now.kind) _ c.in_ok-gives.ensures.gives (ap (steps_of d) c.deref-2.ensures.value ∙ c.in_ok-steps.ensures.walked) in
    on_ok_weaker c.push_arrivals.result (adds_same d c.args.arrivals.now.items c.push_arrivals.new.arrivals.items _ _ (ap (comes_along given.machine c.args.number none_passed) walked)) (c.push_arrivals.ensures d below)

pub returns-clause-keeps : goal.returns-clause-keeps
returns-clause-keeps c = keeps_trans _ _ _ c.number_given.ensures.keeps c.edges_of.ensures.keeps
