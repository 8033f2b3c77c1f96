use Rattle.std.proofs.Common.{ap}
use Rattle.std.proofs.lemmas.Result.{on_ok_weaker}
use Rattle.asl_numbered.specs.Expansion.{shape_at}
use Rattle.asl_numbered.specs.Laws.{keeps_same}
use Rattle.asl_ways.specs.Coming.{leaves_from}
use Rattle.asl_ways.specs.Given.{given_in}
use Rattle.asl_ways.proofs.Added.{adds_none, adds_same}
use Rattle.asl_ways.proofs.leaving.Walker.push_leaving.Goals as goal

pub push_row-requires-clause-entry : goal.push_row-requires-clause-entry
push_row-requires-clause-entry c = c.in-Some.ensures.below _ c.requires.states

pub returns-in-Some-clause-adds : goal.returns-in-Some-clause-adds
returns-in-Some-clause-adds c =
    let table = c.args.shapes.now in
    let leaving = leaves_from (given_in table c.args.self.now) c.args.number (shape_at table c.args.input) in
    on_ok_weaker c.push_row.result (adds_same _ _ _ _ _ (ap leaving (c.in-Some.ensures.row table))) c.push_row.ensures.adds

pub returns-in-None-clause-adds : goal.returns-in-None-clause-adds
returns-in-None-clause-adds c =
    let table = c.args.shapes.now in
    let leaving = leaves_from (given_in table c.args.self.now) c.args.number (shape_at table c.args.input) in
    adds_same _ _ _ _ _ (ap leaving (c.in-None.ensures.row table)) (adds_none table c.args.arrivals.now.items)

pub returns-in-None-clause-keeps : goal.returns-in-None-clause-keeps
returns-in-None-clause-keeps c = keeps_same _
