use Rattle.std.proofs.Common.{sym, subst, []}
use Rattle.asl_state_edges.specs.View.{step_view}
use Rattle.asl_machine_table.specs.Table.{table_view}
use Rattle.asl_ways.proofs.Along.{GoesAlong, along_all, along_none, along_then, step_below}
use Rattle.asl_ways.proofs.Passing.{none_within, on_within, IsPassedWithin}
use Rattle.asl_ways.proofs.leaving.push_arrivals.Goals as goal

pub loop-step-init : goal.loop-step-init
loop-step-init c =
    let is = sym c.none-passed.ensures in
    record {
      within = subst (IsPassedWithin 0) is (none_within 0);
      along = λ table below. subst (λ p. GoesAlong table (table_view c.args.machine.now) c.args.number c.args.steps.now c.args.arrivals.now.items p 0 c.args.arrivals.now.items) is (along_none table (table_view c.args.machine.now) c.args.number c.args.steps.now c.args.arrivals.now.items);
    }

pub loop-step-preserved : goal.loop-step-preserved
loop-step-preserved c =
    let l = c.loop-step in
    let step = c.step-item.result in
    record {
      within = subst (IsPassedWithin _) (sym (c.on-passed.ensures [])) (on_within l.step-index l.passed (step_view [] step) l.invariant.within);
      along = λ table below.
          along_then table (table_view c.args.machine.now) c.args.number c.args.steps.now c.args.arrivals.now.items l.passed c.on-passed.result l.step-index l.arrivals.items c.push_if_any.new.arrivals.items step c.arrival_at.result c.loop-step-test.true c.step-item.is (l.invariant.along table below)
          c.in_ok-push_if_any.ensures (c.arrival_at.ensures.seen table) (c.arrival_at.ensures.below _ (step_below _ c.args.steps.now l.step-index step c.loop-step-test.true c.step-item.is below)) (c.on-passed.ensures table);
    }

pub returns : goal.returns
returns c = λ table below.
    let l = c.loop-step in
    along_all table (table_view c.args.machine.now) c.args.number c.args.steps.now c.args.arrivals.now.items l.passed l.step-index l.arrivals.items c.loop-step-test.false (l.invariant.along table below)
