use Rattle.std.proofs.Common.{◌≡◌, Err, rules}
use Rattle.asl_states.specs.Machine.{settings_view, kind_view}
use Rattle.asl_model.specs.ShapeFlow as model
use Rattle.asl_shape.specs.View.{view}
use Rattle.asl_numbered.specs.Laws.{kept_within}
use Rattle.asl_flow.proofs.Leavings.{reached_through, stopped_through}
use Rattle.asl_flow.proofs.leaving.leave.Goals as goal

pub leave_at-requires-clause-raw : goal.leave_at-requires-clause-raw
leave_at-requires-clause-raw c = kept_within c.add.new.self c.add-2.new.self c.in_ok-raw.raw c.add-2.ensures.keeps (c.in_ok-raw.ensures.number.within)

pub leave_at-requires-clause-work : goal.leave_at-requires-clause-work
leave_at-requires-clause-work c = c.in_ok-work.ensures.number.within

pub returns-in_err-output-clause-refused : goal.returns-in_err-output-clause-refused
returns-in_err-output-clause-refused c =
    let settings = settings_view c.args.state.now.settings in
    let kind = kind_view c.args.state.now.kind in
    let told : c.from_residual-in_err-output.result ≡ Err c.in_err-output.field-0.0 = search rules in
    rw told (stopped_through c.add.new.self c.add-2.new.self (model.leave settings kind) (view c.args.raw.now) (view c.args.work.now) c.in_ok-raw.raw c.in_ok-work.work c.in_ok-raw.ensures.number c.add-2.ensures.keeps c.in_ok-work.ensures.number c.in_err-output.field-0.0 c.in_err-output.ensures.refused)

pub expand-requires : goal.expand-requires
expand-requires c = record { number = c.in_ok-output.ensures.number.within }

pub returns-clause-as_defined : goal.returns-clause-as_defined
returns-clause-as_defined c =
    let settings = settings_view c.args.state.now.settings in
    let kind = kind_view c.args.state.now.kind in
    reached_through c.add.new.self c.add-2.new.self (model.leave settings kind) (view c.args.raw.now) (view c.args.work.now) c.in_ok-raw.raw c.in_ok-work.work c.in_ok-raw.ensures.number c.add-2.ensures.keeps c.in_ok-work.ensures.number c.leave_at.new.shapes c.in_ok-output.output _ c.in_ok-output.ensures.as_defined c.in_ok-expand.ensures.shape

pub returns-clause-result_leaves : goal.returns-clause-result_leaves
returns-clause-result_leaves c =
    let settings = settings_view c.args.state.now.settings in
    let kind = kind_view c.args.state.now.kind in
    let is = reached_through c.add.new.self c.add-2.new.self (model.leave settings kind) (view c.args.raw.now) (view c.args.work.now) c.in_ok-raw.raw c.in_ok-work.work c.in_ok-raw.ensures.number c.add-2.ensures.keeps c.in_ok-work.ensures.number c.leave_at.new.shapes c.in_ok-output.output _ c.in_ok-output.ensures.as_defined c.in_ok-expand.ensures.shape in
    λ by. c.leave_means_an_output.ensures.result settings kind (view c.args.raw.now) (view c.args.work.now) (view c.in_ok-expand.field-0) by is

pub returns-clause-input_leaves : goal.returns-clause-input_leaves
returns-clause-input_leaves c =
    let settings = settings_view c.args.state.now.settings in
    let kind = kind_view c.args.state.now.kind in
    let is = reached_through c.add.new.self c.add-2.new.self (model.leave settings kind) (view c.args.raw.now) (view c.args.work.now) c.in_ok-raw.raw c.in_ok-work.work c.in_ok-raw.ensures.number c.add-2.ensures.keeps c.in_ok-work.ensures.number c.leave_at.new.shapes c.in_ok-output.output _ c.in_ok-output.ensures.as_defined c.in_ok-expand.ensures.shape in
    λ by. c.leave_means_an_output.ensures.input settings kind (view c.args.raw.now) (view c.args.work.now) (view c.in_ok-expand.field-0) by is
