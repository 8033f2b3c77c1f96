use Rattle.std.proofs.Common.{◌∙◌}
use Rattle.asl_states.specs.Machine.{kind_view, settings_view}
use Rattle.asl_tree.specs.View.{view}
use Rattle.asl_cases.specs.Coverage.{flags_view}
use Rattle.asl_cases.proofs.Noted.{entered_more}
use Rattle.asl_cases.proofs.covered.Covered.enter.Goals as goal

pub returns : goal.returns
returns c = λ taken n empty is.
    let state = c.args.state.now in
    c.leave.ensures
    ∙ entered_more taken (settings_view state.settings) (kind_view state.kind) n (view c.args.raw.now) c.taken_at.result (flags_view c.args.self.now) is (λ i. c.taken_at.ensures.rule i n empty) (c.taken_at.ensures.default n empty)
