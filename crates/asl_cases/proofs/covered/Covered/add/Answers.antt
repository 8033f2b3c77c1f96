use Rattle.std.proofs.Common.{◌≡◌, ◌||◌, sym, ap, ◌∙◌, rules}
use Rattle.asl_model.specs.Run as model
use Rattle.asl_states.specs.Machine.{kind_view, settings_view, state_view}
use Rattle.asl_tree.specs.View.{view}
use Rattle.asl_run.specs.Entries.{entry_view}
use Rattle.asl_cases.specs.Coverage.{flags_of, flags_view, takes}
use Rattle.asl_cases.proofs.Noted.{caught_more, retried_more}
use Rattle.asl_cases.proofs.covered.Covered.add.Goals as goal

pub returns-in-Enter : goal.returns-in-Enter
returns-in-Enter c = λ taken empty is.
    let shown = state_view c.args.state.now in
    let n = c.in-Enter.state.now in
    let same : c.deref.result.now ≡ c.in-Enter.input.value = search rules in
    c.enter.ensures taken n empty is
    ∙ (ap (λ raw. flags_of (λ part. taken part || takes shown (model.Entered n (view raw)) part) shown) same
    ∙ ap (λ e. flags_of (λ part. taken part || takes shown (entry_view e).1 part) shown) (sym c.in-Enter.is))

pub returns-in-Retried : goal.returns-in-Retried
returns-in-Retried c = λ taken empty is.
    let state = c.args.state.now in
    let shown = state_view state in
    let before = flags_view c.args.self.now in
    ap (λ flags. record before { retriers = flags }) c.mark.ensures
    ∙ (retried_more taken (settings_view state.settings) (kind_view state.kind) c.in-Retried.state.now c.in-Retried.retrier before is
    ∙ ap (λ e. flags_of (λ part. taken part || takes shown (entry_view e).1 part) shown) (sym c.in-Retried.is))

pub returns-in-Caught : goal.returns-in-Caught
returns-in-Caught c = λ taken empty is.
    let state = c.args.state.now in
    let shown = state_view state in
    let before = flags_view c.args.self.now in
    ap (λ flags. record before { catchers = flags }) c.mark-in-Caught.ensures
    ∙ (caught_more taken (settings_view state.settings) (kind_view state.kind) c.in-Caught.state.now c.in-Caught.catcher c.in-Caught.next.now before is
    ∙ ap (λ e. flags_of (λ part. taken part || takes shown (entry_view e).1 part) shown) (sym c.in-Caught.is))
