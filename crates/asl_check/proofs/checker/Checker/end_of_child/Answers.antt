use Rattle.std.proofs.Common.{◌≡◌, option_map, ap, ◌∙◌, slice_get}
use Rattle.asl_numbered.specs.Expansion.{shape_at}
use Rattle.asl_states.specs.Machine.{kind_view}
use Rattle.asl_check.proofs.Below.{branch_below, entry_below}
use Rattle.asl_check.proofs.LookedUp.{no_end, end_of_branch, end_of_item, got_at}
use Rattle.asl_check.proofs.checker.Checker.end_of_child.Goals as goal

pub returns-in_err-entry-clause-seen : goal.returns-in_err-entry-clause-seen
returns-in_err-entry-clause-seen c = λ table.
    ap (option_map (shape_at table)) c.from_residual.ensures ∙ no_end table c.args.self.now c.args.name.now (kind_view c.args.kind.now) c.args.child c.in_err-entry.ensures.value

pub returns-in-Parallel-clause-within : goal.returns-in-Parallel-clause-within
returns-in-Parallel-clause-within c = λ table within.
    let entry = c.in_ok-entry.entry.now in
    let below = entry_below _ c.args.name.now c.args.self.now.states.now.entries entry c.in_ok-entry.ensures.value within.states in
    let got = got_at c.deref.result.now c.args.child c.get-in-Parallel.result c.get-in-Parallel.ensures.lookup.0 c.get-in-Parallel.ensures.lookup.1 in
    let is : c.copied.result ≡ slice_get entry.branches.items c.args.child = c.copied.ensures ∙ got ∙ ap (λ ns. slice_get ns c.args.child) c.deref.ensures.value in
    rw is (branch_below _ c.args.child entry.branches.items below.branches)

pub returns-in-Parallel-clause-seen : goal.returns-in-Parallel-clause-seen
returns-in-Parallel-clause-seen c = λ table.
    let entry = c.in_ok-entry.entry.now in
    let got = got_at c.deref.result.now c.args.child c.get-in-Parallel.result c.get-in-Parallel.ensures.lookup.0 c.get-in-Parallel.ensures.lookup.1 in
    let is : c.copied.result ≡ slice_get entry.branches.items c.args.child = c.copied.ensures ∙ got ∙ ap (λ ns. slice_get ns c.args.child) c.deref.ensures.value in
    ap (option_map (shape_at table)) is ∙ end_of_branch table c.args.self.now c.args.name.now (kind_view c.args.kind.now) _ c.args.child entry c.in_ok-entry.ensures.value (ap kind_view c.in-Parallel.is)

pub returns-in-Map-clause-within : goal.returns-in-Map-clause-within
returns-in-Map-clause-within c = λ table within.
    (entry_below _ c.args.name.now c.args.self.now.states.now.entries c.in_ok-entry.entry.now c.in_ok-entry.ensures.value within.states).item

pub returns-in-Map-clause-seen : goal.returns-in-Map-clause-seen
returns-in-Map-clause-seen c = λ table.
    end_of_item table c.args.self.now c.args.name.now (kind_view c.args.kind.now) _ _ _ c.args.child c.in_ok-entry.entry.now c.in_ok-entry.ensures.value (ap kind_view c.in-Map.is)
