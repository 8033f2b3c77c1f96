use Rattle.std.proofs.Common.{◌≡◌, ◌+◌, ℕ, List, arith, sym, subst}
use Rattle.std.specs.Prelude.{IfOk}
use Rattle.std.proofs.lemmas.Result.{IfOk-weaker}
use Rattle.asl_run.specs.Counting.{IsGoing, IsOpenAt, open_count}
use Rattle.asl_run.specs.Nodes.{shown_at}
use Rattle.asl_run.specs.Running.{Running, run_view, scope_of}
use Rattle.asl_run.proofs.Picked.{found_picked, is_picked, run_goes, some_counted}
use Rattle.asl_run.proofs.driving.picked_place.Goals as goal

pub pick-picked-requires : goal.pick-picked-requires
pick-picked-requires g c =
    let run = c.args.run.now in
    let names = run.machine.names in
    let counted = subst (λ (r : Running). c.open_count-count.result ≡ open_count (shown_at names r.nodes 0)) c.run.view_is (c.open_count-count.ensures names) in
    some_counted (run_view run) c.open_count-count.result counted c.requires.goes_on

pub first_open-requires : goal.first_open-requires
first_open-requires g c =
    let run = c.args.run.now in
    record { goes_on = subst (λ (r : Running). IsGoing r.nodes) (sym c.run.view_is) (run_goes run.machine.names run.nodes c.requires.goes_on) }

pub last_open-requires : goal.last_open-requires
last_open-requires g c =
    let run = c.args.run.now in
    record { goes_on = subst (λ (r : Running). IsGoing r.nodes) (sym c.run.view_is) (run_goes run.machine.names run.nodes c.requires.goes_on) }

pub returns-then-picked-eq0-clause-picked : goal.returns-then-picked-eq0-clause-picked
returns-then-picked-eq0-clause-picked g c =
    let MayPick = g.O.Order.may_pick c.args.order.now in
    let run = c.args.run.now in
    let names = run.machine.names in
    let count = c.open_count-count.result in
    let counted = subst (λ (r : Running). count ≡ open_count (shown_at names r.nodes 0)) c.run.view_is (c.open_count-count.ensures names) in
    let opened = subst (λ (r : Running). IfOk c.first_open.result (λ place. IsOpenAt r.nodes 0 place.items)) c.run.view_is c.first_open.ensures in
    IfOk-weaker c.first_open.result _ _
    (λ place is_open. is_picked MayPick (scope_of run) (run_view run) count 0 place.items c.stands.ensures.stands counted (subst (λ n. MayPick count n) c.if-picked-eq0.true c.pick-picked.ensures.picked) (is_open.at names)) opened

pub returns-then-picked-count-clause-picked : goal.returns-then-picked-count-clause-picked
returns-then-picked-count-clause-picked g c =
    let MayPick = g.O.Order.may_pick c.args.order.now in
    let run = c.args.run.now in
    let names = run.machine.names in
    let count = c.open_count-count.result in
    let picked = c.pick-picked.result in
    let counted = subst (λ (r : Running). count ≡ open_count (shown_at names r.nodes 0)) c.run.view_is (c.open_count-count.ensures names) in
    let opened = subst (λ (r : Running). IfOk c.last_open.result (λ place. (names : List (List ℕ)) (last : ℕ) → last + 1 ≡ open_count (shown_at names r.nodes 0) → IsOpenAt r.nodes last place.items)) c.run.view_is c.last_open.ensures in
    let below = c.pick-picked.ensures.below in
    let last = c.if-picked-count.true in
    IfOk-weaker c.last_open.result _ _
    (λ place is_open. is_picked MayPick (scope_of run) (run_view run) count picked place.items c.stands.ensures.stands counted c.pick-picked.ensures.picked ((is_open names picked (omega (arith, counted, below, last))).at names)) opened

pub returns-clause-picked : goal.returns-clause-picked
returns-clause-picked g c =
    let MayPick = g.O.Order.may_pick c.args.order.now in
    let run = c.args.run.now in
    let names = run.machine.names in
    let count = c.open_count-count.result in
    let counted = subst (λ (r : Running). count ≡ open_count (shown_at names r.nodes 0)) c.run.view_is (c.open_count-count.ensures names) in
    found_picked MayPick (scope_of run) (run_view run) count c.pick-picked.result c.in_ok-places.places.items c.swap_remove-place.result c.stands.ensures.stands counted c.pick-picked.ensures.picked
    (c.in_ok-places.ensures names) c.pick-picked.ensures.below c.swap_remove-place.ensures.value
