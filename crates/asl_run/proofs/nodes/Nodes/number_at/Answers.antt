use Rattle.std.proofs.Common.{ap, ◌∙◌, refl, option_map, arith}
use Rattle.asl_run.proofs.NumbersAlong.{one_number_down, no_number_down, number_at_end}
use Rattle.asl_run.proofs.nodes.Nodes.number_at.Goals as goal

pub loop-number-preserved : goal.loop-number-preserved
loop-number-preserved c =
    let l = c.loop-number in
    record {
      path = one_number_down c.args.self.now c.args.place.now 0 l.here.0 _ l.number-index _ _ l.invariant.path (omega arith) refl c.child.ensures.number (ap (option_map (λ n. n.0)) c.in_ok-here.was);
      within = rw c.in_ok-here.was at c.child.ensures.within;
    }

pub returns-in_err-here-clause-number : goal.returns-in_err-here-clause-number
returns-in_err-here-clause-number c =
    let l = c.loop-number in
    ap (option_map (λ n. n.0)) c.from_residual.ensures
    ∙ no_number_down c.args.self.now c.args.place.now 0 l.here.0 l.number-index _ _ l.invariant.path (omega arith) refl c.child.ensures.number (ap (option_map (λ n. n.0)) c.in_err-here.was)

pub returns-clause-number : goal.returns-clause-number
returns-clause-number c =
    let l = c.loop-number in
    number_at_end c.args.self.now c.args.place.now 0 l.here.0 l.number-index l.invariant.path (omega arith)
