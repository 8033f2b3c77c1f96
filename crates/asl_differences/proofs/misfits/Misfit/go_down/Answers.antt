use Rattle.std.proofs.Common.{refl}
use Rattle.asl_differences.proofs.Places.{place_below}
use Rattle.asl_differences.proofs.misfits.Misfit.go_down.Goals as goal

pub loop-level-preserved : goal.loop-level-preserved
loop-level-preserved c =
    let l = c.loop-level in
    record {
      misfit = c.in-Some.ensures.misfit;
      place = λ tree before. place_below tree l.self _ c.in-Some.part c.in_ok-insert.ensures.items refl c.in-Some.ensures.place (l.invariant.place tree before);
    }
