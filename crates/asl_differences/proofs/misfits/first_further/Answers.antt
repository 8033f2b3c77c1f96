use Rattle.std.proofs.Common.{◌+◌, drop, refl}
use Rattle.asl_differences.proofs.Places.{drop_at, element_first}
use Rattle.asl_differences.proofs.misfits.first_further.Goals as goal

pub returns-then-not-has-clause-place : goal.returns-then-not-has-clause-place
returns-then-not-has-clause-place c =
    let es = c.args.elements.now in
    let i = c.loop-index.index in
    let x = c.index-elements-index.result in
    record {
      found = element_first es (drop (i + 1) es) i x (drop_at es es i x refl c.loop-index-test.true c.index-elements-index.is);
    }
