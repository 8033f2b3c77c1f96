use Rattle.std.proofs.Common.{◌≡◌, length, drop, get_or, ◌+◌, ◌∷◌}
use Rattle.std.proofs.lemmas.List.{drop_more}
use Rattle.asl_drafts.specs.Depths.{told_depth_of_elements}
use Rattle.asl_numbered.specs.Expansion.{shapes_at}
use Rattle.asl_numbered.specs.Laws.{below_next}
use Rattle.asl_drafts.proofs.Measured.{depth_at, deeper, greater}
use Rattle.asl_drafts.proofs.depths.deepest.Goals as goal

pub loop-number-preserved : goal.loop-number-preserved
loop-number-preserved c =
    let l = c.loop-number in
    let numbers = c.args.numbers.now in
    let depths = c.args.depths.now in
    let i = l.number-index in
    let n = get_or numbers i 0 in
    let next : drop i numbers ≡ n ∷ drop (i + 1) numbers = drop_more numbers i 0 c.loop-number-test.true in
    let below = below_next (length depths) (drop i numbers) (drop (i + 1) numbers) n next l.invariant.0 in (
      below.1,
      λ table are. rw (c.max-deepest.ensures, greater) (deeper table (drop i numbers) (drop (i + 1) numbers) n l.deepest (get_or depths n 0) (told_depth_of_elements (shapes_at table numbers)) next (depth_at table depths n are below.0) (l.invariant.1 table are)),
    )
