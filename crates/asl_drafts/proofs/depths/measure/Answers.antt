use Rattle.std.proofs.Common.{◌≡◌, ◌<◌, ◌+◌, length, sym, ap, ◌∙◌, arith}
use Rattle.std.proofs.lemmas.List.{length_push}
use Rattle.asl_numbered.specs.Expansion.{shape_at}
use Rattle.asl_drafts.specs.Depths.{told_depth}
use Rattle.asl_drafts.proofs.Measured.{depth_added}
use Rattle.asl_drafts.proofs.depths.measure.Goals as goal

pub loop-number-preserved : goal.loop-number-preserved
loop-number-preserved c =
    let l = c.loop-number in
    let table = c.args.shapes.now in
    let depths = l.depths.items in
    let d = c.depth_from-depth.result in
    let here : l.number ≡ length depths = l.invariant.1 in
    let within : length depths < length table = omega arith in
    let deep : d ≡ told_depth (shape_at table (length depths)) = c.depth_from-depth.ensures ∙ ap (λ n. told_depth (shape_at table n)) here in (
      depth_added table depths c.push.new.self.items d l.invariant.0 within c.in_ok-push.ensures.items deep,
      ap (λ n. n + 1) here ∙ sym (ap length c.in_ok-push.ensures.items ∙ length_push depths d),
    )
