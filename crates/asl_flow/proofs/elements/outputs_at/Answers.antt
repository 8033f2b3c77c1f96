use Rattle.std.proofs.Common.{◌≡◌, ap, ◌∙◌, length, replicate, arith}
use Rattle.asl_numbered.specs.Laws.{its_number, kept_shape, kept_within}
use Rattle.asl_flow.proofs.ElementNumbers.{outputs_refer, outputs_shape}
use Rattle.asl_flow.proofs.elements.outputs_at.Goals as goal

pub put_node-requires-clause-refers : goal.put_node-requires-clause-refers
put_node-requires-clause-refers c =
    let grown = c.further_output.new.shapes in
    let within = kept_within c.args.shapes.now grown c.args.output c.in_ok-rest.ensures.keeps c.requires.output in
    outputs_refer (length grown) c.len.result c.args.output c.in_ok-first.first c.in_ok-rest.rest within
    c.in_ok-rest.ensures.shown.within (c.in_ok-first.ensures.items_if_clones_equal (λ y h. h))

pub returns-clause-number : goal.returns-clause-number
returns-clause-number c =
    let old = c.args.shapes.now in
    let grown = c.further_output.new.shapes in
    let items = c.args.items.now in
    let shows = c.in_ok-number.ensures.shown in
    let many : c.len.result ≡ length items.first.items = omega (arith, c.len.ensures, items.first.ok.0) in
    let each = c.in_ok-first.ensures.items_if_clones_equal (λ y h. h) ∙ ap (λ k. replicate k c.args.output) many in
    let kept = kept_shape old grown c.args.output c.in_ok-rest.ensures.keeps c.requires.output in
    let same = outputs_shape old grown c.args.output items.first.items items.rest
    c.in_ok-first.first c.in_ok-rest.rest each kept c.in_ok-rest.ensures.shown.same in
    its_number c.put_node.new.shapes _ c.in_ok-number.number c.are_distinct.ensures.distinct shows.within
    (shows.same ∙ same)
