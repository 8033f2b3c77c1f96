use Rattle.std.proofs.Common.{◌++◌, map, string_bytes, sym, ap, ◌∙◌, arith}
use Rattle.std.proofs.lemmas.Grind.{common_steps}
use Rattle.std.proofs.lemmas.Result.{on_ok_weaker}
use Rattle.asl_numbered.specs.Expansion.{shape_at}
use Rattle.asl_notation.specs.Notation.{noted, noted_below}
use Rattle.asl_notation.proofs.Rows.{places_cut, elements_cut, members_cut}
use Rattle.asl_notation.proofs.noting.+note.Goals as goal

pub push_places-returns-then-left-eq0 : goal.push_places-returns-then-left-eq0
push_places-returns-then-left-eq0 t c =
    let l = c.loop-place in
    let limits = c.args.limits in
    let cut = places_cut (noted limits.depth limits.width) l.left c.args.shapes.now c.args.places.now l.place-index (grind (arith, common_steps)) (grind (arith, common_steps)) in
    on_ok_weaker c.push_if.result (λ e. e ∙ ap (λ parts. map string_bytes l.parts.items ++ parts) (sym cut) ∙ sym l.invariant) c.push_if.ensures

-- below the depth, where there is something that isn't told

pub push_elements-returns-in-None-2 : goal.push_elements-returns-in-None-2
push_elements-returns-in-None-2 t c =
    let lists = c.args.lists in
    let table = c.args.shapes.now in
    let limits = c.args.limits in
    let cut = elements_cut (noted_below limits.depth limits.width) limits.width table lists.first.now (shape_at table lists.rest) (sym c.in-None.ensures.noted) (grind (arith, common_steps)) in
    on_ok_weaker c.push_if-in-None-2.result (λ e. e ∙ ap (λ parts. map string_bytes c.args.parts.now.items ++ parts) (sym cut)) c.push_if-in-None-2.ensures

pub push_members-returns-in-None-2 : goal.push_members-returns-in-None-2
push_members-returns-in-None-2 t c =
    let objects = c.args.objects in
    let table = c.args.shapes.now in
    let limits = c.args.limits in
    let cut = members_cut (noted_below limits.depth limits.width) limits.width table objects.fields.now.entries objects.extra (sym c.in-None.ensures.noted) (grind (arith, common_steps)) in
    on_ok_weaker c.push_if.result (λ e. e ∙ ap (λ parts. map string_bytes c.args.parts.now.items ++ parts) (sym cut)) c.push_if.ensures
