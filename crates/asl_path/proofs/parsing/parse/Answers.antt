use Rattle.std.proofs.Common.{◌≡◌, ◌∙◌, Some, option_map, ap, sym, subst, rules}
use Rattle.asl_model.specs.PathSpelling.{cut_segment}
use Rattle.asl_model.proofs.PathReading.{segment_rest}
use Rattle.asl_path.specs.View.{segment_view, segments_view}
use Rattle.asl_path.proofs.Reading.{SoFar, more, have, spelled, only_memory, segments_view-push}
use Rattle.asl_model.proofs.PathReading.{one_path}
use Rattle.asl_path.specs.Refusal.{IsRefused}
use Rattle.asl_path.proofs.parsing.parse.Goals as goal

pub loop-rest-smaller : goal.loop-rest-smaller
loop-rest-smaller c =
    let cut : cut_segment c.loop-rest.rest.now ≡ Some (segment_view c.in-Some-2.segment, c.in-Some-2.behind.now) = sym c.in_ok-segment.ensures.found ∙ ap (option_map (λ x. (segment_view x.0, x.1.now))) c.in-Some-2.is in
    segment_rest c.loop-rest.rest.now (segment_view c.in-Some-2.segment, c.in-Some-2.behind.now) cut

pub loop-rest-preserved : goal.loop-rest-preserved
loop-rest-preserved c =
    let l = c.loop-rest in
    let s = c.in-Some-2 in
    let cut : cut_segment l.rest.now ≡ Some (segment_view s.segment, s.behind.now) = sym c.in_ok-segment.ensures.found ∙ ap (option_map (λ x. (segment_view x.0, x.1.now))) s.is in
    let utf8 = rw s.is at c.in_ok-segment.ensures.utf8 in
    let grown = segments_view-push l.segments.items s.segment ∙ ap segments_view (sym c.in_ok-push.ensures.items) in
    subst (λ found. SoFar c.args.text.now found s.behind.now) grown (more c.args.text.now (segments_view l.segments.items) l.rest.now (segment_view s.segment) s.behind.now l.invariant cut utf8)

pub invariant_of-result : goal.invariant_of-result
invariant_of-result c = have c.args.text.now (segments_view c.loop-rest.segments.items) _ c.loop-rest.invariant

pub returns-in_default-2-clause-every_path : goal.returns-in_default-2-clause-every_path
returns-in_default-2-clause-every_path c = λ p s.
    let refused : IsRefused c.args.text.now c.refusal_at.result = search rules in
    only_memory c.args.text.now p c.refusal_at.result s refused

pub returns-clause-every_path : goal.returns-clause-every_path
returns-clause-every_path c = λ p s.
    let found = segments_view c.loop-rest.segments.items in
    one_path c.args.text.now found p (spelled c.args.text.now found c.loop-rest.rest.now c.loop-rest.invariant (sym c.loop-rest-test.ensures)) s
