use Rattle.std.proofs.Common.{◌≡◌, Some, slice_get, refl, subst, sym, ap, ◌∙◌}
use Rattle.std.proofs.lemmas.Option.{slice_get_read}
use Rattle.std.proofs.lemmas.Result.{IfOk-weaker}
use Rattle.asl_ways.specs.Noted.{numbers_in}
use Rattle.asl_ways.proofs.Noted.{noted_new, noted_taken}
use Rattle.asl_ways.proofs.search.Search.was_there.Goals as goal

pub returns-in-Some-clause-there : goal.returns-in-Some-clause-there
returns-in-Some-clause-there c =
    let self = c.args.self.now in
    let arrival = c.args.arrival.now in
    let outer = c.in-Some.outer.now in
    let stands : slice_get self.shapes_at.items arrival.state ≡ Some outer = subst (λ ns. slice_get ns arrival.state ≡ Some outer) c.deref.ensures.value (slice_get_read c.deref.result.now _ arrival.state outer refl c.in-Some.ensures.lookup.3.0 c.in-Some.ensures.lookup.1) in
    IfOk-weaker c.is_inside_one.result _ _ (λ there inside holds. noted_taken c.args.shapes.now self.visits.items self.shapes_at.items arrival c.as_slice.result.now self.noted (ap numbers_in stands ∙ sym c.as_slice.ensures.value) (inside holds)) c.is_inside_one.ensures.inside

pub returns-in-Some-clause-new : goal.returns-in-Some-clause-new
returns-in-Some-clause-new c =
    let self = c.args.self.now in
    let arrival = c.args.arrival.now in
    let outer = c.in-Some.outer.now in
    let stands : slice_get self.shapes_at.items arrival.state ≡ Some outer = subst (λ ns. slice_get ns arrival.state ≡ Some outer) c.deref.ensures.value (slice_get_read c.deref.result.now _ arrival.state outer refl c.in-Some.ensures.lookup.3.0 c.in-Some.ensures.lookup.1) in
    IfOk-weaker c.is_inside_one.result _ _ (λ there outside differs some. noted_new c.args.shapes.now self.visits.items self.shapes_at.items arrival c.as_slice.result.now self.noted (ap numbers_in stands ∙ sym c.as_slice.ensures.value) (outside differs some)) c.is_inside_one.ensures.outside
