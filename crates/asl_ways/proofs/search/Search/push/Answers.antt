use Rattle.std.proofs.Common.{◌≡◌, ◌∷◌, [], ◌++◌, ◌+◌, Some, length, slice_get, slice_set, sym, ap, ◌∙◌, subst, arith}
use Rattle.std.proofs.lemmas.List.{length_push}
use Rattle.std.proofs.lemmas.Option.{slice_get-get_or}
use Rattle.asl_ways.specs.Noted.{AreNoted}
use Rattle.asl_ways.proofs.Noted.{noted_pushed}
use Rattle.asl_ways.proofs.search.Search.push.Goals as goal

pub invariant_of-self-in-Some : goal.invariant_of-self-in-Some
invariant_of-self-in-Some c =
    let room = c.make_room.new.self in
    let visit = c.args.visit in
    let numbers = c.in-Some.numbers.now in
    let stands : slice_get room.shapes_at.items visit.arrival.state ≡ Some numbers = slice_get-get_or room.shapes_at.items visit.arrival.state numbers c.in_ok-make_room.ensures.room ∙ ap Some (sym c.in-Some.ensures.value) in
    let whole : c.push.new.self.items ≡ room.visits.items ++ visit ∷ [] = c.in_ok-push.ensures.items in
    let many : length c.push.new.self.items ≡ length c.args.self.now.visits.items + 1 = ap length whole ∙ length_push room.visits.items visit ∙ ap (λ v. length v.items + 1) c.in_ok-make_room.ensures.visits in
    let most = c.in_ok-make_room.ensures.most in
    let free = c.requires.room in
    record {
      noted = subst (λ vs. AreNoted vs (slice_set room.shapes_at.items visit.arrival.state c.note.new.numbers)) (sym whole) (noted_pushed room.visits.items visit room.shapes_at.items numbers c.note.new.numbers room.noted stands c.note.ensures);
      few = omega (arith, many, most, free);
    }
