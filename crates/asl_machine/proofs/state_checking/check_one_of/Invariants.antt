use Rattle.std.proofs.Common.{◌≡◌, map, option_map, drop}
use Rattle.serde_json.specs.View.{view}
use Rattle.asl_model.specs.StandsFor.{members_in, given_among, one_of_complaints}
use Rattle.asl_fields.specs.Verdicts.{place_view}
use Rattle.asl_machine.specs.Reading.{one_of_left}
use Rattle.asl_machine.proofs.state_checking.check_one_of.Given as goal

abbrev pub invariant-loop-field : goal.invariant-loop-field
invariant-loop-field l =
    one_of_complaints (place_view l.place) l.first (given_among (map (λ field. field.now) l.fields) (members_in (view l.state)))
    ≡ one_of_left (place_view l.place) l.first (option_map (λ field. field.now) l.last) l.are_several (given_among (map (λ field. field.now) (drop l.field-index l.fields)) (members_in (view l.state)))
