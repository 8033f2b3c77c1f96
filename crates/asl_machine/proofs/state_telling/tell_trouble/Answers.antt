use Rattle.std.proofs.Common.{ap, codes}
use Rattle.serde_json.specs.View.{view}
use Rattle.asl_model.specs.StandsFor.{catchers_complaints, members_in, place_within, retriers_complaints, state_names}
use Rattle.asl_machine.proofs.Told.{tells_as, tells_then}
use Rattle.asl_machine.proofs.state_telling.tell_trouble.Goals as goal

pub returns : goal.returns
returns c =
    tells_then (tells_as (ap (retriers_complaints (place_within c.args.name.now (codes "Retry"))) c.elements_of.ensures) c.in_ok-tell_retriers.ensures)
    (tells_as (ap (catchers_complaints (place_within c.args.name.now (codes "Catch")) (state_names (members_in (view c.args.scope.now)))) c.elements_of-2.ensures) c.in_ok-tell_catchers.ensures)
