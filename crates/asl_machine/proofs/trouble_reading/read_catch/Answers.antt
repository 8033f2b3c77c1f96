use Rattle.std.proofs.Common.{◌≡◌, codes, map, IfOk, subst}
use Rattle.serde_json.specs.View.{view}
use Rattle.asl_model.specs.StandsFor.{members_in, state_names, place_within, listed, catcher_of, catchers_complaints}
use Rattle.asl_states.specs.Machine.{catcher_view}
use Rattle.asl_fields.specs.Verdicts.{IsVerdict}
use Rattle.asl_machine.proofs.trouble_reading.read_catch.Goals as goal

pub returns-clause-catchers : goal.returns-clause-catchers
returns-clause-catchers c = subst (λ vs. IfOk c.read_catchers.result (λ read. map catcher_view read.items ≡ map catcher_of (listed vs))) c.elements_of.ensures c.read_catchers.ensures.catchers

pub returns-clause-told : goal.returns-clause-told
returns-clause-told c = subst (λ vs. IsVerdict (catchers_complaints (place_within c.args.name.now (codes "Catch")) (state_names (members_in (view c.args.scope.now))) vs) c.read_catchers.result) c.elements_of.ensures c.read_catchers.ensures.told
