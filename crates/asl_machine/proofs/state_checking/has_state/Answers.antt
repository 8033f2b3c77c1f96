use Rattle.std.proofs.Common.{◌≡◌, is_some, Some, sym, ap, ◌∙◌, codes, rules}
use Rattle.serde_json.specs.Find.{get}
use Rattle.serde_json.specs.View.{view}
use Rattle.asl_model.specs.ShapeSpelling.{is_among}
use Rattle.asl_machine.proofs.Lookups.{is_there, state_names_at}
use Rattle.asl_machine.proofs.state_checking.has_state.Goals as goal

pub returns-in-Some : goal.returns-in-Some
returns-in-Some c =
    let name = c.args.name.now in
    let states = view c.in-Some.states.now in
    let there : c.is_some.result ≡ is_some (get name states) = search rules in
    let found : get (codes "States") (view c.args.scope.now) ≡ Some states = search rules in
    there ∙ is_there name states ∙ ap (is_among name) (sym (state_names_at (view c.args.scope.now) states found))
