use Rattle.serde_json.specs.View.{view}
use Rattle.asl_model.specs.StandsFor.{members_in}
use Rattle.asl_machine.proofs.Walks.{branches_under_items}
use Rattle.asl_machine.proofs.scopes.build_branch_starts.Goals as goal

pub returns : goal.returns
returns c =
    rw (branches_under_items (members_in (view c.args.state.now)), ← c.elements_of.ensures) c.build_starts.ensures
