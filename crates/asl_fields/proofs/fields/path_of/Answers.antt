use Rattle.std.proofs.Common.{◌≡◌, false, Some, rules}
use Rattle.serde_json.specs.Find.{get}
use Rattle.serde_json.specs.View.{view}
use Rattle.asl_model.specs.DefinitionTable as model
use Rattle.asl_fields.specs.Verdicts.{place_view}
use Rattle.asl_fields.proofs.Objects.{told_given}
use Rattle.asl_fields.proofs.fields.path_of.Goals as goal

pub returns-in-Err-clause-told : goal.returns-in-Err-clause-told
returns-in-Err-clause-told c =
    let there : get c.args.field.now (view c.args.object.now) ≡ Some (view c.in-Some.value.now) = search rules in
    told_given (place_view c.args.place.now) c.args.field.now false model.PathValue (view c.args.object.now) (view c.in-Some.value.now) c.complaint.result there (c.complaint.ensures.among _ c.in-Err.ensures.faults.holds)
