use Rattle.std.proofs.Common.{◌≡◌, false, Some, rules, sym, subst}
use Rattle.serde_json.specs.Find.{get}
use Rattle.serde_json.specs.View.{view}
use Rattle.asl_fields.specs.Reading.{template_wanted}
use Rattle.asl_fields.specs.Verdicts.{IsAmong, place_view}
use Rattle.asl_fields.specs.View.{def_fault_view}
use Rattle.asl_fields.proofs.Objects.{told_given, template_same}
use Rattle.asl_fields.proofs.fields.template_of.Goals as goal

pub returns-in-Err-clause-told : goal.returns-in-Err-clause-told
returns-in-Err-clause-told c =
    let there : get c.args.field.now (view c.args.object.now) ≡ Some (view c.in-Some.value.now) = search rules in
    told_given (place_view c.args.place.now) c.args.field.now false (template_wanted c.args.item) (view c.args.object.now) (view c.in-Some.value.now) c.complaint.result there (c.complaint.ensures.among _ (subst (λ faults. IsAmong faults (def_fault_view c.in-Err.fault)) (sym (template_same c.args.item (view c.in-Some.value.now))) c.in-Err.ensures.faults.holds))
