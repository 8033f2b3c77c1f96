use Rattle.std.proofs.Common.{sym, ap, ◌∙◌, subst, ⊎_elim}
use Rattle.asl_model.specs.CallSpelling.{CallFault, Malformed, UnknownFunction, BadPath}
use Rattle.asl_model.specs.CallGrammar.{IsRefusedCall}
use Rattle.asl_model.specs.TemplateSpelling.{unless_call, call_or_null}
use Rattle.asl_model.proofs.CallMeaning.{call_exactly}
use Rattle.asl_intrinsic.specs.Meaning.{IsRefused}
use Rattle.asl_intrinsic.specs.View as calls
use Rattle.asl_template.proofs.Telling.{call_told}
use Rattle.asl_template.proofs.Parts.{view_Call}
use Rattle.asl_template.proofs.reading.read_call.Goals as goal

pub returns-in-Ok-clause-right : goal.returns-in-Ok-clause-right
returns-in-Ok-clause-right c = ap unless_call ((call_exactly c.args.item c.args.text.now (calls.view c.in-Ok.call)).1 c.in-Ok.ensures.call)

pub returns-in-Ok-clause-template : goal.returns-in-Ok-clause-template
returns-in-Ok-clause-template c =
    let is = (call_exactly c.args.item c.args.text.now (calls.view c.in-Ok.call)).1 c.in-Ok.ensures.call in
    view_Call c.in-Ok.call ∙ sym (ap call_or_null is)

pub returns-in-Malformed : goal.returns-in-Malformed
returns-in-Malformed c =
    let told = λ (f : CallFault) (is : IsRefusedCall c.args.item c.args.text.now f). call_told c.args.item c.args.text.now f is in
    let refused = c.in-Err.ensures.refused in
    record {
      right = tt;
      template = tt;
      of_text = λ h. absurd (cc);
      refused = ⊎_elim (λ a. told Malformed (subst (IsRefused c.args.item c.args.text.now) a refused))
          (λ b. ⊎_elim (λ a. told UnknownFunction (subst (IsRefused c.args.item c.args.text.now) a refused)) (λ a. told BadPath (subst (IsRefused c.args.item c.args.text.now) a refused)) b)
          c.in-Malformed.is;
    }
