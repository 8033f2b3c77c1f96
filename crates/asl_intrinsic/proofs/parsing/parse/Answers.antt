use Rattle.std.proofs.Common.{◌≡◌, ◌∙◌, Err, IfErr, sym, ap, subst, rules}
use Rattle.asl_model.proofs.CallMeaning.{call_exactly, refusal_exactly}
use Rattle.asl_intrinsic.specs.Meaning.{IsRefused, call_seen, refusal_of_cut, refusal_of_fault}
use Rattle.asl_intrinsic.proofs.Calls.{cut_refused, fault_refused, more_text, whole_text}
use Rattle.asl_intrinsic.proofs.parsing.parse.Goals as goal

pub returns-in_err-call-clause-refused : goal.returns-in_err-call-clause-refused
returns-in_err-call-clause-refused c =
    let refused = cut_refused c.args.item c.args.text.now c.in_err-call.field-0.0 (λ malformed. c.cut_call.ensures.fails (c.in_err-call.was ∙ ap Err malformed)) in
    let is : c.from_residual.result ≡ Err (refusal_of_cut c.in_err-call.field-0.0) = search rules in
    subst (λ r. IfErr r (λ refusal. IsRefused c.args.item c.args.text.now refusal)) (sym is) refused

pub returns-then-not-is_empty-clause-refused : goal.returns-then-not-is_empty-clause-refused
returns-then-not-is_empty-clause-refused c =
    let call = c.in_ok-call.ensures.gives in
    (refusal_exactly c.args.item c.args.text.now _).0 (more_text c.args.item c.args.text.now c.in_ok-call.rest.now call.0 call.1 (sym c.if-not-is_empty.ensures))

pub returns-in_err-call-2-clause-refused : goal.returns-in_err-call-2-clause-refused
returns-in_err-call-2-clause-refused c =
    let call = c.in_ok-call.ensures.gives in
    let refused = fault_refused c.args.item c.args.text.now c.in_err-call-2.field-0.0 (whole_text c.args.item c.args.text.now c.in_ok-call.rest.now call.0 call.1 (sym c.if-not-is_empty.ensures) ∙ call.2 ∙ ap call_seen c.in_err-call-2.was) in
    let is : c.from_residual-in_err-call-2.result ≡ Err (refusal_of_fault c.in_err-call-2.field-0.0) = search rules in
    subst (λ r. IfErr r (λ refusal. IsRefused c.args.item c.args.text.now refusal)) (sym is) refused

pub returns-clause-call : goal.returns-clause-call
returns-clause-call c =
    let call = c.in_ok-call.ensures.gives in
    (call_exactly c.args.item c.args.text.now _).0 (whole_text c.args.item c.args.text.now c.in_ok-call.rest.now call.0 call.1 (sym c.if-not-is_empty.ensures) ∙ call.2 ∙ ap call_seen c.in_ok-call-2.was)
