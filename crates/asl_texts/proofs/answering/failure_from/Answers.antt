use Rattle.std.proofs.Common.{Some, None, option_map, string_bytes, sym, ap, ◌∙◌}
use Rattle.asl_run.specs.Entries.{answer_view}
use Rattle.asl_tree.specs.View.{view}
use Rattle.asl_texts.proofs.Failures.{failure_of, failing_found, cause_found, no_text, no_cause, told}
use Rattle.asl_texts.proofs.answering.failure_from.Goals as goal
use Rattle.asl_texts.proofs.answering.failure_from.Goals.{in-Some+in_ok-cause-in-Some, in-None}

pub returns-in_err-remove : goal.returns-in_err-remove
returns-in_err-remove c =
    let found = failing_found c.args.tree c.in-Object.fields None c.in-Object.is c.if-not-are_of_failure.ensures c.in_err-remove.ensures.value in
    ap (option_map answer_view) c.from_residual.ensures ∙ sym found

pub returns-in_err-error : goal.returns-in_err-error
returns-in_err-error c =
    let t = c.in_ok-remove.field-0 in
    let found = failing_found c.args.tree c.in-Object.fields (Some t) c.in-Object.is c.if-not-are_of_failure.ensures c.in_ok-remove.ensures.value in
    ap (option_map answer_view) c.from_residual-in_err-error.ensures ∙ sym (found ∙ no_text t _ c.in_err-error.ensures)

pub returns-in_err-cause-in-Some : goal.returns-in_err-cause-in-Some
returns-in_err-cause-in-Some c =
    let t = c.in_ok-remove.field-0 in
    let found = failing_found c.args.tree c.in-Object.fields (Some t) c.in-Object.is c.if-not-are_of_failure.ensures c.in_ok-remove.ensures.value in
    let cause = cause_found c.in-Object.fields c.remove.new.self (Some c.in-Some.cause) c.remove.ensures.updates c.in-Some.ensures.value in
    ap (option_map answer_view) c.from_residual-in_err-cause-in-Some.ensures
    ∙ sym (found ∙ ap (failure_of (Some (view t))) cause ∙ no_cause t (string_bytes c.in_ok-error.error) (Some c.in-Some.cause) c.in_ok-error.ensures c.in_err-cause-in-Some.ensures)

pub returns : goal.returns
returns c =
    let t = c.in_ok-remove.field-0 in
    let found = failing_found c.args.tree c.in-Object.fields (Some t) c.in-Object.is c.if-not-are_of_failure.ensures c.in_ok-remove.ensures.value in
    elim c.match-remove.branch [
      | in-Some+in_ok-cause-in-Some w ↦
          (let cause = cause_found c.in-Object.fields c.remove.new.self (Some w.in-Some.cause) c.remove.ensures.updates w.in-Some.ensures.value in
          sym (found ∙ ap (failure_of (Some (view t))) cause ∙ told t (string_bytes c.in_ok-error.error) (string_bytes c.match-remove.cause) (Some w.in-Some.cause) c.in_ok-error.ensures (ap (λ s. Some (string_bytes s)) w.cause-is ∙ w.in_ok-cause-in-Some.ensures)))
      | in-None w ↦
          (let cause = cause_found c.in-Object.fields c.remove.new.self None c.remove.ensures.updates w.in-None.ensures.value in
          sym (found ∙ ap (failure_of (Some (view t))) cause ∙ told t (string_bytes c.in_ok-error.error) (string_bytes c.match-remove.cause) None c.in_ok-error.ensures (ap (λ s. Some (string_bytes s)) w.cause-is ∙ ap Some w.new-cause.ensures.bytes)))
    ]
