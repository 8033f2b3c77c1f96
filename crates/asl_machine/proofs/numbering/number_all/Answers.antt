use Rattle.std.proofs.Common.{◌≡◌, [], ◌∷◌, ◌++◌, map, sym, ap, ◌∙◌, subst, append_assoc}
use Rattle.asl_model.specs.StandsFor.{duplicate_complaints}
use Rattle.asl_fields.specs.Verdicts.{IsAmong}
use Rattle.asl_machine.specs.Numbered.{names_of_all}
use Rattle.asl_machine.specs.Built.{built_view}
use Rattle.asl_fields.specs.View.{refusal_view}
use Rattle.asl_machine.proofs.Checks.{handed_error}
use Rattle.asl_machine.proofs.numbering.number_all.Goals as goal

pub loop-row-preserved : goal.loop-row-preserved
loop-row-preserved c =
    let done = c.loop-row.invariant.0 in
    let row = c.in-Some.row in
    let left = map built_view c.next.new.self.rest.items in
    let all : map built_view c.args.rows.items ≡ done ++ built_view row ∷ left = c.loop-row.invariant.1 ∙ ap (λ rows. done ++ map built_view rows) c.in-Some.ensures.steps.0 in
    (done ++ built_view row ∷ [], all ∙ sym (append_assoc done (built_view row ∷ []) left), c.in_ok-add.ensures.added done c.loop-row.invariant.2)

pub returns-in_err-add-clause-refused : goal.returns-in_err-add-clause-refused
returns-in_err-add-clause-refused c =
    let done = c.loop-row.invariant.0 in
    let left = map built_view c.next.new.self.rest.items in
    let all : map built_view c.args.rows.items ≡ done ++ built_view c.in-Some.row ∷ left = c.loop-row.invariant.1 ∙ ap (λ rows. done ++ map built_view rows) c.in-Some.ensures.steps.0 in
    handed_error c.from_residual.result c.in_err-add.field-0.0 (λ e. IsAmong (duplicate_complaints (names_of_all (map built_view c.args.rows.items))) (refusal_view e)) c.from_residual.ensures.1 (subst (λ states. IsAmong (duplicate_complaints (names_of_all states)) (refusal_view c.in_err-add.field-0.0)) (sym all) (c.in_err-add.ensures.refused done left c.loop-row.invariant.2))
