use Rattle.std.proofs.Common.{[], ◌∷◌, IfNone, IfSome, map, sym, ap, ◌∙◌, subst}
use Rattle.std.proofs.lemmas.Result.{IfOk-weaker}
use Rattle.asl_model.specs.Numbering.{table_of}
use Rattle.asl_machine_table.specs.Table.{scope_in, table_view}
use Rattle.asl_records.specs.Numbered.{numbered_view}
use Rattle.asl_records.specs.View.{declared_view}
use Rattle.asl_check.specs.View.{finding_view}
use Rattle.asl_infer.specs.Lenient.{IsInferredLeniently, NeverSettlesLeniently}
use Rattle.asl_problems.specs.Told.{told_by}
use Rattle.asl_lint.proofs.Broken.{leniently_by, unbroken_by, unsettled_by}
use Rattle.asl_lint.proofs.Refusals.{none_there, some_there}
use Rattle.asl_lint.proofs.inferring.judge_leniently.Goals as goal

pub returns-in_default-clause-told : goal.returns-in_default-clause-told
returns-in_default-clause-told c =
    IfOk-weaker c.alone.result _ _ (λ judged told.
    let m = scope_in c.args.machine.now in
    let shapes = declared_view c.args.declared.now in
    let never = subst (λ o. IfNone o (NeverSettlesLeniently (table_of m) shapes c.args.max_rounds)) c.in_default.is c.in_ok-certificate.ensures.never_settles in
    unsettled_by c.args.max_rounds m shapes (finding_view c.args.finding) (map told_by judged.problems.items) never (told ∙ ap (λ t. t ∷ []) c.finding.ensures))
    c.alone.ensures.told

pub returns-then-is_empty-clause-told : goal.returns-then-is_empty-clause-told
returns-then-is_empty-clause-told c =
    IfOk-weaker c.alone-then-is_empty.result _ _ (λ judged told.
    let m = scope_in c.args.machine.now in
    let shapes = declared_view c.args.declared.now in
    let problems = c.in_ok-problems.problems in
    let inferred = subst (λ o. IfSome o (λ certificate. IsInferredLeniently (table_of m) shapes c.args.max_rounds (numbered_view certificate))) c.in-Some.is c.in_ok-certificate.ensures.inferred in
    let none = none_there problems.items _ problems.ok.0 (sym c.is_empty.ensures ∙ c.if-is_empty.true) in
    unbroken_by (table_view c.args.machine.now) m shapes (numbered_view c.in-Some.certificate) c.is_shown.ensures.shown.table c.args.max_rounds (finding_view c.args.finding) (map told_by judged.problems.items)
    inferred (sym (ap (map told_by) none) ∙ c.in_ok-problems.ensures.told) (told ∙ ap (λ t. t ∷ []) c.finding-then-is_empty.ensures))
    c.alone-then-is_empty.ensures.told

pub returns-clause-told : goal.returns-clause-told
returns-clause-told c =
    let m = scope_in c.args.machine.now in
    let shapes = declared_view c.args.declared.now in
    let problems = c.in_ok-problems.problems in
    let inferred = subst (λ o. IfSome o (λ certificate. IsInferredLeniently (table_of m) shapes c.args.max_rounds (numbered_view certificate))) c.in-Some.is c.in_ok-certificate.ensures.inferred in
    leniently_by (table_view c.args.machine.now) m shapes (numbered_view c.in-Some.certificate) c.is_shown.ensures.shown.table c.args.max_rounds (finding_view c.args.finding) problems.items
    inferred c.in_ok-problems.ensures.told (some_there problems.items _ problems.ok.0 (sym c.is_empty.ensures ∙ c.if-is_empty.false))
