use Rattle.std.proofs.lemmas.Result.{err_from_is_err_and}
use Rattle.asl_records.specs.Numbered.{numbered_view}
use Rattle.asl_records.specs.View.{declared_view}
use Rattle.asl_machine_table.specs.Table.{table_view}
use Rattle.asl_drafts.specs.Drafted.{draft_view}
use Rattle.asl_infer.proofs.Inferred.{certificate-ordered, given-infers, given-refuses, names-refuse}
use Rattle.asl_infer.proofs.inferring.settle.Goals as goal

pub returns-in_err-check_tasks-clause-told : goal.returns-in_err-check_tasks-clause-told
returns-in_err-check_tasks-clause-told c =
    let p = err_from_is_err_and c.from_residual-in_err-check_tasks.result c.from_residual-in_err-check_tasks.ensures.1 in
    rw (p.1, p.2) (names-refuse (table_view c.args.machine.now) (declared_view c.args.declared.now) c.args.max_rounds c.in_err-check_tasks.field-0.0 c.in_err-check_tasks.ensures.told)

pub returns-in_err-take_rounds-clause-told : goal.returns-in_err-take_rounds-clause-told
returns-in_err-take_rounds-clause-told c =
    let p = err_from_is_err_and c.from_residual-in_err-take_rounds.result c.from_residual-in_err-take_rounds.ensures.1 in
    rw (p.1, p.2) (given-refuses c.args.machine.now c.args.declared.now _ c.in_ok-given.given c.in_ok-given.ensures.given c.args.max_rounds c.in_err-take_rounds.field-0.0 c.in_ok-check_tasks.ensures.named c.in_err-take_rounds.ensures.told)

pub returns-clause-inferred : goal.returns-clause-inferred
returns-clause-inferred c = given-infers c.args.machine.now c.args.declared.now _ c.in_ok-given.given c.in_ok-given.ensures.given c.args.max_rounds (draft_view c.take_rounds.new.walker.draft) (numbered_view c.in_ok-certificate.certificate) c.in_ok-check_tasks.ensures.named c.in_ok-take_rounds.ensures.settled c.in_ok-certificate.ensures.same

pub returns-clause-ordered : goal.returns-clause-ordered
returns-clause-ordered c = certificate-ordered c.in_ok-certificate.certificate c.are_proper.ensures.proper
