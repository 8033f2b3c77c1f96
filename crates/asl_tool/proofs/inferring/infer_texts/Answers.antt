use Rattle.std.proofs.lemmas.Result.{err_from_is_err_and}
use Rattle.asl_machine_table.specs.Table.{scope_in}
use Rattle.asl_records.specs.Numbered.{numbered_view}
use Rattle.asl_records.specs.View.{declared_view}
use Rattle.asl_tool.proofs.inferring.infer_texts.Goals as goal

pub returns-clause-certificate : goal.returns-clause-certificate
returns-clause-certificate c =
    let subject = c.in_ok-subject.subject in
    let read = c.in_ok-subject.ensures.read in
    let definition = scope_in subject.machine in
    record {
      machine = definition;
      shapes = declared_view subject.declared;
      certified = numbered_view c.in-Ok.certificate;
      read = record { as_machine = read.machine; as_declared = read.as_declared; as_certificate = c.in_ok-text.ensures.reads_back c.in-Ok.ensures.shallow };
      inferred = c.in-Ok.ensures.inferred;
      closed = c.in-Ok.ensures.closed;
      compact = c.in_ok-text.ensures.text;
    }

pub returns-in-Err-Finding-clause-finding : goal.returns-in-Err-Finding-clause-finding
returns-in-Err-Finding-clause-finding c =
    let err = c.in-Err-Finding in
    let subject = c.in_ok-subject.subject in
    let read = c.in_ok-subject.ensures.read in
    let definition = scope_in subject.machine in
    rw err.field-0-is (record {
      machine = definition;
      shapes = declared_view subject.declared;
      as_machine = read.machine;
      as_declared = read.as_declared;
      told = rw err.field-0-is at err.ensures.told;
      finding = rw err.field-0-is at err.ensures.refused;
    })

pub returns-in_err-text-clause-refused : goal.returns-in_err-text-clause-refused
returns-in_err-text-clause-refused c =
    let p = err_from_is_err_and c.from_residual-in_err-text.result c.from_residual-in_err-text.ensures.1 in
    rw (p.1, p.2) tt
