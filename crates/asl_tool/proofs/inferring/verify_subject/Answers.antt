use Rattle.asl_machine_table.specs.Table.{scope_in}
use Rattle.asl_records.specs.Numbered.{numbered_view}
use Rattle.asl_records.specs.View.{declared_view}
use Rattle.asl_tool.proofs.InferredOnce.{accepted_on_written}
use Rattle.asl_tool.proofs.inferring.verify_subject.Goals as goal

pub returns-in-Err-Finding-clause-otherwise : goal.returns-in-Err-Finding-clause-otherwise
returns-in-Err-Finding-clause-otherwise c = λ definition_text declared_text read.
    let err = c.in-Err-Finding in
    let definition = scope_in c.args.subject.now.machine in
    record {
      machine = definition;
      shapes = declared_view c.args.subject.now.declared;
      as_machine = read.machine;
      as_declared = read.as_declared;
      told = rw err.field-0-is at err.ensures.told;
      finding = rw err.field-0-is at err.ensures.refused;
    }

pub returns-in-Ok-clause-yes : goal.returns-in-Ok-clause-yes
returns-in-Ok-clause-yes c = λ definition_text declared_text read.
    let definition = scope_in c.args.subject.now.machine in
    record {
      machine = definition;
      shapes = declared_view c.args.subject.now.declared;
      certified = numbered_view c.in-Ok.field-0;
      as_machine = read.machine;
      as_declared = read.as_declared;
      inferred = c.in-Ok.ensures.inferred;
      right = c.in-Ok.ensures.no_rule_broken;
    }

pub returns-in-Ok-clause-on_texts : goal.returns-in-Ok-clause-on_texts
returns-in-Ok-clause-on_texts c = λ definition_text declared_text read.
    let definition = scope_in c.args.subject.now.machine in
    accepted_on_written c.args.max_rounds definition_text declared_text definition (declared_view c.args.subject.now.declared) (numbered_view c.in-Ok.field-0)
    c.texts_have_one_meaning.ensures.machine c.texts_have_one_meaning.ensures.declared read.machine read.as_declared c.in-Ok.ensures.inferred
    c.in-Ok.ensures.no_rule_broken

pub returns-in-Ok-clause-headline : goal.returns-in-Ok-clause-headline
returns-in-Ok-clause-headline c = λ definition_text declared_text read.
    let shapes = declared_view c.args.subject.now.declared in
    let definition = scope_in c.args.subject.now.machine in
    let certified = numbered_view c.in-Ok.field-0 in
    let closed = c.in-Ok.ensures.closed in
    record {
      machine = definition;
      shapes = shapes;
      certified = certified;
      as_machine = read.machine;
      as_declared = read.as_declared;
      inferred = c.in-Ok.ensures.inferred;
      closed = closed;
      tells_no_fault = c.closed_runs_tell_no_fault.ensures shapes certified definition closed;
      as_certified = c.closed_runs_never_fault.ensures shapes certified definition closed;
    }
