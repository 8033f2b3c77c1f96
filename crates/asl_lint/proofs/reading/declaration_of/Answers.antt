use Rattle.std.proofs.Common.{subst}
use Rattle.asl_records.specs.Refusal.{IsDeclaredRefusal}
use Rattle.asl_lint.proofs.Refusals.{some_stand}
use Rattle.asl_lint.proofs.reading.declaration_of.Goals as goal

pub returns-in-Ok : goal.returns-in-Ok
returns-in-Ok c = λ text reads. record { value = reads.0; reads = reads.1; stands = c.in-Ok.ensures.declared.each reads.0 reads.2 }

pub returns-in-Err-Record : goal.returns-in-Err-Record
returns-in-Err-Record c = λ text reads.
    c.refused_declaration.ensures text reads.0 reads.1 reads.2
    (some_stand reads.0 c.in-Err-Record.refusal (subst (IsDeclaredRefusal reads.0) c.in-Err-Record.field-0-is (c.in-Err-Record.ensures.refused.each reads.0 reads.2)))
