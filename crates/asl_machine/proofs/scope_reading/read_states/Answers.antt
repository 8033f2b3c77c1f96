use Rattle.std.proofs.Common.{[], refl, Some, Ok, subst}
use Rattle.asl_model.specs.DefinitionTable.{NotObject}
use Rattle.asl_model.specs.StandsFor.{place_of_state}
use Rattle.asl_fields.specs.Verdicts.{IsVerdict, told_unless}
use Rattle.asl_machine.proofs.Checks.{told_next}
use Rattle.asl_machine.proofs.scope_reading.read_states.Goals as goal

pub returns-clause-rules : goal.returns-clause-rules
returns-clause-rules c =
    let none = subst (λ b. IsVerdict (told_unless b (place_of_state []) [] (Some NotObject)) (Ok c.in_ok-complain_unless.field-0)) c.is_object.ensures c.in_ok-complain_unless.ensures in
    told_next _ _ c.read_scope.result none (c.read_scope.ensures.rules (record { same = λ place ms. refl }))
