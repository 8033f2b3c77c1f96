use Rattle.std.proofs.Common.{◌++◌, map, ap, ◌∙◌, None}
use Rattle.std.proofs.lemmas.Result.{err_from_is_err_and}
use Rattle.serde_json.specs.View.{view}
use Rattle.asl_model.specs.Numbering.{standing_in, outlined}
use Rattle.asl_model.specs.StandsFor.{scope_of}
use Rattle.asl_machine_table.specs.Rebuilding.{machine_of}
use Rattle.asl_machine.specs.Built.{built_view}
use Rattle.asl_fields.specs.Verdicts.{complaint_view}
use Rattle.asl_machine.specs.Numbered.{placed_view}
use Rattle.asl_fields.specs.View.{refusal_view}
use Rattle.asl_machine.proofs.Refused.{rules_broken, rules_refused, told_found, names_refused, stands, whole, same_machine}
use Rattle.asl_machine.proofs.reading.read.Goals as goal

pub returns-in-Err-clause-refused : goal.returns-in-Err-clause-refused
returns-in-Err-clause-refused c =
    let v = view c.args.value.now in
    rules_refused v (refusal_view c.new-refusal.result) (told_found (rules_broken v) (refusal_view c.new-refusal.result) (complaint_view c.in-Err.complaint) c.new-refusal.ensures c.in-Err.ensures.rules.holds)

pub returns-in_err-placed-in-Ok-clause-refused : goal.returns-in_err-placed-in-Ok-clause-refused
returns-in_err-placed-in-Ok-clause-refused c =
    let v = view c.args.value.now in
    let built = map built_view c.read_states.new.built.items in
    let all = c.in-Ok.ensures.added.holds ∙ ap (λ items. map built_view items ++ map outlined (standing_in None (scope_of v))) c.new-built.ensures.items in
    let p = err_from_is_err_and c.from_residual.result c.from_residual.ensures.1 in
    rw (p.1, p.2) (names_refused v built all (refusal_view c.in_err-placed-in-Ok.field-0.0) c.in_err-placed-in-Ok.ensures.refused)

pub new-requires : goal.new-requires
new-requires c =
    let v = view c.args.value.now in
    let built = map built_view c.read_states.new.built.items in
    let all = c.in-Ok.ensures.added.holds ∙ ap (λ items. map built_view items ++ map outlined (standing_in None (scope_of v))) c.new-built.ensures.items in
    record { whole = whole v built (placed_view c.in_ok-placed-in-Ok.placed) all (stands v built all c.in-Ok.ensures.rules.holds c.in_ok-placed-in-Ok.ensures.distinct c.in_ok-placed-in-Ok.ensures.few) c.in_ok-placed-in-Ok.ensures.table }

pub returns-in_ok-placed-in-Ok-clause-machine : goal.returns-in_ok-placed-in-Ok-clause-machine
returns-in_ok-placed-in-Ok-clause-machine c =
    let v = view c.args.value.now in
    let built = map built_view c.read_states.new.built.items in
    let all = c.in-Ok.ensures.added.holds ∙ ap (λ items. map built_view items ++ map outlined (standing_in None (scope_of v))) c.new-built.ensures.items in
    stands v built all c.in-Ok.ensures.rules.holds c.in_ok-placed-in-Ok.ensures.distinct c.in_ok-placed-in-Ok.ensures.few

pub returns-in_ok-placed-in-Ok-clause-scope : goal.returns-in_ok-placed-in-Ok-clause-scope
returns-in_ok-placed-in-Ok-clause-scope c =
    let v = view c.args.value.now in
    let built = map built_view c.read_states.new.built.items in
    let all = c.in-Ok.ensures.added.holds ∙ ap (λ items. map built_view items ++ map outlined (standing_in None (scope_of v))) c.new-built.ensures.items in
    let stood = stands v built all c.in-Ok.ensures.rules.holds c.in_ok-placed-in-Ok.ensures.distinct c.in_ok-placed-in-Ok.ensures.few in
    ap machine_of c.new.ensures.table ∙ same_machine v built (placed_view c.in_ok-placed-in-Ok.placed) all stood c.in_ok-placed-in-Ok.ensures.table
