use Rattle.std.proofs.Common.{◌++◌, map, string_bytes, subst, sym, ap, ◌∙◌, ◌<◌, arith}
use Rattle.std.proofs.lemmas.List.{length-map}
use Rattle.asl_model.specs.StandsFor.{duplicate_complaints, number_complaints}
use Rattle.asl_states.specs.Machine.{scope_view}
use Rattle.asl_fields.specs.Verdicts.{IsAmong}
use Rattle.asl_machine.specs.Numbered.{names_of_all, placed_in, home_view}
use Rattle.asl_machine.specs.Built.{built_view}
use Rattle.asl_fields.specs.View.{refusal_view}
use Rattle.asl_machine.proofs.Numbers.{too_many, table_held}
use Rattle.asl_machine.proofs.Checks.{among_first, handed_error}
use Rattle.asl_machine.proofs.numbering.number.Goals as goal

pub returns-then-len-gt-MOST_STATES-clause-refused : goal.returns-then-len-gt-MOST_STATES-clause-refused
returns-then-len-gt-MOST_STATES-clause-refused c = too_many (map built_view c.args.rows.items) (refusal_view c.new.result) (subst (λ n. 10000 < n) (sym (length-map c.args.rows.items built_view)) (omega arith)) c.new.ensures

pub returns-in_err-numbered-clause-refused : goal.returns-in_err-numbered-clause-refused
returns-in_err-numbered-clause-refused c =
    let names = names_of_all (map built_view c.args.rows.items) in
    handed_error c.from_residual.result c.in_err-numbered.field-0.0 (λ e. IsAmong (duplicate_complaints names ++ number_complaints names) (refusal_view e)) c.from_residual.ensures.1 (among_first (duplicate_complaints names) (number_complaints names) (refusal_view c.in_err-numbered.field-0.0) c.in_err-numbered.ensures.refused)

pub returns-in-Ok-clause-table : goal.returns-in-Ok-clause-table
returns-in-Ok-clause-table c = table_held (map built_view c.args.rows.items) c.in_ok-numbered.numbered (map scope_view c.in-Ok.scopes.items) c.in_ok-numbered.ensures.numbered (c.in-Ok.ensures ∙ ap (map (λ h. placed_in (map string_bytes c.in_ok-numbered.numbered.names.keys) (home_view h))) c.deref.ensures.value)
