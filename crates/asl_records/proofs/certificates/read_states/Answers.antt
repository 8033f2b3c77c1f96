use Rattle.std.proofs.Common.{codes, true, refl, sym, ap, subst, ◌∙◌}
use Rattle.std.proofs.lemmas.Result.{IfErr-weaker, IfOk-weaker, on_ok_weaker}
use Rattle.asl_model.specs.Records.{MissingField, entries_from, state_from, state_rows}
use Rattle.asl_tree.specs.View.{view}
use Rattle.asl_records.specs.Numbering.{AreStatesOf}
use Rattle.asl_records.specs.Values.{as_value, value_there}
use Rattle.asl_records.proofs.FieldParts.{entries_there, kind_told, members_are}
use Rattle.asl_records.proofs.Telling.{handed_on, told_same}
use Rattle.asl_records.proofs.certificates.read_states.Goals as goal

pub returns-in_err-entries-in-Some-clause-refused : goal.returns-in_err-entries-in-Some-clause-refused
returns-in_err-entries-in-Some-clause-refused c =
    let f = c.in_err-entries-in-Some.field-0.0 in
    let stands = sym (ap value_there c.in-Some.is) ∙ c.stated.ensures in
    handed_on c.from_residual.result f _ c.from_residual.ensures.1
    (record { each = λ reading means. kind_told reading (codes "states") true state_rows (as_value (view c.in-Some.states.now)) _ f stands c.in_err-entries-in-Some.ensures.refused })

pub returns-in_ok-entries-in-Some-clause-right : goal.returns-in_ok-entries-in-Some-clause-right
returns-in_ok-entries-in-Some-clause-right c =
    let stands = sym (ap value_there c.in-Some.is) ∙ c.stated.ensures in
    on_ok_weaker c.read_entries.result (λ h. record { each = λ reading means. entries_there reading (codes "states") true state_rows (view c.in-Some.states.now) _ _ stands c.in_ok-entries-in-Some.ensures.entries ∙ h.each reading means }) c.read_entries.ensures.right

pub returns-in_ok-entries-in-Some-clause-states : goal.returns-in_ok-entries-in-Some-clause-states
returns-in_ok-entries-in-Some-clause-states c =
    let stands = sym (ap value_there c.in-Some.is) ∙ c.stated.ensures in
    let members = members_are (view c.in-Some.states.now) _ _ stands c.in_ok-entries-in-Some.ensures.entries in
    IfOk-weaker c.read_entries.result _ _ (λ states h. record { each = λ reading means. subst (λ ms. AreStatesOf c.read_entries.new.shapes (entries_from (state_from reading.listed) ms) states.entries) (sym members) (h.each reading means) }) c.read_entries.ensures.states

pub returns-in_ok-entries-in-Some-clause-refused : goal.returns-in_ok-entries-in-Some-clause-refused
returns-in_ok-entries-in-Some-clause-refused c =
    let stands = sym (ap value_there c.in-Some.is) ∙ c.stated.ensures in
    IfErr-weaker c.read_entries.result _ _ (λ f h. record { each = λ reading means. told_same f _ _ (h.each reading means) (sym (entries_there reading (codes "states") true state_rows (view c.in-Some.states.now) _ _ stands c.in_ok-entries-in-Some.ensures.entries)) }) c.read_entries.ensures.refused

pub returns-in-None-clause-refused : goal.returns-in-None-clause-refused
returns-in-None-clause-refused c = record { each = λ reading means. rw (sym c.stated.ensures, c.in-None.is) (c.record.ensures MissingField refl) }
