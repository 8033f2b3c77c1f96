use Rattle.std.proofs.Common.{◌≡◌, [], map, string_bytes, ap, ◌∙◌, subst, rules}
use Rattle.asl_model.specs.DefinitionTable.{BadErrorEquals}
use Rattle.asl_model.specs.StandsFor.{complain_unless}
use Rattle.asl_fields.specs.Verdicts.{IsAmong, complaint_view, place_view}
use Rattle.asl_machine.specs.Reading.{are_proper}
use Rattle.asl_machine.proofs.Checks.{handed_on, built_as}
use Rattle.asl_machine.proofs.trouble_reading.read_error_names.Goals as goal

pub returns-clause-told : goal.returns-clause-told
returns-clause-told c =
    let shown = built_as _ c.build_error_names.result c.in_ok-names.names c.in_ok-names.ensures.built c.build_error_names.ensures in
    let slice : c.deref.result.now ≡ c.in_ok-names.names.items = search rules in
    let same = ap (λ names. are_proper names c.args.is_last) (ap (map string_bytes) slice ∙ shown) in
    record { holds = subst (λ b. complain_unless b (place_view c.args.place.now) c.args.field.now BadErrorEquals ≡ []) (c.are_proper.ensures ∙ same) c.in_ok-complain_unless.ensures.holds }

pub returns-in_err-complain_unless-clause-told : goal.returns-in_err-complain_unless-clause-told
returns-in_err-complain_unless-clause-told c =
    let shown = built_as _ c.build_error_names.result c.in_ok-names.names c.in_ok-names.ensures.built c.build_error_names.ensures in
    let slice : c.deref.result.now ≡ c.in_ok-names.names.items = search rules in
    let same = ap (λ names. are_proper names c.args.is_last) (ap (map string_bytes) slice ∙ shown) in
    handed_on _ c.from_residual-in_err-complain_unless.result c.in_err-complain_unless.field-0.0 c.from_residual-in_err-complain_unless.ensures.1 (record { holds = subst (λ b. IsAmong (complain_unless b (place_view c.args.place.now) c.args.field.now BadErrorEquals) (complaint_view c.in_err-complain_unless.field-0.0)) (c.are_proper.ensures ∙ same) c.in_err-complain_unless.ensures.holds })
