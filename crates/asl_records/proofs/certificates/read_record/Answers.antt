use Rattle.std.proofs.Common.{[], codes, sym, ap, subst, ◌∙◌}
use Rattle.std.proofs.lemmas.Result.{IfErr-weaker, IfOk-weaker, on_ok_weaker}
use Rattle.serde_json.specs.Find.{as_object, get_member}
use Rattle.asl_model.specs.Records.{certificate_reading, certificate_rows, state_rows, listed_complaints, object_complaints, entries_complaints, listed_in, members_in, members_under}
use Rattle.asl_tree.specs.View.{view}
use Rattle.asl_shape.specs.Spelled.{tree_there}
use Rattle.asl_records.specs.Parts.{TellsOneOf, reading_of, trees_there}
use Rattle.asl_records.specs.Values.{IsPart, as_value}
use Rattle.asl_records.proofs.Certified.{others_told, version_told, list_told, parts_told, same_list, none_wrong, stands_for, is_its_reading, reading_meant}
use Rattle.asl_records.proofs.Entries.{members}
use Rattle.asl_records.proofs.Meant.{lent_meant}
use Rattle.asl_records.proofs.Telling.{told_left, told_same, handed_on}
use Rattle.asl_records.proofs.Values.{is_part}
use Rattle.asl_records.proofs.certificates.read_record.Goals as goal

-- ---- before the version is known

pub returns-in_err-fields-clause-refused : goal.returns-in_err-fields-clause-refused
returns-in_err-fields-clause-refused c =
    let f = c.in_err-fields.field-0.0 in
    let v = as_value (view c.args.tree.now) in
    let reading = certificate_reading (members_in v) in
    handed_on c.from_residual.result f _ c.from_residual.ensures.1
    (told_left f (object_complaints reading [] certificate_rows v) (entries_complaints reading state_rows (members_under (codes "states") v)) (c.in_err-fields.ensures.refused reading certificate_rows))

pub returns-in_err-check_fields-clause-refused : goal.returns-in_err-check_fields-clause-refused
returns-in_err-check_fields-clause-refused c =
    let f = c.in_err-check_fields.field-0.0 in
    let v = as_value (view c.args.tree.now) in
    let object = ap (λ t. as_object (as_value t)) c.in_ok-fields.ensures.fields in
    handed_on c.from_residual-in_err-check_fields.result f _ c.from_residual-in_err-check_fields.ensures.1
    (others_told (certificate_reading (members_in v)) v (members c.in_ok-fields.fields.now.entries) f object c.in_err-check_fields.ensures.refused)

pub returns-in_err-several-clause-refused : goal.returns-in_err-several-clause-refused
returns-in_err-several-clause-refused c =
    let f = c.in_err-several.field-0.0 in
    let v = as_value (view c.args.tree.now) in
    let reading = certificate_reading (members_in v) in
    let object = ap (λ t. as_object (as_value t)) c.in_ok-fields.ensures.fields in
    let version = subst (IsPart (tree_there c.stated.result)) c.stated.ensures (is_part c.stated.result) in
    handed_on c.from_residual-in_err-several.result f _ c.from_residual-in_err-several.ensures.1
    (version_told reading v (members c.in_ok-fields.fields.now.entries) f object (c.in_err-several.ensures.refused.each _ version reading))

-- ---- once it is

pub returns-in_err-numbers-clause-refused : goal.returns-in_err-numbers-clause-refused
returns-in_err-numbers-clause-refused c =
    let f = c.in_err-numbers.field-0.0 in
    let v = as_value (view c.args.tree.now) in
    let ms = members c.in_ok-fields.fields.now.entries in
    let object = ap (λ t. as_object (as_value t)) c.in_ok-fields.ensures.fields in
    let several = c.in_ok-several.several in
    let reading = reading_of several (listed_in (members_in v)) in
    let version = subst (IsPart (tree_there c.stated.result)) c.stated.ensures (is_part c.stated.result) in
    let its = is_its_reading several v ms object (c.in_ok-several.ensures.several.each _ version) in
    let told = told_same f _ _ c.in_err-numbers.ensures.refused (same_list reading (get_member (codes "shapes") ms)) in
    handed_on c.from_residual-in_err-numbers.result f _ c.from_residual-in_err-numbers.ensures.1
    (subst (λ r. TellsOneOf (listed_complaints r v) f) its (list_told reading v ms f object told))

pub returns-clause-refused : goal.returns-clause-refused
returns-clause-refused c =
    let v = as_value (view c.args.tree.now) in
    let ms = members c.in_ok-fields.fields.now.entries in
    let object = ap (λ t. as_object (as_value t)) c.in_ok-fields.ensures.fields in
    let several = c.in_ok-several.several in
    let reading = reading_of several (listed_in (members_in v)) in
    let version = subst (IsPart (tree_there c.stated.result)) c.stated.ensures (is_part c.stated.result) in
    let its = is_its_reading several v ms object (c.in_ok-several.ensures.several.each _ version) in
    let means = reading_meant several c.read_listed.new.shapes c.in_ok-numbers.numbers c.as_deref.result v ms object c.as_deref.ensures.cases c.in_ok-numbers.ensures.meant in
    IfErr-weaker c.read_parts.result _ _ (λ f h. subst (λ r. TellsOneOf (listed_complaints r v) f) its (parts_told reading v ms f object (h.each reading means))) c.read_parts.ensures.refused

pub returns-clause-right : goal.returns-clause-right
returns-clause-right c =
    let v = as_value (view c.args.tree.now) in
    let ms = members c.in_ok-fields.fields.now.entries in
    let object = ap (λ t. as_object (as_value t)) c.in_ok-fields.ensures.fields in
    let several = c.in_ok-several.several in
    let reading = reading_of several (listed_in (members_in v)) in
    let version = subst (IsPart (tree_there c.stated.result)) c.stated.ensures (is_part c.stated.result) in
    let its = is_its_reading several v ms object (c.in_ok-several.ensures.several.each _ version) in
    let means = reading_meant several c.read_listed.new.shapes c.in_ok-numbers.numbers c.as_deref.result v ms object c.as_deref.ensures.cases c.in_ok-numbers.ensures.meant in
    let list = sym (same_list reading (get_member (codes "shapes") ms)) ∙ c.in_ok-numbers.ensures.right in
    on_ok_weaker c.read_parts.result (λ h. sym (ap (λ r. listed_complaints r v) its) ∙ none_wrong reading v ms object c.in_ok-check_fields.ensures.right (c.in_ok-several.ensures.right.each _ version reading) list (h.each reading means)) c.read_parts.ensures.right

pub returns-clause-certificate : goal.returns-clause-certificate
returns-clause-certificate c =
    let v = as_value (view c.args.tree.now) in
    let ms = members c.in_ok-fields.fields.now.entries in
    let object = ap (λ t. as_object (as_value t)) c.in_ok-fields.ensures.fields in
    let several = c.in_ok-several.several in
    let reading = reading_of several (listed_in (members_in v)) in
    let means = reading_meant several c.read_listed.new.shapes c.in_ok-numbers.numbers c.as_deref.result v ms object c.as_deref.ensures.cases c.in_ok-numbers.ensures.meant in
    IfOk-weaker c.read_parts.result _ _ (λ certificate h. h.each reading means ∙ stands_for reading v ms object) c.read_parts.ensures.certificate

pub returns-clause-within : goal.returns-clause-within
returns-clause-within c =
    let several = c.in_ok-several.several in
    let reading = reading_of several (trees_there (get_member (codes "shapes") (members c.in_ok-fields.fields.now.entries))) in
    let means = lent_meant several c.read_listed.new.shapes c.in_ok-numbers.numbers c.as_deref.result reading c.as_deref.ensures.cases c.in_ok-numbers.ensures.meant in
    IfOk-weaker c.read_parts.result _ _ (λ certificate h. h.each reading means) c.read_parts.ensures.within
