use Rattle.std.proofs.Common.{ap, subst}
use Rattle.serde_json.specs.Find.{as_object}
use Rattle.asl_model.specs.Records.{state_rows}
use Rattle.asl_tree.specs.View.{view}
use Rattle.asl_numbered.specs.Laws.{keeps_trans}
use Rattle.asl_records.specs.Numbering.{AreStateOf}
use Rattle.asl_records.specs.Values.{as_value}
use Rattle.asl_records.specs.declared.records.StateNumbers.{StateNumbers}
use Rattle.asl_records.proofs.Entries.{members}
use Rattle.asl_records.proofs.Meant.{still_meant, still_there}
use Rattle.asl_records.proofs.Numberings.{state_numbered}
use Rattle.asl_records.proofs.Telling.{handed_on}
use Rattle.asl_records.proofs.Objects.{foreign_told_of}
use Rattle.asl_records.proofs.Stated.{input_told, output_told, branches_told, item_told, none_wrong, read_from, stands_for}
use Rattle.asl_records.proofs.certificates.read_entry.Goals as goal

-- ---- the table grows from field to field

pub required_number-requires-2 : goal.required_number-requires-2
required_number-requires-2 c = record { listed = still_there c.args.shapes.now c.required_number.new.shapes c.in_ok-required_number.ensures.keeps c.args.reader.listed c.requires.listed }

pub optional_numbers-requires : goal.optional_numbers-requires
optional_numbers-requires c =
    let twice = keeps_trans c.args.shapes.now c.required_number.new.shapes c.required_number-2.new.shapes c.in_ok-required_number.ensures.keeps c.in_ok-required_number-2.ensures.keeps in
    record { listed = still_there c.args.shapes.now c.required_number-2.new.shapes twice c.args.reader.listed c.requires.listed }

pub optional_number-requires : goal.optional_number-requires
optional_number-requires c =
    let twice = keeps_trans c.args.shapes.now c.required_number.new.shapes c.required_number-2.new.shapes c.in_ok-required_number.ensures.keeps c.in_ok-required_number-2.ensures.keeps in
    let thrice = keeps_trans c.args.shapes.now c.required_number-2.new.shapes c.optional_numbers.new.shapes twice c.in_ok-optional_numbers.ensures.keeps in
    record { listed = still_there c.args.shapes.now c.optional_numbers.new.shapes thrice c.args.reader.listed c.requires.listed }

-- ---- what is told

pub returns-in_err-fields-clause-refused : goal.returns-in_err-fields-clause-refused
returns-in_err-fields-clause-refused c = handed_on c.from_residual.result c.in_err-fields.field-0.0 _ c.from_residual.ensures.1 (record { each = λ reading means. c.in_err-fields.ensures.refused reading state_rows })

pub returns-in_err-check_fields-clause-refused : goal.returns-in_err-check_fields-clause-refused
returns-in_err-check_fields-clause-refused c =
    let f = c.in_err-check_fields.field-0.0 in
    let object = ap (λ t. as_object (as_value t)) c.in_ok-fields.ensures.fields in
    handed_on c.from_residual-in_err-check_fields.result f _ c.from_residual-in_err-check_fields.ensures.1
    (record { each = λ reading means. foreign_told_of reading c.args.name.now state_rows (as_value (view c.args.tree.now)) (members c.in_ok-fields.fields.now.entries) f object c.in_err-check_fields.ensures.refused })

pub returns-in_err-required_number-clause-refused : goal.returns-in_err-required_number-clause-refused
returns-in_err-required_number-clause-refused c =
    let f = c.in_err-required_number.field-0.0 in
    let object = ap (λ t. as_object (as_value t)) c.in_ok-fields.ensures.fields in
    handed_on c.from_residual-in_err-required_number.result f _ c.from_residual-in_err-required_number.ensures.1
    (record { each = λ reading means. input_told reading c.args.name.now (as_value (view c.args.tree.now)) (members c.in_ok-fields.fields.now.entries) f object (c.in_err-required_number.ensures.refused.each reading means) })

pub returns-in_err-required_number-2-clause-refused : goal.returns-in_err-required_number-2-clause-refused
returns-in_err-required_number-2-clause-refused c =
    let f = c.in_err-required_number-2.field-0.0 in
    let object = ap (λ t. as_object (as_value t)) c.in_ok-fields.ensures.fields in
    handed_on c.from_residual-in_err-required_number-2.result f _ c.from_residual-in_err-required_number-2.ensures.1
    (record {
      each = λ reading means.
          let second = still_meant c.args.shapes.now c.required_number.new.shapes c.in_ok-required_number.ensures.keeps c.args.reader.listed reading c.requires.listed means in
          output_told reading c.args.name.now (as_value (view c.args.tree.now)) (members c.in_ok-fields.fields.now.entries) f object (c.in_err-required_number-2.ensures.refused.each reading second);
    })

pub returns-in_err-optional_numbers-clause-refused : goal.returns-in_err-optional_numbers-clause-refused
returns-in_err-optional_numbers-clause-refused c =
    let f = c.in_err-optional_numbers.field-0.0 in
    let object = ap (λ t. as_object (as_value t)) c.in_ok-fields.ensures.fields in
    let twice = keeps_trans c.args.shapes.now c.required_number.new.shapes c.required_number-2.new.shapes c.in_ok-required_number.ensures.keeps c.in_ok-required_number-2.ensures.keeps in
    handed_on c.from_residual-in_err-optional_numbers.result f _ c.from_residual-in_err-optional_numbers.ensures.1
    (record {
      each = λ reading means.
          let third = still_meant c.args.shapes.now c.required_number-2.new.shapes twice c.args.reader.listed reading c.requires.listed means in
          branches_told reading c.args.name.now (as_value (view c.args.tree.now)) (members c.in_ok-fields.fields.now.entries) f object (c.in_err-optional_numbers.ensures.refused.each reading third);
    })

pub returns-in_err-optional_number-clause-refused : goal.returns-in_err-optional_number-clause-refused
returns-in_err-optional_number-clause-refused c =
    let f = c.in_err-optional_number.field-0.0 in
    let object = ap (λ t. as_object (as_value t)) c.in_ok-fields.ensures.fields in
    let twice = keeps_trans c.args.shapes.now c.required_number.new.shapes c.required_number-2.new.shapes c.in_ok-required_number.ensures.keeps c.in_ok-required_number-2.ensures.keeps in
    let thrice = keeps_trans c.args.shapes.now c.required_number-2.new.shapes c.optional_numbers.new.shapes twice c.in_ok-optional_numbers.ensures.keeps in
    handed_on c.from_residual-in_err-optional_number.result f _ c.from_residual-in_err-optional_number.ensures.1
    (record {
      each = λ reading means.
          let fourth = still_meant c.args.shapes.now c.optional_numbers.new.shapes thrice c.args.reader.listed reading c.requires.listed means in
          item_told reading c.args.name.now (as_value (view c.args.tree.now)) (members c.in_ok-fields.fields.now.entries) f object (c.in_err-optional_number.ensures.refused.each reading fourth);
    })

-- ---- what is read

pub returns-clause-right : goal.returns-clause-right
returns-clause-right c =
    let object = ap (λ t. as_object (as_value t)) c.in_ok-fields.ensures.fields in
    let twice = keeps_trans c.args.shapes.now c.required_number.new.shapes c.required_number-2.new.shapes c.in_ok-required_number.ensures.keeps c.in_ok-required_number-2.ensures.keeps in
    let thrice = keeps_trans c.args.shapes.now c.required_number-2.new.shapes c.optional_numbers.new.shapes twice c.in_ok-optional_numbers.ensures.keeps in
    record {
      each = λ reading means.
          let then = still_meant c.args.shapes.now c.required_number.new.shapes c.in_ok-required_number.ensures.keeps c.args.reader.listed reading c.requires.listed means in
          let later = still_meant c.args.shapes.now c.required_number-2.new.shapes twice c.args.reader.listed reading c.requires.listed means in
          let last = still_meant c.args.shapes.now c.optional_numbers.new.shapes thrice c.args.reader.listed reading c.requires.listed means in
          none_wrong reading c.args.name.now (as_value (view c.args.tree.now)) (members c.in_ok-fields.fields.now.entries) object c.in_ok-check_fields.ensures.right (c.in_ok-required_number.ensures.right.each reading means) (c.in_ok-required_number-2.ensures.right.each reading then) (c.in_ok-optional_numbers.ensures.right.each reading later) (c.in_ok-optional_number.ensures.right.each reading last);
    }

pub returns-clause-numbers : goal.returns-clause-numbers
returns-clause-numbers c =
    let ms = members c.in_ok-fields.fields.now.entries in
    let object = ap (λ t. as_object (as_value t)) c.in_ok-fields.ensures.fields in
    let numbers : StateNumbers = record { input = c.in_ok-required_number.field-0; output = c.in_ok-required_number-2.field-0; branches = c.in_ok-optional_numbers.field-0; item = c.in_ok-optional_number.field-0 } in
    let twice = keeps_trans c.args.shapes.now c.required_number.new.shapes c.required_number-2.new.shapes c.in_ok-required_number.ensures.keeps c.in_ok-required_number-2.ensures.keeps in
    let thrice = keeps_trans c.args.shapes.now c.required_number-2.new.shapes c.optional_numbers.new.shapes twice c.in_ok-optional_numbers.ensures.keeps in
    record {
      each = λ reading means.
          let then = still_meant c.args.shapes.now c.required_number.new.shapes c.in_ok-required_number.ensures.keeps c.args.reader.listed reading c.requires.listed means in
          let later = still_meant c.args.shapes.now c.required_number-2.new.shapes twice c.args.reader.listed reading c.requires.listed means in
          let last = still_meant c.args.shapes.now c.optional_numbers.new.shapes thrice c.args.reader.listed reading c.requires.listed means in
          subst (λ shapes. AreStateOf c.optional_number.new.shapes shapes numbers) (stands_for reading (as_value (view c.args.tree.now)) ms object)
          (state_numbered c.required_number.new.shapes c.required_number-2.new.shapes c.optional_numbers.new.shapes c.optional_number.new.shapes (read_from reading ms) numbers (c.in_ok-required_number.ensures.number.each reading means) c.in_ok-required_number-2.ensures.keeps (c.in_ok-required_number-2.ensures.number.each reading then) c.in_ok-optional_numbers.ensures.keeps (c.in_ok-optional_numbers.ensures.numbers.each reading later) c.in_ok-optional_number.ensures.keeps (c.in_ok-optional_number.ensures.number.each reading last));
    }
