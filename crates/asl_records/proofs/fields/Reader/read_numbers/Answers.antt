use Rattle.std.proofs.Common.{◌≡◌, ◌∷◌, ◌+◌, [], drop, refl, arith}
use Rattle.std.proofs.lemmas.Grind.{common_steps}
use Rattle.asl_records.proofs.Lists.{begun, gone_on, next_told, none_wrong, all_read}
use Rattle.asl_records.proofs.Meant.{still_there}
use Rattle.asl_records.proofs.Telling.{handed_on}
use Rattle.asl_records.proofs.fields.Reader.read_numbers.Goals as goal

pub loop-element-init : goal.loop-element-init
loop-element-init c = begun c.args.self.now.several c.args.self.now.listed c.args.shapes.now c.args.elements.now c.args.elements.now _ refl c.in_ok-numbers.ensures.items

pub loop-element-preserved : goal.loop-element-preserved
loop-element-preserved c =
    let i = c.loop-element.element-index in
    let elements = c.args.elements.now in
    let split : drop i elements ≡ c.element-item.result ∷ drop (i + 1) elements = grind (arith, common_steps) in
    gone_on c.args.self.now.several c.args.self.now.listed c.args.shapes.now c.args.self.now.name.now c.args.field.now c.loop-element.shapes c.read_number.new.shapes elements (drop i elements) (drop (i + 1) elements) c.loop-element.numbers.items c.push.new.self.items c.element-item.result c.in_ok-read_number.field-0 c.requires.listed c.loop-element.invariant split c.in_ok-read_number.ensures.keeps c.in_ok-read_number.ensures.right c.in_ok-read_number.ensures.number c.in_ok-push.ensures.items

pub returns-in_err-read_number-clause-refused : goal.returns-in_err-read_number-clause-refused
returns-in_err-read_number-clause-refused c =
    let i = c.loop-element.element-index in
    let elements = c.args.elements.now in
    let split : drop i elements ≡ c.element-item.result ∷ drop (i + 1) elements = grind (arith, common_steps) in
    let f = c.in_err-read_number.field-0.0 in
    handed_on c.from_residual-in_err-read_number.result f _ c.from_residual-in_err-read_number.ensures.1
    (next_told c.args.self.now.several c.args.self.now.listed c.args.shapes.now c.args.self.now.name.now c.args.field.now c.loop-element.shapes elements (drop i elements) (drop (i + 1) elements) c.loop-element.numbers.items c.element-item.result f c.requires.listed c.loop-element.invariant split c.in_err-read_number.ensures.refused)

pub read_number-requires : goal.read_number-requires
read_number-requires c = record { listed = still_there c.args.shapes.now c.loop-element.shapes c.loop-element.invariant.keeps c.args.self.now.listed c.requires.listed }

pub returns-clause-right : goal.returns-clause-right
returns-clause-right c =
    let end : drop c.loop-element.element-index c.args.elements.now ≡ [] = grind (arith, common_steps) in
    none_wrong c.args.self.now.several c.args.self.now.listed c.args.shapes.now c.args.self.now.name.now c.args.field.now _ c.args.elements.now _ _ c.loop-element.invariant end

pub returns-clause-numbers : goal.returns-clause-numbers
returns-clause-numbers c =
    let end : drop c.loop-element.element-index c.args.elements.now ≡ [] = grind (arith, common_steps) in
    all_read c.args.self.now.several c.args.self.now.listed c.args.shapes.now _ c.args.elements.now _ _ c.loop-element.invariant end
