use Rattle.std.proofs.Common.{◌≡◌, ◌∷◌, ◌+◌, [], codes, drop, refl, arith}
use Rattle.std.proofs.lemmas.Grind.{common_steps}
use Rattle.asl_records.proofs.Trees.{begun, gone_on, next_listed, next_told, none_wrong, all_meant}
use Rattle.asl_records.proofs.Telling.{handed_on}
use Rattle.asl_records.proofs.listed.read_elements.Goals as goal

pub loop-element-init : goal.loop-element-init
loop-element-init c = begun c.args.several c.args.shapes.now c.args.elements.now c.args.elements.now _ refl c.in_ok-numbers.ensures.items

pub returns-in_err-number-clause-refused : goal.returns-in_err-number-clause-refused
returns-in_err-number-clause-refused c =
    let i = c.loop-element.element-index in
    let elements = c.args.elements.now in
    let split : drop i elements ≡ c.element-item.result ∷ drop (i + 1) elements = grind (arith, common_steps) in
    let f = c.in_err-number.field-0.0 in
    handed_on c.from_residual-in_err-number.result f _ c.from_residual-in_err-number.ensures.1
    (next_told c.args.several (codes "shapes") c.loop-element.shapes elements (drop i elements) (drop (i + 1) elements) c.loop-element.numbers.items c.deref.result c.element-item.result f c.deref.ensures.value c.loop-element.invariant split c.in_err-number.ensures.refused)

pub loop-element-preserved : goal.loop-element-preserved
loop-element-preserved c =
    let i = c.loop-element.element-index in
    let elements = c.args.elements.now in
    let split : drop i elements ≡ c.element-item.result ∷ drop (i + 1) elements = grind (arith, common_steps) in
    gone_on c.args.several [] (codes "shapes") c.loop-element.shapes c.read_number.new.shapes elements (drop i elements) (drop (i + 1) elements) c.loop-element.numbers.items c.push.new.self.items c.deref.result c.element-item.result c.in_ok-number.number c.deref.ensures.value c.loop-element.invariant split c.in_ok-number.ensures.keeps c.in_ok-number.ensures.right c.in_ok-number.ensures.number c.in_ok-push.ensures.items

pub read_number-requires : goal.read_number-requires
read_number-requires c = record { listed = next_listed c.args.several c.loop-element.shapes c.args.elements.now _ c.loop-element.numbers.items c.deref.result c.deref.ensures.value c.loop-element.invariant }

pub returns-clause-right : goal.returns-clause-right
returns-clause-right c =
    let end : drop c.loop-element.element-index c.args.elements.now ≡ [] = grind (arith, common_steps) in
    none_wrong c.args.several _ c.args.elements.now _ _ c.loop-element.invariant end

pub returns-clause-meant : goal.returns-clause-meant
returns-clause-meant c =
    let end : drop c.loop-element.element-index c.args.elements.now ≡ [] = grind (arith, common_steps) in
    all_meant c.args.several _ c.args.elements.now _ _ c.loop-element.invariant end
