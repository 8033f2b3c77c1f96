use Rattle.std.proofs.Common.{◌≡◌, None}
use Rattle.json.specs.Json.{after_end_array}
use Rattle.asl_records.proofs.Meant.{still_there}
use Rattle.asl_streams.proofs.SpelledShapes.{elements_begun, elements_gone_on, elements_over, elements_shorter}
use Rattle.asl_streams.proofs.shapes.next_elements.Goals as goal

pub elements-init : goal.elements-init
elements-init c = elements_begun c.args.reader.several c.args.reader.listed c.args.levels c.args.tokens.now c.args.shapes.now c.new-numbers.result.items c.new-numbers.ensures.items

pub next_shape-requires : goal.next_shape-requires
next_shape-requires c = record { listed = still_there c.args.shapes.now c.elements.shapes c.elements.invariant.keeps c.args.reader.listed c.requires.listed }

pub elements-smaller : goal.elements-smaller
elements-smaller c =
    let going : (after_end_array c.elements.tokens ≡ None) × (c.take_end_array.new.self ≡ c.elements.tokens) = c.elements-test.ensures in
    rw (← going.1) c.in_ok-number.ensures.shorter

pub elements-preserved : goal.elements-preserved
elements-preserved c =
    let going : (after_end_array c.elements.tokens ≡ None) × (c.take_end_array.new.self ≡ c.elements.tokens) = c.elements-test.ensures in
    let read = c.in_ok-number.ensures in
    elements_gone_on c.args.reader.several c.args.reader.listed c.args.levels c.args.tokens.now c.args.shapes.now c.elements.shapes c.next_shape.new.shapes c.elements.tokens c.next_shape.new.tokens c.in_ok-number.number c.elements.numbers.items c.push.new.self.items
    c.requires.listed going.0 (rw (← going.1) read.number) (rw (← going.1) read.shorter) read.keeps c.in_ok-push.ensures.items c.elements.invariant

pub returns-clause-numbers : goal.returns-clause-numbers
returns-clause-numbers c = elements_over c.args.reader.several c.args.reader.listed c.args.levels c.args.tokens.now c.args.shapes.now c.elements.shapes c.elements.tokens c.take_end_array.new.self c.elements.numbers.items c.elements-test.ensures c.elements.invariant

pub returns-clause-shorter : goal.returns-clause-shorter
returns-clause-shorter c = elements_shorter c.args.reader.several c.args.reader.listed c.args.levels c.args.tokens.now c.args.shapes.now c.elements.shapes c.elements.tokens c.take_end_array.new.self c.elements.numbers.items c.elements-test.ensures c.elements.invariant
