use Rattle.std.proofs.Common.{◌≡◌, None}
use Rattle.json.specs.Json.{after_end_array}
use Rattle.asl_streams.proofs.Lists.{begun, gone_on, in_table, lists_shorter, over}
use Rattle.asl_streams.proofs.entries.next_listed.Goals as goal

pub listed-init : goal.listed-init
listed-init c = begun c.args.several c.args.shapes.now c.args.levels c.args.tokens.now c.new-numbers.result.items c.new-numbers.ensures.items

pub next_shape-requires : goal.next_shape-requires
next_shape-requires c = record { listed = in_table c.args.several c.args.shapes.now c.args.levels c.args.tokens.now c.listed.shapes c.listed.tokens c.listed.numbers.items c.deref.result c.deref.ensures.value c.listed.invariant }

pub listed-smaller : goal.listed-smaller
listed-smaller c =
    let going : (after_end_array c.listed.tokens ≡ None) × (c.take_end_array.new.self ≡ c.listed.tokens) = c.listed-test.ensures in
    rw (← going.1) c.in_ok-number.ensures.shorter

pub listed-preserved : goal.listed-preserved
listed-preserved c =
    let going : (after_end_array c.listed.tokens ≡ None) × (c.take_end_array.new.self ≡ c.listed.tokens) = c.listed-test.ensures in
    let read = c.in_ok-number.ensures in
    gone_on c.args.several c.args.shapes.now c.args.levels c.args.tokens.now c.listed.shapes c.next_shape.new.shapes c.listed.tokens c.next_shape.new.tokens c.listed.numbers.items c.push.new.self.items c.deref.result c.in_ok-number.number
    c.deref.ensures.value c.listed.invariant going.0 (rw (← going.1) read.number) (rw (← going.1) read.shorter) read.keeps c.in_ok-push.ensures.items

pub returns-clause-listed : goal.returns-clause-listed
returns-clause-listed c =
    over c.args.several c.args.shapes.now c.args.levels c.args.tokens.now c.listed.shapes c.listed.tokens c.take_end_array.new.self c.listed.numbers.items c.listed.invariant c.listed-test.ensures

pub returns-clause-keeps : goal.returns-clause-keeps
returns-clause-keeps c = c.listed.invariant.keeps

pub returns-clause-shorter : goal.returns-clause-shorter
returns-clause-shorter c =
    lists_shorter c.args.several c.args.shapes.now c.args.levels c.args.tokens.now c.listed.shapes c.listed.tokens c.take_end_array.new.self c.listed.numbers.items c.listed.invariant c.listed-test.ensures
