use Rattle.std.proofs.Common.{◌≡◌, Some, None, arith}
use Rattle.std.proofs.lemmas.Result.{IfOk-weaker}
use Rattle.json.specs.Json.{read_key}
use Rattle.asl_records.proofs.Meant.{still_there}
use Rattle.asl_streams.proofs.StateParts.{parts_begun, parts_gone_on, parts_over}
use Rattle.asl_streams.proofs.states.next_parts.Goals as goal

pub parts-init : goal.parts-init
parts-init c = parts_begun c.args.reader.several c.args.reader.listed c.args.levels c.args.tokens.now c.args.shapes.now

pub read_next-requires : goal.read_next-requires
read_next-requires c = record { listed = still_there c.args.shapes.now c.parts.shapes c.parts.invariant.keeps c.args.reader.listed c.requires.listed }

pub parts-preserved : goal.parts-preserved
parts-preserved c =
    let l = c.parts in
    let k = c.in-Ok-Some.name.now in
    let s = c.next_key.new.self in
    let named : read_key l.tokens ≡ Some (Some k, s) = grind arith in
    let read = c.in_ok-read_next-in-Ok-Some.ensures in
    parts_gone_on c.args.reader.several c.args.reader.listed c.args.levels c.args.tokens.now c.args.shapes.now l.shapes c.read_next.new.shapes l.tokens s c.read_next.new.tokens k l.entry c.read_next.new.self c.requires.listed named read.read read.shorter read.keeps l.invariant

pub returns-in-Ok-None-clause-state : goal.returns-in-Ok-None-clause-state
returns-in-Ok-None-clause-state c =
    let l = c.parts in
    let s = c.next_key.new.self in
    let ended : read_key l.tokens ≡ Some (None, s) = grind arith in
    IfOk-weaker c.numbers.result _ _ (λ state theirs. parts_over c.args.reader.several c.args.reader.listed c.args.levels c.args.tokens.now c.args.shapes.now l.shapes l.tokens s l.entry state ended theirs l.invariant) c.numbers.ensures.theirs
