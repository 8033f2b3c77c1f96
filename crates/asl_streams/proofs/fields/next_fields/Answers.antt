use Rattle.std.proofs.Common.{◌≡◌, Some, None, arith}
use Rattle.json.specs.Json.{read_key}
use Rattle.asl_streams.proofs.Fielded.{begun, gone_on, over}
use Rattle.asl_streams.proofs.fields.next_fields.Goals as goal

pub fields-init : goal.fields-init
fields-init c = begun c.args.several c.args.tokens.now c.args.shapes.now

pub fields-preserved : goal.fields-preserved
fields-preserved c =
    let k = c.in-Ok-Some.name.now in
    let s = c.next_key.new.self in
    let named : read_key c.fields.tokens ≡ Some (Some k, s) = grind arith in
    let read = c.in_ok-read_next-in-Ok-Some.ensures in
    gone_on c.args.several c.args.tokens.now c.fields.shapes c.read_next.new.shapes c.fields.tokens s c.read_next.new.tokens k c.fields.fields c.read_next.new.self named read.shorter c.fields.invariant read.read

pub returns-in-Ok-None : goal.returns-in-Ok-None
returns-in-Ok-None c =
    let s = c.next_key.new.self in
    let ended : read_key c.fields.tokens ≡ Some (None, s) = grind arith in
    over c.args.several c.args.tokens.now c.fields.shapes c.fields.tokens s c.fields.fields ended c.fields.invariant
