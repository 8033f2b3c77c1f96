use Rattle.std.proofs.Common.{◌≡◌, Some, None, arith}
use Rattle.json.specs.Json.{read_key}
use Rattle.asl_streams.proofs.Declaring.{declares_begun, declares_gone_on, declares_over}
use Rattle.asl_streams.proofs.declarations.next_declarations.Goals as goal

pub fields-init : goal.fields-init
fields-init c = declares_begun c.args.tokens.now

pub fields-preserved : goal.fields-preserved
fields-preserved c =
    let l = c.fields in
    let k = c.in-Ok-Some.name.now in
    let s = c.next_key.new.self in
    let named : read_key l.tokens ≡ Some (Some k, s) = grind arith in
    let read = c.in_ok-read_next-in-Ok-Some.ensures in
    declares_gone_on c.args.tokens.now l.tokens s c.read_next.new.tokens k l.fields c.read_next.new.self named read.read read.shorter l.invariant

pub returns-in-Ok-None : goal.returns-in-Ok-None
returns-in-Ok-None c =
    let l = c.fields in
    let s = c.next_key.new.self in
    let ended : read_key l.tokens ≡ Some (None, s) = grind arith in
    declares_over c.args.tokens.now l.tokens s l.fields ended l.invariant
