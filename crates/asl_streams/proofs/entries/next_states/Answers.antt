use Rattle.std.proofs.Common.{◌≡◌, Some, None, arith}
use Rattle.json.specs.Json.{read_key}
use Rattle.json.proofs.Grammar.{read_key-shorter}
use Rattle.asl_records.proofs.Meant.{still_there}
use Rattle.asl_streams.proofs.Streams.{states_begun, states_gone_on, states_over, states_shorter}
use Rattle.asl_streams.proofs.entries.next_states.Goals as goal

pub states-init : goal.states-init
states-init c = states_begun c.args.reader.several c.args.reader.listed c.args.shapes.now c.args.levels c.args.tokens.now c.new-states.result.entries c.new-states.ensures.empty

pub returns-in_err-name-in-Ok-Some-clause-keeps : goal.returns-in_err-name-in-Ok-Some-clause-keeps
returns-in_err-name-in-Ok-Some-clause-keeps c = c.states.invariant.keeps

pub next_state-requires : goal.next_state-requires
next_state-requires c = record { listed = still_there c.args.shapes.now c.states.shapes c.states.invariant.keeps c.args.reader.listed c.requires.listed }

pub states-smaller : goal.states-smaller
states-smaller c =
    let k = c.in-Ok-Some.name.now in
    let s = c.next_key.new.self in
    let named : read_key c.states.tokens ≡ Some (Some k, s) = grind arith in
    let less = read_key-shorter c.states.tokens (Some k) s named in
    let lesser = c.in_ok-state-in-Ok-Some.ensures.shorter in
    omega (arith, less, lesser)

pub states-preserved : goal.states-preserved
states-preserved c =
    let k = c.in-Ok-Some.name.now in
    let s = c.next_key.new.self in
    let named : read_key c.states.tokens ≡ Some (Some k, s) = grind arith in
    let name = c.in_ok-name-in-Ok-Some in
    let read = c.in_ok-state-in-Ok-Some.ensures in
    states_gone_on c.args.reader.several c.args.reader.listed c.args.shapes.now c.args.levels c.args.tokens.now c.states.shapes c.next_state.new.shapes c.states.tokens s c.next_state.new.tokens k c.states.states.entries c.insert.new.self.entries name.name c.in_ok-state-in-Ok-Some.state
    c.requires.listed c.states.invariant named read.state read.shorter read.keeps name.ensures.ok c.in_ok-insert-in-Ok-Some.ensures.entries

pub returns-in-Ok-None-clause-states : goal.returns-in-Ok-None-clause-states
returns-in-Ok-None-clause-states c =
    let s = c.next_key.new.self in
    let ended : read_key c.states.tokens ≡ Some (None, s) = grind arith in
    states_over c.args.reader.several c.args.reader.listed c.args.shapes.now c.args.levels c.args.tokens.now c.states.shapes c.states.tokens s c.states.states.entries c.states.invariant ended

pub returns-in-Ok-None-clause-keeps : goal.returns-in-Ok-None-clause-keeps
returns-in-Ok-None-clause-keeps c = c.states.invariant.keeps

pub returns-in-Err-clause-keeps : goal.returns-in-Err-clause-keeps
returns-in-Err-clause-keeps c = c.states.invariant.keeps

pub returns-in-Ok-None-clause-shorter : goal.returns-in-Ok-None-clause-shorter
returns-in-Ok-None-clause-shorter c =
    let s = c.next_key.new.self in
    let ended : read_key c.states.tokens ≡ Some (None, s) = grind arith in
    states_shorter c.args.reader.several c.args.reader.listed c.args.shapes.now c.args.levels c.args.tokens.now c.states.shapes c.states.tokens s c.states.states.entries c.states.invariant ended
