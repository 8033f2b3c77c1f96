use Rattle.std.proofs.Common.{◌<◌, ◌≤◌, length, refl, sym, arith}
use Rattle.std.proofs.lemmas.Option.{slice_get_read}
use Rattle.asl_states.specs.Machine.{state_view}
use Rattle.asl_machine_table.specs.Table.{table_view}
use Rattle.asl_run.specs.Entries.{entry_view}
use Rattle.asl_cases.specs.Coverage.{is_taken}
use Rattle.asl_cases.proofs.Recorded.{kept_absent, kept_unnamed, kept_unnoted, kept_untaken, noted_more}
use Rattle.asl_cases.proofs.coverage.add_entry.Goals as goal

pub returns-in_default : goal.returns-in_default
returns-in_default c = λ told empty before.
    kept_untaken (table_view c.args.machine.now) told (entry_view c.args.entry.now) c.args.states.now.items before (sym c.in_default.ensures)

pub returns-in_default-state_named : goal.returns-in_default-state_named
returns-in_default-state_named c = λ told empty before.
    kept_unnamed (table_view c.args.machine.now) told (entry_view c.args.entry.now) c.args.states.now.items c.in-Some.name.now before (sym c.in-Some.ensures) (sym c.in_default-state_named.ensures.number)

pub returns-in_default-state : goal.returns-in_default-state
returns-in_default-state c = λ told empty before.
    kept_absent (table_view c.args.machine.now) told (entry_view c.args.entry.now) c.args.states.now.items c.in-Some.name.now c.in-Some-state_named.number before (sym c.in-Some.ensures) (sym c.in-Some-state_named.ensures.number) (sym c.in_default-state.ensures.state)

pub returns-then-number-len : goal.returns-then-number-len
returns-then-number-len c = λ told empty before.
    let table = table_view c.args.machine.now in
    let states = c.args.states.now.items in
    let own = c.in-Some-state_named.number in
    let mine = state_view c.in-Some-state.state.now in
    let stands = sym c.in-Some-state.ensures.state in
    let within : own < length states = omega (arith, c.if-number-len.true, c.len.ensures, c.args.states.now.ok.0) in
    let found = slice_get_read states (length states) own c.index_mut.result.now refl within c.index_mut.ensures.value in
    noted_more table told (entry_view c.args.entry.now) states c.in-Some.name.now own mine c.add.new.self before (sym c.in-Some.ensures) (sym c.in-Some-state_named.ensures.number) stands
    (c.add.ensures (is_taken table told own mine) empty (before.each own mine c.index_mut.result.now stands found))

pub returns-else-number-len : goal.returns-else-number-len
returns-else-number-len c = λ told empty before.
    let states = c.args.states.now.items in
    let own = c.in-Some-state_named.number in
    let short : length states ≤ own = omega (arith, c.if-number-len.false, c.len.ensures, c.args.states.now.ok.0) in
    kept_unnoted (table_view c.args.machine.now) told (entry_view c.args.entry.now) states c.in-Some.name.now own before (sym c.in-Some.ensures) (sym c.in-Some-state_named.ensures.number) short
