use Rattle.std.proofs.Common.{◌≡◌, ◌<◌, ◌+◌, length, refl, sym, ap, arith}
use Rattle.std.proofs.lemmas.Option.{slice_get_read}
use Rattle.asl_states.specs.Machine.{state_view}
use Rattle.asl_machine_table.specs.Table.{table_view}
use Rattle.asl_cases.specs.Coverage.{is_taken, lacking_of}
use Rattle.asl_cases.proofs.Lacks.{lacking_over, lacking_step}
use Rattle.asl_cases.proofs.Numbered.{none_within}
use Rattle.asl_cases.proofs.coverage.lines_of.Goals as goal
use Rattle.asl_cases.proofs.coverage.lines_of.Goals.{in-Some+in_ok-name+in_ok-push_lacking, in_default}

pub loop-number-preserved : goal.loop-number-preserved
loop-number-preserved c = λ told noted.
    let table = table_view c.args.machine.now in
    let states = c.args.states.now in
    let n = c.loop-number.number in
    let taken = is_taken table told in
    let before = c.loop-number.invariant told noted in
    elim c.match-state.branch [
      | in-Some+in_ok-name+in_ok-push_lacking w ↦
          let state = state_view w.in-Some.state.now in
          let at = sym w.in-Some.ensures.state in
          let covered = c.index-states-number.result in
          let found = slice_get_read states (length states) n covered refl c.loop-number-test.true c.index-states-number.is in
          let more = lacking_step taken n table.states state at in
          let pushed : length w.push_lacking.new.lines.items ≡ length c.loop-number.lines.items + length (lacking_of (taken n state) state) = w.in_ok-push_lacking.ensures (taken n state) (noted.each n state covered at found) in
          let lines : length c.match-state.lines.items ≡ length w.push_lacking.new.lines.items = ap (λ v. length v.items) w.lines-is in
          omega arith
      | in_default w ↦
          let within : n < length table.states = omega (arith, c.loop-number-test.true, noted.many) in
          absurd (none_within table.states n (sym w.in_default.ensures.state) within)
    ]

pub returns : goal.returns
returns c = λ told noted.
    let table = table_view c.args.machine.now in
    let left = lacking_over (is_taken table told) c.loop-number.number table.states (omega (arith, c.loop-number-test.false, noted.many)) in
    let before = c.loop-number.invariant told noted in
    omega arith
