use Rattle.std.proofs.Common.{◌≡◌, ◌<◌, ◌+◌, ◌++◌, ◌∷◌, [], length, sym, ap, ◌∙◌, subst, arith}
use Rattle.std.proofs.lemmas.List.{length_push}
use Rattle.asl_states.specs.Machine.{state_view}
use Rattle.asl_machine_table.specs.Table.{table_view}
use Rattle.asl_cases.proofs.Numbered.{none_within}
use Rattle.asl_cases.proofs.Recorded.{NoneTaken, none_taken_more}
use Rattle.asl_cases.proofs.coverage.nothing_of.Goals as goal
use Rattle.asl_cases.proofs.coverage.nothing_of.Goals.{in-Some+in_ok-nothing+in_ok-push, in_default}

pub loop-number-preserved : goal.loop-number-preserved
loop-number-preserved c =
    let table = table_view c.args.machine.now in
    let before = c.loop-number.states.items in
    let number = c.loop-number.number in
    elim c.match-state.branch [
      | in-Some+in_ok-nothing+in_ok-push w ↦
          let covered = w.in_ok-nothing.field-0 in
          let all : c.match-state.states.items ≡ before ++ covered ∷ [] = ap (λ v. v.items) w.states-is ∙ w.in_ok-push.ensures.items in (
            ap length all ∙ (length_push before covered ∙ ap (λ n. n + 1) c.loop-number.invariant.0),
            subst (NoneTaken table) (sym all) (none_taken_more table before number (state_view w.in-Some.state.now) covered c.loop-number.invariant.1 (sym c.loop-number.invariant.0) (sym w.in-Some.ensures.state) w.in_ok-nothing.ensures),
          )
      | in_default w ↦
          let within : number < length table.states = omega (arith, c.loop-number-test.true, c.states-number-end.ensures.number) in
          absurd (none_within table.states number (sym w.in_default.ensures.state) within)
    ]
