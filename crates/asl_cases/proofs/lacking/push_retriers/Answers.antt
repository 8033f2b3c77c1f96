use Rattle.std.proofs.Common.{◌≡◌, ◌+◌, length, map, sym, ap, ◌∙◌, arith, false}
use Rattle.std.specs.Prelude.{slice_get}
use Rattle.std.specs.Option.{unwrap_or}
use Rattle.std.proofs.lemmas.List.{length_push}
use Rattle.asl_states.specs.Machine.{retrier_view}
use Rattle.asl_cases.specs.Coverage.{RetrierAt}
use Rattle.asl_cases.proofs.Lacks.{retrier_has, retrier_lacks, retrier_never}
use Rattle.asl_cases.proofs.Numbered.{flag_at, seen_at}
use Rattle.asl_cases.proofs.lacking.push_retriers.Goals as goal
use Rattle.asl_cases.proofs.lacking.push_retriers.Goals.{then-retrier-gt0+then-not-is_set+in_ok-number+in_ok-errors+in_ok-format+in_ok-push, else-retrier-gt0, else-retrier-gt0-via-then-retrier-gt0+else-not-is_set, else-retrier-gt0-via-else-retrier-gt0}

pub loop-number-preserved : goal.loop-number-preserved
loop-number-preserved c = λ t is.
    let n = c.loop-number.number in
    let retriers = map retrier_view c.args.retriers.now in
    let retrier = retrier_view c.index-retriers-number.result in
    let at = seen_at retrier_view c.args.retriers.now n c.index-retriers-number.result c.loop-number-test.true c.index-retriers-number.is in
    let flag = ap (λ flags. unwrap_or (slice_get flags n) false) is ∙ flag_at (λ i. t (RetrierAt i)) n c.args.retriers.now c.loop-number-test.true in
    let before = c.loop-number.invariant t is in
    elim c.if-retrier-gt0.branch [
      | then-retrier-gt0+then-not-is_set+in_ok-number+in_ok-errors+in_ok-format+in_ok-push w ↦
          let more = retrier_lacks t n retriers retrier at w.if-retrier-gt0.true (sym (w.is_set.ensures ∙ flag) ∙ w.if-not-is_set.true) in
          let lines : length c.if-retrier-gt0.lines.items ≡ length w.push.new.self.items = ap (λ v. length v.items) w.lines-is in
          let pushed : length w.push.new.self.items ≡ length c.loop-number.lines.items + 1 = ap length w.in_ok-push.ensures.items ∙ length_push c.loop-number.lines.items _ in
          omega arith
      | else-retrier-gt0 w ↦
          let lines : length c.if-retrier-gt0.lines.items ≡ length c.loop-number.lines.items = ap (λ v. length v.items) w.lines-is in
          elim w.else-retrier-gt0.branch [
            | else-retrier-gt0-via-then-retrier-gt0+else-not-is_set v ↦
                let more = retrier_has t n retriers retrier at v.if-retrier-gt0.true (sym (v.is_set.ensures ∙ flag) ∙ v.if-not-is_set.false) in
                omega arith
            | else-retrier-gt0-via-else-retrier-gt0 v ↦
                let more = retrier_never t n retriers retrier at v.if-retrier-gt0.false in
                omega arith
          ]
    ]
