use Rattle.std.proofs.Common.{◌≡◌, ◌+◌, length, sym, ap, ◌∙◌, arith, false}
use Rattle.std.specs.Prelude.{slice_get}
use Rattle.std.specs.Option.{unwrap_or}
use Rattle.std.proofs.lemmas.List.{length_push}
use Rattle.asl_cases.specs.Coverage.{RuleAt}
use Rattle.asl_cases.proofs.Lacks.{numbered_has, numbered_lacks}
use Rattle.asl_cases.proofs.Numbered.{flag_at}
use Rattle.asl_cases.proofs.lacking.push_rules.Goals as goal
use Rattle.asl_cases.proofs.lacking.push_rules.Goals.{then-not-is_set+in_ok-number+in_ok-next+in_ok-format+in_ok-push, else-not-is_set}

pub loop-number-preserved : goal.loop-number-preserved
loop-number-preserved c = λ t is.
    let n = c.loop-number.number in
    let set : t (RuleAt n) ≡ c.is_set.result = sym (c.is_set.ensures ∙ (ap (λ flags. unwrap_or (slice_get flags n) false) is ∙ flag_at (λ i. t (RuleAt i)) n c.args.rules.now c.loop-number-test.true)) in
    let before = c.loop-number.invariant t is in
    elim c.if-not-is_set.branch [
      | then-not-is_set+in_ok-number+in_ok-next+in_ok-format+in_ok-push w ↦
          let more = numbered_lacks t (λ i. RuleAt i) n (set ∙ w.if-not-is_set.true) in
          let lines : length c.if-not-is_set.lines.items ≡ length w.push.new.self.items = ap (λ v. length v.items) w.lines-is in
          let pushed : length w.push.new.self.items ≡ length c.loop-number.lines.items + 1 = ap length w.in_ok-push.ensures.items ∙ length_push c.loop-number.lines.items _ in
          omega arith
      | else-not-is_set w ↦
          let more = numbered_has t (λ i. RuleAt i) n (set ∙ w.if-not-is_set.false) in
          let lines : length c.if-not-is_set.lines.items ≡ length c.loop-number.lines.items = ap (λ v. length v.items) w.lines-is in
          omega arith
    ]
