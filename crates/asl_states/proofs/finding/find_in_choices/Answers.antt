use Rattle.std.proofs.Common.{◌<◌, length, arith, map, string_bytes, ap, ◌∙◌, slice_index_or}
use Rattle.asl_states.specs.Machine.{choice_rule_view}
use Rattle.asl_states.specs.Numbered.{IsNumbered}
use Rattle.asl_states.proofs.Rewritten.{same_seen, one_more_holds}
use Rattle.asl_states.proofs.finding.find_in_choices.Goals as goal

pub loop-choice-preserved : goal.loop-choice-preserved
loop-choice-preserved c =
    let l = c.loop-choice in
    let within : l.choice-index < length l.choice-items = omega arith in
    let new = (record (slice_index_or l.choice-items l.choice-index c.choice-item.result) { next = c.find.new.self }) in
    record {
      same = same_seen choice_rule_view l.choice-items l.choice-index new c.choice-item.result within (ap (λ n. choice_rule_view (record (slice_index_or l.choice-items l.choice-index c.choice-item.result) { next = record { name = n; number = 0 } })) c.find.ensures.name) ∙ l.invariant.same;
      numbered = one_more_holds (λ x. IsNumbered (map string_bytes c.args.names.now.keys) x.next) l.choice-items l.choice-index new within c.find.ensures.number l.invariant.numbered;
    }
