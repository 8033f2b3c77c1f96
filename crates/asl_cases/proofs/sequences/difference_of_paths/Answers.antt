use Rattle.std.proofs.Common.{refl, sym, ap, ◌∙◌, arith, map, option_map, string_bytes}
use Rattle.asl_run.specs.Entries.{entry_view}
use Rattle.asl_cases.specs.Judging.{entered_in}
use Rattle.asl_cases.proofs.sequences.difference_of_paths.Goals as goal
use Rattle.asl_cases.proofs.sequences.difference_of_paths.Goals.{in-Some+in_ok-words+in_default-2, in_default}
use Rattle.asl_cases.proofs.Remainders.{has_to_meet, is_whole, lacks, met, skipped, told_apart}

pub returns-in-Some-2 : goal.returns-in-Some-2
returns-in-Some-2 c =
    let l = c.loop-entry in
    let meets = has_to_meet entered_in entry_view c.args.trace.now (map string_bytes c.args.path.now) l.entry-index l.step c.entry-item.result c.in-Some.found.now l.invariant.0 c.loop-entry-test.true c.entry-item.is (sym c.in-Some.ensures) in
    (λ e. absurd (cc), λ p. sym c.in-Some-2.is ∙ c.in_ok-words.ensures.1 (c.name_at-expected.ensures ∙ meets p))

pub loop-entry-preserved : goal.loop-entry-preserved
loop-entry-preserved c =
    let l = c.loop-entry in
    elim c.match-entered_state.branch [
      | in-Some+in_ok-words+in_default-2 w ↦
          let there = sym w.name_at-expected.ensures ∙ w.in_ok-words.ensures.0 w.in_default-2.is in
          let met = met entered_in entry_view c.args.trace.now (map string_bytes c.args.path.now) l.entry-index l.step c.entry-item.result w.in-Some.found.now l.invariant.0 c.loop-entry-test.true c.entry-item.is (sym w.in-Some.ensures) there in
          rw w.step-is (met, omega arith)
      | in_default w ↦
          let none = sym c.entered_state.ensures ∙ ap (option_map (λ name. name.now)) w.in_default.is in
          rw w.step-is (skipped entered_in entry_view c.args.trace.now (map string_bytes c.args.path.now) l.entry-index l.step c.entry-item.result l.invariant.0 c.loop-entry-test.true c.entry-item.is none, omega arith)
    ]

pub returns-in-Some-name_at : goal.returns-in-Some-name_at
returns-in-Some-name_at c =
    let l = c.loop-entry in
    told_apart c.step_words.result c.step_words.ensures (lacks entered_in entry_view c.args.trace.now (map string_bytes c.args.path.now) l.entry-index l.step c.in-Some-name_at.expected.now l.invariant.0 c.loop-entry-test.false (sym c.in-Some-name_at.ensures))

pub returns-in-None : goal.returns-in-None
returns-in-None c =
    let l = c.loop-entry in
    (λ none. is_whole entered_in entry_view c.args.trace.now (map string_bytes c.args.path.now) l.entry-index l.step l.invariant.0 c.loop-entry-test.false (sym c.in-None.ensures), λ p. refl)
