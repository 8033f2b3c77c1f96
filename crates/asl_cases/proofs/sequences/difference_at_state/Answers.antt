use Rattle.std.proofs.Common.{refl, sym, ap, ◌∙◌, arith, map, option_map}
use Rattle.asl_run.specs.Entries.{entry_view}
use Rattle.asl_tree.specs.View.{view}
use Rattle.asl_cases.specs.Judging.{asked_in}
use Rattle.asl_cases.proofs.sequences.difference_at_state.Goals as goal
use Rattle.asl_cases.proofs.sequences.difference_at_state.Goals.{in-Some+in_ok-words+in_default-2, in_default}
use Rattle.asl_cases.proofs.Remainders.{has_to_meet, is_whole, lacks, met, skipped, told_apart}

pub returns-in-Some-2 : goal.returns-in-Some-2
returns-in-Some-2 c =
    let l = c.loop-entry in
    let meets = has_to_meet (asked_in c.args.name.now) entry_view c.args.trace.now (map view c.args.expected.now) l.entry-index l.number c.entry-item.result (view c.in-Some.found.now) l.invariant.0 c.loop-entry-test.true c.entry-item.is (sym c.in-Some.ensures) in
    (λ e. absurd (cc), λ p. sym c.in-Some-2.is ∙ c.in_ok-words.ensures.1 (c.tree_at-tree.ensures ∙ meets p))

pub loop-entry-preserved : goal.loop-entry-preserved
loop-entry-preserved c =
    let l = c.loop-entry in
    elim c.match-payload_of.branch [
      | in-Some+in_ok-words+in_default-2 w ↦
          let there = sym w.tree_at-tree.ensures ∙ w.in_ok-words.ensures.0 w.in_default-2.is in
          let met = met (asked_in c.args.name.now) entry_view c.args.trace.now (map view c.args.expected.now) l.entry-index l.number c.entry-item.result (view w.in-Some.found.now) l.invariant.0 c.loop-entry-test.true c.entry-item.is (sym w.in-Some.ensures) there in
          rw w.number-is (met, omega arith)
      | in_default w ↦
          let none = sym c.payload_of.ensures ∙ ap (option_map (λ tree. view tree.now)) w.in_default.is in
          rw w.number-is (skipped (asked_in c.args.name.now) entry_view c.args.trace.now (map view c.args.expected.now) l.entry-index l.number c.entry-item.result l.invariant.0 c.loop-entry-test.true c.entry-item.is none, omega arith)
    ]

pub returns-in-Some-tree_at : goal.returns-in-Some-tree_at
returns-in-Some-tree_at c =
    let l = c.loop-entry in
    told_apart c.one_sided.result c.one_sided.ensures (lacks (asked_in c.args.name.now) entry_view c.args.trace.now (map view c.args.expected.now) l.entry-index l.number (view c.in-Some-tree_at.tree.now) l.invariant.0 c.loop-entry-test.false (sym c.in-Some-tree_at.ensures))

pub returns-in-None : goal.returns-in-None
returns-in-None c =
    let l = c.loop-entry in
    (λ none. is_whole (asked_in c.args.name.now) entry_view c.args.trace.now (map view c.args.expected.now) l.entry-index l.number l.invariant.0 c.loop-entry-test.false (sym c.in-None.ensures), λ p. refl)
