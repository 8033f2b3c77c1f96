use Rattle.std.proofs.Common.{◌≡◌, length, arith, ◌∙◌}
use Rattle.std.proofs.lemmas.List.{length-map}
use Rattle.asl_machine_table.specs.Table.{states_in}
use Rattle.asl_warnings.specs.Notices.{unled_in}
use Rattle.asl_warnings.proofs.Told.{tells-all, tells-more}
use Rattle.asl_warnings.proofs.finding.Finder.find.Goals as goal

pub loop-number-preserved : goal.loop-number-preserved
loop-number-preserved c =
    let s = c.args.self.now in
    tells-more s.machine.now s.led.now c.loop-number.number (unled_in c.loop-number.notices.items) (unled_in c.note_state.new.notices.items) c.requires c.loop-number.invariant c.in_ok-note_state.ensures

pub returns : goal.returns
returns c =
    let m = c.args.self.now.machine.now in
    let many : c.states-number-end.result ≡ length (states_in m) = c.states-number-end.ensures.number ∙ length-map (states_in m) _ in
    let past = c.loop-number-test.false in
    tells-all m c.loop-number.number (unled_in c.loop-number.notices.items) c.loop-number.invariant (omega (arith, many, past))
