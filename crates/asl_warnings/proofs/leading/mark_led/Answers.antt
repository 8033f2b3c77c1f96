use Rattle.std.proofs.Common.{◌≡◌, length, arith, sym, ◌∙◌}
use Rattle.std.proofs.lemmas.Grind.{common_steps}
use Rattle.std.proofs.lemmas.Option.{gets}
use Rattle.std.proofs.lemmas.List.{length-map}
use Rattle.asl_machine_table.specs.Table.{states_in}
use Rattle.asl_warnings.proofs.LedStates.{led-first, led-on, led-exactly, few-marked}
use Rattle.asl_warnings.proofs.leading.mark_led.Goals as goal

pub loop-place-init : goal.loop-place-init
loop-place-init c =
    let many : c.states-count.result ≡ length (states_in c.args.machine.now) = c.states-count.ensures.number ∙ length-map (states_in c.args.machine.now) _ in
    record {
      count = many;
      led = led-first c.args.machine.now c.in_ok-marks.marks c.mark_start.new.marks (c.in_ok-marks.ensures.many ∙ many) c.in_ok-marks.ensures.none c.in_ok-mark_start.ensures;
    }

pub loop-place-preserved : goal.loop-place-preserved
loop-place-preserved c =
    record {
      count = c.loop-place.invariant.count;
      led = led-on c.args.machine.now c.loop-place.marks c.mark_named.new.marks c.loop-place.place c.in-Some.number c.loop-place.invariant.led (sym c.nth.ensures ∙ c.in-Some.is) c.in_ok-mark_named.ensures;
    }

pub returns-in_default : goal.returns-in_default
returns-in_default c =
    led-exactly c.args.machine.now c.loop-place.marks c.loop-place.place c.loop-place.invariant.led (grind (arith, common_steps, gets))

pub returns : goal.returns
returns c =
    let few = few-marked c.args.machine.now c.loop-place.marks c.loop-place.place c.loop-place.invariant.led in
    let many = c.loop-place.invariant.count in
    let past = c.loop-place-test.false in
    led-exactly c.args.machine.now c.loop-place.marks c.loop-place.place c.loop-place.invariant.led (omega (arith, few, many, past))
