use Rattle.std.proofs.Common.{map, arith}
use Rattle.asl_model.specs.StandsFor.{retrier_of}
use Rattle.asl_states.specs.Machine.{retrier_view}
use Rattle.asl_fields.specs.Verdicts.{place_view}
use Rattle.asl_machine.proofs.Checks.{handed_on, left_after, told_of_left}
use Rattle.asl_machine.proofs.Elements.{mapped_all, mapped_more}
use Rattle.asl_machine.proofs.Troubles.{retriers_parts}
use Rattle.asl_machine.proofs.trouble_reading.read_retriers.Goals as goal

pub returns-in_err-retrier-clause-told : goal.returns-in_err-retrier-clause-told
returns-in_err-retrier-clause-told c =
    let item = c.index-elements-index in
    let parts = retriers_parts (place_view c.args.place.now) _ c.args.elements.now c.loop-index.index item.result c.loop-index-test.true item.is c.loop-index.invariant.told in
    handed_on _ c.from_residual.result c.in_err-retrier.field-0.0 c.from_residual.ensures.1 (told_of_left _ _ _ c.in_err-retrier.field-0.0 parts c.in_err-retrier.ensures.told)

pub loop-index-preserved : goal.loop-index-preserved
loop-index-preserved c =
    let item = c.index-elements-index in
    let l = c.loop-index in
    let parts = retriers_parts (place_view c.args.place.now) _ c.args.elements.now l.index item.result c.loop-index-test.true item.is l.invariant.told in
    record {
      read = mapped_more retrier_of retrier_view l.retriers.items c.push.new.self.items c.in_ok-retrier.retrier c.args.elements.now l.index item.result c.in-Ok.ensures.items c.loop-index-test.true item.is c.in_ok-retrier.ensures.retrier l.invariant.read;
      told = left_after _ _ _ parts c.in_ok-retrier.ensures.told;
    }

pub returns-clause-retriers : goal.returns-clause-retriers
returns-clause-retriers c =
    let l = c.loop-index in
    mapped_all retrier_of (map retrier_view l.retriers.items) c.args.elements.now l.index (omega arith) l.invariant.read
