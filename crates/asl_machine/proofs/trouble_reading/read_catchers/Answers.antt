use Rattle.std.proofs.Common.{map, arith}
use Rattle.serde_json.specs.View.{view}
use Rattle.asl_model.specs.StandsFor.{members_in, state_names, catcher_of}
use Rattle.asl_states.specs.Machine.{catcher_view}
use Rattle.asl_fields.specs.Verdicts.{place_view}
use Rattle.asl_machine.proofs.Checks.{handed_on, left_after, told_of_left}
use Rattle.asl_machine.proofs.Elements.{mapped_all, mapped_more}
use Rattle.asl_machine.proofs.Troubles.{catchers_parts}
use Rattle.asl_machine.proofs.trouble_reading.read_catchers.Goals as goal

pub returns-in_err-catcher-clause-told : goal.returns-in_err-catcher-clause-told
returns-in_err-catcher-clause-told c =
    let item = c.index-elements-index in
    let parts = catchers_parts (place_view c.args.place.now) (state_names (members_in (view c.args.scope.now))) _ c.args.elements.now c.loop-index.index item.result c.loop-index-test.true item.is c.loop-index.invariant.told in
    handed_on _ c.from_residual.result c.in_err-catcher.field-0.0 c.from_residual.ensures.1 (told_of_left _ _ _ c.in_err-catcher.field-0.0 parts c.in_err-catcher.ensures.told)

pub loop-index-preserved : goal.loop-index-preserved
loop-index-preserved c =
    let item = c.index-elements-index in
    let l = c.loop-index in
    let parts = catchers_parts (place_view c.args.place.now) (state_names (members_in (view c.args.scope.now))) _ c.args.elements.now l.index item.result c.loop-index-test.true item.is l.invariant.told in
    record {
      read = mapped_more catcher_of catcher_view l.catchers.items c.push.new.self.items c.in_ok-catcher.catcher c.args.elements.now l.index item.result c.in-Ok.ensures.items c.loop-index-test.true item.is c.in_ok-catcher.ensures.catcher l.invariant.read;
      told = left_after _ _ _ parts c.in_ok-catcher.ensures.told;
    }

pub returns-clause-catchers : goal.returns-clause-catchers
returns-clause-catchers c =
    let l = c.loop-index in
    mapped_all catcher_of (map catcher_view l.catchers.items) c.args.elements.now l.index (omega arith) l.invariant.read
