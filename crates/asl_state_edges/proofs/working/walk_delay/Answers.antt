use Rattle.std.proofs.Common.{codes, refl, ap}
use Rattle.std.proofs.lemmas.Result.{on_ok_weaker}
use Rattle.asl_states.specs.Machine.{delay_view}
use Rattle.asl_numbered.specs.Expansion.{shape_at}
use Rattle.asl_model.specs.Edges.{walk_named}
use Rattle.asl_model.specs.ShapeFlow.{is_integer_shape, is_string_shape}
use Rattle.asl_state_edges.proofs.Adding.{adds_same, adds_told}
use Rattle.asl_state_edges.proofs.Flows.{found_missing, found_walked}
use Rattle.asl_state_edges.proofs.KindSteps.{named_right, seconds_steps, timestamp_steps}
use Rattle.asl_state_edges.proofs.working.walk_delay.Goals as goal

pub returns-in-Ok-clause-adds : goal.returns-in-Ok-clause-adds
returns-in-Ok-clause-adds c =
    let found = c.in_ok-named-in-SecondsPath in
    let go_on = walk_named (codes "SecondsPath") is_integer_shape in
    let right = named_right (codes "SecondsPath") is_integer_shape (shape_at c.find_at.new.shapes c.in-Ok.named) _ c.is_only_integers-is_number.ensures.as_defined in
    let same = seconds_steps (delay_view c.args.delay.now) c.in-SecondsPath.path (shape_at c.args.shapes.now c.args.effective) (ap delay_view c.in-SecondsPath.is) in
    on_ok_weaker _ (λ told. adds_same _ _ _ _ _ same (found_walked _ _ found.field-0 found.ensures.as_defined found.ensures.within _ _ _ go_on c.in-Ok.named c.in-Ok.is (adds_told _ _ _ _ _ right told))) c.push_unless.ensures

pub returns-in-Err-clause-adds : goal.returns-in-Err-clause-adds
returns-in-Err-clause-adds c =
    let found = c.in_ok-named-in-SecondsPath in
    let go_on = walk_named (codes "SecondsPath") is_integer_shape in
    let same = seconds_steps (delay_view c.args.delay.now) c.in-SecondsPath.path (shape_at c.args.shapes.now c.args.effective) (ap delay_view c.in-SecondsPath.is) in
    on_ok_weaker _ (λ told. adds_same _ _ _ _ _ same (found_missing _ _ found.field-0 found.ensures.as_defined found.ensures.within _ _ (codes "SecondsPath") go_on c.in-Err.path (λ d. refl) c.in-Err.is told)) c.push_missing.ensures

pub returns-in-Ok-2-clause-adds : goal.returns-in-Ok-2-clause-adds
returns-in-Ok-2-clause-adds c =
    let found = c.in_ok-named-in-TimestampPath in
    let go_on = walk_named (codes "TimestampPath") is_string_shape in
    let right = named_right (codes "TimestampPath") is_string_shape (shape_at c.find_at-in-TimestampPath.new.shapes c.in-Ok-2.named) _ c.is_only_texts-is_text.ensures.as_defined in
    let same = timestamp_steps (delay_view c.args.delay.now) c.in-TimestampPath.path (shape_at c.args.shapes.now c.args.effective) (ap delay_view c.in-TimestampPath.is) in
    on_ok_weaker _ (λ told. adds_same _ _ _ _ _ same (found_walked _ _ found.field-0 found.ensures.as_defined found.ensures.within _ _ _ go_on c.in-Ok-2.named c.in-Ok-2.is (adds_told _ _ _ _ _ right told))) c.push_unless-in-Ok-2.ensures

pub returns-in-Err-2-clause-adds : goal.returns-in-Err-2-clause-adds
returns-in-Err-2-clause-adds c =
    let found = c.in_ok-named-in-TimestampPath in
    let go_on = walk_named (codes "TimestampPath") is_string_shape in
    let same = timestamp_steps (delay_view c.args.delay.now) c.in-TimestampPath.path (shape_at c.args.shapes.now c.args.effective) (ap delay_view c.in-TimestampPath.is) in
    on_ok_weaker _ (λ told. adds_same _ _ _ _ _ same (found_missing _ _ found.field-0 found.ensures.as_defined found.ensures.within _ _ (codes "TimestampPath") go_on c.in-Err-2.path (λ d. refl) c.in-Err-2.is told)) c.push_missing-in-Err-2.ensures
