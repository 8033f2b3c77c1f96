use Rattle.std.proofs.Common.{◌≡◌, false, string_bytes, ap, ◌∙◌}
use Rattle.serde_json.specs.View.{view, members_view}
use Rattle.asl_model.specs.StandsFor.{is_processor, processor_under}
use Rattle.asl_machine.proofs.Nested.{Member}
use Rattle.asl_machine.proofs.Walks.{processor_past}
use Rattle.asl_machine.proofs.scopes.processor_of.Goals as goal

pub loop-name-preserved : goal.loop-name-preserved
loop-name-preserved c =
    let e : Member = (c.in-Some.name.now, c.in-Some.value.now) in
    let left = c.next.new.self in
    let other : is_processor (string_bytes e.0) ≡ false = cc in
    c.loop-name.invariant ∙ ap (λ es. processor_under (members_view es)) c.in-Some.ensures.steps ∙ processor_past (string_bytes e.0) (view e.1) (members_view left) other
