use Rattle.std.proofs.Common.{ap, sym, ◌∙◌}
use Rattle.std.proofs.lemmas.Iterator.{YieldsList-from_chars}
use Rattle.std.proofs.lemmas.Iterator.Consumers.{YieldsList-end}
use Rattle.std.proofs.lemmas.List.{map-id}
use Rattle.std.specs.List.{flat_map}
use Rattle.asl_diagnostics.specs.Sarif.{message_char}
use Rattle.asl_diagnostics.proofs.sarif_results.message_text.Goals as goal

pub returns : goal.returns
returns c =
    let yielded = c.loop-c.yielded in
    let all = YieldsList-end (YieldsList-from_chars c.args.plain.now c.utf8.plain cc) yielded _ c.loop-c.yielded_by _ _ c.in-None.is c.next.ensures.steps in
    c.loop-c.invariant ∙ ap (λ cs. flat_map message_char cs) (sym (map-id yielded) ∙ all.0)
