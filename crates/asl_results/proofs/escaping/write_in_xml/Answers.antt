use Rattle.std.proofs.Common.{ap, refl, sym, ◌∙◌}
use Rattle.std.proofs.Output.{has_written_append, has_written_of_eq}
use Rattle.std.proofs.lemmas.Iterator.{YieldsList-from_chars}
use Rattle.std.proofs.lemmas.Iterator.Consumers.{YieldsList-end}
use Rattle.std.proofs.lemmas.Grind.{flat_map-append}
use Rattle.std.proofs.lemmas.List.{append-nil, map-id}
use Rattle.std.specs.List.{flat_map}
use Rattle.asl_results.specs.Junit.{xml_char}
use Rattle.asl_results.proofs.escaping.write_in_xml.Goals as goal

pub loop-c-preserved : goal.loop-c-preserved
loop-c-preserved g c = λ plain.
    let before = c.loop-c.invariant plain in
    has_written_of_eq _ _ _ _ _ (simp (flat_map-append, append-nil)) (has_written_append _ _ _ _ _ _ before (c.in_ok-write_escaped.ensures before.plain refl))

pub returns : goal.returns
returns g c = λ plain ok.
    let yielded = c.loop-c.yielded in
    let all = YieldsList-end (YieldsList-from_chars c.args.text.now c.utf8.text cc) yielded _ c.loop-c.yielded_by _ _ c.in-None.is c.next.ensures.steps in
    has_written_of_eq _ _ _ _ _ (ap (λ cs. flat_map (xml_char c.args.part) cs) (sym (map-id yielded) ∙ all.0)) (c.loop-c.invariant plain)
