use Rattle.std.proofs.Common.{◌∙◌, ◌++◌, ap, sym, option_map}
use Rattle.asl_model.specs.RuleSpelling.{pattern_of}
use Rattle.asl_choice.specs.View.{pattern_view}
use Rattle.asl_choice.proofs.Elements.{one_read}
use Rattle.asl_choice.proofs.patterns.read_pattern.Goals as goal

pub loop-first-preserved : goal.loop-first-preserved
loop-first-preserved c =
    let l = c.loop-first in
    let part = c.in-Some-cut_part.part in
    let further = pattern_of c.in-Some-cut_part.further.now in
    l.invariant
    ∙ ap (λ text. option_map (λ more. pattern_view l.parts.items ++ more) (pattern_of text)) c.in-Some.ensures.cases.0
    ∙ ap (option_map (λ more. pattern_view l.parts.items ++ more)) c.in-Some-cut_part.ensures.cases
    ∙ one_read l.parts.items part further
    ∙ ap (λ items. option_map (λ more. pattern_view items ++ more) further) (sym c.in_ok-push.ensures.items)
