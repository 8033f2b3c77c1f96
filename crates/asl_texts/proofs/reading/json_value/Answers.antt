use Rattle.std.proofs.Common.{refl, sym, ap, ◌∙◌, subst, Err}
use Rattle.asl_texts.specs.Verifying.{UnreadableStands}
use Rattle.asl_texts.proofs.RefusedTexts.{unreadable}
use Rattle.asl_texts.proofs.reading.json_value.Goals as goal

pub returns-in-Err-clause-refused : goal.returns-in-Err-clause-refused
returns-in-Err-clause-refused c =
    let read = c.read_value.ensures in
    (refl, subst (UnreadableStands c.args.text.now) (sym c.tree_fault.ensures) (unreadable c.args.text.now c.in-Err.refusal (λ e. read.no_value (c.in-Err.is ∙ ap Err e)) (λ e. read.of_text (c.in-Err.is ∙ ap Err e))))
