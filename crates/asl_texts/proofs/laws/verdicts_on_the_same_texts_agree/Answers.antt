use Rattle.asl_texts.proofs.Agreeing.{verdicts_agree, verdicts_same}
use Rattle.asl_texts.proofs.laws.verdicts_on_the_same_texts_agree.Goals as goal

pub returns : goal.returns
returns c =
    let machine = c.texts_have_one_meaning.ensures.machine in
    let declared = c.texts_have_one_meaning.ensures.declared in
    let certificate = c.texts_have_one_meaning.ensures.certificate in
    record { agree = verdicts_agree machine declared certificate; same = verdicts_same machine declared certificate }
