use Rattle.asl_model.proofs.FindingBroken.{told_is_broken, broken_is_told}
use Rattle.asl_model.proofs.FindingExamples.{told-example}
use Rattle.asl_model.proofs.FindingRules.{told_exactly}
use Rattle.asl_model.proofs.shape_laws.findings_are_exactly_the_broken_rules.Goals as goal

pub returns : goal.returns
returns c = record {
  broken = λ machine declared certificate finding known sure stands. told_is_broken known sure ((told_exactly machine declared certificate finding).1 stands);
  listed = λ machine declared certificate finding broken.
      let told = broken_is_told broken in
      (told.0, (told_exactly machine declared certificate (record finding { example = told.0 })).0 told.1);
  shown = λ machine declared certificate finding stands. told-example ((told_exactly machine declared certificate finding).1 stands);
}
