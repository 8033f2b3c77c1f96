use Rattle.std.proofs.Common.{subst}
use Rattle.std.proofs.lemmas.Result.{IfOk-weaker}
use Rattle.asl_lint.specs.Reading.{IsDefinition}
use Rattle.asl_lint.proofs.texts.find_in_both.Goals as goal

pub returns-in-Refused : goal.returns-in-Refused
returns-in-Refused c =
    let told = subst (IsDefinition c.args.definition.now) c.in-Refused.is c.in_ok-read.ensures in
    IfOk-weaker c.find_behind.result _ _ (λ found both. both c.args.definition.now c.args.declared.now told c.in_ok-declaration.ensures) (c.find_behind.ensures c.args.max_rounds)
