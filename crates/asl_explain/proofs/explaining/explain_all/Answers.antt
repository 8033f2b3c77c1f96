use Rattle.std.proofs.lemmas.Result.{IfOk-weaker}
use Rattle.asl_explain.proofs.Findings.{explains}
use Rattle.asl_explain.proofs.Yes.{exactly}
use Rattle.asl_explain.proofs.explaining.explain_all.Goals as goal

pub returns-clause-exactly : goal.returns-clause-exactly
returns-clause-exactly c = λ definition declared read.
    let verified = c.in_ok-verified.ensures in
    IfOk-weaker c.explain_verified.result _ _ (λ told same. exactly c.args.max_rounds definition declared c.in_ok-verified.verified told (verified.yes definition declared read) (verified.otherwise definition declared read) same) c.explain_verified.ensures.exactly

pub returns-clause-findings : goal.returns-clause-findings
returns-clause-findings c = λ definition declared read.
    let verified = c.in_ok-verified.ensures in
    IfOk-weaker c.explain_verified.result _ _ (λ told same. explains c.args.max_rounds definition declared c.in_ok-verified.verified told (verified.yes definition declared read) (verified.otherwise definition declared read) same) c.explain_verified.ensures.answers
