use Rattle.std.proofs.Common.{ap}
use Rattle.asl_model.specs.Finding.{Breach}
use Rattle.asl_check.specs.Faults.{fault_view}
use Rattle.asl_check.proofs.Findings.{told_seen}
use Rattle.asl_check.proofs.Paths.{located}
use Rattle.asl_check.proofs.telling.tell.Goals as goal

pub returns-clause-told : goal.returns-clause-told
returns-clause-told c =
    let rule = c.args.rule.now in
    told_seen _ _ rule.name.now c.in_ok-noted.noted (fault_view c.args.shapes.now rule.fault) c.in_ok-state.ensures.ok c.in_ok-field.ensures.ok c.in_ok-noted.ensures.seen

pub returns-clause-located : goal.returns-clause-located
returns-clause-located c =
    let rule = c.args.rule.now in
    let seen = c.in_ok-noted.ensures.seen in
    located c.args.shapes.now _ rule.fault _ (ap (λ (b : Breach). b.fault) seen) (ap (λ (b : Breach). b.example) seen) c.requires.below c.in_ok-noted.ensures.nothing c.in_ok-path.ensures
